use Rattle.std.proofs.lemmas.Result.{IfOk-weaker}
use Rattle.asl_machine_table.specs.Table.{scope_in}
use Rattle.asl_records.specs.View.{declared_view}
use Rattle.asl_infer.proofs.LenientAnswers.{few-leniently, inferred-leniently, never-leniently, same-leniently, shallow-leniently}
use Rattle.asl_infer.proofs.lenient.infer_leniently.Goals as goal

pub returns-clause-inferred : goal.returns-clause-inferred
returns-clause-inferred c = IfOk-weaker c.settle_leniently.result _ _ (λ found h. inferred-leniently c.args.machine.now (declared_view c.args.declared.now) c.args.max_rounds found h (scope_in c.args.machine.now) c.is_shown.ensures.shown) c.settle_leniently.ensures.answers

pub returns-clause-never_settles : goal.returns-clause-never_settles
returns-clause-never_settles c = IfOk-weaker c.settle_leniently.result _ _ (λ found h. never-leniently c.args.machine.now (declared_view c.args.declared.now) c.args.max_rounds found h (scope_in c.args.machine.now) c.is_shown.ensures.shown) c.settle_leniently.ensures.answers

pub returns-clause-few_rounds : goal.returns-clause-few_rounds
returns-clause-few_rounds c = IfOk-weaker c.settle_leniently.result _ _ (λ found h. few-leniently c.args.machine.now (declared_view c.args.declared.now) c.args.max_rounds found h (scope_in c.args.machine.now) c.is_shown.ensures.shown) c.settle_leniently.ensures.answers

pub returns-clause-same : goal.returns-clause-same
returns-clause-same c = IfOk-weaker c.settle_leniently.result _ _ (λ found h. same-leniently c.args.machine.now (declared_view c.args.declared.now) c.args.max_rounds found h (scope_in c.args.machine.now) c.is_shown.ensures.shown) c.settle_leniently.ensures.answers

pub returns-clause-shallow : goal.returns-clause-shallow
returns-clause-shallow c = IfOk-weaker c.settle_leniently.result _ _ (λ found h. shallow-leniently found h) c.settle_leniently.ensures.shallow
