use Rattle.std.proofs.lemmas.Result.{IfErr-weaker, IfOk-weaker}
use Rattle.asl_machine_table.specs.Table.{scope_in}
use Rattle.asl_records.specs.Numbered.{numbered_view}
use Rattle.asl_records.specs.View.{declared_view}
use Rattle.asl_infer.proofs.Inferred.{both, closed-of, inferred-of, reason-of, refusal-of, rules-of}
use Rattle.asl_infer.proofs.Levels.{written_shallow}
use Rattle.asl_infer.proofs.inferring.infer_numbered.Goals as goal

pub returns-clause-inferred : goal.returns-clause-inferred
returns-clause-inferred c = IfOk-weaker c.settle.result _ _ (λ numbered h. inferred-of c.args.machine.now (declared_view c.args.declared.now) c.args.max_rounds (numbered_view numbered) h (scope_in c.args.machine.now) c.is_shown.ensures.shown) c.settle.ensures.inferred

pub returns-clause-closed : goal.returns-clause-closed
returns-clause-closed c = IfOk-weaker c.settle.result _ _ (λ numbered h. closed-of c.args.machine.now (declared_view c.args.declared.now) c.args.max_rounds c.settled_drafts_are_closed.ensures.closed (numbered_view numbered) h (scope_in c.args.machine.now) c.is_shown.ensures.shown) c.settle.ensures.inferred

pub returns-clause-no_rule_broken : goal.returns-clause-no_rule_broken
returns-clause-no_rule_broken c = IfOk-weaker c.settle.result _ _ (λ numbered h. rules-of c.args.machine.now (declared_view c.args.declared.now) c.args.max_rounds c.settled_drafts_break_no_rule.ensures.none c.names_in_order.ensures (numbered_view numbered) h.0 h.1 (scope_in c.args.machine.now) c.is_shown.ensures.shown) (both _ _ c.settle.result c.settle.ensures.inferred c.settle.ensures.ordered)

pub returns-clause-shallow : goal.returns-clause-shallow
returns-clause-shallow c = IfOk-weaker c.settle.result _ _ (λ numbered h. written_shallow (numbered_view numbered) h) c.settle.ensures.shallow

pub returns-clause-refused : goal.returns-clause-refused
returns-clause-refused c = IfErr-weaker c.settle.result _ _ (λ why h. refusal-of c.args.machine.now (declared_view c.args.declared.now) c.args.max_rounds c.told_findings_stand.ensures why h (scope_in c.args.machine.now) c.is_shown.ensures.shown) c.settle.ensures.told

pub returns-clause-told : goal.returns-clause-told
returns-clause-told c = IfErr-weaker c.settle.result _ _ (λ why h. reason-of c.args.machine.now (declared_view c.args.declared.now) c.args.max_rounds why h (scope_in c.args.machine.now) c.is_shown.ensures.shown) c.settle.ensures.told
