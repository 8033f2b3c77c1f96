use Rattle.std.proofs.Common.{[], ◌∷◌, map, sym, ap, ◌∙◌, subst}
use Rattle.std.proofs.lemmas.Result.{IfOk-weaker}
use Rattle.asl_machine_table.specs.Table.{scope_in}
use Rattle.asl_records.specs.View.{declared_view}
use Rattle.asl_lint.specs.Tells.{TellsOfMachine, inferred, stopped, unsettled}
use Rattle.asl_problems.specs.Told.{told_by}
use Rattle.asl_lint.proofs.inferring.judge.Goals as goal

pub returns-in-Ok-clause-told : goal.returns-in-Ok-clause-told
returns-in-Ok-clause-told c =
    subst (λ ps. TellsOfMachine c.args.max_rounds (scope_in c.args.machine.now) (declared_view c.args.declared.now) (map told_by ps)) (sym c.new.ensures.items)
    (inferred c.in-Ok.ensures.inferred c.in-Ok.ensures.no_rule_broken)

pub returns-in-Err-Finding-clause-told : goal.returns-in-Err-Finding-clause-told
returns-in-Err-Finding-clause-told c =
    let err = c.in-Err-Finding in
    IfOk-weaker c.judge_leniently.result _ _ (λ judged told.
    stopped (rw err.field-0-is at err.ensures.told) (rw err.field-0-is at err.ensures.refused) told)
    c.judge_leniently.ensures.told

pub returns-in-Err-NotSettled-clause-told : goal.returns-in-Err-NotSettled-clause-told
returns-in-Err-NotSettled-clause-told c =
    let err = c.in-Err-NotSettled in
    IfOk-weaker c.alone.result _ _ (λ judged told.
    subst (TellsOfMachine c.args.max_rounds (scope_in c.args.machine.now) (declared_view c.args.declared.now)) (sym (told ∙ ap (λ t. t ∷ []) c.not_settled.ensures))
    (unsettled (rw err.field-0-is at err.ensures.told) (rw err.field-0-is at err.ensures.refused)))
    c.alone.ensures.told
