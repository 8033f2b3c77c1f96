use Rattle.asl_machine.proofs.Checks.{handed_on, told_next}
use Rattle.asl_machine.proofs.kinds.read_selector.Goals as goal

pub returns-in_err-parameters-clause-told : goal.returns-in_err-parameters-clause-told
returns-in_err-parameters-clause-told c =
    handed_on _ c.from_residual-in_err-parameters.result c.in_err-parameters.field-0.0 c.from_residual-in_err-parameters.ensures.1 (told_next _ _ _ c.in_ok-selector.ensures.told (record { holds = c.in_err-parameters.ensures.told.holds }))
