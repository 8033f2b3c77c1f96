use Rattle.asl_machine.proofs.Checks.{handed_on, told_first, told_next}
use Rattle.asl_machine.proofs.settings.read_settings.Goals as goal

pub returns-in_err-trouble-clause-told : goal.returns-in_err-trouble-clause-told
returns-in_err-trouble-clause-told c =
    handed_on _ c.from_residual-in_err-trouble.result c.in_err-trouble.field-0.0 c.from_residual-in_err-trouble.ensures.1 (told_first _ _ c.in_err-trouble.field-0.0 c.in_err-trouble.ensures.told)

pub returns-in_err-processing-clause-told : goal.returns-in_err-processing-clause-told
returns-in_err-processing-clause-told c =
    handed_on _ c.from_residual-in_err-processing.result c.in_err-processing.field-0.0 c.from_residual-in_err-processing.ensures.1 (told_next _ _ _ c.in_ok-trouble.ensures.told (told_first _ _ c.in_err-processing.field-0.0 c.in_err-processing.ensures.told))

pub returns-in_err-parameters-clause-told : goal.returns-in_err-parameters-clause-told
returns-in_err-parameters-clause-told c =
    handed_on _ c.from_residual-in_err-parameters.result c.in_err-parameters.field-0.0 c.from_residual-in_err-parameters.ensures.1 (told_next _ _ _ c.in_ok-trouble.ensures.told (told_next _ _ _ c.in_ok-processing.ensures.told (record { holds = c.in_err-parameters.ensures.told.holds })))
