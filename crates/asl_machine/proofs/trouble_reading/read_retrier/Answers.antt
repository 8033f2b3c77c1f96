use Rattle.asl_machine.proofs.Checks.{handed_on, told_first, told_next}
use Rattle.asl_machine.proofs.trouble_reading.read_retrier.Goals as goal

pub returns-in_err-check_element-clause-told : goal.returns-in_err-check_element-clause-told
returns-in_err-check_element-clause-told c =
    handed_on _ c.from_residual.result c.in_err-check_element.field-0.0 c.from_residual.ensures.1 (told_first _ _ c.in_err-check_element.field-0.0 c.in_err-check_element.ensures)

pub returns-in_err-error_equals-clause-told : goal.returns-in_err-error_equals-clause-told
returns-in_err-error_equals-clause-told c =
    handed_on _ c.from_residual-in_err-error_equals.result c.in_err-error_equals.field-0.0 c.from_residual-in_err-error_equals.ensures.1 (told_next _ _ _ c.in_ok-check_element.ensures (record { holds = c.in_err-error_equals.ensures.told.holds }))

pub returns-clause-told : goal.returns-clause-told
returns-clause-told c = told_next _ _ _ c.in_ok-check_element.ensures (record { holds = c.in_ok-error_equals.ensures.told.holds })
