use Rattle.asl_machine.proofs.Checks.{handed_on, told_first, told_next}
use Rattle.asl_machine.proofs.trouble_reading.read_caught.Goals as goal

pub returns-in_err-check_element-clause-told : goal.returns-in_err-check_element-clause-told
returns-in_err-check_element-clause-told c =
    handed_on _ c.from_residual.result c.in_err-check_element.field-0.0 c.from_residual.ensures.1 (told_first _ _ c.in_err-check_element.field-0.0 c.in_err-check_element.ensures)

pub returns-in_err-names-clause-told : goal.returns-in_err-names-clause-told
returns-in_err-names-clause-told c =
    handed_on _ c.from_residual-in_err-names.result c.in_err-names.field-0.0 c.from_residual-in_err-names.ensures.1 (told_next _ _ _ c.in_ok-check_element.ensures (told_first _ _ c.in_err-names.field-0.0 c.in_err-names.ensures.told))

pub returns-clause-told : goal.returns-clause-told
returns-clause-told c = told_next _ _ _ c.in_ok-check_element.ensures (told_next _ _ _ c.in_ok-names.ensures.told (record { holds = c.in_ok-check_target.ensures.holds }))

pub returns-in_err-check_target-clause-told : goal.returns-in_err-check_target-clause-told
returns-in_err-check_target-clause-told c =
    handed_on _ c.from_residual-in_err-check_target.result c.in_err-check_target.field-0.0 c.from_residual-in_err-check_target.ensures.1 (told_next _ _ _ c.in_ok-check_element.ensures (told_next _ _ _ c.in_ok-names.ensures.told (record { holds = c.in_err-check_target.ensures.holds })))
