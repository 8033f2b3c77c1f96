use Rattle.asl_machine.proofs.Checks.{handed_on, told_first, told_next}
use Rattle.asl_machine.proofs.trouble_reading.read_trouble.Goals as goal

pub returns-in_err-retriers-clause-told : goal.returns-in_err-retriers-clause-told
returns-in_err-retriers-clause-told c =
    handed_on _ c.from_residual.result c.in_err-retriers.field-0.0 c.from_residual.ensures.1 (told_first _ _ c.in_err-retriers.field-0.0 c.in_err-retriers.ensures.told)

pub returns-in_err-catchers-clause-told : goal.returns-in_err-catchers-clause-told
returns-in_err-catchers-clause-told c =
    handed_on _ c.from_residual-in_err-catchers.result c.in_err-catchers.field-0.0 c.from_residual-in_err-catchers.ensures.1 (told_next _ _ _ c.in_ok-retriers.ensures.told (record { holds = c.in_err-catchers.ensures.told.holds }))
