use Rattle.asl_fields.proofs.Checks.{handed_on, told_first}
use Rattle.asl_fields.proofs.field_checking.check_fields.Goals as goal

pub returns-in_err-check_rows : goal.returns-in_err-check_rows
returns-in_err-check_rows c =
    handed_on _ c.from_residual.result c.in_err-check_rows.field-0.0 c.from_residual.ensures.1 (told_first _ _ c.in_err-check_rows.field-0.0 c.in_err-check_rows.ensures)
