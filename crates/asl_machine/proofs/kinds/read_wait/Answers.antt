use Rattle.asl_machine.proofs.Checks.{handed_on, told_first, told_next}
use Rattle.asl_machine.proofs.kinds.read_wait.Goals as goal

pub returns-in_err-seconds_path-clause-told : goal.returns-in_err-seconds_path-clause-told
returns-in_err-seconds_path-clause-told c =
    handed_on _ c.from_residual.result c.in_err-seconds_path.field-0.0 c.from_residual.ensures.1 (told_first _ _ c.in_err-seconds_path.field-0.0 c.in_err-seconds_path.ensures.told)

pub returns-in_err-timestamp_path-clause-told : goal.returns-in_err-timestamp_path-clause-told
returns-in_err-timestamp_path-clause-told c =
    handed_on _ c.from_residual-in_err-timestamp_path.result c.in_err-timestamp_path.field-0.0 c.from_residual-in_err-timestamp_path.ensures.1 (told_next _ _ _ c.in_ok-seconds_path.ensures.told (record { holds = c.in_err-timestamp_path.ensures.told.holds }))
