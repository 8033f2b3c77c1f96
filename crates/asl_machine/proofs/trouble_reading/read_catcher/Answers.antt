use Rattle.serde_json.specs.View.{view}
use Rattle.asl_fields.specs.Verdicts.{place_view}
use Rattle.asl_machine.proofs.Troubles.{catcher_checked, catcher_read}
use Rattle.asl_machine.proofs.Checks.{handed_on}
use Rattle.asl_machine.proofs.trouble_reading.read_catcher.Goals as goal

pub returns-in_err-error_equals-clause-told : goal.returns-in_err-error_equals-clause-told
returns-in_err-error_equals-clause-told c =
    handed_on _ c.from_residual.result c.in_err-error_equals.field-0.0 c.from_residual.ensures.1 (catcher_checked (place_view c.args.place.now) (view c.args.element.now) _ c.in_err-error_equals.field-0.0 c.in_err-error_equals.ensures.told)

pub returns-in_err-result_path-clause-told : goal.returns-in_err-result_path-clause-told
returns-in_err-result_path-clause-told c =
    handed_on _ c.from_residual-in_err-result_path.result c.in_err-result_path.field-0.0 c.from_residual-in_err-result_path.ensures.1 (catcher_read (place_view c.args.place.now) (view c.args.element.now) _ _ c.in_ok-error_equals.ensures.told.holds (record { holds = c.in_err-result_path.ensures.told.holds }))

pub returns-clause-told : goal.returns-clause-told
returns-clause-told c = catcher_read (place_view c.args.place.now) (view c.args.element.now) _ _ c.in_ok-error_equals.ensures.told.holds (record { holds = c.in_ok-result_path.ensures.told.holds })
