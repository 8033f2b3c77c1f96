use Rattle.serde_json.specs.View.{view}
use Rattle.asl_model.specs.StandsFor.{members_in}
use Rattle.asl_states.specs.Machine.{settings_view, kind_view}
use Rattle.asl_fields.specs.Rows.{type_view}
use Rattle.asl_machine.proofs.Checks.{handed_on, told_first, told_next}
use Rattle.asl_machine.proofs.Outlines.{state_built}
use Rattle.asl_machine.proofs.scope_reading.read_outline.Goals as goal

pub returns-clause-state : goal.returns-clause-state
returns-clause-state c =
    state_built (type_view c.args.state_type) (members_in (view c.args.state.now)) (settings_view c.in_ok-settings.settings) (kind_view c.in_ok-kind.kind) c.in_ok-settings.ensures.settings c.in_ok-kind.ensures.kind

pub returns-clause-told : goal.returns-clause-told
returns-clause-told c = told_next _ _ _ c.in_ok-check_type_rules.ensures (told_next _ _ _ c.in_ok-settings.ensures.told (record { holds = c.in_ok-kind.ensures.told.holds }))

pub returns-in_err-check_type_rules-clause-told : goal.returns-in_err-check_type_rules-clause-told
returns-in_err-check_type_rules-clause-told c =
    handed_on _ c.from_residual.result c.in_err-check_type_rules.field-0.0 c.from_residual.ensures.1 (told_first _ _ c.in_err-check_type_rules.field-0.0 c.in_err-check_type_rules.ensures)

pub returns-in_err-settings-clause-told : goal.returns-in_err-settings-clause-told
returns-in_err-settings-clause-told c =
    handed_on _ c.from_residual-in_err-settings.result c.in_err-settings.field-0.0 c.from_residual-in_err-settings.ensures.1 (told_next _ _ _ c.in_ok-check_type_rules.ensures (told_first _ _ c.in_err-settings.field-0.0 c.in_err-settings.ensures.told))

pub returns-in_err-kind-clause-told : goal.returns-in_err-kind-clause-told
returns-in_err-kind-clause-told c =
    handed_on _ c.from_residual-in_err-kind.result c.in_err-kind.field-0.0 c.from_residual-in_err-kind.ensures.1 (told_next _ _ _ c.in_ok-check_type_rules.ensures (told_next _ _ _ c.in_ok-settings.ensures.told (record { holds = c.in_err-kind.ensures.told.holds })))
