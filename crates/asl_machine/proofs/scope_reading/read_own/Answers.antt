use Rattle.std.proofs.Common.{Ok, Err, subst, ◌++◌}
use Rattle.serde_json.specs.View.{view}
use Rattle.asl_model.specs.DefinitionTable.{rows_of}
use Rattle.asl_model.specs.StandsFor.{members_in, state_names, place_of_state, foreign_complaints}
use Rattle.asl_machine.specs.Built.{state_as}
use Rattle.asl_fields.specs.Verdicts.{IsVerdict}
use Rattle.asl_fields.specs.Reading.{checked_complaints}
use Rattle.asl_fields.specs.Rows.{type_view}
use Rattle.asl_machine.proofs.Checks.{handed_on, first_none, second_none, told_but_memory, built_on, all_on}
use Rattle.asl_machine.proofs.OwnRules.{own_told, others_told}
use Rattle.asl_machine.proofs.scope_reading.read_own.Goals as goal

pub returns-in_err-check_fields-clause-rules : goal.returns-in_err-check_fields-clause-rules
returns-in_err-check_fields-clause-rules c =
    let ms = members_in (view c.args.state.now) in
    let place = place_of_state c.args.name.now in
    let wrong = subst (λ rows. IsVerdict {A = Unit {0}} (checked_complaints place rows ms ++ foreign_complaints place rows ms) (Err c.in_err-check_fields.field-0.0)) c.rows.ensures c.in_err-check_fields.ensures in
    handed_on _ c.from_residual.result c.in_err-check_fields.field-0.0 c.from_residual.ensures.1 (others_told (type_view c.args.state_type) c.args.name.now (state_names (members_in (view c.args.scope.now))) ms c.in_err-check_fields.field-0.0 wrong)

pub returns-in_err-read-clause-rules : goal.returns-in_err-read-clause-rules
returns-in_err-read-clause-rules c =
    let ms = members_in (view c.args.state.now) in
    let place = place_of_state c.args.name.now in
    let rows = rows_of (type_view c.args.state_type) in
    let none = subst (λ rows. IsVerdict (checked_complaints place rows ms ++ foreign_complaints place rows ms) (Ok c.in_ok-check_fields.field-0)) c.rows.ensures c.in_ok-check_fields.ensures in
    let checked = first_none (checked_complaints place rows ms) (foreign_complaints place rows ms) none.holds in
    let foreign = second_none (checked_complaints place rows ms) (foreign_complaints place rows ms) none.holds in
    handed_on _ c.from_residual-in_err-read.result c.in_err-read.field-0.0 c.from_residual-in_err-read.ensures.1 (own_told (type_view c.args.state_type) c.args.name.now (state_names (members_in (view c.args.scope.now))) ms _ checked foreign (record { holds = c.in_err-read.ensures.told.holds }))

pub returns-clause-rules : goal.returns-clause-rules
returns-clause-rules c =
    let ms = members_in (view c.args.state.now) in
    let place = place_of_state c.args.name.now in
    let rows = rows_of (type_view c.args.state_type) in
    let none = subst (λ rows. IsVerdict (checked_complaints place rows ms ++ foreign_complaints place rows ms) (Ok c.in_ok-check_fields.field-0)) c.rows.ensures c.in_ok-check_fields.ensures in
    let checked = first_none (checked_complaints place rows ms) (foreign_complaints place rows ms) none.holds in
    let foreign = second_none (checked_complaints place rows ms) (foreign_complaints place rows ms) none.holds in
    own_told (type_view c.args.state_type) c.args.name.now (state_names (members_in (view c.args.scope.now))) ms c.or_out_of_memory.result checked foreign (told_but_memory _ c.or_out_of_memory.result c.in_ok-read.ensures.told c.or_out_of_memory.ensures.told)

pub returns-clause-added : goal.returns-clause-added
returns-clause-added c =
    let added = built_on _ c.or_out_of_memory.result c.add_state.result c.or_out_of_memory.ensures.built c.add_state.ensures in
    all_on _ _ c.or_out_of_memory.result (state_as c.args.state_type c.args.state.now) added c.in_ok-read.ensures.state
