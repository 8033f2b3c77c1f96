use Rattle.std.proofs.Common.{ap, ◌∙◌, rules, String, Global, string_bytes}
use Rattle.serde_json.specs.View.{view, members_view}
use Rattle.serde_json.specs.declared.value.Value.{Value}
use Rattle.asl_model.specs.StandsFor.{foreign_complaints}
use Rattle.asl_fields.specs.Rows.{rows_view}
use Rattle.asl_fields.specs.View.{def_fault_view}
use Rattle.asl_fields.specs.Verdicts.{place_view}
use Rattle.asl_fields.proofs.Objects.{foreign_told}
use Rattle.asl_fields.proofs.field_checking.check_names.Goals as goal

pub returns-then-not-has_row : goal.returns-then-not-has_row
returns-then-not-has_row c =
    let place = place_view c.args.place.now in
    let rows = rows_view c.args.rows.now in
    let e : String Global × Value = (c.in-Some-2.name.now, c.in-Some-2.field-0-1.now) in
    let left = c.next.new.self in
    let all = c.loop-name.invariant ∙ ap (λ es. foreign_complaints place rows (members_view es)) c.in-Some-2.ensures.steps in
    foreign_told place rows _ (string_bytes e.0) (view e.1) (members_view left) (def_fault_view c.foreign.result) c.complaint.result all (search rules) (search rules) (search rules)
