use Rattle.std.proofs.Common.{[], false, get_or}
use Rattle.serde_json.specs.Find.{get}
use Rattle.serde_json.specs.View.{view}
use Rattle.asl_fields.specs.declared.rows.Wanted.TheVariants.{Text}
use Rattle.asl_fields.specs.declared.rows.Row.{Row}
use Rattle.asl_fields.specs.Reading.{checked_faults}
use Rattle.asl_fields.specs.Rows.{row_view}
use Rattle.asl_fields.specs.Verdicts.{place_view}
use Rattle.asl_fields.proofs.Checks.{handed_on, left_after, told_of_left}
use Rattle.asl_fields.proofs.Objects.{row_complaints, rows_behind, rows_parts}
use Rattle.asl_fields.proofs.field_checking.check_rows.Goals as goal

-- what stands beyond the last row
no_row : Row
no_row = record { name = record { ref_ptr = (0, 0); now = [] }; wanted = Text; required = false }

pub returns-in_err-told : goal.returns-in_err-told
unfolding no_row
returns-in_err-told c =
    let place = place_view c.args.place.now in
    let rows = c.args.rows.now in
    let i = c.loop-row.row-index in
    let row = get_or rows i no_row in
    let v = view c.args.object.now in
    let faults = checked_faults (row_view row) (get row.name.now v) in
    handed_on _ c.from_residual.result c.in_err-told.field-0.0 c.from_residual.ensures.1 (told_of_left _ (row_complaints place row v) (rows_behind place rows i v) c.in_err-told.field-0.0 (rows_parts place rows i no_row v _ c.loop-row-test.true c.loop-row.invariant) (c.in_err-told.ensures faults c.check_field.ensures))

pub loop-row-preserved : goal.loop-row-preserved
unfolding no_row
loop-row-preserved c =
    let place = place_view c.args.place.now in
    let rows = c.args.rows.now in
    let i = c.loop-row.row-index in
    let row = get_or rows i no_row in
    let v = view c.args.object.now in
    let faults = checked_faults (row_view row) (get row.name.now v) in
    left_after _ (row_complaints place row v) (rows_behind place rows i v) (rows_parts place rows i no_row v _ c.loop-row-test.true c.loop-row.invariant) (c.in_ok-told.ensures faults c.check_field.ensures)
