use Rattle.std.proofs.Common.{string_bytes, rules}
use Rattle.asl_tree.specs.View.{view, entries_view}
use Rattle.asl_path.specs.View.{segments_view}
use Rattle.asl_path.proofs.Fields.{inserted_field}
use Rattle.asl_path.proofs.Room.{room_made_in_new_field, room_refused, room_without_memory}
use Rattle.asl_path.proofs.placing.create_field.Goals as goal

pub returns-in_err-built : goal.returns-in_err-built
returns-in_err-built c =
    let given = c.from_residual.ensures in
    room_refused c.from_residual.result c.in_err-built.field-0.0 (string_bytes c.args.name.now) (segments_view c.args.rest.now) (entries_view c.args.fields.now.entries) (search rules) c.requires (search rules)

pub returns-in_err-key : goal.returns-in_err-key
returns-in_err-key c =
    room_without_memory c.from_residual-in_err-key.result (string_bytes c.args.name.now) (segments_view c.args.rest.now) (view c.in_ok-built.built) (entries_view c.args.fields.now.entries) _ (search rules) c.requires (search rules) (search rules)

pub returns-in_err-insert : goal.returns-in_err-insert
returns-in_err-insert c =
    room_without_memory c.from_residual-in_err-insert.result (string_bytes c.args.name.now) (segments_view c.args.rest.now) (view c.in_ok-built.built) (entries_view c.args.fields.now.entries) _ (search rules) c.requires (search rules) (search rules)

pub returns : goal.returns
returns c =
    let name = string_bytes c.args.name.now in
    let es = c.args.fields.now.entries in
    let w = c.in_ok-built.built in
    let set = inserted_field name c.in_ok-key.key w es _ c.in_ok-key.ensures.cases c.insert.ensures.was_ordered c.in_ok-insert.ensures.entries in
    room_made_in_new_field _ name (segments_view c.args.rest.now) (view w) (entries_view es) _ c.requires c.in_ok-built.ensures.tree set
