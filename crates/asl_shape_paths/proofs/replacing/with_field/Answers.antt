use Rattle.std.proofs.Common.{true, string_bytes, refl}
use Rattle.asl_numbered.specs.declared.node.NodeField.{NodeField}
use Rattle.asl_shape_paths.proofs.Replaced.{AreAlike, field_set}
use Rattle.asl_shape_paths.proofs.replacing.with_field.Goals as goal

pub returns : goal.returns
returns c =
    let field : NodeField = record { needed = true; shape = c.args.number } in
    let alike : AreAlike c.args.fields.now.entries c.in_ok-changed.changed.entries = c.in_ok-changed.ensures.cases in
    field_set (string_bytes c.args.name.now) c.in_ok-set_field.ensures.0 field c.args.fields.now.entries c.in_ok-changed.changed.entries _ c.in_ok-set_field.ensures.1 refl alike c.in_ok-set_field.ensures.2
