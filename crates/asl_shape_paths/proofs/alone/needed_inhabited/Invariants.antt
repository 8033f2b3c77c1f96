use Rattle.std.proofs.Common.{◌≡◌}
use Rattle.asl_model.specs.Shape as model
use Rattle.asl_shape.specs.View.{fields_view}
use Rattle.asl_shape_paths.proofs.alone.needed_inhabited.Given as goal

abbrev pub invariant-loop-field : goal.invariant-loop-field
invariant-loop-field l = model.needed_inhabited (fields_view l.fields.entries) ≡ model.needed_inhabited (fields_view l.field-iterator)
