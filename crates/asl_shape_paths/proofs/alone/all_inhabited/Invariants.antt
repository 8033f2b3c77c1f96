use Rattle.std.proofs.Common.{◌≡◌, drop}
use Rattle.asl_model.specs.Shape as model
use Rattle.asl_shape.specs.View.{shapes_view}
use Rattle.asl_shape_paths.proofs.alone.all_inhabited.Given as goal

abbrev pub invariant-loop-shape : goal.invariant-loop-shape
invariant-loop-shape l = model.all_inhabited (shapes_view l.shapes) ≡ model.all_inhabited (shapes_view (drop l.shape-index l.shapes))
