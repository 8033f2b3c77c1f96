use Rattle.std.proofs.Common.{ap, ◌∙◌}
use Rattle.asl_model.specs.ShapeFlow.{place_in}
use Rattle.asl_shape_paths.proofs.ShapeParts.{place_got}
use Rattle.asl_shape_paths.proofs.looking.first_place.Goals as goal

pub returns : goal.returns
returns c =
    place_got c.in_ok-arrays_alone.field-0.first.now c.args.index c.get.result c.get.ensures.lookup.0 c.get.ensures.lookup.1
    ∙ ap (place_in c.args.index) c.in_ok-arrays_alone.ensures.shown
