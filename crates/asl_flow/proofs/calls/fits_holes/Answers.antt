use Rattle.asl_intrinsic.specs.View.{arguments_view}
use Rattle.asl_model.specs.Intrinsic.{literal_pieces}
use Rattle.asl_numbered.specs.Expansion.{shape_at}
use Rattle.asl_flow.proofs.FunctionShapes.{holes_fit}
use Rattle.asl_flow.proofs.calls.fits_holes.Goals as goal

pub returns-in-Some : goal.returns-in-Some
returns-in-Some c =
    holes_fit (literal_pieces (arguments_view c.args.arguments.now)) (shape_at c.args.shapes.now c.args.first) c.args.shapes.now c.args.others.now c.in-Some.holes c.in-Some.ensures
