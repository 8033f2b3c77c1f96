-- The shape that samples have in common.
use Rattle.std.specs.Prelude.{List, [], ◌∷◌, Option, Some, None}
use Rattle.asl_model.specs.Shape.{Shape}
use Rattle.asl_model.specs.ShapeFlow.{literal}
use Rattle.asl_model.specs.ShapeOrder.{join}
use Rattle.asl_model.specs.Tree.{Tree}

-- the shape joined with what each of the trees is, in order
abbrev pub joined_with : Shape → List Tree → Shape
joined_with s [] = s
joined_with s (t ∷ ts) = joined_with (join s (literal t)) ts

-- the join of what each of the trees is, in order; none of no trees
abbrev pub common : List Tree → Option Shape
common [] = None
common (t ∷ ts) = Some (joined_with (literal t) ts)
