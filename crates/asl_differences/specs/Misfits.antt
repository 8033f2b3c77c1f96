-- Where a tree isn't of a shape.
use Rattle.std.specs.Borrow.{Bor}
use Rattle.std.specs.Prelude.{◌≡◌, false, Option, Some}
use Rattle.asl_model.specs.Shape.{has}
use Rattle.asl_shape.specs.View.{view}
use Rattle.asl_shape.specs.declared.shape.Shape.{Shape}
use Rattle.asl_tree.specs.View as trees
use Rattle.asl_tree.specs.declared.Tree.{Tree}
use Rattle.asl_differences.specs.declared.misfits.Misfit.{Misfit}

-- What stands at a place isn't of the shape that is wanted there; where something lacks, or mustn't be there, nothing is said.
abbrev pub IsMisfitOf : Option (Bor Shape) → Option (Bor Tree) → Type 0
IsMisfitOf (Some wanted) (Some found) = has (view wanted.now) (trees.view found.now) ≡ false
IsMisfitOf wanted found = Unit {0}

-- That is so at the place that is told.
abbrev pub IsMisfit : Misfit → Type 0
IsMisfit misfit = IsMisfitOf misfit.wanted misfit.found
