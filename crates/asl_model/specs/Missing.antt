-- The tree that shows that a look-up in a shape is refused: one of the shape, in which the path names nothing.
use Rattle.std.specs.Prelude.{◌≡◌, List, [], ◌∷◌, Option, Some, None, option_and_then, if◌then◌else◌}
use Rattle.asl_model.specs.Tree.{Tree}
use Rattle.asl_model.specs.Path.{Segment, Name, Index, named_by}
use Rattle.asl_model.specs.Placing.{placed}
use Rattle.asl_model.specs.Shape.{Shape, Any, OfKinds, WithoutArrays, WithoutObjects, Has, inhabited}
use Rattle.asl_model.specs.Examples.{example}
use Rattle.asl_model.specs.ShapeFlow.{part_at, DoubtfulPath}

-- the shape without the kind of trees that the segment goes into
abbrev pub not_gone_into : Segment → Shape → Shape
not_gone_into segment Any = Any
not_gone_into (Name n) (OfKinds simple arrays objects) = OfKinds simple arrays WithoutObjects
not_gone_into (Index i) (OfKinds simple arrays objects) = OfKinds simple WithoutArrays objects

-- an example of the kinds that the segment doesn't go into, or of the shape where those have none
abbrev pub example_without : Segment → Shape → Tree
example_without segment s =
    if inhabited (not_gone_into segment s) then example (not_gone_into segment s) else example s

-- The example without the segment, where that names no part of every tree; else the shape's example, with the tree that
-- the function tells of the part placed at the segment.
abbrev pub missing_behind : (Shape → Option Tree) → Segment → Shape → Option Shape → Option Tree
missing_behind go_on segment s None = Some (example_without segment s)
missing_behind go_on segment s (Some part) =
    option_and_then (λ t. placed (segment ∷ []) t (example s)) (go_on part)

-- a tree of an inhabited shape in which the path names nothing; None: it names something in every tree
abbrev pub missing_at : List Segment → Shape → Option Tree
missing_at [] s = None
missing_at (segment ∷ path) s = missing_behind (missing_at path) segment s (part_at segment s)

-- the same, None where the shape has no tree
abbrev pub missing : List Segment → Shape → Option Tree
missing path s = if inhabited s then missing_at path s else None

-- the tree that shows a path to be doubtful
abbrev pub counterexample : DoubtfulPath → Option Tree
counterexample doubtful = missing doubtful.path doubtful.shape

-- the tree has the shape, and the path names nothing in it
pub record IsMissing (path : List Segment) (s : Shape) (t : Tree) : Type 0 where
  pub has : Has s t
  pub nothing : named_by path t ≡ None
