-- Worked examples of trees of a shape in which a path names nothing.
use Rattle.std.specs.Prelude.{◌≡◌, pos, List, [], ◌∷◌, true, Some, None, codes, refl}
use Rattle.asl_model.specs.Tree.{Tree, Null, Integer, Object, Array, trees_of, fields_of}
use Rattle.asl_model.specs.Path.{Segment, Name, Index}
use Rattle.asl_model.specs.Shape.{Shape, Any, OfKinds, no_simple, ArraysOf, WithoutObjects, Never, IntegerShape, NoShapes, AndShape, NoFieldShapes}
use Rattle.asl_model.specs.Missing.{missing}
use Rattle.asl_model.proofs.ExamplesShapes.{closed, opened, needed, optional, pair, one_then}

-- null, and the arrays that begin with a number
abbrev null_or_numbers : Shape
null_or_numbers = OfKinds (record no_simple { null = true }) (ArraysOf (AndShape IntegerShape NoShapes) Any) WithoutObjects

-- the objects with a field `a` of that shape, and maybe others
abbrev with_a : Shape → Shape
with_a s = opened (needed (codes "a") s NoFieldShapes)

-- the object with the field `a` alone
abbrev only_a : Tree → Tree
only_a t = Object (fields_of ((codes "a", t) ∷ []))

-- what the path names in the field `a`
abbrev in_a : List Segment → List Segment
in_a path = Name (codes "a") ∷ path

missing_in_empty : missing (in_a []) (closed NoFieldShapes) ≡ Some (Object (fields_of []))
missing_in_empty = refl

-- a field that isn't needed is left out
missing_optional : missing (in_a []) (opened (optional (codes "a") IntegerShape NoFieldShapes)) ≡ Some (Object (fields_of []))
missing_optional = refl

-- each of the arrays has that element, and null has none
missing_by_kind : missing (Index 0 ∷ []) null_or_numbers ≡ Some Null
missing_by_kind = refl

missing_nothing : missing (in_a []) (with_a IntegerShape) ≡ None
missing_nothing = refl

missing_beside : missing (Name (codes "b") ∷ []) (with_a IntegerShape) ≡ Some (only_a (Integer (pos 0)))
missing_beside = refl

missing_further : missing (in_a (Name (codes "b") ∷ [])) (with_a IntegerShape) ≡ Some (only_a (Integer (pos 0)))
missing_further = refl

-- the field's own example is an array, so it is another tree that stands there
missing_in_field : missing (in_a (Index 0 ∷ [])) (with_a null_or_numbers) ≡ Some (only_a Null)
missing_in_field = refl

missing_in_element : missing (Index 1 ∷ in_a []) (pair IntegerShape Any Never) ≡ Some (Array (trees_of (Integer (pos 0) ∷ Null ∷ [])))
missing_in_element = refl

missing_past_places : missing (Index 1 ∷ []) (one_then IntegerShape IntegerShape) ≡ Some (Array (trees_of (Integer (pos 0) ∷ [])))
missing_past_places = refl

-- a shape without trees has none to tell
missing_in_never : missing (in_a []) Never ≡ None
missing_in_never = refl
