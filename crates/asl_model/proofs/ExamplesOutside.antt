-- Worked examples of the trees that show what shapes say.
use Rattle.std.specs.Prelude.{◌≡◌, pos, [], ◌∷◌, true, Some, None, codes, refl}
use Rattle.asl_model.specs.Tree.{Null, Integer, Text, Array, Object, trees_of, fields_of}
use Rattle.asl_model.specs.Shape.{Shape, Any, OfKinds, no_simple, WithoutArrays, ArraysOf, WithoutObjects, Never, IntegerShape, StringShape, NoShapes, NoFieldShapes}
use Rattle.asl_model.specs.ShapeOrder.{sub}
use Rattle.asl_model.specs.Examples.{example, fresh_name, outside}
use Rattle.asl_model.proofs.ExamplesShapes.{closed, opened, needed, optional, impossible, pair, one_then, each, all_kinds}

-- null or a whole number; the texts or arrays of them
abbrev null_or_integer : Shape
null_or_integer = OfKinds (record no_simple { null = true; integer = true }) WithoutArrays WithoutObjects

abbrev text_or_texts : Shape
text_or_texts = OfKinds (record no_simple { text = true }) (ArraysOf NoShapes StringShape) WithoutObjects

-- examples: of the first kind that has one, without the fields that aren't needed
example_of_any : example Any ≡ Null
example_of_any = refl

example_of_object : example (closed (needed (codes "a") IntegerShape (optional (codes "b") StringShape NoFieldShapes))) ≡ Object (fields_of ((codes "a", Integer (pos 0)) ∷ []))
example_of_object = refl

example_of_kinds : example null_or_integer ≡ Integer (pos 0)
example_of_kinds = refl

example_of_arrays : example (pair IntegerShape text_or_texts Never) ≡ Array (trees_of (Integer (pos 0) ∷ Array (trees_of []) ∷ []))
example_of_arrays = refl

-- every tree is outside the shape of none, and no tree outside that of all, however it is written
outside_of_never : outside Any Never ≡ Some (Array (trees_of []))
outside_of_never = refl

integer_inside_any : outside IntegerShape Any ≡ None
integer_inside_any = refl

any_inside_all_kinds : outside Any all_kinds ≡ None
any_inside_all_kinds = refl

any_sub_all_kinds : sub Any all_kinds ≡ true
any_sub_all_kinds = refl

any_outside_integer : outside Any IntegerShape ≡ Some (Array (trees_of []))
any_outside_integer = refl

-- the first kind that isn't taken
kinds_outside_integer : outside null_or_integer IntegerShape ≡ Some Null
kinds_outside_integer = refl

-- arrays: too short, at the first place that isn't taken, with one element more
too_short : outside (each IntegerShape) (one_then IntegerShape IntegerShape) ≡ Some (Array (trees_of []))
too_short = refl

second_place : outside (pair IntegerShape Any Never) (pair IntegerShape StringShape Never) ≡ Some (Array (trees_of (Integer (pos 0) ∷ Array (trees_of []) ∷ [])))
second_place = refl

one_element_more : outside (each IntegerShape) (each StringShape) ≡ Some (Array (trees_of (Integer (pos 0) ∷ [])))
one_element_more = refl

-- objects: a field that is needed, that both mention, that the second alone mentions, that the second doesn't allow
needed_field : outside (opened (needed (codes "b") StringShape NoFieldShapes)) (opened (needed (codes "a") Any NoFieldShapes)) ≡ Some (Object (fields_of ((codes "b", Text []) ∷ [])))
needed_field = refl

field_of_both : outside (closed (optional (codes "a") null_or_integer NoFieldShapes)) (opened (optional (codes "a") IntegerShape NoFieldShapes)) ≡ Some (Object (fields_of ((codes "a", Null) ∷ [])))
field_of_both = refl

field_of_the_second : outside (opened NoFieldShapes) (opened (optional (codes "a") IntegerShape NoFieldShapes)) ≡ Some (Object (fields_of ((codes "a", Array (trees_of [])) ∷ [])))
field_of_the_second = refl

field_of_the_first : outside (closed (optional (codes "a") Never (optional (codes "b") Any NoFieldShapes))) (closed NoFieldShapes) ≡ Some (Object (fields_of ((codes "b", Array (trees_of [])) ∷ [])))
field_of_the_first = refl

new_field : outside (opened (needed (codes "a") IntegerShape NoFieldShapes)) (closed (needed (codes "a") IntegerShape NoFieldShapes)) ≡ Some (Object (fields_of ((codes "a", Integer (pos 0)) ∷ (codes "aa", Null) ∷ [])))
new_field = refl

-- nothing is outside where the first has no tree
impossible_inside : outside impossible Never ≡ None
impossible_inside = refl

fresh_behind_two : fresh_name (needed (codes "aa") Any NoFieldShapes) (optional (codes "a") Any NoFieldShapes) ≡ codes "aaa"
fresh_behind_two = refl
