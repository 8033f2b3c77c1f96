-- Worked examples of the spelling of shapes.
use Rattle.std.specs.Prelude.{◌≡◌, List, [], ◌∷◌, ℕ, true, false, Option, Some, option_map, option_and_then, codes, refl}
use Rattle.serde_json.specs.Read.{read}
use Rattle.serde_json.proofs.OnLiterals.{serde_json_on_literals}
use Rattle.asl_model.specs.Json.{tree_of}
use Rattle.asl_model.specs.Tree.{Boolean, Text, Array, Object, NoTrees, AndTree, NoFields, AndField}
use Rattle.asl_model.specs.Shape.{Shape, Any, OfKinds, no_simple, WithoutArrays, ArraysOf, WithoutObjects, ObjectsOf, Never, IntegerShape, StringShape, ArrayShape, ObjectShape, NoShapes, AndShape, NoFieldShapes, AndFieldShape}
use Rattle.asl_model.specs.ShapeSpelling.{shape_of, shape_faults, ShapeFault, NotAShape, Keyword, BadType, MinItems}

shape_in : List ℕ → Option Shape
shape_in text = option_map shape_of (option_and_then tree_of (read text))

faults_in : List ℕ → Option (List ShapeFault)
faults_in text = option_map (shape_faults true) (option_and_then tree_of (read text))

-- in the first version of certificates
first_faults_in : List ℕ → Option (List ShapeFault)
first_faults_in text = option_map (shape_faults false) (option_and_then tree_of (read text))

an_object : shape_in (codes "{\"type\":\"object\",\"properties\":{\"a\":{\"type\":\"integer\"},\"c\":false},\"required\":[\"b\",\"a\"],\"title\":7}") ≡ Some (ObjectShape (AndFieldShape (codes "a") true IntegerShape (AndFieldShape (codes "b") true Any (AndFieldShape (codes "c") false Never NoFieldShapes))) true)
unfolding serde_json_on_literals shape_in
an_object = refl

an_object_is_right : faults_in (codes "{\"type\":\"object\",\"properties\":{\"a\":{\"type\":\"integer\"},\"c\":false},\"required\":[\"b\",\"a\"],\"title\":7}") ≡ Some []
unfolding serde_json_on_literals faults_in
an_object_is_right = refl

any_and_never : (shape_in (codes "{}") ≡ Some Any) × (shape_in (codes "true") ≡ Some Any) × (shape_in (codes "{\"title\":7,\"examples\":[]}") ≡ Some Any) × (shape_in (codes "false") ≡ Some Never)
unfolding serde_json_on_literals shape_in
any_and_never = (refl, refl, refl, refl)

a_list : shape_in (codes "{\"type\":\"array\",\"prefixItems\":[{\"type\":\"string\"},true],\"minItems\":2}") ≡ Some (ArrayShape (AndShape StringShape (AndShape Any NoShapes)) Any)
unfolding serde_json_on_literals shape_in
a_list = refl

a_list_is_right : faults_in (codes "{\"type\":\"array\",\"prefixItems\":[{\"type\":\"string\"},true],\"minItems\":2}") ≡ Some []
unfolding serde_json_on_literals faults_in
a_list_is_right = refl

-- a needed field that no property mentions, where there are no others, has no value
needed_but_closed : shape_in (codes "{\"type\":\"object\",\"required\":[\"a\"],\"additionalProperties\":false}") ≡ Some (ObjectShape (AndFieldShape (codes "a") true Never NoFieldShapes) false)
unfolding serde_json_on_literals shape_in
needed_but_closed = refl

-- Properties out of byte order, which no text reads as: a needed field that is mentioned is needed where it stands, and one
-- that isn't comes in front of the first greater name.
out_of_order : shape_of (Object (AndField (codes "type") (Text (codes "object")) (AndField (codes "required") (Array (AndTree (Text (codes "a")) (AndTree (Text (codes "b")) NoTrees))) (AndField (codes "properties") (Object (AndField (codes "c") (Boolean true) (AndField (codes "a") (Boolean false) NoFields))) NoFields)))) ≡ ObjectShape (AndFieldShape (codes "b") true Any (AndFieldShape (codes "c") false Any (AndFieldShape (codes "a") true Never NoFieldShapes))) true
out_of_order = refl

too_few_items : faults_in (codes "{\"type\":\"array\",\"prefixItems\":[true],\"minItems\":0}") ≡ Some (MinItems ∷ [])
unfolding serde_json_on_literals faults_in
too_few_items = refl

items_not_counted : faults_in (codes "{\"type\":\"array\",\"prefixItems\":[true]}") ≡ Some (MinItems ∷ [])
unfolding serde_json_on_literals faults_in
items_not_counted = refl

negative_items : faults_in (codes "{\"type\":\"array\",\"minItems\":-1}") ≡ Some (MinItems ∷ [])
unfolding serde_json_on_literals faults_in
negative_items = refl

items_as_text : faults_in (codes "{\"type\":\"array\",\"minItems\":\"1\"}") ≡ Some (NotAShape ∷ [])
unfolding serde_json_on_literals faults_in
items_as_text = refl

other_type : faults_in (codes "{\"type\":\"number\"}") ≡ Some (BadType ∷ [])
unfolding serde_json_on_literals faults_in
other_type = refl

null_as_type : faults_in (codes "{\"type\":null}") ≡ Some (NotAShape ∷ [])
unfolding serde_json_on_literals faults_in
null_as_type = refl

no_type : faults_in (codes "{\"colour\":1}") ≡ Some (BadType ∷ [])
unfolding serde_json_on_literals faults_in
no_type = refl

foreign_keyword : faults_in (codes "{\"type\":\"string\",\"colour\":1}") ≡ Some (Keyword ∷ [])
unfolding serde_json_on_literals faults_in
foreign_keyword = refl

keyword_of_another_type : faults_in (codes "{\"type\":\"object\",\"items\":true}") ≡ Some (Keyword ∷ [])
unfolding serde_json_on_literals faults_in
keyword_of_another_type = refl

a_number : faults_in (codes "7") ≡ Some (NotAShape ∷ [])
unfolding serde_json_on_literals faults_in
a_number = refl

required_twice : faults_in (codes "{\"type\":\"object\",\"required\":[\"a\",\"a\"]}") ≡ Some (NotAShape ∷ [])
unfolding serde_json_on_literals faults_in
required_twice = refl

required_number : faults_in (codes "{\"type\":\"object\",\"required\":[7]}") ≡ Some (NotAShape ∷ [])
unfolding serde_json_on_literals faults_in
required_number = refl

extra_as_object : faults_in (codes "{\"type\":\"object\",\"additionalProperties\":{}}") ≡ Some (NotAShape ∷ [])
unfolding serde_json_on_literals faults_in
extra_as_object = refl

deep_inside : faults_in (codes "{\"type\":\"object\",\"properties\":{\"a\":{\"type\":\"array\",\"items\":{\"type\":\"number\"}}}}") ≡ Some (BadType ∷ [])
unfolding serde_json_on_literals faults_in
deep_inside = refl

-- a shape with `items`; notes that say nothing of values are read past
further_items : (shape_in (codes "{\"type\":\"array\",\"prefixItems\":[true],\"minItems\":1,\"items\":{\"type\":\"string\"},\"title\":\"t\",\"description\":\"d\",\"default\":[]}") ≡ Some (ArrayShape (AndShape Any NoShapes) StringShape)) × (faults_in (codes "{\"type\":\"array\",\"prefixItems\":[true],\"minItems\":1,\"items\":{\"type\":\"string\"},\"title\":\"t\",\"description\":\"d\",\"default\":[]}") ≡ Some [])
unfolding serde_json_on_literals shape_in faults_in
further_items = (refl, refl)

all_notes : faults_in (codes "{\"type\":\"string\",\"$schema\":1,\"$id\":1,\"$comment\":1,\"title\":1,\"description\":1,\"default\":1,\"examples\":1}") ≡ Some []
unfolding serde_json_on_literals faults_in
all_notes = refl

-- ---- lists of types

null_or_string : (shape_in (codes "{\"type\":[\"string\",\"null\"]}") ≡ Some (OfKinds (record no_simple { null = true; text = true }) WithoutArrays WithoutObjects)) × (faults_in (codes "{\"type\":[\"string\",\"null\"]}") ≡ Some [])
unfolding serde_json_on_literals shape_in faults_in
null_or_string = (refl, refl)

one_in_a_list : (shape_in (codes "{\"type\":[\"integer\"]}") ≡ Some IntegerShape) × (faults_in (codes "{\"type\":[\"integer\"]}") ≡ Some [])
unfolding serde_json_on_literals shape_in faults_in
one_in_a_list = (refl, refl)

-- each keyword belongs to one of the types
null_list_or_object : (shape_in (codes "{\"type\":[\"null\",\"object\",\"array\"],\"items\":{\"type\":\"integer\"},\"required\":[\"a\"]}") ≡ Some (OfKinds (record no_simple { null = true }) (ArraysOf NoShapes IntegerShape) (ObjectsOf (AndFieldShape (codes "a") true Any NoFieldShapes) true))) × (faults_in (codes "{\"type\":[\"null\",\"object\",\"array\"],\"items\":{\"type\":\"integer\"},\"required\":[\"a\"]}") ≡ Some [])
unfolding serde_json_on_literals shape_in faults_in
null_list_or_object = (refl, refl)

-- none, one twice, one that the profile doesn't have, one that is no text
wrong_lists : (faults_in (codes "{\"type\":[]}") ≡ Some (BadType ∷ [])) × (faults_in (codes "{\"type\":[\"integer\",\"integer\"]}") ≡ Some (BadType ∷ [])) × (faults_in (codes "{\"type\":[\"integer\",\"number\"]}") ≡ Some (BadType ∷ [])) × (faults_in (codes "{\"type\":[\"integer\",7]}") ≡ Some (BadType ∷ []))
unfolding serde_json_on_literals faults_in
wrong_lists = (refl, refl, refl, refl)

keyword_of_none_listed : faults_in (codes "{\"type\":[\"null\",\"string\"],\"items\":true}") ≡ Some (Keyword ∷ [])
unfolding serde_json_on_literals faults_in
keyword_of_none_listed = refl

-- a wrong list is told alone
wrong_list_alone : faults_in (codes "{\"type\":[\"null\",\"number\"],\"items\":7}") ≡ Some (BadType ∷ [])
unfolding serde_json_on_literals faults_in
wrong_list_alone = refl

number_as_type : faults_in (codes "{\"type\":7}") ≡ Some (NotAShape ∷ [])
unfolding serde_json_on_literals faults_in
number_as_type = refl

-- in the first version each list of types is wrong, and told alone
first_version_lists : (first_faults_in (codes "{\"type\":[\"string\",\"null\"]}") ≡ Some (BadType ∷ [])) × (first_faults_in (codes "{\"type\":[\"integer\"]}") ≡ Some (BadType ∷ [])) × (first_faults_in (codes "{\"type\":[\"null\",\"string\"],\"items\":7}") ≡ Some (BadType ∷ []))
unfolding serde_json_on_literals first_faults_in
first_version_lists = (refl, refl, refl)

-- and so deep inside
first_version_inside : first_faults_in (codes "{\"type\":\"array\",\"items\":{\"type\":[\"integer\"]}}") ≡ Some (BadType ∷ [])
unfolding serde_json_on_literals first_faults_in
first_version_inside = refl

first_version_number : (first_faults_in (codes "{\"type\":7}") ≡ Some (NotAShape ∷ [])) × (first_faults_in (codes "{\"type\":\"integer\"}") ≡ Some [])
unfolding serde_json_on_literals first_faults_in
first_version_number = (refl, refl)
