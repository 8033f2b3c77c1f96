-- How a certificate is written that lists its shapes (the profile's own choice): each distinct shape in it that is of
-- arrays, of objects or of several kinds is listed once, in the order in which a walk through the certificate has them
-- whole, and stands everywhere as a reference. The walk goes through the output, then the states by name: the branches
-- of each, its input, its item, its output. In a shape it goes through the parts first.
use Rattle.std.specs.Prelude.{ℕ, suc, pos, List, [], ◌∷◌, ◌++◌, Bool, true, false, not, ◌&&◌, ◌||◌}
use Rattle.std.specs.Prelude.{if◌then◌else◌, Option, Some, None, is_some, option_map, bytes_eq, codes}
use Rattle.std.specs.Option.{unwrap_or}
use Rattle.asl_model.specs.Tree.{Tree, Integer, Array, Object, Trees, NoTrees, AndTree, Fields, NoFields, AndField}
use Rattle.asl_model.specs.Shape.{Shape, Any, OfKinds, Arrays, WithoutArrays, ArraysOf, Objects, WithoutObjects}
use Rattle.asl_model.specs.Shape.{ObjectsOf, Shapes, NoShapes, AndShape, FieldShapes, NoFieldShapes, AndFieldShape}
use Rattle.asl_model.specs.Shape.{has_arrays, has_objects, type_names, are_several}
use Rattle.asl_model.specs.ShapeOrder.{is_any_shape, same_truth, same_simple}
use Rattle.asl_model.specs.ShapeFlow.{how_many_shapes}
use Rattle.asl_model.specs.Certificate.{StateShapes, Certificate}
use Rattle.asl_model.specs.Written.{some_shapes, some_fields, needed_names, some_names, as_texts}
use Rattle.asl_model.specs.Written.{type_field, array_fields, object_fields, are_closed, written_kinds}
use Rattle.asl_model.specs.Written.{written_shape, certificate_written}

-- ---- the same shape

abbrev mutual
  -- the shapes take the same kinds, with the same parts
  pub same_shape : Shape → Shape → Bool
  same_shape Any t = is_any_shape t
  same_shape (OfKinds some others more) Any = false
  same_shape (OfKinds some others more) (OfKinds simple arrays objects) =
      same_simple some simple && (same_arrays others arrays && same_objects more objects)

  -- part by part
  pub same_arrays : Arrays → Arrays → Bool
  same_arrays WithoutArrays arrays = not (has_arrays arrays)
  same_arrays (ArraysOf first rest) WithoutArrays = false
  same_arrays (ArraysOf first rest) (ArraysOf places further) = same_shapes first places && same_shape rest further

  -- part by part
  pub same_objects : Objects → Objects → Bool
  same_objects WithoutObjects objects = not (has_objects objects)
  same_objects (ObjectsOf fields extra) WithoutObjects = false
  same_objects (ObjectsOf fields extra) (ObjectsOf others more) = same_fields fields others && same_truth extra more

  -- place by place
  pub same_shapes : Shapes → Shapes → Bool
  same_shapes NoShapes NoShapes = true
  same_shapes NoShapes (AndShape t others) = false
  same_shapes (AndShape s first) NoShapes = false
  same_shapes (AndShape s first) (AndShape t others) = same_shape s t && same_shapes first others

  -- mention by mention
  pub same_fields : FieldShapes → FieldShapes → Bool
  same_fields NoFieldShapes NoFieldShapes = true
  same_fields NoFieldShapes (AndFieldShape m more t others) = false
  same_fields (AndFieldShape n needed s fields) NoFieldShapes = false
  same_fields (AndFieldShape n needed s fields) (AndFieldShape m more t others) =
      bytes_eq n m && (same_truth needed more && (same_shape s t && same_fields fields others))

-- ---- the list

-- the place of the shape among those that are listed
abbrev pub place_of : Shape → List Shape → Option ℕ
place_of s [] = None
place_of s (t ∷ listed) = if same_shape s t then Some 0 else option_map suc (place_of s listed)

-- the list with the shape behind it, unless it is there
abbrev pub with_last : Shape → List Shape → List Shape
with_last s listed = if is_some (place_of s listed) then listed else listed ++ s ∷ []

-- the shape is listed: it takes arrays or objects, or is of several kinds
abbrev pub is_listed : Shape → Bool
is_listed Any = false
is_listed (OfKinds simple arrays objects) =
    has_arrays arrays || (has_objects objects || are_several (type_names simple arrays objects))

-- the list with the shape behind it where it is listed, unless it is there
abbrev pub with_last_if_listed : Shape → List Shape → List Shape
with_last_if_listed s listed = if is_listed s then with_last s listed else listed

abbrev mutual
  -- the list after a walk through the shape
  pub list_after : List Shape → Shape → List Shape
  list_after listed Any = listed
  list_after listed (OfKinds simple arrays objects) =
      with_last_if_listed (OfKinds simple arrays objects) (list_after_objects (list_after_arrays listed arrays) objects)

  -- through the shapes of elements
  pub list_after_arrays : List Shape → Arrays → List Shape
  list_after_arrays listed WithoutArrays = listed
  list_after_arrays listed (ArraysOf first rest) = list_after (list_after_places listed first) rest

  -- through those of an object's fields
  pub list_after_objects : List Shape → Objects → List Shape
  list_after_objects listed WithoutObjects = listed
  list_after_objects listed (ObjectsOf fields extra) = list_after_fields listed fields

  -- through the shapes of first elements
  pub list_after_places : List Shape → Shapes → List Shape
  list_after_places listed NoShapes = listed
  list_after_places listed (AndShape s first) = list_after_places (list_after listed s) first

  -- through those of fields
  pub list_after_fields : List Shape → FieldShapes → List Shape
  list_after_fields listed NoFieldShapes = listed
  list_after_fields listed (AndFieldShape n needed s fields) = list_after_fields (list_after listed s) fields

-- after a walk through shapes
abbrev pub list_after_all : List Shape → List Shape → List Shape
list_after_all listed [] = listed
list_after_all listed (s ∷ shapes) = list_after_all (list_after listed s) shapes

-- through the one that is there
abbrev pub list_after_item : List Shape → Option Shape → List Shape
list_after_item listed None = listed
list_after_item listed (Some s) = list_after listed s

-- through the shapes of a state
abbrev pub list_after_state : List Shape → StateShapes → List Shape
list_after_state listed shapes =
    list_after (list_after_item (list_after (list_after_all listed shapes.branches) shapes.input) shapes.item)
    shapes.output

-- through those of states
abbrev pub list_after_states : List Shape → List (List ℕ × StateShapes) → List Shape
list_after_states listed [] = listed
list_after_states listed (entry ∷ entries) = list_after_states (list_after_state listed entry.1) entries

-- the shapes that are listed for a certificate
abbrev pub shapes_listed : Certificate → List Shape
shapes_listed certificate = list_after_states (list_after [] certificate.output) certificate.states

-- ---- what is written

-- a reference to the shape at that place
abbrev pub reference : ℕ → Tree
reference n = Object (AndField (codes "shape") (Integer (pos n)) NoFields)

-- a shape: a reference where it is listed
abbrev pub referring : List Shape → Shape → Tree
referring listed s = unwrap_or (option_map reference (place_of s listed)) (written_shape s)

-- so for the shapes of first elements
abbrev pub places_referring : List Shape → Shapes → Trees
places_referring listed NoShapes = NoTrees
places_referring listed (AndShape s first) = AndTree (referring listed s) (places_referring listed first)

-- for those of fields
abbrev pub fields_referring : List Shape → FieldShapes → Fields
fields_referring listed NoFieldShapes = NoFields
fields_referring listed (AndFieldShape n needed s fields) =
    AndField n (referring listed s) (fields_referring listed fields)

-- the keywords for arrays in front of others, with references for the parts
abbrev pub with_arrays_over : List Shape → Arrays → Fields → Fields
with_arrays_over listed WithoutArrays others = others
with_arrays_over listed (ArraysOf first rest) others =
    array_fields (not (is_any_shape rest)) (some_shapes first) (referring listed rest) (how_many_shapes first)
    (Array (places_referring listed first)) others

-- those for objects
abbrev pub with_objects_over : List Shape → Objects → Fields → Fields
with_objects_over listed WithoutObjects others = others
with_objects_over listed (ObjectsOf fields extra) others =
    object_fields (some_fields fields) (some_names (needed_names fields))
    (Object (fields_referring listed fields)) (as_texts (needed_names fields)) others

-- a shape with references for its parts
abbrev pub written_over : List Shape → Shape → Tree
written_over listed Any = written_shape Any
written_over listed (OfKinds simple arrays objects) =
    let names = type_names simple arrays objects in
    written_kinds (are_closed objects) names
    (with_arrays_over listed arrays (with_objects_over listed objects (type_field names)))

-- the tree of a certificate that lists its shapes
abbrev pub written_numbered : Certificate → Tree
written_numbered certificate =
    let listed = shapes_listed certificate in
    certificate_written (written_over listed) listed (referring listed) certificate
