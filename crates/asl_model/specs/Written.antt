-- How shapes, declared shapes and certificates are written: one spelling of each (the profile's own choice), with the
-- names of each object in byte order.
use Rattle.std.specs.Prelude.{ℕ, pos, List, [], ◌∷◌, Bool, true, false, not, ◌||◌, if◌then◌else◌, Option, Some, None, option_map, codes}
use Rattle.std.specs.List.{list_any}
use Rattle.std.specs.Option.{unwrap_or}
use Rattle.asl_model.specs.Tree.{Tree, Boolean, Integer, Text, Array, Object, Trees}
use Rattle.asl_model.specs.Tree.{NoTrees, AndTree, Fields, NoFields, AndField}
use Rattle.asl_model.specs.Shape.{Shape, Any, OfKinds, Arrays, WithoutArrays, ArraysOf, Objects, WithoutObjects}
use Rattle.asl_model.specs.Shape.{ObjectsOf, Shapes, NoShapes, AndShape, FieldShapes, NoFieldShapes, AndFieldShape}
use Rattle.asl_model.specs.Shape.{type_names, has_several}
use Rattle.asl_model.specs.ShapeOrder.{is_any_shape}
use Rattle.asl_model.specs.ShapeFlow.{how_many_shapes}
use Rattle.asl_model.specs.Certificate.{TaskShapes, Declared, StateShapes, Certificate}

-- the fields with one more in front, where the test holds
abbrev pub field_if : Bool → List ℕ → Tree → Fields → Fields
field_if wanted n t fs = if wanted then AndField n t fs else fs

-- ---- shapes

-- there is a shape
abbrev pub some_shapes : Shapes → Bool
some_shapes NoShapes = false
some_shapes (AndShape s others) = true

-- some field is mentioned
abbrev pub some_fields : FieldShapes → Bool
some_fields NoFieldShapes = false
some_fields (AndFieldShape n needed s shapes) = true

-- the names of the needed fields, in order
abbrev pub needed_names : FieldShapes → List (List ℕ)
needed_names NoFieldShapes = []
needed_names (AndFieldShape n needed s shapes) = if needed then n ∷ needed_names shapes else needed_names shapes

-- there is a name
abbrev pub some_names : List (List ℕ) → Bool
some_names [] = false
some_names (n ∷ ns) = true

-- the names as texts
abbrev pub as_texts : List (List ℕ) → Trees
as_texts [] = NoTrees
as_texts (n ∷ ns) = AndTree (Text n) (as_texts ns)

-- the value of `type`: a name, or the list of names
abbrev pub type_written : List (List ℕ) → Tree
type_written [] = Array NoTrees
type_written (n ∷ []) = Text n
type_written (n ∷ m ∷ names) = Array (as_texts (n ∷ m ∷ names))

-- `type`, behind the other keywords
abbrev pub type_field : List (List ℕ) → Fields
type_field names = AndField (codes "type") (type_written names) NoFields

-- an array's keywords in front: `items` where it isn't Any, `minItems` and `prefixItems` where there are any
abbrev pub array_fields : Bool → Bool → Tree → ℕ → Tree → Fields → Fields
array_fields has_items has_first items number first others =
    field_if has_items (codes "items") items
    (field_if has_first (codes "minItems") (Integer (pos number))
    (field_if has_first (codes "prefixItems") first others))

-- two of an object's keywords in front: `properties` and `required` where there are any
abbrev pub object_fields : Bool → Bool → Tree → Trees → Fields → Fields
object_fields has_fields has_needed properties names others =
    field_if has_fields (codes "properties") properties
    (field_if has_needed (codes "required") (Array names) others)

-- `additionalProperties` in front, where there may be no other fields
abbrev pub closed_first : Bool → Fields → Fields
closed_first closed others = field_if closed (codes "additionalProperties") (Boolean false) others

-- whether the objects have no other fields than those mentioned
abbrev pub are_closed : Objects → Bool
are_closed WithoutObjects = false
are_closed (ObjectsOf shapes extra) = not extra

-- the tree of a shape without types is false; of another the object of those keywords
abbrev pub written_kinds : Bool → List (List ℕ) → Fields → Tree
written_kinds closed [] keywords = Boolean false
written_kinds closed (n ∷ names) keywords = Object (closed_first closed keywords)

abbrev mutual
  -- the tree that is written for a shape
  pub written_shape : Shape → Tree
  written_shape Any = Boolean true
  written_shape (OfKinds simple arrays objects) =
      let names = type_names simple arrays objects in
      written_kinds (are_closed objects) names
      (with_written_arrays arrays (with_written_objects objects (type_field names)))

  -- the keywords for arrays in front of others
  pub with_written_arrays : Arrays → Fields → Fields
  with_written_arrays WithoutArrays others = others
  with_written_arrays (ArraysOf first rest) others =
      array_fields (not (is_any_shape rest)) (some_shapes first) (written_shape rest) (how_many_shapes first)
      (Array (written_shapes first)) others

  -- those for objects
  pub with_written_objects : Objects → Fields → Fields
  with_written_objects WithoutObjects others = others
  with_written_objects (ObjectsOf shapes extra) others =
      object_fields (some_fields shapes) (some_names (needed_names shapes)) (Object (written_fields shapes))
      (as_texts (needed_names shapes)) others

  -- for each of the shapes
  pub written_shapes : Shapes → Trees
  written_shapes NoShapes = NoTrees
  written_shapes (AndShape s others) = AndTree (written_shape s) (written_shapes others)

  -- for each mentioned field
  pub written_fields : FieldShapes → Fields
  written_fields NoFieldShapes = NoFields
  written_fields (AndFieldShape n needed s shapes) = AndField n (written_shape s) (written_fields shapes)

-- ---- declared shapes

-- an entry under each name, in the same order
abbrev pub written_entries : {A : Type 0} → (A → Tree) → List (List ℕ × A) → Fields
written_entries f [] = NoFields
written_entries f (entry ∷ entries) = AndField entry.0 (f entry.1) (written_entries f entries)

-- the entry of a declared task
abbrev pub written_task : TaskShapes → Tree
written_task task =
    Object (AndField (codes "gives") (written_shape task.gives)
    (AndField (codes "takes") (written_shape task.takes) NoFields))

-- the tree of declared shapes
abbrev pub written_declared : Declared → Tree
written_declared declared =
    Object (AndField (codes "input") (written_shape declared.input)
    (AndField (codes "tasks") (Object (written_entries written_task declared.tasks)) NoFields))

-- ---- certificates

-- what is written for each shape of a list, where each is written so
abbrev pub written_list : (Shape → Tree) → List Shape → Trees
written_list written [] = NoTrees
written_list written (s ∷ further) = AndTree (written s) (written_list written further)

-- `branches` where there are any
abbrev pub with_branches : (Shape → Tree) → List Shape → Fields → Fields
with_branches written [] fs = fs
with_branches written (s ∷ further) fs = AndField (codes "branches") (Array (written_list written (s ∷ further))) fs

-- `item` where there is one
abbrev pub with_item : (Shape → Tree) → Option Shape → Fields → Fields
with_item written None fs = fs
with_item written (Some s) fs = AndField (codes "item") (written s) fs

-- a state's entry in a certificate
abbrev pub written_state : (Shape → Tree) → StateShapes → Tree
written_state written shapes =
    Object (with_branches written shapes.branches
    (AndField (codes "input") (written shapes.input)
    (with_item written shapes.item (AndField (codes "output") (written shapes.output) NoFields))))

-- `shapes` where there are any to list, each written so
abbrev pub with_listed : (Shape → Tree) → List Shape → Fields → Fields
with_listed written [] fs = fs
with_listed written (s ∷ further) fs = AndField (codes "shapes") (Array (written_list written (s ∷ further))) fs

-- a shape of a state's entry is of several kinds, or has one inside it that is
abbrev pub state_has_several : StateShapes → Bool
state_has_several shapes =
    has_several shapes.input
    || (has_several shapes.output || (list_any has_several shapes.branches
    || unwrap_or (option_map has_several shapes.item) false))

-- a shape of the certificate is, or has one inside it that is
abbrev pub certificate_has_several : Certificate → Bool
certificate_has_several certificate =
    has_several certificate.output || list_any (λ entry. state_has_several entry.1) certificate.states

-- the version of its text: 1, or 2 where shapes are of several kinds
abbrev pub version_of : Certificate → ℕ
version_of certificate = if certificate_has_several certificate then 2 else 1

-- the tree of a certificate that lists these shapes, each written as the first says, and any other as the second does
abbrev pub certificate_written : (Shape → Tree) → List Shape → (Shape → Tree) → Certificate → Tree
certificate_written as_listed listed written certificate =
    Object (AndField (codes "output") (written certificate.output)
    (with_listed as_listed listed
    (AndField (codes "states") (Object (written_entries (written_state written) certificate.states))
    (AndField (codes "version") (Integer (pos (version_of certificate))) NoFields))))

-- with none listed
abbrev pub written_certificate : Certificate → Tree
written_certificate certificate = certificate_written written_shape [] written_shape certificate
