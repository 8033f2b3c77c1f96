-- One level of the spelling of a shape: what its keywords say, with the spellings of the shapes inside as they stand.
use Rattle.std.specs.Prelude.{◌≡◌, ℕ, List, [], ◌∷◌, ◌++◌, Bool, if◌then◌else◌, Option, Some, None, option_map, codes}
use Rattle.std.specs.Option.{unwrap_or}
use Rattle.asl_model.specs.Shape.{Simple, Shape, Any, Never, OfKinds, Arrays, WithoutArrays, ArraysOf, Objects, WithoutObjects, ObjectsOf}
use Rattle.asl_model.specs.ShapeSpelling.{ShapeFault, NotAShape, is_among, simple_named, types_in, typed_faults, required_in, required_faults, extra_in, extra_faults, with_all_needed, min_items_faults, element_count, shape_of, element_shapes, field_shapes, shape_faults, element_faults, field_faults}
use Rattle.asl_model.specs.Tree.{Tree, Null, Boolean, Integer, Text, Array, Object, Trees, NoTrees, Fields, NoFields, field_named}

-- what one level says of arrays: the spellings for the first elements, and the one for each further element, where
-- there is one
pub record ListLevel : Type 0 where
  pub first : Trees
  pub rest : Option Tree

-- of objects: the properties with their spellings, the names of the needed fields, and whether there may be other fields
pub record ObjectLevel : Type 0 where
  pub properties : Fields
  pub names : List (List ℕ)
  pub extra : Bool

-- what one level says
pub data Level : Type 0 where
  -- a shape that is spelled whole
  Whole : Shape → Level
  -- the simple kinds, and what is said of arrays and of objects, where they are among the kinds
  OfTypes : Simple → Option ListLevel → Option ObjectLevel → Level

-- the elements of a value, where it is a list
abbrev pub elements_in : Option Tree → Trees
elements_in None = NoTrees
elements_in (Some Null) = NoTrees
elements_in (Some (Boolean b)) = NoTrees
elements_in (Some (Integer n)) = NoTrees
elements_in (Some (Text s)) = NoTrees
elements_in (Some (Array ts)) = ts
elements_in (Some (Object fs)) = NoTrees

-- the fields of a value, where it is an object
abbrev pub fields_in : Option Tree → Fields
fields_in None = NoFields
fields_in (Some Null) = NoFields
fields_in (Some (Boolean b)) = NoFields
fields_in (Some (Integer n)) = NoFields
fields_in (Some (Text s)) = NoFields
fields_in (Some (Array ts)) = NoFields
fields_in (Some (Object fs)) = fs

-- the value is a list
abbrev pub list_faults : Option Tree → List ShapeFault
list_faults None = []
list_faults (Some Null) = NotAShape ∷ []
list_faults (Some (Boolean b)) = NotAShape ∷ []
list_faults (Some (Integer n)) = NotAShape ∷ []
list_faults (Some (Text s)) = NotAShape ∷ []
list_faults (Some (Array ts)) = []
list_faults (Some (Object fs)) = NotAShape ∷ []

-- it is an object
abbrev pub object_faults : Option Tree → List ShapeFault
object_faults None = []
object_faults (Some Null) = NotAShape ∷ []
object_faults (Some (Boolean b)) = NotAShape ∷ []
object_faults (Some (Integer n)) = NotAShape ∷ []
object_faults (Some (Text s)) = NotAShape ∷ []
object_faults (Some (Array ts)) = NotAShape ∷ []
object_faults (Some (Object fs)) = []

-- what the keywords for arrays say, and those for objects
abbrev pub array_level : Fields → ListLevel
array_level fs =
    record {
      first = elements_in (field_named (codes "prefixItems") fs);
      rest = field_named (codes "items") fs;
    }

abbrev pub object_level : Fields → ObjectLevel
object_level fs =
    record {
      properties = fields_in (field_named (codes "properties") fs);
      names = required_in (field_named (codes "required") fs);
      extra = extra_in (field_named (codes "additionalProperties") fs);
    }

-- that, where it is wanted
abbrev pub only_if : {A : Type 0} → Bool → A → Option A
only_if wanted a = if wanted then Some a else None

-- the level of these types
abbrev pub kinds_level : List (List ℕ) → Fields → Level
kinds_level names fs =
    OfTypes (simple_named names)
    (only_if (is_among (codes "array") names) (array_level fs))
    (only_if (is_among (codes "object") names) (object_level fs))

-- the same, or Any whole where there is no type
abbrev pub typed_level : List (List ℕ) → Fields → Level
typed_level [] fs = Whole Any
typed_level (n ∷ names) fs = kinds_level (n ∷ names) fs

-- what the level of a spelling says
abbrev pub level_of : Tree → Level
level_of Null = Whole Any
level_of (Boolean b) = Whole (if b then Any else Never)
level_of (Integer n) = Whole Any
level_of (Text s) = Whole Any
level_of (Array ts) = Whole Any
level_of (Object fs) = typed_level (types_in (field_named (codes "type") fs)) fs

-- what is wrong with the keywords of an array and of an object, where each spelling inside is right
abbrev pub array_level_faults : Fields → List ShapeFault
array_level_faults fs =
    let prefix = field_named (codes "prefixItems") fs in
    list_faults prefix ++ min_items_faults (field_named (codes "minItems") fs) (element_count prefix)

abbrev pub object_level_faults : Fields → List ShapeFault
object_level_faults fs =
    object_faults (field_named (codes "properties") fs) ++ (required_faults (field_named (codes "required") fs) ++ extra_faults (field_named (codes "additionalProperties") fs))

-- What is wrong with a spelling where each spelling inside is right; `several` says whether a list of types may stand.
abbrev pub level_faults : Bool → Tree → List ShapeFault
level_faults several Null = NotAShape ∷ []
level_faults several (Boolean b) = []
level_faults several (Integer n) = NotAShape ∷ []
level_faults several (Text s) = NotAShape ∷ []
level_faults several (Array ts) = NotAShape ∷ []
level_faults several (Object fs) =
    typed_faults several (field_named (codes "type") fs) fs (array_level_faults fs) (object_level_faults fs)

-- the shape of the further elements, and what is wrong with its spelling; it is Any where there is none
abbrev pub rest_shape : Option Tree → Shape
rest_shape rest = unwrap_or (option_map shape_of rest) Any

abbrev pub rest_faults : Bool → Option Tree → List ShapeFault
rest_faults several rest = unwrap_or (option_map (shape_faults several) rest) []

-- the arrays and the objects of the level, with the shapes inside that their spellings spell
abbrev pub arrays_over : Option ListLevel → Arrays
arrays_over None = WithoutArrays
arrays_over (Some level) = ArraysOf (element_shapes level.first) (rest_shape level.rest)

abbrev pub objects_over : Option ObjectLevel → Objects
objects_over None = WithoutObjects
objects_over (Some level) =
    ObjectsOf (with_all_needed level.extra level.names (field_shapes level.properties)) level.extra

-- the shape of the level
abbrev pub shape_over : Level → Shape
shape_over (Whole s) = s
shape_over (OfTypes simple list object) = OfKinds simple (arrays_over list) (objects_over object)

-- what is wrong with the spellings inside
abbrev pub list_inner_faults : Bool → Option ListLevel → List ShapeFault
list_inner_faults several None = []
list_inner_faults several (Some level) = element_faults several level.first ++ rest_faults several level.rest

abbrev pub object_inner_faults : Bool → Option ObjectLevel → List ShapeFault
object_inner_faults several None = []
object_inner_faults several (Some level) = field_faults several level.properties

abbrev pub inner_faults : Bool → Level → List ShapeFault
inner_faults several (Whole s) = []
inner_faults several (OfTypes simple list object) = list_inner_faults several list ++ object_inner_faults several object

-- The spelling says that level, and nothing is wrong with it but what is with the spellings inside: it spells the shape
-- over the level where these spell theirs.
pub record SpelledOver (several : Bool) (t : Tree) (level : Level) : Type 0 where
  pub none_wrong : level_faults several t ≡ []
  pub same : level_of t ≡ level
  pub shape : shape_of t ≡ shape_over level
  pub faults : shape_faults several t ≡ inner_faults several level
