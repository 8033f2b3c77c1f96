-- How shapes are spelled (a subset of JSON Schema 2020-12, Core and Validation).
-- `true` and `{}` are Any, `false` is Never; any other spelling is an object with `type`, a type or a list of types, and
-- the keywords of these types. Every tree has here a shape, with defaults where something is wrong, and a list of all
-- that is wrong with it. It spells its shape where that list is empty. In the first version of certificates a list of
-- types is wrong.
use Rattle.std.specs.Prelude.{◌≡◌, ℕ, pos, List, [], ◌∷◌, ◌++◌, Bool, true, false, not, ◌&&◌}
use Rattle.std.specs.Prelude.{◌||◌, if◌then◌else◌, Option, Some, None, bytes_eq, codes}
use Rattle.std.specs.Ordering.{int_eq}
use Rattle.std.specs.List.{Contains}
use Rattle.asl_model.specs.Tree.{Tree, Null, Boolean, Integer, Text, Array, Object, Trees, NoTrees}
use Rattle.asl_model.specs.Tree.{AndTree, Fields, NoFields, AndField, count, field_named}
use Rattle.asl_model.specs.Shape.{Simple, Shape, Any, Never, OfKinds, Arrays, WithoutArrays, ArraysOf, Objects}
use Rattle.asl_model.specs.Shape.{WithoutObjects, ObjectsOf, Shapes, NoShapes, AndShape, FieldShapes}
use Rattle.asl_model.specs.Shape.{NoFieldShapes, AndFieldShape, mentions, insert_mention}

-- what can be wrong with a spelling
pub data ShapeFault : Type 0 where
  -- a value of a wrong kind
  NotAShape : ShapeFault
  -- a keyword that doesn't belong to the type
  Keyword : ShapeFault
  -- no type beside another keyword, or one that the profile doesn't have; of a list of types one twice, or none; in the
  -- first version of certificates any such list
  BadType : ShapeFault
  -- a `minItems` other than the number of the `prefixItems`
  MinItems : ShapeFault

-- the name is one of those
abbrev pub is_among : List ℕ → List (List ℕ) → Bool
is_among n [] = false
is_among n (m ∷ ms) = bytes_eq m n || is_among n ms

-- no name stands twice
abbrev pub are_distinct : List (List ℕ) → Bool
are_distinct [] = true
are_distinct (n ∷ ns) = not (is_among n ns) && are_distinct ns

-- ---- types and keywords

-- the types
abbrev pub types : List (List ℕ)
types =
    codes "array" ∷ codes "boolean" ∷ codes "integer" ∷ codes "null" ∷ codes "object" ∷ codes "string" ∷ []

-- read past, of any kind
abbrev pub annotations : List (List ℕ)
annotations =
    codes "$schema" ∷ codes "$id" ∷ codes "$comment" ∷ codes "title" ∷ codes "description" ∷ codes "default"
    ∷ codes "examples" ∷ []

-- those for arrays, and those for objects
abbrev pub array_keywords : List (List ℕ)
array_keywords = codes "prefixItems" ∷ codes "items" ∷ codes "minItems" ∷ []

abbrev pub object_keywords : List (List ℕ)
object_keywords = codes "properties" ∷ codes "required" ∷ codes "additionalProperties" ∷ []

-- those that belong to one of these types
abbrev pub keywords_of : List (List ℕ) → List (List ℕ)
keywords_of names =
    codes "type" ∷ ((if is_among (codes "array") names then array_keywords else [])
    ++ ((if is_among (codes "object") names then object_keywords else []) ++ annotations))

-- a fault for each field that isn't one of those keywords
abbrev pub foreign_faults : ShapeFault → List (List ℕ) → Fields → List ShapeFault
foreign_faults fault keywords NoFields = []
foreign_faults fault keywords (AndField n t fs) =
    if is_among n keywords then foreign_faults fault keywords fs else fault ∷ foreign_faults fault keywords fs

-- ---- lists of texts

-- the texts among the elements
abbrev pub texts_among : Trees → List (List ℕ)
texts_among NoTrees = []
texts_among (AndTree Null ts) = texts_among ts
texts_among (AndTree (Boolean b) ts) = texts_among ts
texts_among (AndTree (Integer n) ts) = texts_among ts
texts_among (AndTree (Text s) ts) = s ∷ texts_among ts
texts_among (AndTree (Array us) ts) = texts_among ts
texts_among (AndTree (Object fs) ts) = texts_among ts

-- the tree is a text
abbrev pub is_text_value : Tree → Bool
is_text_value Null = false
is_text_value (Boolean b) = false
is_text_value (Integer n) = false
is_text_value (Text s) = true
is_text_value (Array ts) = false
is_text_value (Object fs) = false

-- every element is a text
abbrev pub are_texts : Trees → Bool
are_texts NoTrees = true
are_texts (AndTree t ts) = is_text_value t && are_texts ts

-- that fault, unless the test holds
abbrev pub unless : Bool → ShapeFault → List ShapeFault
unless true fault = []
unless false fault = fault ∷ []

-- ---- `type`

-- the names of the types that `type` says
abbrev pub types_in : Option Tree → List (List ℕ)
types_in None = []
types_in (Some Null) = []
types_in (Some (Boolean b)) = []
types_in (Some (Integer n)) = []
types_in (Some (Text s)) = s ∷ []
types_in (Some (Array ts)) = texts_among ts
types_in (Some (Object fs)) = []

-- each name is that of a type
abbrev pub are_types : List (List ℕ) → Bool
are_types [] = true
are_types (n ∷ names) = is_among n types && are_types names

-- there is an element
abbrev pub some_elements : Trees → Bool
some_elements NoTrees = false
some_elements (AndTree t ts) = true

-- the elements are the names of types, of one or more, none twice
abbrev pub is_type_list : Trees → Bool
is_type_list ts =
    some_elements ts && (are_texts ts && (are_types (texts_among ts) && are_distinct (texts_among ts)))

-- what is wrong with the value of `type`: it is a type, or a list of types where there may be several
abbrev pub type_faults : Bool → Tree → List ShapeFault
type_faults several Null = NotAShape ∷ []
type_faults several (Boolean b) = NotAShape ∷ []
type_faults several (Integer n) = NotAShape ∷ []
type_faults several (Text s) = unless (is_among s types) BadType
type_faults several (Array ts) = unless (several && is_type_list ts) BadType
type_faults several (Object fs) = NotAShape ∷ []

-- ---- `required` and `additionalProperties`

-- the names in `required`
abbrev pub required_in : Option Tree → List (List ℕ)
required_in None = []
required_in (Some Null) = []
required_in (Some (Boolean b)) = []
required_in (Some (Integer n)) = []
required_in (Some (Text s)) = []
required_in (Some (Array ts)) = texts_among ts
required_in (Some (Object fs)) = []

-- it is a list of distinct texts
abbrev pub required_faults : Option Tree → List ShapeFault
required_faults None = []
required_faults (Some Null) = NotAShape ∷ []
required_faults (Some (Boolean b)) = NotAShape ∷ []
required_faults (Some (Integer n)) = NotAShape ∷ []
required_faults (Some (Text s)) = NotAShape ∷ []
required_faults (Some (Array ts)) = unless (are_texts ts && are_distinct (texts_among ts)) NotAShape
required_faults (Some (Object fs)) = NotAShape ∷ []

-- whether other fields may be there: true unless `additionalProperties` is false
abbrev pub extra_in : Option Tree → Bool
extra_in None = true
extra_in (Some Null) = true
extra_in (Some (Boolean b)) = b
extra_in (Some (Integer n)) = true
extra_in (Some (Text s)) = true
extra_in (Some (Array ts)) = true
extra_in (Some (Object fs)) = true

-- it is a truth value
abbrev pub extra_faults : Option Tree → List ShapeFault
extra_faults None = []
extra_faults (Some Null) = NotAShape ∷ []
extra_faults (Some (Boolean b)) = []
extra_faults (Some (Integer n)) = NotAShape ∷ []
extra_faults (Some (Text s)) = NotAShape ∷ []
extra_faults (Some (Array ts)) = NotAShape ∷ []
extra_faults (Some (Object fs)) = NotAShape ∷ []

-- the shape of a needed field without a property: Any, or Never where there may be no other fields
abbrev pub unmentioned : Bool → Shape
unmentioned extra = if extra then Any else Never

-- the fields, with the first mention of that name needed
abbrev pub with_mention_needed : List ℕ → FieldShapes → FieldShapes
with_mention_needed n NoFieldShapes = NoFieldShapes
with_mention_needed n (AndFieldShape m needed s shapes) =
    if bytes_eq m n then AndFieldShape m true s shapes else AndFieldShape m needed s (with_mention_needed n shapes)

-- the fields, with that one needed: where it is mentioned, or else as one more at its place in byte order
abbrev pub with_needed : Bool → List ℕ → FieldShapes → FieldShapes
with_needed extra n shapes =
    if mentions n shapes then with_mention_needed n shapes else insert_mention n true (unmentioned extra) shapes

-- the fields with each of these needed
abbrev pub with_all_needed : Bool → List (List ℕ) → FieldShapes → FieldShapes
with_all_needed extra [] shapes = shapes
with_all_needed extra (n ∷ ns) shapes = with_all_needed extra ns (with_needed extra n shapes)

-- ---- `minItems`

-- it is the number of the `prefixItems`, and may be absent where there are none
abbrev pub min_items_faults : Option Tree → ℕ → List ShapeFault
min_items_faults None n = unless (int_eq (pos 0) (pos n)) MinItems
min_items_faults (Some Null) n = NotAShape ∷ []
min_items_faults (Some (Boolean b)) n = NotAShape ∷ []
min_items_faults (Some (Integer m)) n = unless (int_eq m (pos n)) MinItems
min_items_faults (Some (Text s)) n = NotAShape ∷ []
min_items_faults (Some (Array ts)) n = NotAShape ∷ []
min_items_faults (Some (Object fs)) n = NotAShape ∷ []

-- how many elements a value has, where it is a list
abbrev pub element_count : Option Tree → ℕ
element_count None = 0
element_count (Some Null) = 0
element_count (Some (Boolean b)) = 0
element_count (Some (Integer n)) = 0
element_count (Some (Text s)) = 0
element_count (Some (Array ts)) = count ts
element_count (Some (Object fs)) = 0

-- ---- shapes

-- the simple kinds among those types
abbrev pub simple_named : List (List ℕ) → Simple
simple_named names =
    record {
      null = is_among (codes "null") names;
      boolean = is_among (codes "boolean") names;
      integer = is_among (codes "integer") names;
      text = is_among (codes "string") names;
    }

-- the shape of those types, with these arrays and objects where they are among the types; Any where there is no type
abbrev pub typed_shape : List (List ℕ) → Arrays → Objects → Shape
typed_shape [] arrays objects = Any
typed_shape (n ∷ names) arrays objects =
    OfKinds (simple_named (n ∷ names))
    (if is_among (codes "array") (n ∷ names) then arrays else WithoutArrays)
    (if is_among (codes "object") (n ∷ names) then objects else WithoutObjects)

abbrev mutual
  -- the shape that a tree spells
  pub shape_of : Tree → Shape
  shape_of Null = Any
  shape_of (Boolean b) = if b then Any else Never
  shape_of (Integer n) = Any
  shape_of (Text s) = Any
  shape_of (Array ts) = Any
  shape_of (Object fs) =
      let extra = extra_in (field_named (codes "additionalProperties") fs) in
      typed_shape (types_in (field_named (codes "type") fs))
      (ArraysOf (shapes_under (codes "prefixItems") fs) (shape_under (codes "items") fs))
      (ObjectsOf (with_all_needed extra (required_in (field_named (codes "required") fs))
      (properties_under (codes "properties") fs)) extra)

  -- the shape that the field of that name spells; Any where there is none
  pub shape_under : List ℕ → Fields → Shape
  shape_under n NoFields = Any
  shape_under n (AndField m t fs) = elim (bytes_eq m n) [ true ↦ shape_of t | false ↦ shape_under n fs ]

  -- the shapes that the elements of a list spell
  pub shapes_of : Tree → Shapes
  shapes_of Null = NoShapes
  shapes_of (Boolean b) = NoShapes
  shapes_of (Integer n) = NoShapes
  shapes_of (Text s) = NoShapes
  shapes_of (Array ts) = element_shapes ts
  shapes_of (Object fs) = NoShapes

  -- the shape of each element
  pub element_shapes : Trees → Shapes
  element_shapes NoTrees = NoShapes
  element_shapes (AndTree t ts) = AndShape (shape_of t) (element_shapes ts)

  -- the shapes of the list in the field of that name
  pub shapes_under : List ℕ → Fields → Shapes
  shapes_under n NoFields = NoShapes
  shapes_under n (AndField m t fs) = elim (bytes_eq m n) [ true ↦ shapes_of t | false ↦ shapes_under n fs ]

  -- the shapes that the fields of an object spell, none of them needed
  pub properties_of : Tree → FieldShapes
  properties_of Null = NoFieldShapes
  properties_of (Boolean b) = NoFieldShapes
  properties_of (Integer n) = NoFieldShapes
  properties_of (Text s) = NoFieldShapes
  properties_of (Array ts) = NoFieldShapes
  properties_of (Object fs) = field_shapes fs

  -- the shape of each field, none of them needed
  pub field_shapes : Fields → FieldShapes
  field_shapes NoFields = NoFieldShapes
  field_shapes (AndField n t fs) = AndFieldShape n false (shape_of t) (field_shapes fs)

  -- so for the object in the field of that name
  pub properties_under : List ℕ → Fields → FieldShapes
  properties_under n NoFields = NoFieldShapes
  properties_under n (AndField m t fs) = elim (bytes_eq m n) [ true ↦ properties_of t | false ↦ properties_under n fs ]

-- ---- faults

-- those faults if that type is among the types
abbrev pub faults_if : List ℕ → List (List ℕ) → List ShapeFault → List ShapeFault
faults_if name names faults = if is_among name names then faults else []

-- the faults where `type` is right and says those types: those of the fields that belong to none of them, and what is
-- wrong with the keywords for arrays and for objects
abbrev pub keyword_faults : List (List ℕ) → Fields → List ShapeFault → List ShapeFault → List ShapeFault
keyword_faults names fs array_faults object_faults =
    foreign_faults Keyword (keywords_of names) fs
    ++ (faults_if (codes "array") names array_faults ++ faults_if (codes "object") names object_faults)

-- what is wrong with `type` alone, or else with the other keywords
abbrev pub faults_first : List ShapeFault → List ShapeFault → List ShapeFault
faults_first [] others = others
faults_first (fault ∷ faults) others = fault ∷ faults

-- the faults for that value of `type`; without one each field but an annotation is one
abbrev pub typed_faults : Bool → Option Tree → Fields → List ShapeFault → List ShapeFault → List ShapeFault
typed_faults several None fs array_faults object_faults = foreign_faults BadType annotations fs
typed_faults several (Some t) fs array_faults object_faults =
    faults_first (type_faults several t) (keyword_faults (types_in (Some t)) fs array_faults object_faults)

abbrev mutual
  -- all that is wrong with a tree as the spelling of a shape, where there may be lists of types or may not
  pub shape_faults : Bool → Tree → List ShapeFault
  shape_faults several Null = NotAShape ∷ []
  shape_faults several (Boolean b) = []
  shape_faults several (Integer n) = NotAShape ∷ []
  shape_faults several (Text s) = NotAShape ∷ []
  shape_faults several (Array ts) = NotAShape ∷ []
  shape_faults several (Object fs) =
      let prefix = element_count (field_named (codes "prefixItems") fs) in
      typed_faults several (field_named (codes "type") fs) fs
      (shapes_faults_under several (codes "prefixItems") fs
      ++ (shape_faults_under several (codes "items") fs ++ min_items_faults (field_named (codes "minItems") fs) prefix))
      (properties_faults_under several (codes "properties") fs
      ++ (required_faults (field_named (codes "required") fs)
      ++ extra_faults (field_named (codes "additionalProperties") fs)))

  -- what is wrong with the field of that name, where there is one, as the spelling of a shape
  pub shape_faults_under : Bool → List ℕ → Fields → List ShapeFault
  shape_faults_under several n NoFields = []
  shape_faults_under several n (AndField m t fs) =
      elim (bytes_eq m n) [ true ↦ shape_faults several t | false ↦ shape_faults_under several n fs ]

  -- as a list of shapes
  pub shapes_faults : Bool → Tree → List ShapeFault
  shapes_faults several Null = NotAShape ∷ []
  shapes_faults several (Boolean b) = NotAShape ∷ []
  shapes_faults several (Integer n) = NotAShape ∷ []
  shapes_faults several (Text s) = NotAShape ∷ []
  shapes_faults several (Array ts) = element_faults several ts
  shapes_faults several (Object fs) = NotAShape ∷ []

  -- what is wrong with each element
  pub element_faults : Bool → Trees → List ShapeFault
  element_faults several NoTrees = []
  element_faults several (AndTree t ts) = shape_faults several t ++ element_faults several ts

  -- with the list in the field of that name
  pub shapes_faults_under : Bool → List ℕ → Fields → List ShapeFault
  shapes_faults_under several n NoFields = []
  shapes_faults_under several n (AndField m t fs) =
      elim (bytes_eq m n) [ true ↦ shapes_faults several t | false ↦ shapes_faults_under several n fs ]

  -- as an object of shapes
  pub properties_faults : Bool → Tree → List ShapeFault
  properties_faults several Null = NotAShape ∷ []
  properties_faults several (Boolean b) = NotAShape ∷ []
  properties_faults several (Integer n) = NotAShape ∷ []
  properties_faults several (Text s) = NotAShape ∷ []
  properties_faults several (Array ts) = NotAShape ∷ []
  properties_faults several (Object fs) = field_faults several fs

  -- with each field
  pub field_faults : Bool → Fields → List ShapeFault
  field_faults several NoFields = []
  field_faults several (AndField n t fs) = shape_faults several t ++ field_faults several fs

  -- with the object in the field of that name
  pub properties_faults_under : Bool → List ℕ → Fields → List ShapeFault
  properties_faults_under several n NoFields = []
  properties_faults_under several n (AndField m t fs) =
      elim (bytes_eq m n) [ true ↦ properties_faults several t | false ↦ properties_faults_under several n fs ]

-- the tree spells the shape
pub record SpellsShape (t : Tree) (s : Shape) : Type 0 where
  pub none_wrong : shape_faults true t ≡ []
  pub same : shape_of t ≡ s

-- that is wrong with the tree
pub record HasShapeFault (t : Tree) (f : ShapeFault) : Type 0 where
  pub listed : Contains (shape_faults true t) f

-- the same in the first version of certificates, which has no lists of types
pub record SpellsShapeV1 (t : Tree) (s : Shape) : Type 0 where
  pub none_wrong : shape_faults false t ≡ []
  pub same : shape_of t ≡ s

pub record HasShapeFaultV1 (t : Tree) (f : ShapeFault) : Type 0 where
  pub listed : Contains (shape_faults false t) f
