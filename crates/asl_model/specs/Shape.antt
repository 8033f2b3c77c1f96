-- Shapes, and which trees have them (a subset of JSON Schema 2020-12, Core and Validation).
use Rattle.std.specs.Prelude.{◌≡◌, ℕ, ℤ, List, [], ◌∷◌, Bool, true, false, ◌&&◌, ◌||◌, not, IsTrue}
use Rattle.std.specs.Prelude.{IsUtf8, Option, Some, None, bytes_eq, codes, if◌then◌else◌}
use Rattle.asl_model.specs.Names.{FieldName, Bytes}
use Rattle.asl_model.specs.Tree.{Tree, Null, Boolean, Integer, Text, Array, Object, Trees, NoTrees}
use Rattle.asl_model.specs.Tree.{AndTree, Fields, NoFields, AndField, field_named, comes_before}

-- of which of the four simple kinds a tree may be
pub record Simple : Type 0 where
  pub null : Bool
  pub boolean : Bool
  pub integer : Bool
  pub text : Bool

mutual
  -- what is said of a tree: nothing; or of which kinds it may be, and what it looks like as an array or an object
  pub data Shape : Type 0 where
    Any : Shape
    OfKinds : Simple → Arrays → Objects → Shape

  -- no arrays; or those with these shapes of the first elements, and that of each further one
  pub data Arrays : Type 0 where
    WithoutArrays : Arrays
    ArraysOf : Shapes → Shape → Arrays

  -- no objects; or those with these mentioned fields, and whether there may be others
  pub data Objects : Type 0 where
    WithoutObjects : Objects
    ObjectsOf : FieldShapes → Bool → Objects

  -- shapes in order, each of one place
  pub data Shapes : Type 0 where
    NoShapes : Shapes
    AndShape : Shape → Shapes → Shapes

  -- each mentioned field: its name, whether it is needed, its shape
  pub data FieldShapes : Type 0 where
    NoFieldShapes : FieldShapes
    AndFieldShape : FieldName → Bool → Shape → FieldShapes → FieldShapes

-- none of the simple kinds
abbrev pub no_simple : Simple
no_simple = record { null = false; boolean = false; integer = false; text = false }

-- all of them
abbrev pub all_simple : Simple
all_simple = record { null = true; boolean = true; integer = true; text = true }

-- the shape of no tree
abbrev pub Never : Shape
Never = OfKinds no_simple WithoutArrays WithoutObjects

-- the shape of null
abbrev pub NullShape : Shape
NullShape = OfKinds (record no_simple { null = true }) WithoutArrays WithoutObjects

-- of truth values
abbrev pub BooleanShape : Shape
BooleanShape = OfKinds (record no_simple { boolean = true }) WithoutArrays WithoutObjects

-- of whole numbers
abbrev pub IntegerShape : Shape
IntegerShape = OfKinds (record no_simple { integer = true }) WithoutArrays WithoutObjects

-- of texts
abbrev pub StringShape : Shape
StringShape = OfKinds (record no_simple { text = true }) WithoutArrays WithoutObjects

-- of arrays alone
abbrev pub ArrayShape : Shapes → Shape → Shape
ArrayShape first rest = OfKinds no_simple (ArraysOf first rest) WithoutObjects

-- of objects alone
abbrev pub ObjectShape : FieldShapes → Bool → Shape
ObjectShape shapes extra = OfKinds no_simple WithoutArrays (ObjectsOf shapes extra)

-- every element passes the test
abbrev pub each_element : (Tree → Bool) → Trees → Bool
each_element test NoTrees = true
each_element test (AndTree t ts) = test t && each_element test ts

-- some mention of a field has that name
abbrev pub mentions : FieldName → FieldShapes → Bool
mentions n NoFieldShapes = false
mentions n (AndFieldShape m needed s shapes) = bytes_eq m n || mentions n shapes

-- every field is mentioned
abbrev pub all_mentioned : FieldShapes → Fields → Bool
all_mentioned shapes NoFields = true
all_mentioned shapes (AndField n t fs) = mentions n shapes && all_mentioned shapes fs

-- a field that is there passes the test, and one that is needed is there
abbrev pub there_and : Bool → (Tree → Bool) → Option Tree → Bool
there_and needed test None = not needed
there_and needed test (Some t) = test t

abbrev mutual
  -- the tree has the shape
  pub has : Shape → Tree → Bool
  has Any t = true
  has (OfKinds simple arrays objects) Null = simple.null
  has (OfKinds simple arrays objects) (Boolean b) = simple.boolean
  has (OfKinds simple arrays objects) (Integer n) = simple.integer
  has (OfKinds simple arrays objects) (Text s) = simple.text
  has (OfKinds simple arrays objects) (Array ts) = arrays_have arrays ts
  has (OfKinds simple arrays objects) (Object fs) = objects_have objects fs

  -- the array of these elements is one of those arrays
  pub arrays_have : Arrays → Trees → Bool
  arrays_have WithoutArrays ts = false
  arrays_have (ArraysOf first rest) ts = elements_have first (has rest) ts

  -- the object of these fields is one of those objects
  pub objects_have : Objects → Fields → Bool
  objects_have WithoutObjects fs = false
  objects_have (ObjectsOf shapes extra) fs = fields_have shapes fs && (extra || all_mentioned shapes fs)

  -- there are as many elements as first shapes, or more; each of those has its shape, each further one passes the test
  pub elements_have : Shapes → (Tree → Bool) → Trees → Bool
  elements_have NoShapes further ts = each_element further ts
  elements_have (AndShape s others) further NoTrees = false
  elements_have (AndShape s others) further (AndTree t ts) = has s t && elements_have others further ts

  -- each mention of a field holds: its shape where the field is there, and that it is there where it is needed
  pub fields_have : FieldShapes → Fields → Bool
  fields_have NoFieldShapes fs = true
  fields_have (AndFieldShape n needed s shapes) fs =
      there_and needed (has s) (field_named n fs) && fields_have shapes fs

-- the tree has the shape, as a fact
abbrev pub Has : Shape → Tree → Type 0
Has s t = IsTrue (has s t)

-- every tree of the first shape has the second
abbrev pub Inside : Shape → Shape → Type 0
Inside a b = (t : Tree) → Has a t → Has b t

-- the name is that of a mentioned field
pub data IsMentioned : FieldName → FieldShapes → Type 0 where
  mentioned_first : {n : FieldName} {needed : Bool} {s : Shape} {shapes : FieldShapes}
      → IsMentioned n (AndFieldShape n needed s shapes)
  mentioned_later : {n m : FieldName} {needed : Bool} {s : Shape} {shapes : FieldShapes} → IsMentioned n shapes
      → IsMentioned n (AndFieldShape m needed s shapes)

-- the name of each field is mentioned
pub data AreMentioned : Fields → FieldShapes → Type 0 where
  none_to_mention : {shapes : FieldShapes} → AreMentioned NoFields shapes
  and_mentioned : {n : FieldName} {t : Tree} {fs : Fields} {shapes : FieldShapes} → IsMentioned n shapes
      → AreMentioned fs shapes → AreMentioned (AndField n t fs) shapes

mutual
  -- The tree is valid against the shape. Every tree is against Any. Against a shape of kinds a tree of a simple kind is
  -- where the shape takes that kind; an array whose elements are, against those of its arrays; an object whose
  -- mentioned fields are, against those of its objects, where it may have other fields or has none. There is no other
  -- case.
  pub data IsValid : Shape → Tree → Type 0 where
    any_is_valid : {t : Tree} → IsValid Any t
    null_is_valid : {simple : Simple} {arrays : Arrays} {objects : Objects} → IsTrue simple.null
        → IsValid (OfKinds simple arrays objects) Null
    boolean_is_valid : {simple : Simple} {arrays : Arrays} {objects : Objects} {b : Bool} → IsTrue simple.boolean
        → IsValid (OfKinds simple arrays objects) (Boolean b)
    integer_is_valid : {simple : Simple} {arrays : Arrays} {objects : Objects} {n : ℤ} → IsTrue simple.integer
        → IsValid (OfKinds simple arrays objects) (Integer n)
    text_is_valid : {simple : Simple} {arrays : Arrays} {objects : Objects} {s : Bytes} → IsTrue simple.text
        → IsValid (OfKinds simple arrays objects) (Text s)
    array_is_valid : {simple : Simple} {first : Shapes} {rest : Shape} {objects : Objects} {ts : Trees}
        → HasValidElements first rest ts → IsValid (OfKinds simple (ArraysOf first rest) objects) (Array ts)
    open_object_is_valid : {simple : Simple} {arrays : Arrays} {shapes : FieldShapes} {fs : Fields}
        → HasValidFields shapes fs → IsValid (OfKinds simple arrays (ObjectsOf shapes true)) (Object fs)
    closed_object_is_valid : {simple : Simple} {arrays : Arrays} {shapes : FieldShapes} {fs : Fields}
        → HasValidFields shapes fs → AreMentioned fs shapes
        → IsValid (OfKinds simple arrays (ObjectsOf shapes false)) (Object fs)

  -- each of the first elements is there and valid against its own shape, and each further one against that of the rest
  pub data HasValidElements : Shapes → Shape → Trees → Type 0 where
    no_further_element : {rest : Shape} → HasValidElements NoShapes rest NoTrees
    further_element_is_valid : {rest : Shape} {t : Tree} {ts : Trees} → IsValid rest t
        → HasValidElements NoShapes rest ts → HasValidElements NoShapes rest (AndTree t ts)
    first_element_is_valid : {s : Shape} {others : Shapes} {rest : Shape} {t : Tree} {ts : Trees} → IsValid s t
        → HasValidElements others rest ts → HasValidElements (AndShape s others) rest (AndTree t ts)

  -- each mentioned field is valid against its shape where it is there; one that isn't there isn't needed
  pub data HasValidFields : FieldShapes → Fields → Type 0 where
    no_field_mentioned : {fs : Fields} → HasValidFields NoFieldShapes fs
    present_field_is_valid : {n : FieldName} {needed : Bool} {s : Shape} {shapes : FieldShapes} {fs : Fields} {t : Tree}
        → field_named n fs ≡ Some t → IsValid s t → HasValidFields shapes fs
        → HasValidFields (AndFieldShape n needed s shapes) fs
    absent_field_is_valid : {n : FieldName} {s : Shape} {shapes : FieldShapes} {fs : Fields} → field_named n fs ≡ None
        → HasValidFields shapes fs → HasValidFields (AndFieldShape n false s shapes) fs

-- the name comes before that of the first mention
abbrev pub before_mentions : FieldName → FieldShapes → Bool
before_mentions n NoFieldShapes = true
before_mentions n (AndFieldShape m needed s shapes) = comes_before n m

-- the mentions with one more, in front of the first whose name comes behind
abbrev pub insert_mention : FieldName → Bool → Shape → FieldShapes → FieldShapes
insert_mention n needed s NoFieldShapes = AndFieldShape n needed s NoFieldShapes
insert_mention n needed s (AndFieldShape m other t shapes) =
    if comes_before n m then AndFieldShape n needed s (AndFieldShape m other t shapes)
    else AndFieldShape m other t (insert_mention n needed s shapes)

-- whether there are arrays
abbrev pub has_arrays : Arrays → Bool
has_arrays WithoutArrays = false
has_arrays (ArraysOf first rest) = true

-- whether there are objects
abbrev pub has_objects : Objects → Bool
has_objects WithoutObjects = false
has_objects (ObjectsOf shapes extra) = true

-- one more name in front, where the test holds
abbrev pub name_if : Bool → List ℕ → List (List ℕ) → List (List ℕ)
name_if wanted name names = if wanted then name ∷ names else names

-- the names of the types that take them, in byte order
abbrev pub type_names : Simple → Arrays → Objects → List (List ℕ)
type_names simple arrays objects =
    name_if (has_arrays arrays) (codes "array")
    (name_if simple.boolean (codes "boolean")
    (name_if simple.integer (codes "integer")
    (name_if simple.null (codes "null")
    (name_if (has_objects objects) (codes "object")
    (name_if simple.text (codes "string") [])))))

-- there are two names or more
abbrev pub are_several : List (List ℕ) → Bool
are_several [] = false
are_several (n ∷ []) = false
are_several (n ∷ m ∷ names) = true

abbrev mutual
  -- whether the shape, or one inside it, is of several kinds
  pub has_several : Shape → Bool
  has_several Any = false
  has_several (OfKinds simple arrays objects) =
      are_several (type_names simple arrays objects)
      || (arrays_have_several arrays || objects_have_several objects)

  -- whether the shape of an element is, or one inside it
  pub arrays_have_several : Arrays → Bool
  arrays_have_several WithoutArrays = false
  arrays_have_several (ArraysOf first rest) = some_has_several first || has_several rest

  -- whether that of a mentioned field is
  pub objects_have_several : Objects → Bool
  objects_have_several WithoutObjects = false
  objects_have_several (ObjectsOf shapes extra) = field_has_several shapes

  -- whether one of the shapes is
  pub some_has_several : Shapes → Bool
  some_has_several NoShapes = false
  some_has_several (AndShape s others) = has_several s || some_has_several others

  -- whether the shape of one of the fields is
  pub field_has_several : FieldShapes → Bool
  field_has_several NoFieldShapes = false
  field_has_several (AndFieldShape n needed s shapes) = has_several s || field_has_several shapes

abbrev mutual
  -- its names are UTF-8, and each object mentions its names once, in byte order; depth has no limit here
  pub IsProperShape : Shape → Type 0
  IsProperShape Any = Unit {0}
  IsProperShape (OfKinds simple arrays objects) = AreProperArrays arrays × AreProperObjects objects

  -- the shapes of the elements are proper
  pub AreProperArrays : Arrays → Type 0
  AreProperArrays WithoutArrays = Unit {0}
  AreProperArrays (ArraysOf first rest) = AreProperShapes first × IsProperShape rest

  -- the mentioned fields are proper
  pub AreProperObjects : Objects → Type 0
  AreProperObjects WithoutObjects = Unit {0}
  AreProperObjects (ObjectsOf shapes extra) = AreProperFields shapes

  -- each of them is proper
  pub AreProperShapes : Shapes → Type 0
  AreProperShapes NoShapes = Unit {0}
  AreProperShapes (AndShape s others) = IsProperShape s × AreProperShapes others

  -- names are UTF-8 and stand in byte order, and shapes are proper
  pub AreProperFields : FieldShapes → Type 0
  AreProperFields NoFieldShapes = Unit {0}
  AreProperFields (AndFieldShape n needed s shapes) =
      IsUtf8 n × IsTrue (before_mentions n shapes) × IsProperShape s × AreProperFields shapes

abbrev mutual
  -- each object mentions its names once, in byte order; of what bytes they are nothing is said
  pub IsOrdered : Shape → Type 0
  IsOrdered Any = Unit {0}
  IsOrdered (OfKinds simple arrays objects) = AreOrderedArrays arrays × AreOrderedObjects objects

  -- so do the shapes of the elements
  pub AreOrderedArrays : Arrays → Type 0
  AreOrderedArrays WithoutArrays = Unit {0}
  AreOrderedArrays (ArraysOf first rest) = AreOrderedShapes first × IsOrdered rest

  -- so do the objects
  pub AreOrderedObjects : Objects → Type 0
  AreOrderedObjects WithoutObjects = Unit {0}
  AreOrderedObjects (ObjectsOf shapes extra) = AreOrderedFields shapes

  -- so does each of them
  pub AreOrderedShapes : Shapes → Type 0
  AreOrderedShapes NoShapes = Unit {0}
  AreOrderedShapes (AndShape s others) = IsOrdered s × AreOrderedShapes others

  -- names stand in byte order, each once, and so it is in the shapes
  pub AreOrderedFields : FieldShapes → Type 0
  AreOrderedFields NoFieldShapes = Unit {0}
  AreOrderedFields (AndFieldShape n needed s shapes) =
      IsTrue (before_mentions n shapes) × IsOrdered s × AreOrderedFields shapes

-- some of the simple kinds
abbrev pub some_simple : Simple → Bool
some_simple simple = simple.null || (simple.boolean || (simple.integer || simple.text))

abbrev mutual
  -- whether some tree has the shape
  pub inhabited : Shape → Bool
  inhabited Any = true
  inhabited (OfKinds simple arrays objects) = some_simple simple || (some_array arrays || some_object objects)

  -- whether there is an array
  pub some_array : Arrays → Bool
  some_array WithoutArrays = false
  some_array (ArraysOf first rest) = all_inhabited first

  -- whether there is an object
  pub some_object : Objects → Bool
  some_object WithoutObjects = false
  some_object (ObjectsOf shapes extra) = needed_inhabited shapes

  -- every one of the shapes is inhabited
  pub all_inhabited : Shapes → Bool
  all_inhabited NoShapes = true
  all_inhabited (AndShape s others) = inhabited s && all_inhabited others

  -- the shape of every needed field is inhabited
  pub needed_inhabited : FieldShapes → Bool
  needed_inhabited NoFieldShapes = true
  needed_inhabited (AndFieldShape n needed s shapes) = (not needed || inhabited s) && needed_inhabited shapes
