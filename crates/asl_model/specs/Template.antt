-- Payload templates, and their values (States Language, "Payload Template").
-- The profile chooses which failure counts: that of the least failing place.
use Rattle.std.specs.Prelude.{◌≡◌, ◌⊎◌, ◌<◌, ◌&&◌, Bool, true, IsTrue, bytes_eq, if◌then◌else◌, ℕ, zero, suc}
use Rattle.std.specs.Prelude.{List, [], ◌∷◌, ◌++◌, map, Option, Some, None, unwrap_or, Result, Ok, Err}
use Rattle.asl_model.specs.Names.{FieldName}
use Rattle.asl_model.specs.Tree.{Tree, Null, Array, Object, Trees, NoTrees, AndTree}
use Rattle.asl_model.specs.Tree.{Fields, NoFields, AndField, comes_before}
use Rattle.asl_model.specs.Path.{Segment, Name, Index}
use Rattle.asl_model.specs.Faults.{DataFlowError, ParameterPathFailure, IntrinsicFailure}
use Rattle.asl_model.specs.Intrinsic.{Reference, Call, Item, referred, call_value}

mutual
  -- a JSON value in which some values are to be replaced
  pub data Template : Type 0 where
    -- null, a truth value, a number or a text that stands for itself
    Literal : Tree → Template
    -- the value of a field whose name ended in `.$`
    FromPath : Reference → Template
    FromCall : Call → Template
    ArrayTemplate : Templates → Template
    ObjectTemplate : FieldTemplates → Template

  -- the elements of an array
  pub data Templates : Type 0 where
    NoTemplates : Templates
    AndTemplate : Template → Templates → Templates

  -- the fields of an object, each with its name without the suffix `.$`; the reader sorts them by these names
  pub data FieldTemplates : Type 0 where
    NoFieldTemplates : FieldTemplates
    AndFieldTemplate : FieldName → Template → FieldTemplates → FieldTemplates

-- a place of a template that has no value, and why
pub record Failure : Type 0 where
  pub place : List Segment
  pub error : DataFlowError

-- the same, seen from a place that is one level higher
abbrev pub below : Segment → Failure → Failure
below s failure = record { place = s ∷ failure.place; error = failure.error }

-- a failure with that error, where there is no value
abbrev pub unless_value : DataFlowError → Option Tree → List Failure
unless_value error None = record { place = []; error = error } ∷ []
unless_value error (Some t) = []

abbrev mutual
  -- the places that fail, in order: a path that names nothing, and a call without a value
  pub failures : Template → Tree → Option Item → List Failure
  failures (Literal t) input item = []
  failures (FromPath reference) input item = unless_value ParameterPathFailure (referred reference input item)
  failures (FromCall call) input item = unless_value IntrinsicFailure (call_value call input item)
  failures (ArrayTemplate elements) input item = element_failures 0 elements input item
  failures (ObjectTemplate fields) input item = field_failures fields input item

  -- those of the elements from that position on
  pub element_failures : ℕ → Templates → Tree → Option Item → List Failure
  element_failures i NoTemplates input item = []
  element_failures i (AndTemplate t others) input item =
      map (below (Index i)) (failures t input item) ++ element_failures (suc i) others input item

  -- those of the fields
  pub field_failures : FieldTemplates → Tree → Option Item → List Failure
  field_failures NoFieldTemplates input item = []
  field_failures (AndFieldTemplate n t others) input item =
      map (below (Name n)) (failures t input item) ++ field_failures others input item

abbrev mutual
  -- the template with each of its paths and calls replaced by its value (null where there is none)
  pub filled : Template → Tree → Option Item → Tree
  filled (Literal t) input item = t
  filled (FromPath reference) input item = unwrap_or (referred reference input item) Null
  filled (FromCall call) input item = unwrap_or (call_value call input item) Null
  filled (ArrayTemplate elements) input item = Array (elements_filled elements input item)
  filled (ObjectTemplate fields) input item = Object (fields_filled fields input item)

  -- so for each element
  pub elements_filled : Templates → Tree → Option Item → Trees
  elements_filled NoTemplates input item = NoTrees
  elements_filled (AndTemplate t others) input item = AndTree (filled t input item) (elements_filled others input item)

  -- so for each field
  pub fields_filled : FieldTemplates → Tree → Option Item → Fields
  fields_filled NoFieldTemplates input item = NoFields
  fields_filled (AndFieldTemplate n t others) input item =
      AndField n (filled t input item) (fields_filled others input item)

-- the value, unless a place fails; then the first failure counts
abbrev pub unless_failing : List Failure → Tree → Result Tree DataFlowError
unless_failing [] t = Ok t
unless_failing (failure ∷ further) t = Err failure.error

-- the value of a template for an input and the item at hand, or its fault
abbrev pub template_value : Template → Tree → Option Item → Result Tree DataFlowError
template_value t input item = unless_failing (failures t input item) (filled t input item)

-- the element at a position, counted from 0
abbrev pub template_element : ℕ → Templates → Option Template
template_element i NoTemplates = None
template_element zero (AndTemplate t others) = Some t
template_element (suc i) (AndTemplate t others) = template_element i others

-- the value of the first field of that name
abbrev pub template_named : FieldName → FieldTemplates → Option Template
template_named n NoFieldTemplates = None
template_named n (AndFieldTemplate m t others) = if bytes_eq m n then Some t else template_named n others

-- A place of a template fails, for an input and the item at hand: a path that names nothing, or a call without a value.
pub data FailsAt (input : Tree) (item : Option Item) : Template → List Segment → DataFlowError → Type 0 where
  path_fails : {reference : Reference} → referred reference input item ≡ None
      → FailsAt input item (FromPath reference) [] ParameterPathFailure
  call_fails : {call : Call} → call_value call input item ≡ None
      → FailsAt input item (FromCall call) [] IntrinsicFailure
  fails_in_element : {i : ℕ} {elements : Templates} {t : Template} {p : List Segment} {error : DataFlowError}
      → template_element i elements ≡ Some t → FailsAt input item t p error
      → FailsAt input item (ArrayTemplate elements) (Index i ∷ p) error
  fails_in_field : {n : FieldName} {fields : FieldTemplates} {t : Template} {p : List Segment} {error : DataFlowError}
      → template_named n fields ≡ Some t → FailsAt input item t p error
      → FailsAt input item (ObjectTemplate fields) (Name n ∷ p) error

-- a place comes before another: at the first difference by number, or by the bytes of the names
pub data IsBefore : List Segment → List Segment → Type 0 where
  lesser_number : {i j : ℕ} {p q : List Segment} → i < j → IsBefore (Index i ∷ p) (Index j ∷ q)
  lesser_name : {m n : FieldName} {p q : List Segment} → IsTrue (comes_before m n) → IsBefore (Name m ∷ p) (Name n ∷ q)
  lesser_below : {s : Segment} {p q : List Segment} → IsBefore p q → IsBefore (s ∷ p) (s ∷ q)

-- the least failing place of a template, with its error
pub record IsLeastFailure (input : Tree) (item : Option Item) (t : Template) (failure : Failure) : Type 0 where
  pub fails : FailsAt input item t failure.place failure.error
  pub least : (p : List Segment) (error : DataFlowError) → FailsAt input item t p error
      → (failure.place ≡ p) ⊎ IsBefore failure.place p

-- the name comes before each of these fields' names
abbrev pub before_each : FieldName → FieldTemplates → Bool
before_each n NoFieldTemplates = true
before_each n (AndFieldTemplate m t others) = comes_before n m && before_each n others

abbrev mutual
  -- a template as it is read: each object has its names once, in byte order
  pub IsInOrder : Template → Type 0
  IsInOrder (Literal t) = Unit {0}
  IsInOrder (FromPath reference) = Unit {0}
  IsInOrder (FromCall call) = Unit {0}
  IsInOrder (ArrayTemplate elements) = AreInOrder elements
  IsInOrder (ObjectTemplate fields) = HasFieldsInOrder fields

  -- so is each element
  pub AreInOrder : Templates → Type 0
  AreInOrder NoTemplates = Unit {0}
  AreInOrder (AndTemplate t others) = IsInOrder t × AreInOrder others

  -- each field comes before the later ones, and its value is in order
  pub HasFieldsInOrder : FieldTemplates → Type 0
  HasFieldsInOrder NoFieldTemplates = Unit {0}
  HasFieldsInOrder (AndFieldTemplate n t others) = IsTrue (before_each n others) × IsInOrder t × HasFieldsInOrder others

-- what a template's value tells: the fault of the least failing place, or that no place fails
abbrev pub TellsLeastFailure : Tree → Option Item → Template → Result Tree DataFlowError → Type 0
TellsLeastFailure input item t (Ok v) =
    (v ≡ filled t input item) × ((p : List Segment) (error : DataFlowError) → FailsAt input item t p error → ⊥)
TellsLeastFailure input item t (Err error) =
    (p : List Segment) × IsLeastFailure input item t (record { place = p; error = error })
