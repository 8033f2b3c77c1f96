-- How declared shapes and certificates are written as JSON values (the profile's own formats).
-- Every value has here a reading, with defaults where something is wrong, and a list of all that is wrong with it. It
-- stands for what is read where that list is empty and all its numbers are whole and in range.
-- A certificate may list shapes in its field `shapes`; then references to them may stand wherever a shape may.
use Rattle.std.specs.Prelude.{◌≡◌, ℕ, ℤ, pos, List, [], ◌∷◌, ◌++◌, map, Bool, true, false, ◌||◌, IsTrue, is_some}
use Rattle.std.specs.Prelude.{if◌then◌else◌, Option, Some, None, option_map, option_and_then, bytes_eq, codes}
use Rattle.std.specs.Option.{unwrap_or}
use Rattle.std.specs.List.{Contains}
use Rattle.std.specs.Ordering.{int_eq}
use Rattle.serde_json.specs.Data as json
use Rattle.serde_json.specs.Data.{Data, Items, Members, Num}
use Rattle.serde_json.specs.Find.{as_i64, as_number, as_array, as_object, get_member}
use Rattle.asl_model.specs.Shape.{Shape, Any}
use Rattle.asl_model.specs.Certificate.{Declared, TaskShapes, Certificate, StateShapes}
use Rattle.asl_model.specs.Json.{tree_of}
use Rattle.asl_model.specs.References.{spelled_out, has_wrong_number}
use Rattle.asl_model.specs.ShapeSpelling.{ShapeFault, shape_of, shape_faults}
use Rattle.asl_model.specs.Tree.{Tree, Null}

-- what can be wrong with a record
pub data RecordFault : Type 0 where
  -- the record, or one of its entries, is no object
  NotObject : RecordFault
  MissingField : RecordFault
  UnknownField : RecordFault
  -- a value of another kind
  WrongKind : RecordFault
  BadShape : ShapeFault → RecordFault
  -- a whole number other than 1 and 2
  BadVersion : RecordFault
  -- a reference that means none of the listed shapes
  BadNumber : RecordFault

-- a fault, at the entry of that name (empty for the record itself), and at a field
pub record RecordComplaint : Type 0 where
  pub fault : RecordFault
  pub name : List ℕ
  pub field : List ℕ

-- ---- the fields

-- what the value of a field is
pub data RecordValue : Type 0 where
  -- the number 1 or 2
  VersionValue : RecordValue
  ShapeValue : RecordValue
  ShapesValue : RecordValue
  -- the shapes that references mean; in each the ones before it may be meant
  ListedValue : RecordValue
  -- an object with an entry for each state or task
  EntriesValue : RecordValue

-- a field that an object of a record may have
pub record RecordRow : Type 0 where
  pub field : List ℕ
  pub value : RecordValue
  pub required : Bool

-- such a field
abbrev row : List ℕ → RecordValue → Bool → RecordRow
row field value required = record { field = field; value = value; required = required }

-- the fields of declared shapes
abbrev pub declared_rows : List RecordRow
declared_rows =
    row (codes "input") ShapeValue true
    ∷ row (codes "tasks") EntriesValue false
    ∷ []

-- of a declared task
abbrev pub task_rows : List RecordRow
task_rows =
    row (codes "takes") ShapeValue false
    ∷ row (codes "gives") ShapeValue true
    ∷ []

-- of a certificate
abbrev pub certificate_rows : List RecordRow
certificate_rows =
    row (codes "version") VersionValue true
    ∷ row (codes "shapes") ListedValue false
    ∷ row (codes "output") ShapeValue true
    ∷ row (codes "states") EntriesValue true
    ∷ []

-- of a state's entry in it
abbrev pub state_rows : List RecordRow
state_rows =
    row (codes "input") ShapeValue true
    ∷ row (codes "output") ShapeValue true
    ∷ row (codes "branches") ShapesValue false
    ∷ row (codes "item") ShapeValue false
    ∷ []

-- ---- listed shapes

-- what a spelling is without references, where shapes are listed
abbrev pub plain : Option (List Tree) → Tree → Tree
plain None t = t
plain (Some listed) t = spelled_out listed t

-- the value as a tree without references
abbrev pub plain_tree : List Tree → Data → Tree
plain_tree listed v = unwrap_or (option_map (spelled_out listed) (tree_of v)) Null

-- these trees, and then those of the elements, each without references to the ones before it
abbrev pub listed_after : List Tree → Items → List Tree
listed_after listed json.no_items = listed
listed_after listed (json.item v vs) = listed_after (listed ++ plain_tree listed v ∷ []) vs

-- the trees of the shapes that a certificate lists, where it has the field `shapes`
abbrev pub listed_in : Members → Option (List Tree)
listed_in ms =
    option_map (λ v. listed_after [] (unwrap_or (as_array v) json.no_items)) (get_member (codes "shapes") ms)

-- ---- what is wrong

-- how the shapes in a record are read: whether there may be lists of types, and which trees references mean, where shapes
-- are listed
pub record Reading : Type 0 where
  pub several : Bool
  pub listed : Option (List Tree)

-- declared shapes: lists of types may stand in them, and no references
abbrev pub declared_reading : Reading
declared_reading = record { several = true; listed = None }

-- the version is that number
abbrev pub is_version : ℤ → Members → Bool
is_version n ms =
    unwrap_or (option_map (int_eq n) (option_and_then as_i64 (option_and_then as_number (get_member (codes "version") ms)))) false

-- a certificate: lists of types may stand in one of version 2
abbrev pub certificate_reading : Members → Reading
certificate_reading ms = record { several = is_version (pos 2) ms; listed = listed_in ms }

-- what is wrong with the numbers of references
abbrev pub number_misfits : Option (List Tree) → Tree → List RecordFault
number_misfits None t = []
number_misfits (Some listed) t = if has_wrong_number listed t then BadNumber ∷ [] else []

-- what is wrong with a spelling
abbrev pub tree_misfits : Reading → Tree → List RecordFault
tree_misfits reading t =
    number_misfits reading.listed t ++ map BadShape (shape_faults reading.several (plain reading.listed t))

-- what is wrong with a value that should be a shape
abbrev pub shape_misfits : Reading → Data → List RecordFault
shape_misfits reading v = unwrap_or (option_map (tree_misfits reading) (tree_of v)) []

-- what is wrong with each element that should be a shape
abbrev pub shapes_misfits : Reading → Items → List RecordFault
shapes_misfits reading json.no_items = []
shapes_misfits reading (json.item v vs) = shape_misfits reading v ++ shapes_misfits reading vs

-- what is wrong with each element behind listed shapes, that should be a shape which may mean these
abbrev pub listed_misfits : Bool → List Tree → Items → List RecordFault
listed_misfits several listed json.no_items = []
listed_misfits several listed (json.item v vs) =
    shape_misfits (record { several = several; listed = Some listed }) v
    ++ listed_misfits several (listed ++ plain_tree listed v ∷ []) vs

-- what is wrong with a number as the version; one that isn't whole is told of the whole text
abbrev pub version_misfits : Option ℤ → List RecordFault
version_misfits None = []
version_misfits (Some n) = if int_eq n (pos 1) || int_eq n (pos 2) then [] else BadVersion ∷ []

-- what is wrong with the value of a field
abbrev pub misfits : Reading → RecordValue → Data → List RecordFault
misfits reading VersionValue v =
    unwrap_or (option_map (λ n. version_misfits (as_i64 n)) (as_number v)) (WrongKind ∷ [])
misfits reading ShapeValue v = shape_misfits reading v
misfits reading ShapesValue v = unwrap_or (option_map (shapes_misfits reading) (as_array v)) (WrongKind ∷ [])
misfits reading ListedValue v = unwrap_or (option_map (listed_misfits reading.several []) (as_array v)) (WrongKind ∷ [])
misfits reading EntriesValue v = if is_some (as_object v) then [] else WrongKind ∷ []

-- a fault of that field, in the entry of that name
abbrev complaint : List ℕ → List ℕ → RecordFault → RecordComplaint
complaint name field fault = record { fault = fault; name = name; field = field }

-- what is wrong with the value of a row, or with its absence
abbrev pub record_row_faults : Reading → RecordRow → Option Data → List RecordFault
record_row_faults reading row None = if row.required then MissingField ∷ [] else []
record_row_faults reading row (Some v) = misfits reading row.value v

-- what is wrong with the fields that rows name
abbrev pub rows_complaints : Reading → List ℕ → List RecordRow → Members → List RecordComplaint
rows_complaints reading name [] ms = []
rows_complaints reading name (row ∷ rows) ms =
    map (complaint name row.field) (record_row_faults reading row (get_member row.field ms))
    ++ rows_complaints reading name rows ms

-- the name is that of a row
abbrev pub has_row : List ℕ → List RecordRow → Bool
has_row n [] = false
has_row n (row ∷ rows) = bytes_eq row.field n || has_row n rows

-- a complaint for each field that has no row
abbrev pub unknown_complaints : List ℕ → List RecordRow → Members → List RecordComplaint
unknown_complaints name rows json.no_members = []
unknown_complaints name rows (json.member n v ms) =
    if has_row n rows then unknown_complaints name rows ms
    else complaint name n UnknownField ∷ unknown_complaints name rows ms

-- what is wrong with an object of those fields
abbrev pub object_complaints : Reading → List ℕ → List RecordRow → Data → List RecordComplaint
object_complaints reading name rows v =
    unwrap_or (option_map (λ ms. rows_complaints reading name rows ms ++ unknown_complaints name rows ms) (as_object v))
    (complaint name [] NotObject ∷ [])

-- the members of an object, none of anything else; and of the field of that name
abbrev pub members_in : Data → Members
members_in v = unwrap_or (as_object v) json.no_members

-- the members of the object in the field of that name
abbrev pub members_under : List ℕ → Data → Members
members_under field v = unwrap_or (option_map members_in (get_member field (members_in v))) json.no_members

-- what is wrong with each entry
abbrev pub entries_complaints : Reading → List RecordRow → Members → List RecordComplaint
entries_complaints reading rows json.no_members = []
entries_complaints reading rows (json.member n v ms) =
    object_complaints reading n rows v ++ entries_complaints reading rows ms

-- all that is wrong with a value as declared shapes
abbrev pub declared_complaints : Data → List RecordComplaint
declared_complaints v =
    object_complaints declared_reading [] declared_rows v
    ++ entries_complaints declared_reading task_rows (members_under (codes "tasks") v)

-- and as a certificate whose shapes are read so
abbrev pub listed_complaints : Reading → Data → List RecordComplaint
listed_complaints reading v =
    object_complaints reading [] certificate_rows v
    ++ entries_complaints reading state_rows (members_under (codes "states") v)

-- with its own
abbrev pub certificate_complaints : Data → List RecordComplaint
certificate_complaints v = listed_complaints (certificate_reading (members_in v)) v

-- ---- what is read

-- the shape that a value spells, Any where it spells none
abbrev pub shape_from : Option (List Tree) → Data → Shape
shape_from listed v = unwrap_or (option_map (λ t. shape_of (plain listed t)) (tree_of v)) Any

-- the shape of the field of that name, Any where it is absent
abbrev pub shape_at : Option (List Tree) → List ℕ → Data → Shape
shape_at listed field v = unwrap_or (option_map (shape_from listed) (get_member field (members_in v))) Any

-- the shape of each element
abbrev pub shapes_from : Option (List Tree) → Items → List Shape
shapes_from listed json.no_items = []
shapes_from listed (json.item v vs) = shape_from listed v ∷ shapes_from listed vs

-- the shapes of a declared task; one without `takes` takes everything
abbrev pub task_from : Data → TaskShapes
task_from v = record { takes = shape_at None (codes "takes") v; gives = shape_at None (codes "gives") v }

-- the shapes in a state's entry
abbrev pub state_from : Option (List Tree) → Data → StateShapes
state_from listed v = record {
  input = shape_at listed (codes "input") v;
  output = shape_at listed (codes "output") v;
  branches =
      unwrap_or
      (option_map (shapes_from listed) (option_and_then as_array (get_member (codes "branches") (members_in v)))) [];
  item = option_map (shape_from listed) (get_member (codes "item") (members_in v));
}

-- each entry under its name, in the same order
abbrev pub entries_from : {A : Type 0} → (Data → A) → Members → List (List ℕ × A)
entries_from f json.no_members = []
entries_from f (json.member n v ms) = (n, f v) ∷ entries_from f ms

-- the declared shapes that a value without a fault stands for
abbrev pub declared_from : Data → Declared
declared_from v =
    record { input = shape_at None (codes "input") v; tasks = entries_from task_from (members_under (codes "tasks") v) }

-- the certificate that one stands for, with those listed shapes
abbrev pub listed_from : Option (List Tree) → Data → Certificate
listed_from listed v = record {
  output = shape_at listed (codes "output") v;
  states = entries_from (state_from listed) (members_under (codes "states") v);
}

-- with its own
abbrev pub certificate_from : Data → Certificate
certificate_from v = listed_from (listed_in (members_in v)) v

-- ---- the value stands for the record

pub record StandsForDeclared (v : Data) (declared : Declared) : Type 0 where
  pub whole : IsTrue (is_some (tree_of v))
  pub none_wrong : declared_complaints v ≡ []
  pub same : declared_from v ≡ declared

pub record StandsForCertificate (v : Data) (certificate : Certificate) : Type 0 where
  pub whole : IsTrue (is_some (tree_of v))
  pub none_wrong : certificate_complaints v ≡ []
  pub same : certificate_from v ≡ certificate

-- that is wrong with the value as declared shapes, and as a certificate
pub record HasDeclaredFault (v : Data) (c : RecordComplaint) : Type 0 where
  pub listed : Contains (declared_complaints v) c

pub record HasCertificateFault (v : Data) (c : RecordComplaint) : Type 0 where
  pub listed : Contains (certificate_complaints v) c
