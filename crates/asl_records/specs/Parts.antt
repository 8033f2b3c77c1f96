-- What is wrong with the parts of a record, and what a part is refused with. No public clause cites this module.
use Rattle.std.specs.Prelude.{ℕ, ℤ, List, [], ◌∷◌, ◌++◌, map, Bool, true, false, if◌then◌else◌, Option, Some, None, option_map, option_and_then, codes, ⊤}
use Rattle.std.specs.Option.{unwrap_or}
use Rattle.std.specs.List.{Contains}
use Rattle.std.specs.Ordering.{int_eq}
use Rattle.serde_json.specs.Data as json
use Rattle.serde_json.specs.Data.{Data, Items, Members}
use Rattle.serde_json.specs.Find.{as_array, as_i64, as_number, get_member}
use Rattle.asl_model.specs.Shape.{Shape, Any}
use Rattle.asl_model.specs.ShapeSpelling.{is_among, shape_of}
use Rattle.asl_model.specs.Tree.{Tree}
use Rattle.asl_model.specs.Certificate as model
use Rattle.asl_model.specs.Records.{Reading, RecordFault, UnknownField, BadShape, BadNumber, RecordComplaint, RecordRow, ShapeValue, ShapesValue, ListedValue, EntriesValue, VersionValue, record_row_faults, members_in, plain, shape_from, shapes_from, shapes_misfits, tree_misfits, listed_after, listed_misfits, declared_reading, task_rows, state_rows, state_from, entries_complaints, entries_from}
use Rattle.asl_shape.specs.Refusal.{fault_named}
use Rattle.asl_numbered.specs.declared.NumberedRefusal.{NumberedRefusal}
use Rattle.asl_numbered.specs.declared.NumberedRefusal.TheVariants as numbered
use Rattle.asl_records.specs.Refusal.{Tells}
use Rattle.asl_records.specs.declared.refusals.ReadFault.{ReadFault}
use Rattle.asl_records.specs.declared.refusals.ReadFault.TheVariants as kept

-- ---- refusals

-- a part is refused with one of the complaints about it, or because memory ran out
abbrev pub Blames : List RecordComplaint → ReadFault → Type 0
Blames wrong (kept.Record refusal) = Tells refusal (Contains wrong)
Blames wrong kept.OutOfMemory = ⊤

pub record TellsOneOf (wrong : List RecordComplaint) (fault : ReadFault) : Type 0 where
  pub told : Blames wrong fault

-- the fault that a refusal of a spelling is told as; none for want of memory
abbrev pub fault_told : NumberedRefusal → Option RecordFault
fault_told (numbered.Shape refusal) = option_map BadShape (fault_named refusal)
fault_told numbered.BadNumber = Some BadNumber
fault_told numbered.OutOfMemory = None

-- ---- complaints

-- a fault of that field, in the entry of that name
abbrev pub complaint_of : List ℕ → List ℕ → RecordFault → RecordComplaint
complaint_of name field fault = record { fault = fault; name = name; field = field }

-- what is wrong with a tree that should be a shape, read so
abbrev pub tree_complaints : Reading → List ℕ → List ℕ → Tree → List RecordComplaint
tree_complaints reading name field t = map (complaint_of name field) (tree_misfits reading t)

-- what is wrong with values that should be shapes
abbrev pub shapes_complaints : Reading → List ℕ → List ℕ → Items → List RecordComplaint
shapes_complaints reading name field vs = map (complaint_of name field) (shapes_misfits reading vs)

-- what is wrong with values that should be listed behind those trees, where lists of types may stand or not
abbrev pub listing_complaints : Bool → List Tree → Items → List RecordComplaint
listing_complaints several trees vs = map (complaint_of [] (codes "shapes")) (listed_misfits several trees vs)

-- what is wrong with what stands in a field
abbrev pub field_complaints : Reading → List ℕ → RecordRow → Option Data → List RecordComplaint
field_complaints reading name row value = map (complaint_of name row.field) (record_row_faults reading row value)

-- a field with a shape
abbrev pub shape_row : List ℕ → Bool → RecordRow
shape_row field required = record { field = field; value = ShapeValue; required = required }

-- a field that may have a list of shapes
abbrev pub shapes_row : List ℕ → RecordRow
shapes_row field = record { field = field; value = ShapesValue; required = false }

-- a field with entries
abbrev pub entries_row : List ℕ → Bool → RecordRow
entries_row field required = record { field = field; value = EntriesValue; required = required }

-- the version
abbrev pub version_row : RecordRow
version_row = record { field = codes "version"; value = VersionValue; required = true }

-- it is that number
abbrev pub is_number : ℤ → Option Data → Bool
is_number n value =
    unwrap_or (option_map (int_eq n) (option_and_then as_i64 (option_and_then as_number value))) false

-- the shapes that references mean
abbrev pub listed_row : RecordRow
listed_row = record { field = codes "shapes"; value = ListedValue; required = false }

-- shapes are read so: with lists of types where these may stand, and with those listed trees
abbrev pub reading_of : Bool → Option (List Tree) → Reading
reading_of several listed = record { several = several; listed = listed }

-- without references
abbrev pub unlisted : Bool → Reading
unlisted several = reading_of several None

-- a complaint for each field that isn't one of those
abbrev pub foreign_complaints : List ℕ → List (List ℕ) → Members → List RecordComplaint
foreign_complaints name known json.no_members = []
foreign_complaints name known (json.member n v ms) = if is_among n known then foreign_complaints name known ms else complaint_of name n UnknownField ∷ foreign_complaints name known ms

-- ---- what stands there

-- the members of the object that stands there
abbrev pub members_there : Option Data → Members
members_there value = unwrap_or (option_map members_in value) json.no_members

-- the shape that a tree spells, where references mean those trees
abbrev pub tree_shape : Option (List Tree) → Tree → Shape
tree_shape listed t = shape_of (plain listed t)

-- the shape that stands there, Any where nothing does
abbrev pub shape_there : Option (List Tree) → Option Data → Shape
shape_there listed value = unwrap_or (option_map (shape_from listed) value) Any

-- the shapes of the list that stands there, none where nothing does
abbrev pub shapes_there : Option (List Tree) → Option Data → List Shape
shapes_there listed value = unwrap_or (option_map (shapes_from listed) (option_and_then as_array value)) []

-- the trees that are listed there, if anything stands there
abbrev pub trees_there : Option Data → Option (List Tree)
trees_there value = option_map (λ v. listed_after [] (unwrap_or (as_array v) json.no_items)) value

-- ---- the tasks of declared shapes

-- what is wrong with them: with the field, and with each entry
abbrev pub tasks_complaints : Option Data → List RecordComplaint
tasks_complaints tasks =
    field_complaints declared_reading [] (entries_row (codes "tasks") false) tasks
    ++ entries_complaints declared_reading task_rows (members_there tasks)

-- ---- a certificate behind its list of shapes

-- what is wrong with its states: with the field, and with each entry
abbrev pub states_complaints : Reading → Option Data → List RecordComplaint
states_complaints reading states =
    field_complaints reading [] (entries_row (codes "states") true) states
    ++ entries_complaints reading state_rows (members_there states)

-- what is wrong with its output and with its states
abbrev pub certified_complaints : Reading → Members → List RecordComplaint
certified_complaints reading ms =
    field_complaints reading [] (shape_row (codes "output") true) (get_member (codes "output") ms)
    ++ states_complaints reading (get_member (codes "states") ms)

-- the states that stand there
abbrev pub states_there : Option (List Tree) → Option Data → List (List ℕ × model.StateShapes)
states_there listed states = entries_from (state_from listed) (members_there states)

-- the certificate that its output and its states make
abbrev pub certified : Option (List Tree) → Members → model.Certificate
certified listed ms = record {
  output = shape_there listed (get_member (codes "output") ms);
  states = states_there listed (get_member (codes "states") ms);
}
