-- What is wrong with declared shapes, and with the entry of a task, by the parts in which they are read.
use Rattle.std.proofs.Common.{◌≡◌, ℕ, List, [], ◌∷◌, ◌++◌, codes, Option, Some, None, option_map, unwrap_or, rules, true, false, refl, ⊎_elim, sym, ap, ◌∙◌}
use Rattle.std.specs.List.{Contains}
use Rattle.std.proofs.lemmas.List.Elements.{Contains-append_left, Contains-append_right, Contains-append_cases}
use Rattle.serde_json.specs.Data as json
use Rattle.serde_json.specs.Data.{Data, Members}
use Rattle.serde_json.specs.Find.{as_object, get_member}
use Rattle.asl_model.specs.Records.{declared_reading, RecordComplaint, declared_rows, task_rows, object_complaints, declared_complaints, declared_from, entries_complaints, entries_from, members_under, task_from}
use Rattle.asl_model.specs.Shape.{Shape, Any}
use Rattle.asl_shape.specs.View.{view}
use Rattle.asl_shape.specs.declared.shape.Shape.{Shape as CodeShape, the_lemmas}
use Rattle.asl_shape.specs.declared.shape.Shape as code
use Rattle.asl_records.specs.Parts.{TellsOneOf, field_complaints, foreign_complaints, shape_row, entries_row, members_there, shape_there}
use Rattle.asl_records.specs.declared.refusals.ReadFault.{ReadFault}
use Rattle.asl_records.proofs.Objects.{names_of, parts, rows_told_of, shown}
use Rattle.asl_records.proofs.Telling.{told_all, told_left, told_right, told_same}

-- ---- declared shapes

-- about the input, the tasks as a field, fields that aren't known, and the tasks' entries
abbrev pub of_input : Members → List RecordComplaint
of_input ms = field_complaints declared_reading [] (shape_row (codes "input") true) (get_member (codes "input") ms)

abbrev pub of_tasks : Members → List RecordComplaint
of_tasks ms = field_complaints declared_reading [] (entries_row (codes "tasks") false) (get_member (codes "tasks") ms)

abbrev pub of_others : Members → List RecordComplaint
of_others ms = foreign_complaints [] (names_of declared_rows) ms

abbrev pub of_entries : Members → List RecordComplaint
of_entries ms = entries_complaints declared_reading task_rows (members_there (get_member (codes "tasks") ms))

all_of : (v : Data) (ms : Members) → as_object v ≡ Some ms → declared_complaints v ≡ ((of_input ms ++ (of_tasks ms ++ [])) ++ of_others ms) ++ of_entries ms
all_of v ms is =
    ap (λ cs. cs ++ entries_complaints declared_reading task_rows (members_under (codes "tasks") v)) (shown declared_reading [] declared_rows v ms is)
    ∙ ap (λ o. parts declared_reading [] declared_rows ms ++ entries_complaints declared_reading task_rows (members_there (get_member (codes "tasks") (unwrap_or o json.no_members)))) is

-- where no part has a complaint, there is none
pub none_wrong : (v : Data) (ms : Members) → as_object v ≡ Some ms → of_others ms ≡ [] → of_input ms ≡ [] → of_tasks ms ++ of_entries ms ≡ [] → declared_complaints v ≡ []
none_wrong v ms is others input tasks = all_of v ms is ∙ (rw input (by (of_tasks ms) (of_others ms) (of_entries ms) others tasks))
  where
    by : (xs ys zs : List RecordComplaint) → ys ≡ [] → xs ++ zs ≡ [] → ((xs ++ []) ++ ys) ++ zs ≡ []
    by [] ys zs e h = rw e h
    by (x ∷ xs) ys zs e h = absurd (cc)

-- what is told of a part is told of the whole
pub input_told : (v : Data) (ms : Members) (f : ReadFault) → as_object v ≡ Some ms → TellsOneOf (of_input ms) f → TellsOneOf (declared_complaints v) f
input_told v ms f is told =
    let rows = of_input ms ++ (of_tasks ms ++ []) in
    told_same f _ _ (told_left f (rows ++ of_others ms) (of_entries ms) (told_left f rows (of_others ms) (told_left f (of_input ms) (of_tasks ms ++ []) told))) (sym (all_of v ms is))

pub tasks_told : (v : Data) (ms : Members) (f : ReadFault) → as_object v ≡ Some ms → TellsOneOf (of_tasks ms ++ of_entries ms) f → TellsOneOf (declared_complaints v) f
tasks_told v ms f is told =
    told_same f _ _ (told_all f (of_tasks ms ++ of_entries ms) ((rows ++ of_others ms) ++ of_entries ms) (λ c h. ⊎_elim (as_row c) (as_entry c) (Contains-append_cases (of_tasks ms) (of_entries ms) c h)) told) (sym (all_of v ms is))
  where
    rows : List RecordComplaint
    rows = of_input ms ++ (of_tasks ms ++ [])

    as_row : (c : RecordComplaint) → Contains (of_tasks ms) c → Contains ((rows ++ of_others ms) ++ of_entries ms) c
    as_row c h = Contains-append_left (rows ++ of_others ms) (of_entries ms) c (Contains-append_left rows (of_others ms) c (Contains-append_right (of_input ms) (of_tasks ms ++ []) c (Contains-append_left (of_tasks ms) [] c h)))

    as_entry : (c : RecordComplaint) → Contains (of_entries ms) c → Contains ((rows ++ of_others ms) ++ of_entries ms) c
    as_entry c h = Contains-append_right (rows ++ of_others ms) (of_entries ms) c h

-- what stands in it
pub declared_stand : (v : Data) (ms : Members) → as_object v ≡ Some ms → (record { input = shape_there None (get_member (codes "input") ms); tasks = entries_from task_from (members_there (get_member (codes "tasks") ms)) }) ≡ declared_from v
declared_stand v ms is = rw is refl

-- ---- the entry of a task

abbrev pub of_takes : List ℕ → Members → List RecordComplaint
of_takes name ms = field_complaints declared_reading name (shape_row (codes "takes") false) (get_member (codes "takes") ms)

abbrev pub of_gives : List ℕ → Members → List RecordComplaint
of_gives name ms = field_complaints declared_reading name (shape_row (codes "gives") true) (get_member (codes "gives") ms)

pub task_right : (name : List ℕ) (v : Data) (ms : Members) → as_object v ≡ Some ms → foreign_complaints name (names_of task_rows) ms ≡ [] → of_takes name ms ≡ [] → of_gives name ms ≡ [] → object_complaints declared_reading name task_rows v ≡ []
task_right name v ms is others takes gives = shown declared_reading name task_rows v ms is ∙ rw (takes, gives, others) refl

pub takes_told : (name : List ℕ) (v : Data) (ms : Members) (f : ReadFault) → as_object v ≡ Some ms → TellsOneOf (of_takes name ms) f → TellsOneOf (object_complaints declared_reading name task_rows v) f
takes_told name v ms f is told = rows_told_of declared_reading name task_rows v ms f is (told_left f (of_takes name ms) (of_gives name ms ++ []) told)

pub gives_told : (name : List ℕ) (v : Data) (ms : Members) (f : ReadFault) → as_object v ≡ Some ms → TellsOneOf (of_gives name ms) f → TellsOneOf (object_complaints declared_reading name task_rows v) f
gives_told name v ms f is told =
    rows_told_of declared_reading name task_rows v ms f is (told_right f (of_takes name ms) (of_gives name ms ++ []) (told_left f (of_gives name ms) [] told))

-- what stands in it
pub task_stands : (v : Data) (ms : Members) → as_object v ≡ Some ms → (record { takes = shape_there None (get_member (codes "takes") ms); gives = shape_there None (get_member (codes "gives") ms) }) ≡ task_from v
task_stands v ms is = rw is refl

-- a shape that may be absent, Any where it is
pub or_any : (o : Option CodeShape) (other : Option Shape) → option_map view o ≡ other → view (unwrap_or o code.Any) ≡ unwrap_or other Any
or_any None other e = rw (sym e) (search (rules, the_lemmas))
or_any (Some s) other e = rw (sym e) refl
