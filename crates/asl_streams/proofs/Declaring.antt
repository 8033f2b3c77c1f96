-- Declared shapes, read from tokens field by field: the entry of a task, the tasks, and the whole at its end.
use Rattle.std.proofs.Common.{◌≡◌, ◌<◌, ℕ, true, false, List, [], ◌++◌, length, map, Option, Some, None, BTreeMap, Global, String, string_bytes, string_cmp, codes, option_map, unwrap_or, refl, sym, ap, ap₂, ◌∙◌, subst, arith}
use Rattle.std.specs.BTreeMap.{insert_entry}
use Rattle.json.specs.Json.{read_key}
use Rattle.json.specs.Token.{Token}
use Rattle.json.proofs.Grammar.{read_key-shorter}
use Rattle.serde_json.specs.Data as values
use Rattle.serde_json.specs.Data.{Data, Members}
use Rattle.serde_json.specs.Find.{get_member}
use Rattle.asl_model.specs.Records.{StandsForDeclared, declared_reading, declared_rows, entries_complaints, entries_from, object_complaints, shape_from, shape_misfits, task_from, task_rows}
use Rattle.asl_model.specs.Shape.{Any}
use Rattle.asl_model.specs.Tree as model
use Rattle.asl_records.specs.Listed.{IsReading}
use Rattle.asl_records.specs.Parts.{complaint_of, entries_row, field_complaints, members_there, shape_row, shape_there}
use Rattle.asl_records.specs.Values.{IsValue}
use Rattle.asl_records.specs.View.{declared_view, task_view, tasks_view}
use Rattle.asl_records.specs.declared.records.Declared.{Declared}
use Rattle.asl_records.specs.declared.records.TaskShapes.{TaskShapes}
use Rattle.asl_records.proofs.DeclaredParts.{declared_stand, none_wrong, task_right, task_stands}
use Rattle.asl_records.proofs.Objects.{names_of}
use Rattle.asl_records.proofs.Shapes.{IsReadAs, read_as}
use Rattle.asl_shape.specs.View.{view}
use Rattle.asl_shape.specs.declared.shape.Shape.{Shape as CodeShape}
use Rattle.asl_streams.specs.Declaring.{AreDeclarations, AreOwnTasks, AreShapesOf, AreTaskParts, AreTasks, IsOfTasks, IsOwn, ReadsDeclaration, ReadsDeclarations, ReadsEntries, ReadsTask, ReadsTaskPart, ReadsTaskParts, SpellsOwn}
use Rattle.asl_streams.specs.declared.declarations.Declarations.{Declarations}
use Rattle.asl_streams.specs.declared.declarations.Task.{Task}
use Rattle.asl_streams.proofs.Members.{GoesOn, all_over, begun, one_more}
use Rattle.asl_streams.proofs.Put.{from_put, put_shown, right_put, seen_put}
use Rattle.asl_streams.proofs.Found.{found_before, found_there, known_put}
use Rattle.asl_streams.proofs.Values.{same_misfits, same_shape}
use Rattle.asl_tree.proofs.Parsed.{put_among}
use Rattle.asl_tree.proofs.Views.{put}

-- ---- shapes

means_nothing : IsReading true [] None declared_reading
means_nothing = record { same = refl; meant = tt }

read_so : (d : Data) (s : CodeShape) (h : SpellsOwn d s) → IsReadAs declared_reading h.tree (view s)
read_so d s h = read_as true [] None declared_reading h.tree (view s) means_nothing h.read

own_right : (d : Data) (s : CodeShape) → SpellsOwn d s → shape_misfits declared_reading d ≡ []
own_right d s h = same_misfits declared_reading d h.tree h.is ∙ (read_so d s h).none_wrong

own_shape : (d : Data) (s : CodeShape) → SpellsOwn d s → view s ≡ shape_from None d
own_shape d s h = sym (same_shape None d h.tree h.is ∙ (read_so d s h).same)

required_right : (name field : List ℕ) (o : Option Data) (s : CodeShape) → IsOwn o (Some s) → field_complaints declared_reading name (shape_row field true) o ≡ []
required_right name field None s h = absurd h
required_right name field (Some d) s h = ap (map (complaint_of name field)) (own_right d s h)

required_shape : (o : Option Data) (s : CodeShape) → IsOwn o (Some s) → view s ≡ shape_there None o
required_shape None s h = absurd h
required_shape (Some d) s h = own_shape d s h

optional_right : (name field : List ℕ) (o : Option Data) (s : Option CodeShape) → IsOwn o s → field_complaints declared_reading name (shape_row field false) o ≡ []
optional_right name field None None h = refl
optional_right name field None (Some s) h = absurd h
optional_right name field (Some d) None h = absurd h
optional_right name field (Some d) (Some s) h = ap (map (complaint_of name field)) (own_right d s h)

optional_shape : (o : Option Data) (s : Option CodeShape) → IsOwn o s → unwrap_or (option_map view s) Any ≡ shape_there None o
optional_shape None None h = refl
optional_shape None (Some s) h = absurd h
optional_shape (Some d) None h = absurd h
optional_shape (Some d) (Some s) h = own_shape d s h

-- ---- the entry of a task

abbrev task_known : List (List ℕ)
task_known = names_of task_rows

module _ (found : Members) (old : Task) (h : AreTaskParts found old) where
  pub takes_put : (d : Data) (s : CodeShape) → SpellsOwn d s → AreTaskParts (values.put (codes "takes") d found) (record { takes = Some s; gives = old.gives })
  takes_put d s read =
      let k = codes "takes" in
      record {
        takes = rw (found_there k d found) read;
        gives = rw (found_before (codes "gives") k d found refl) h.gives;
        trees = put k read.tree h.trees;
        whole = put_among k d read.tree found h.trees read.is h.whole;
        foreign = λ name. known_put name task_known k d found refl (h.foreign name);
      }

  pub gives_put : (d : Data) (s : CodeShape) → SpellsOwn d s → AreTaskParts (values.put (codes "gives") d found) (record { takes = old.takes; gives = Some s })
  gives_put d s read =
      let k = codes "gives" in
      record {
        takes = rw (found_before (codes "takes") k d found refl) h.takes;
        gives = rw (found_there k d found) read;
        trees = put k read.tree h.trees;
        whole = put_among k d read.tree found h.trees read.is h.whole;
        foreign = λ name. known_put name task_known k d found refl (h.foreign name);
      }

module _ (levels : ℕ) (before : List Token) where
  -- so far these fields were read
  pub record TaskParts (left : List Token) (task : Task) : Type 0 where
    pub found : Members
    pub goes_on : GoesOn levels before left found
    pub are : AreTaskParts found task

  pub task_begun : TaskParts before (record { takes = None; gives = None })
  task_begun = record {
    found = values.no_members;
    goes_on = begun levels before;
    are = record { takes = tt; gives = tt; trees = model.NoFields; whole = refl; foreign = λ name. refl };
  }

  pub task_gone_on : (left s r : List Token) (k : List ℕ) (old task : Task) → read_key left ≡ Some (Some k, s) → ReadsTaskPart levels k s r old task → length r < length s → TaskParts left old → TaskParts r task
  task_gone_on left s r k old task key read shorter h = record {
    found = values.put k read.value h.found;
    goes_on = one_more levels k read.value before left s r h.found key read.spelled shorter h.goes_on;
    are = read.are h.found h.are;
  }

  pub task_over : (left r : List Token) (task : Task) (shapes : TaskShapes) → read_key left ≡ Some (None, r) → AreShapesOf task shapes → TaskParts left task → ReadsTaskParts levels before r shapes
  task_over left r task shapes end theirs h = record { found = h.found; spelled = all_over levels before left r h.found end h.goes_on; task = task; are = h.are; theirs = theirs }

  pub task_shorter : (left r : List Token) (task : Task) → read_key left ≡ Some (None, r) → TaskParts left task → length r < length before
  task_shorter left r task end h = let less = read_key-shorter left None r end in omega (arith, h.goes_on.less, less)

module _ (found : Members) (task : Task) (shapes : TaskShapes) (are : AreTaskParts found task) (theirs : AreShapesOf task shapes) where
  gives_there : IsOwn (get_member (codes "gives") found) (Some shapes.gives)
  gives_there = subst (IsOwn (get_member (codes "gives") found)) theirs.gives are.gives

  entry_right : (name : List ℕ) → object_complaints declared_reading name task_rows (values.object found) ≡ []
  entry_right name =
      task_right name (values.object found) found refl (are.foreign name)
      (optional_right name (codes "takes") (get_member (codes "takes") found) task.takes are.takes)
      (required_right name (codes "gives") (get_member (codes "gives") found) shapes.gives gives_there)

  entry_shapes : task_view shapes ≡ task_from (values.object found)
  entry_shapes =
      rw (theirs.takes, optional_shape (get_member (codes "takes") found) task.takes are.takes, required_shape (get_member (codes "gives") found) shapes.gives gives_there)
      (task_stands (values.object found) found refl)

-- ---- the tasks

abbrev Entry : Type 0
Entry = String Global × TaskShapes

module _ (levels : ℕ) (before : List Token) where
  -- so far these tasks were read
  pub record Tasks (left : List Token) (es : List Entry) : Type 0 where
    pub found : Members
    pub goes_on : GoesOn levels before left found
    pub are : AreTasks found es

  pub tasks_begun : (es : List Entry) → es ≡ [] → Tasks before es
  tasks_begun es none = record {
    found = values.no_members;
    goes_on = begun levels before;
    are = record { trees = model.NoFields; whole = refl; right = refl; same = ap tasks_view none };
  }

  pub tasks_gone_on : (left s r : List Token) (k : List ℕ) (es more : List Entry) (name : String Global) (shapes : TaskShapes) → read_key left ≡ Some (Some k, s) → ReadsTask levels s r shapes → length r < length s → string_bytes name ≡ k → more ≡ insert_entry string_cmp es name shapes → Tasks left es → Tasks r more
  tasks_gone_on left s r k es more name shapes key read shorter named made h =
      let d = values.object read.found in
      let t = model.Object read.are.trees in
      let is : IsValue t d = ap (option_map model.Object) read.are.whole in
      record {
        found = values.put k d h.found;
        goes_on = one_more levels k d before left s r h.found key read.spelled shorter h.goes_on;
        are = record {
          trees = put k t h.are.trees;
          whole = put_among k d t h.found h.are.trees is h.are.whole;
          right = right_put declared_reading task_rows k d h.found (entry_right read.found read.task shapes read.are read.theirs k) h.are.right;
          same =
              ap tasks_view made ∙ seen_put task_view name shapes es
              ∙ ap₂ (λ n x. put_shown n x (tasks_view es)) named (entry_shapes read.found read.task shapes read.are read.theirs)
              ∙ ap (put_shown k (task_from d)) h.are.same ∙ sym (from_put task_from k d h.found);
        };
      }

  pub tasks_over : (left r : List Token) (es : List Entry) → read_key left ≡ Some (None, r) → Tasks left es → ReadsEntries levels before r es
  tasks_over left r es end h = record { found = h.found; spelled = all_over levels before left r h.found end h.goes_on; are = h.are }

  pub tasks_shorter : (left r : List Token) (es : List Entry) → read_key left ≡ Some (None, r) → Tasks left es → length r < length before
  tasks_shorter left r es end h = let less = read_key-shorter left None r end in omega (arith, h.goes_on.less, less)

-- ---- the whole

abbrev declared_known : List (List ℕ)
declared_known = names_of declared_rows

module _ (found : Members) (old : Declarations) (h : AreDeclarations found old) where
  pub input_put : (d : Data) (s : CodeShape) → SpellsOwn d s → AreDeclarations (values.put (codes "input") d found) (record { input = Some s; tasks = old.tasks })
  input_put d s read =
      let k = codes "input" in
      record {
        input = rw (found_there k d found) read;
        tasks = rw (found_before (codes "tasks") k d found refl) h.tasks;
        trees = put k read.tree h.trees;
        whole = put_among k d read.tree found h.trees read.is h.whole;
        foreign = known_put [] declared_known k d found refl h.foreign;
      }

  pub tasks_put : (d : Data) (tasks : BTreeMap (String Global) TaskShapes) → IsOfTasks d tasks.entries → AreDeclarations (values.put (codes "tasks") d found) (record { input = old.input; tasks = Some tasks })
  tasks_put d tasks read =
      let k = codes "tasks" in
      let t = model.Object read.are.trees in
      let is : IsValue t d = rw read.is (ap (option_map model.Object) read.are.whole) in
      record {
        input = rw (found_before (codes "input") k d found refl) h.input;
        tasks = rw (found_there k d found) read;
        trees = put k t h.trees;
        whole = put_among k d t found h.trees is h.whole;
        foreign = known_put [] declared_known k d found refl h.foreign;
      }

module _ (before : List Token) where
  -- so far these fields were read
  pub record Declares (left : List Token) (fields : Declarations) : Type 0 where
    pub found : Members
    pub goes_on : GoesOn 126 before left found
    pub are : AreDeclarations found fields

  pub declares_begun : Declares before (record { input = None; tasks = None })
  declares_begun = record {
    found = values.no_members;
    goes_on = begun 126 before;
    are = record { input = tt; tasks = tt; trees = model.NoFields; whole = refl; foreign = refl };
  }

  pub declares_gone_on : (left s r : List Token) (k : List ℕ) (old fields : Declarations) → read_key left ≡ Some (Some k, s) → ReadsDeclaration k s r old fields → length r < length s → Declares left old → Declares r fields
  declares_gone_on left s r k old fields key read shorter h = record {
    found = values.put k read.value h.found;
    goes_on = one_more 126 k read.value before left s r h.found key read.spelled shorter h.goes_on;
    are = read.are h.found h.are;
  }

  pub declares_over : (left r : List Token) (fields : Declarations) → read_key left ≡ Some (None, r) → Declares left fields → ReadsDeclarations before r fields
  declares_over left r fields end h = record { found = h.found; spelled = all_over 126 before left r h.found end h.goes_on; are = h.are }

tasks_right : (o : Option Data) (es : Option (List Entry)) → AreOwnTasks o es → field_complaints declared_reading [] (entries_row (codes "tasks") false) o ++ entries_complaints declared_reading task_rows (members_there o) ≡ []
tasks_right None None h = refl
tasks_right None (Some es) h = absurd h
tasks_right (Some d) None h = absurd h
tasks_right (Some d) (Some es) h = rw h.is h.are.right

tasks_same : (o : Option Data) (es : Option (List Entry)) → AreOwnTasks o es → entries_from task_from (members_there o) ≡ tasks_view (unwrap_or es [])
tasks_same None None h = refl
tasks_same None (Some es) h = absurd h
tasks_same (Some d) None h = absurd h
tasks_same (Some d) (Some es) h = rw h.is (sym h.are.same)

-- the tasks that are there, or none
pub own_tasks : (o : Option (BTreeMap (String Global) TaskShapes)) (m none : BTreeMap (String Global) TaskShapes) → m ≡ unwrap_or o none → none.entries ≡ [] → m.entries ≡ unwrap_or (option_map (λ x. x.entries) o) []
own_tasks None m none is empty = ap (λ x. x.entries) is ∙ empty
own_tasks (Some x) m none is empty = ap (λ y. y.entries) is

pub declared_stands : (found : Members) (fields : Declarations) (declared : Declared) → fields.input ≡ Some declared.input → declared.tasks.entries ≡ unwrap_or (option_map (λ m. m.entries) fields.tasks) [] → AreDeclarations found fields → StandsForDeclared (values.object found) (declared_view declared)
declared_stands found fields declared there tasks h =
    let v = values.object found in
    let input = subst (IsOwn (get_member (codes "input") found)) there h.input in
    record {
      whole = rw h.whole refl;
      none_wrong = none_wrong v found refl h.foreign (required_right [] (codes "input") (get_member (codes "input") found) declared.input input) (tasks_right (get_member (codes "tasks") found) _ h.tasks);
      same = sym (declared_stand v found refl) ∙ rw (tasks, required_shape (get_member (codes "input") found) declared.input input, tasks_same (get_member (codes "tasks") found) _ h.tasks) refl;
    }
