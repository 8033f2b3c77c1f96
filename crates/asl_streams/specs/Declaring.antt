-- What is read of declared shapes from tokens. No public clause cites this module.
use Rattle.std.specs.Prelude.{◌≡◌, ℕ, List, [], map, true, Option, Some, None, option_map, codes, String}
use Rattle.std.specs.Option.{unwrap_or}
use Rattle.std.specs.declared.alloc.Global.{Global}
use Rattle.json.specs.Json as Json
use Rattle.json.specs.Token.{Token}
use Rattle.serde_json.specs.Data.{Data, Members, object, put}
use Rattle.serde_json.specs.Find.{get_member}
use Rattle.serde_json.specs.Read.{converted, of_json}
use Rattle.asl_model.specs.Records.{declared_reading, declared_rows, entries_complaints, entries_from, task_from, task_rows}
use Rattle.asl_model.specs.Shape.{Any}
use Rattle.asl_model.specs.Tree.{Tree, Fields}
use Rattle.asl_numbered.specs.References.{SpellsWith}
use Rattle.asl_records.specs.Parts.{foreign_complaints}
use Rattle.asl_records.specs.Values.{AreMembers, IsValue}
use Rattle.asl_records.specs.View.{tasks_view}
use Rattle.asl_records.specs.declared.records.TaskShapes.{TaskShapes}
use Rattle.asl_shape.specs.View.{view}
use Rattle.asl_shape.specs.declared.shape.Shape.{Shape as CodeShape}
use Rattle.asl_streams.specs.Streamed.{SpellMembers}
use Rattle.asl_streams.specs.declared.declarations.Declarations.{Declarations}
use Rattle.asl_streams.specs.declared.declarations.Task.{Task}
use Rattle.asl_tree.specs.Parsed.{spelled}

-- the tokens spell a tree, with at most so many levels, which spells that shape
pub record ReadsOwn (levels : ℕ) (before after : List Token) (s : CodeShape) : Type 0 where
  pub tree : Tree
  pub spelled : converted spelled (Json.value levels before) ≡ Some (tree, after)
  pub read : SpellsWith true None tree (view s)

-- the value is a tree that spells the shape
pub record SpellsOwn (stated : Data) (s : CodeShape) : Type 0 where
  pub tree : Tree
  pub is : IsValue tree stated
  pub read : SpellsWith true None tree (view s)

-- what stands in a field is such a value, where anything does
abbrev pub IsOwn : Option Data → Option CodeShape → Type 0
IsOwn None None = Unit {0}
IsOwn None (Some s) = ⊥
IsOwn (Some stated) None = ⊥
IsOwn (Some stated) (Some s) = SpellsOwn stated s

-- ---- the entry of a task

-- the members that were found are these fields
pub record AreTaskParts (found : Members) (task : Task) : Type 0 where
  pub takes : IsOwn (get_member (codes "takes") found) task.takes
  pub gives : IsOwn (get_member (codes "gives") found) task.gives
  pub trees : Fields
  pub whole : AreMembers trees found
  pub foreign : (name : List ℕ) → foreign_complaints name (map (λ row. row.field) task_rows) found ≡ []

-- one more was read
pub record ReadsTaskPart (levels : ℕ) (name : List ℕ) (before after : List Token) (old new : Task) : Type 0 where
  pub value : Data
  pub spelled : converted of_json (Json.value levels before) ≡ Some (value, after)
  pub are : (found : Members) → AreTaskParts found old → AreTaskParts (put name value found) new

-- the shapes are those of the fields
pub record AreShapesOf (task : Task) (shapes : TaskShapes) : Type 0 where
  pub takes : view shapes.takes ≡ unwrap_or (option_map view task.takes) Any
  pub gives : task.gives ≡ Some shapes.gives

-- all fields up to the end of the object were read, or those of an object
pub record ReadsTaskParts (levels : ℕ) (before after : List Token) (shapes : TaskShapes) : Type 0 where
  pub found : Members
  pub spelled : SpellMembers levels before after found
  pub task : Task
  pub are : AreTaskParts found task
  pub theirs : AreShapesOf task shapes

pub record ReadsTask (levels : ℕ) (before after : List Token) (shapes : TaskShapes) : Type 0 where
  pub found : Members
  pub spelled : converted of_json (Json.value levels before) ≡ Some (object found, after)
  pub task : Task
  pub are : AreTaskParts found task
  pub theirs : AreShapesOf task shapes

-- ---- the tasks

-- the members are the entries of these tasks
pub record AreTasks (found : Members) (tasks : List (String Global × TaskShapes)) : Type 0 where
  pub trees : Fields
  pub whole : AreMembers trees found
  pub right : entries_complaints declared_reading task_rows found ≡ []
  pub same : tasks_view tasks ≡ entries_from task_from found

pub record ReadsEntries (levels : ℕ) (before after : List Token) (tasks : List (String Global × TaskShapes)) : Type 0 where
  pub found : Members
  pub spelled : SpellMembers levels before after found
  pub are : AreTasks found tasks

-- the value is an object of them
pub record IsOfTasks (stated : Data) (tasks : List (String Global × TaskShapes)) : Type 0 where
  pub found : Members
  pub is : stated ≡ object found
  pub are : AreTasks found tasks

pub record ReadsTasks (levels : ℕ) (before after : List Token) (tasks : List (String Global × TaskShapes)) : Type 0 where
  pub stated : Data
  pub spelled : converted of_json (Json.value levels before) ≡ Some (stated, after)
  pub read : IsOfTasks stated tasks

abbrev pub AreOwnTasks : Option Data → Option (List (String Global × TaskShapes)) → Type 0
AreOwnTasks None None = Unit {0}
AreOwnTasks None (Some tasks) = ⊥
AreOwnTasks (Some stated) None = ⊥
AreOwnTasks (Some stated) (Some tasks) = IsOfTasks stated tasks

-- ---- the whole

-- the members that were found are these fields
pub record AreDeclarations (found : Members) (fields : Declarations) : Type 0 where
  pub input : IsOwn (get_member (codes "input") found) fields.input
  pub tasks : AreOwnTasks (get_member (codes "tasks") found) (option_map (λ m. m.entries) fields.tasks)
  pub trees : Fields
  pub whole : AreMembers trees found
  pub foreign : foreign_complaints [] (map (λ row. row.field) declared_rows) found ≡ []

-- one more was read
pub record ReadsDeclaration (name : List ℕ) (before after : List Token) (old new : Declarations) : Type 0 where
  pub value : Data
  pub spelled : converted of_json (Json.value 126 before) ≡ Some (value, after)
  pub are : (found : Members) → AreDeclarations found old → AreDeclarations (put name value found) new

-- all were
pub record ReadsDeclarations (before after : List Token) (fields : Declarations) : Type 0 where
  pub found : Members
  pub spelled : SpellMembers 126 before after found
  pub are : AreDeclarations found fields
