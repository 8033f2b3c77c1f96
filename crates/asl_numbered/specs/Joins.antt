-- How the shapes of a table are joined by their numbers: what is remembered, and what is left to do. No public clause
-- cites this module.
use Rattle.std.specs.Prelude.{◌≡◌, ◌<◌, ◌≤◌, ◌+◌, ℕ, zero, suc, max, List, [], ◌∷◌, ◌++◌, length, map, take, drop, Bool, true, Option, Some, None}
use Rattle.std.specs.BTreeMap.{is_at}
use Rattle.std.specs.List.{AllByRecursion}
use Rattle.std.specs.Map.{lookup}
use Rattle.asl_model.specs.Shape as model
use Rattle.asl_model.specs.Shape.{Simple, Shape, Any, OfKinds, Arrays, WithoutArrays, ArraysOf, Objects, WithoutObjects, ObjectsOf, Shapes, NoShapes, AndShape, FieldShapes, NoFieldShapes, AndFieldShape, ArrayShape, ObjectShape, inhabited}
use Rattle.asl_model.specs.ShapeOrder.{depth, mention_of, further_places, joined_with_each, joined_fields, with_other_fields, join_arrays, join_objects, kept_arrays, kept_objects, join_kinds, join}
use Rattle.asl_numbered.specs.declared.kinds.NodeArrays.{NodeArrays}
use Rattle.asl_numbered.specs.declared.kinds.NodeObjects.{NodeObjects}
use Rattle.asl_numbered.specs.declared.kinds.NodeKinds.{NodeKinds}
use Rattle.asl_numbered.specs.Kinds.{IsProperNode}
use Rattle.asl_numbered.specs.TakenApart.{arrays_over, objects_over, kinds_over}
use Rattle.asl_numbered.specs.declared.joining.JoinedKinds.{JoinedKinds}
use Rattle.asl_numbered.specs.declared.joining.Part.{Part}
use Rattle.asl_numbered.specs.declared.joining.Part.TheVariants.{Number, Level}
use Rattle.asl_numbered.specs.declared.node.Node.{Node}
use Rattle.asl_numbered.specs.declared.node.NodeField.{NodeField}
use Rattle.asl_numbered.specs.declared.pair.Pair.{Pair}
use Rattle.asl_numbered.specs.declared.joining.JoinTask.{JoinTask}
use Rattle.asl_numbered.specs.declared.joining.JoinTask.TheVariants.{Join, Nothing, With, Finish}
use Rattle.asl_numbered.specs.Comparison.{IsWithin}
use Rattle.asl_numbered.specs.Expansion.{shape_at, shapes_at, fields_at, shape_over, numbers_in, parts, AreBelow, RefersBelow, Shows}
use Rattle.asl_numbered.specs.Names.{Name, name_cmp}

-- the join of the shapes of a pair
abbrev pub joint : List Shape → Pair → Shape
joint table p = join (shape_at table p.first) (shape_at table p.second)

-- ---- what is remembered

-- the number is that of the join of its pair
abbrev pub IsJoin : List Shape → Pair × ℕ → Type 0
IsJoin table e = IsWithin table e.0 × Shows table (joint table e.0) e.1

-- each of them is
pub record AreJoins (table : List Shape) (entries : List (Pair × ℕ)) : Type 0 where
  pub each : AllByRecursion (IsJoin table) entries

-- ---- the joins of parts

-- the joins place by place, as far as both go
abbrev pub place_joins : Shapes → Shapes → List Shape
place_joins NoShapes others = []
place_joins (AndShape s first) NoShapes = []
place_joins (AndShape s first) (AndShape other others) = join s other ∷ place_joins first others

-- one that both objects mention is joined
abbrev pub with_field_join : Shape → Option (Bool × Shape) → List Shape → List Shape
with_field_join s None joins = joins
with_field_join s (Some mention) joins = join s mention.1 ∷ joins

-- the joins of the fields that both objects mention
abbrev pub field_joins : FieldShapes → FieldShapes → List Shape
field_joins NoFieldShapes others = []
field_joins (AndFieldShape n needed s shapes) others = with_field_join s (mention_of n others) (field_joins shapes others)

-- those of the parts of the arrays of two shapes, the further elements first
abbrev pub array_joins : Arrays → Arrays → List Shape
array_joins WithoutArrays arrays = []
array_joins (ArraysOf first rest) WithoutArrays = []
array_joins (ArraysOf first rest) (ArraysOf others further) = join (join (joined_with_each join model.Never (further_places first others)) rest) further ∷ place_joins first others

-- those of the parts of their objects
abbrev pub object_joins : Objects → Objects → List Shape
object_joins WithoutObjects objects = []
object_joins (ObjectsOf shapes extra) WithoutObjects = []
object_joins (ObjectsOf shapes extra) (ObjectsOf others more) = field_joins shapes others

-- those of the parts of the two, first of the arrays
abbrev pub kinds_joins : Shape → Shape → List Shape
kinds_joins Any b = []
kinds_joins (OfKinds some others more) Any = []
kinds_joins (OfKinds some others more) (OfKinds simple arrays objects) = array_joins others arrays ++ object_joins more objects

-- the shape, without arrays where there are none such, and without objects
abbrev pub kept : Shape → Shape
kept Any = Any
kept (OfKinds simple arrays objects) = OfKinds simple (kept_arrays arrays) (kept_objects objects)

-- the joins of the parts that are kept
abbrev pub part_joins : Shape → Shape → List Shape
part_joins a b = kinds_joins (kept a) (kept b)

-- ---- what tasks do to the shapes of the numbers that were found

-- a task, with shapes in place of their numbers
pub data Step : Type 0 where
  JoinStep : Shape → Shape → Step
  NothingStep : Step
  WithStep : Shape → Step
  FinishStep : Shape → Shape → ℕ → Step

abbrev pub step_of : List Shape → JoinTask → Step
step_of table (Join p) = JoinStep (shape_at table p.first) (shape_at table p.second)
step_of table Nothing = NothingStep
step_of table (With n) = WithStep (shape_at table n)
step_of table (Finish p start) = FinishStep (shape_at table p.first) (shape_at table p.second) start

abbrev pub steps_of : List Shape → List JoinTask → List Step
steps_of table tasks = map (step_of table) tasks

-- the last shape joined with that one
abbrev pub joined_last : Shape → List Shape → List Shape
joined_last s [] = []
joined_last s (t ∷ []) = join t s ∷ []
joined_last s (t ∷ u ∷ found) = t ∷ joined_last s (u ∷ found)

abbrev pub done : Step → List Shape → List Shape
done (JoinStep a b) found = found ++ join a b ∷ []
done NothingStep found = found ++ model.Never ∷ []
done (WithStep s) found = joined_last s found
done (FinishStep a b start) found = take start found ++ join a b ∷ []

-- what is found once all steps are done, the last one first
abbrev pub all_done : List Step → List Shape → List Shape
all_done [] found = found
all_done (step ∷ steps) found = done step (all_done steps found)

-- a pair that is to be finished finds the joins of its parts
abbrev pub IsFed : Step → List Shape → Type 0
IsFed (JoinStep a b) found = Unit {0}
IsFed NothingStep found = Unit {0}
IsFed (WithStep s) found = Unit {0}
IsFed (FinishStep a b start) found = (start ≤ length found) × (drop start found ≡ part_joins a b) × (inhabited a ≡ true) × (inhabited b ≡ true)

abbrev pub AreEachFed : List Step → List Shape → Type 0
AreEachFed [] found = Unit {0}
AreEachFed (step ∷ steps) found = IsFed step (all_done steps found) × AreEachFed steps found

-- ---- how much is left to do

-- so many steps join the places, where a join takes so many
abbrev pub places_cost : (Shape → Shape → ℕ) → Shapes → Shapes → ℕ
places_cost cost NoShapes others = 0
places_cost cost (AndShape s first) NoShapes = 0
places_cost cost (AndShape s first) (AndShape other others) = cost s other + places_cost cost first others

-- so many join a shape with each of the shapes
abbrev pub each_cost : (Shape → Shape → ℕ) → Shape → Shapes → ℕ
each_cost cost s NoShapes = 0
each_cost cost s (AndShape other others) = 1 + cost s other + each_cost cost (join s other) others

-- so many join the further elements
abbrev pub rest_cost : (Shape → Shape → ℕ) → Shapes → Shape → Shape → ℕ
rest_cost cost behind rest further = each_cost cost model.Never behind + (1 + cost (joined_with_each join model.Never behind) rest) + (1 + cost (join (joined_with_each join model.Never behind) rest) further)

abbrev pub with_field_cost : (Shape → Shape → ℕ) → Shape → Option (Bool × Shape) → ℕ → ℕ
with_field_cost cost s None n = n
with_field_cost cost s (Some mention) n = cost s mention.1 + n

-- so many join the fields
abbrev pub fields_cost : (Shape → Shape → ℕ) → FieldShapes → FieldShapes → ℕ
fields_cost cost NoFieldShapes others = 0
fields_cost cost (AndFieldShape n needed s shapes) others = with_field_cost cost s (mention_of n others) (fields_cost cost shapes others)

-- so many join the parts of arrays
abbrev pub arrays_cost : (Shape → Shape → ℕ) → Arrays → Arrays → ℕ
arrays_cost cost WithoutArrays arrays = 0
arrays_cost cost (ArraysOf first rest) WithoutArrays = 0
arrays_cost cost (ArraysOf first rest) (ArraysOf others further) = places_cost cost first others + rest_cost cost (further_places first others) rest further

-- so many join those of objects
abbrev pub objects_cost : (Shape → Shape → ℕ) → Objects → Objects → ℕ
objects_cost cost WithoutObjects objects = 0
objects_cost cost (ObjectsOf shapes extra) WithoutObjects = 0
objects_cost cost (ObjectsOf shapes extra) (ObjectsOf others more) = fields_cost cost shapes others

-- so many join the parts of two shapes
abbrev pub parts_cost : (Shape → Shape → ℕ) → Shape → Shape → ℕ
parts_cost cost Any b = 0
parts_cost cost (OfKinds some others more) Any = 0
parts_cost cost (OfKinds some others more) (OfKinds simple arrays objects) = arrays_cost cost others arrays + objects_cost cost more objects

-- at most so many join two shapes that are at most so deep
abbrev pub cost_within : ℕ → Shape → Shape → ℕ
cost_within zero a b = 1
cost_within (suc n) a b = 3 + parts_cost (cost_within n) a b

abbrev pub cost_of : Shape → Shape → ℕ
cost_of a b = cost_within (max (depth a) (depth b)) a b

-- the last shape
abbrev pub last_of : List Shape → Shape
last_of [] = model.Never
last_of (s ∷ []) = s
last_of (s ∷ t ∷ found) = last_of (t ∷ found)

abbrev pub step_cost : Step → List Shape → ℕ
step_cost (JoinStep a b) found = cost_of a b
step_cost NothingStep found = 1
step_cost (WithStep s) found = 1 + cost_of (last_of found) s
step_cost (FinishStep a b start) found = 1

-- at most so many steps are left
abbrev pub work_left : List Step → List Shape → ℕ
work_left [] found = 0
work_left (step ∷ steps) found = step_cost step (all_done steps found) + work_left steps found

-- ---- tasks that are put down

-- the joins place by place, the first last
abbrev pub place_joinings : List ℕ → List ℕ → List JoinTask
place_joinings [] others = []
place_joinings (place ∷ places) [] = []
place_joinings (place ∷ places) (other ∷ others) = place_joinings places others ++ Join (record { first = place; second = other }) ∷ []

-- the joins with each of the places, the first last
abbrev pub joinings_with : List ℕ → List JoinTask
joinings_with [] = []
joinings_with (place ∷ places) = joinings_with places ++ With place ∷ []

-- a field is joined with one of its name, where that is there
abbrev pub field_joining : NodeField → Option NodeField → List JoinTask
field_joining field None = []
field_joining field (Some other) = Join (record { first = field.shape; second = other.shape }) ∷ []

-- the joins of the fields that both mention, the first last
abbrev pub field_joinings : List (Name × NodeField) → List (Name × NodeField) → List JoinTask
field_joinings [] others = []
field_joinings (f ∷ fields) others = field_joinings fields others ++ field_joining f.1 (lookup (is_at (name_cmp f.0)) others)

-- both shapes of the pair are inhabited
pub record AreInhabited (table : List Shape) (p : Pair) : Type 0 where
  pub first : inhabited (shape_at table p.first) ≡ true
  pub second : inhabited (shape_at table p.second) ≡ true

-- ---- all that is left to do

-- the shapes of the numbers that were found
abbrev pub found_in : List Shape → List ℕ → List Shape
found_in table numbers = map (shape_at table) numbers

-- the numbers in a task are in the table
abbrev pub IsTaskWithin : List Shape → JoinTask → Type 0
IsTaskWithin table (Join p) = IsWithin table p
IsTaskWithin table Nothing = Unit {0}
IsTaskWithin table (With n) = n < length table
IsTaskWithin table (Finish p start) = IsWithin table p

abbrev pub AreEachTasksWithin : List Shape → List JoinTask → Type 0
AreEachTasksWithin table [] = Unit {0}
AreEachTasksWithin table (task ∷ tasks) = IsTaskWithin table task × AreEachTasksWithin table tasks

-- what is left to do leads to that shape alone
pub record AreLeft (table : List Shape) (whole : Shape) (tasks : List JoinTask) (numbers : List ℕ) : Type 0 where
  pub within : AreEachTasksWithin table tasks
  pub below : AreBelow (length table) numbers
  pub fed : AreEachFed (steps_of table tasks) (found_in table numbers)
  pub same : all_done (steps_of table tasks) (found_in table numbers) ≡ whole ∷ []

-- One task was done, in a table that may have grown: others were put behind those that are left, which find the same
-- shapes and are less work.
pub record Moves (old new : List Shape) (task : JoinTask) (tasks left : List JoinTask) (numbers next : List ℕ) : Type 0 where
  pub added : List JoinTask
  pub whole : left ≡ tasks ++ added
  pub within : AreEachTasksWithin new added
  pub below : AreBelow (length new) next
  pub fed : AreEachFed (steps_of new added) (found_in new next)
  pub same : all_done (steps_of new added) (found_in new next) ≡ done (step_of old task) (found_in old numbers)
  pub less : work_left (steps_of new added) (found_in new next) < step_cost (step_of old task) (found_in old numbers)

-- ---- the parts of two shapes that are put down

-- The joins of the parts of two lists: what stands behind the places that both have is joined one after another, to what
-- `Nothing` puts down.
abbrev pub list_joinings : List ℕ → ℕ → List ℕ → ℕ → List JoinTask
list_joinings places rest others further = place_joinings places others ++ With further ∷ With rest ∷ (joinings_with (drop (length others) places) ++ (joinings_with (drop (length places) others) ++ Nothing ∷ []))

-- those of the arrays of two shapes, where both have some
abbrev pub array_joinings : Option NodeArrays → Option NodeArrays → List JoinTask
array_joinings None others = []
array_joinings (Some arrays) None = []
array_joinings (Some arrays) (Some others) = list_joinings arrays.first.now arrays.rest others.first.now others.rest

-- those of their objects
abbrev pub object_joinings : Option NodeObjects → Option NodeObjects → List JoinTask
object_joinings None others = []
object_joinings (Some objects) None = []
object_joinings (Some objects) (Some others) = field_joinings objects.fields.now.entries others.fields.now.entries

-- ---- the join made of the joins of its parts

-- the numbers are those of the joins of the parts of the pair's two shapes, which are inhabited
pub record AreMadeOf (table : List Shape) (p : Pair) (parts : List ℕ) : Type 0 where
  pub within : IsWithin table p
  pub below : AreBelow (length table) parts
  pub all : found_in table parts ≡ part_joins (shape_at table p.first) (shape_at table p.second)
  pub inhabited : AreInhabited table p

-- Their own number is in the table, and so are those of their elements; it is the number of these arrays alone.
pub record AreArraysHere (table : List Shape) (arrays : NodeArrays) : Type 0 where
  pub within : arrays.number < length table
  pub alone : shape_at table arrays.number ≡ ArrayShape (shapes_at table arrays.first.now) (shape_at table arrays.rest)
  pub parts : AreBelow (length table) (arrays.rest ∷ arrays.first.now)

-- the same of objects and their fields
pub record AreObjectsHere (table : List Shape) (objects : NodeObjects) : Type 0 where
  pub within : objects.number < length table
  pub alone : shape_at table objects.number ≡ ObjectShape (fields_at table objects.fields.now.entries) objects.extra
  pub parts : AreBelow (length table) (numbers_in objects.fields.now.entries)

-- where there are some, they are such
abbrev pub AreArraysWithin : List Shape → Option NodeArrays → Type 0
AreArraysWithin table None = Unit {0}
AreArraysWithin table (Some arrays) = AreArraysHere table arrays

-- the same of objects
abbrev pub AreObjectsWithin : List Shape → Option NodeObjects → Type 0
AreObjectsWithin table None = Unit {0}
AreObjectsWithin table (Some objects) = AreObjectsHere table objects

-- both of these kinds
pub record AreKindsWithin (table : List Shape) (kinds : NodeKinds) : Type 0 where
  pub arrays : AreArraysWithin table kinds.arrays
  pub objects : AreObjectsWithin table kinds.objects

-- The two shapes are taken apart: into the kinds of both that are kept, or none, where one of them is Any.
abbrev pub TakesApart : List Shape → Shape → Shape → Option (NodeKinds × NodeKinds) → Type 0
TakesApart table a b None = (join_kinds join a b ≡ Any) × (part_joins a b ≡ [])
TakesApart table a b (Some kinds) = (kinds_over table kinds.0 ≡ kept a) × (kinds_over table kinds.1 ≡ kept b) × AreKindsWithin table kinds.0 × AreKindsWithin table kinds.1

-- so are those of the pair
pub record AreKindsOf (table : List Shape) (p : Pair) (kinds : Option (NodeKinds × NodeKinds)) : Type 0 where
  pub apart : TakesApart table (shape_at table p.first) (shape_at table p.second) kinds

-- ---- the parts of a join

-- the shape of a part
abbrev pub part_shape : List Shape → Part → Shape
part_shape table (Number n) = shape_at table n
part_shape table (Level node) = shape_over table node

-- the numbers in it are in the table, and it is proper
abbrev pub HasPartWithin : List Shape → Part → Type 0
HasPartWithin table (Number n) = n < length table
HasPartWithin table (Level node) = RefersBelow (length table) node × IsProperNode table node

-- the same as a record
pub record IsPartWithin (table : List Shape) (part : Part) : Type 0 where
  pub within : HasPartWithin table part

-- the part, where there is one, has that number in the new table
abbrev pub HasPart : List Shape → List Shape → Option Part → Option ℕ → Type 0
HasPart old new None number = number ≡ None
HasPart old new (Some part) None = ⊥
HasPart old new (Some part) (Some n) = Shows new (part_shape old part) n

-- the same as a record
pub record IsPutPart (old new : List Shape) (part : Option Part) (number : Option ℕ) : Type 0 where
  pub put : HasPart old new part number

-- the part is that of these arrays alone; there is none where there are none
abbrev pub IsOfArrays : List Shape → Option Part → Arrays → Type 0
IsOfArrays table None arrays = arrays ≡ WithoutArrays
IsOfArrays table (Some part) WithoutArrays = ⊥
IsOfArrays table (Some part) (ArraysOf first rest) = IsPartWithin table part × (part_shape table part ≡ ArrayShape first rest)

-- the same of objects
abbrev pub IsOfObjects : List Shape → Option Part → Objects → Type 0
IsOfObjects table None objects = objects ≡ WithoutObjects
IsOfObjects table (Some part) WithoutObjects = ⊥
IsOfObjects table (Some part) (ObjectsOf shapes extra) = IsPartWithin table part × (part_shape table part ≡ ObjectShape shapes extra)

-- the part is the join of these arrays, over each table in which these numbers are the joins of their parts
pub record IsArrayJoin (arrays others : Option NodeArrays) (parts : List ℕ) (part : Option Part) : Type 0 where
  pub joined : (table : List Shape) → AreArraysWithin table arrays → AreArraysWithin table others → AreBelow (length table) parts → found_in table parts ≡ array_joins (arrays_over table arrays) (arrays_over table others) → IsOfArrays table part (join_arrays join (arrays_over table arrays) (arrays_over table others))

-- the same of objects
pub record IsObjectJoin (objects others : Option NodeObjects) (parts : List ℕ) (part : Option Part) : Type 0 where
  pub joined : (table : List Shape) → AreObjectsWithin table objects → AreObjectsWithin table others → AreBelow (length table) parts → found_in table parts ≡ object_joins (objects_over table objects) (objects_over table others) → IsOfObjects table part (join_objects join (objects_over table objects) (objects_over table others))

-- its simple kinds
abbrev pub simple_of : JoinedKinds → Simple
simple_of kinds = record { null = kinds.null; boolean = kinds.boolean; integer = kinds.integer; text = kinds.text }

-- the join is that shape
abbrev pub IsJoined : List Shape → Option JoinedKinds → Shape → Type 0
IsJoined table None s = s ≡ Any
IsJoined table (Some kinds) Any = ⊥
IsJoined table (Some kinds) (OfKinds simple arrays objects) = (simple_of kinds ≡ simple) × IsOfArrays table kinds.arrays arrays × IsOfObjects table kinds.objects objects

-- the same as a record
pub record AreJoined (table : List Shape) (kinds : Option JoinedKinds) (s : Shape) : Type 0 where
  pub joined : IsJoined table kinds s

-- The joined fields are the first object's, joined with the second's, over each table in which the parts are the joins of
-- the fields that both mention.
pub record AreJoinedFields (fields others : List (Name × NodeField)) (more : Bool) (parts : List ℕ) (joined : List (Name × NodeField)) : Type 0 where
  pub shapes : (table : List Shape) → found_in table parts ≡ field_joins (fields_at table fields) (fields_at table others) → fields_at table joined ≡ joined_fields join (fields_at table fields) (fields_at table others) more
  pub below : (bound : ℕ) → AreBelow bound (numbers_in fields) → AreBelow bound parts → AreBelow bound (numbers_in joined)

-- The new fields are the old ones with those of the second object that the first doesn't mention.
pub record AreWithOthers (fields : List (Name × NodeField)) (extra : Bool) (others old new : List (Name × NodeField)) : Type 0 where
  pub shapes : (table : List Shape) → fields_at table new ≡ with_other_fields (fields_at table fields) extra (fields_at table others) (fields_at table old)
  pub below : (bound : ℕ) → AreBelow bound (numbers_in others) → AreBelow bound (numbers_in old) → AreBelow bound (numbers_in new)

-- the node is that of the lists with these parts, those of the further elements first
pub record IsListOf (numbers : List ℕ) (node : Node) : Type 0 where
  pub each : parts node ≡ numbers
  pub shape : (table : List Shape) (rest : ℕ) (places : List ℕ) → numbers ≡ rest ∷ places → shape_over table node ≡ ArrayShape (shapes_at table places) (shape_at table rest)
  pub proper : (table : List Shape) → IsProperNode table node
