-- How the shapes of a table are compared by their numbers: what is remembered, and what is left to do. No public clause
-- cites this module.
use Rattle.std.specs.Prelude.{◌≡◌, ◌<◌, ◌≤◌, ◌+◌, ◌*◌, ℕ, zero, suc, max, List, [], ◌∷◌, ◌++◌, length, Bool, true, false, ◌&&◌, ◌||◌, not, Option, Some, None}
use Rattle.std.specs.BTreeMap.{is_at}
use Rattle.std.specs.List.{AllByRecursion}
use Rattle.std.specs.Map.{lookup}
use Rattle.asl_model.specs.Examples.{count_mentions}
use Rattle.asl_model.specs.Shape as model
use Rattle.asl_model.specs.ShapeOrder.{sub, takes_all, others_never_there}
use Rattle.asl_numbered.specs.declared.node.NodeField.{NodeField}
use Rattle.asl_numbered.specs.declared.kinds.NodeObjects.{NodeObjects}
use Rattle.asl_numbered.specs.declared.pair.Pair.{Pair}
use Rattle.asl_numbered.specs.declared.comparing.Task.{Task}
use Rattle.asl_numbered.specs.declared.comparing.Task.TheVariants.{Compare, Conclude}
use Rattle.asl_numbered.specs.Expansion.{shape_at, fields_at}
use Rattle.asl_numbered.specs.Names.{Name, name_cmp}

-- the first shape is inside the second
abbrev pub inside : List model.Shape → Pair → Bool
inside table p = sub (shape_at table p.first) (shape_at table p.second)

-- both numbers are in the table
pub record IsWithin (table : List model.Shape) (p : Pair) : Type 0 where
  pub first : p.first < length table
  pub second : p.second < length table

-- ---- what is remembered

-- the answer says whether the first shape of its pair is inside the second
abbrev pub IsRight : List model.Shape → Pair × Bool → Type 0
IsRight table e = IsWithin table e.0 × (e.1 ≡ inside table e.0)

-- each of them does
pub record AreRight (table : List model.Shape) (entries : List (Pair × Bool)) : Type 0 where
  pub each : AllByRecursion (IsRight table) entries

-- ---- tasks

-- of all that is to be compared the first shape is inside the second
abbrev pub all_inside : List model.Shape → List Task → Bool
all_inside table [] = true
all_inside table (Compare p ∷ tasks) = inside table p && all_inside table tasks
all_inside table (Conclude p ∷ tasks) = all_inside table tasks

-- what is to be concluded is so exactly where all is that is to be compared behind it
abbrev pub AreEachStanding : List model.Shape → List Task → Type 0
AreEachStanding table [] = Unit {0}
AreEachStanding table (Compare p ∷ tasks) = IsWithin table p × AreEachStanding table tasks
AreEachStanding table (Conclude p ∷ tasks) = IsWithin table p × (inside table p ≡ all_inside table tasks) × AreEachStanding table tasks

pub record AreStanding (table : List model.Shape) (tasks : List Task) : Type 0 where
  pub each : AreEachStanding table tasks

-- nothing that is to be concluded is so
abbrev pub AreEachOutside : List model.Shape → List Task → Type 0
AreEachOutside table [] = Unit {0}
AreEachOutside table (Compare p ∷ tasks) = AreEachOutside table tasks
AreEachOutside table (Conclude p ∷ tasks) = IsWithin table p × (inside table p ≡ false) × AreEachOutside table tasks

pub record AreOutside (table : List model.Shape) (tasks : List Task) : Type 0 where
  pub each : AreEachOutside table tasks

-- ---- how much is left to do

-- how many shapes there are
abbrev pub count_shapes : model.Shapes → ℕ
count_shapes model.NoShapes = 0
count_shapes (model.AndShape s others) = suc (count_shapes others)

-- how many parts these arrays have
abbrev pub array_parts : model.Arrays → ℕ
array_parts model.WithoutArrays = 0
array_parts (model.ArraysOf first rest) = suc (count_shapes first)

-- how many parts these objects have
abbrev pub object_parts : model.Objects → ℕ
object_parts model.WithoutObjects = 0
object_parts (model.ObjectsOf shapes extra) = count_mentions shapes

-- how many parts a shape has
abbrev pub count_parts : model.Shape → ℕ
count_parts model.Any = 0
count_parts (model.OfKinds simple arrays objects) = array_parts arrays + object_parts objects

-- the most parts that a shape has
abbrev pub widest : List model.Shape → ℕ
widest [] = 0
widest (s ∷ table) = max (count_parts s) (widest table)

-- at most so many steps compare the shape of that number with another, where no two shapes lead to more pairs than that
abbrev pub cost : ℕ → ℕ → ℕ
cost width zero = 2
cost width (suc n) = 2 + width * cost width n

-- at most so many steps do the tasks
abbrev pub work : ℕ → List Task → ℕ
work width [] = 0
work width (Compare p ∷ tasks) = cost width p.first + work width tasks
work width (Conclude p ∷ tasks) = 1 + work width tasks

-- a pair leads to at most so many: to each place and the further elements of its first shape, and to each field of its
-- second
abbrev pub width : List model.Shape → ℕ
width table = widest table + widest table

-- ---- a look at one pair

-- The tasks grew by some, on which the pair now rests: where the answer is true, its first shape is inside its second
-- exactly where all that is to be compared in these is so, and they are less work than the pair. Where the answer is
-- false, it isn't, and nothing in these that is to be concluded is so.
pub record RestsOn (table : List model.Shape) (p : Pair) (answer : Bool) (old new : List Task) : Type 0 where
  pub added : List Task
  pub whole : new ≡ old ++ added
  pub same : inside table p ≡ (answer && all_inside table added)
  pub standing : answer ≡ true → AreStanding table added
  pub outside : answer ≡ false → AreOutside table added
  pub less : work (width table) added < cost (width table) p.first

-- the tasks compare pairs of the table, and their first numbers are below that bound
abbrev pub AreComparisons : List model.Shape → ℕ → List Task → Type 0
AreComparisons table bound [] = Unit {0}
AreComparisons table bound (Compare p ∷ tasks) = IsWithin table p × (p.first < bound) × AreComparisons table bound tasks
AreComparisons table bound (Conclude p ∷ tasks) = ⊥

-- The tasks grew by no more comparisons than that, on which it now rests whether something is so: it is exactly where the
-- answer is true and all of them are so.
pub record PartsRestOn (table : List model.Shape) (bound most : ℕ) (is answer : Bool) (old new : List Task) : Type 0 where
  pub added : List Task
  pub whole : new ≡ old ++ added
  pub same : is ≡ (answer && all_inside table added)
  pub compared : AreComparisons table bound added
  pub few : length added ≤ most

-- ---- lists

-- each place is to be compared with the bound that stands there, or with that of the further elements
abbrev pub place_tasks : List ℕ → List ℕ → ℕ → List Task
place_tasks [] bounds rest = []
place_tasks (place ∷ places) [] rest = Compare (record { first = place; second = rest }) ∷ place_tasks places [] rest
place_tasks (place ∷ places) (bound ∷ bounds) rest = Compare (record { first = place; second = bound }) ∷ place_tasks places bounds rest

-- ---- objects

-- one that both objects mention is to be compared
abbrev pub with_field_task : Option NodeField → NodeField → List Task → List Task
with_field_task None field tasks = tasks
with_field_task (Some other) field tasks = Compare (record { first = other.shape; second = field.shape }) ∷ tasks

-- all that both mention are
abbrev pub field_tasks : List (Name × NodeField) → List (Name × NodeField) → List Task
field_tasks inner [] = []
field_tasks inner (f ∷ outer) = with_field_task (lookup (is_at (name_cmp f.0)) inner) f.1 (field_tasks inner outer)

-- the field fits its mention in an object that has `more` or not, but for its shape where that mentions it
abbrev pub mention_fits_in : List model.Shape → NodeField → Bool → Option NodeField → Bool
mention_fits_in table field more None = not field.needed && (not more || takes_all (shape_at table field.shape))
mention_fits_in table field more (Some other) = not field.needed || other.needed

-- all of them do
abbrev pub mentions_fit_in : List model.Shape → List (Name × NodeField) → Bool → List (Name × NodeField) → Bool
mentions_fit_in table inner more [] = true
mentions_fit_in table inner more (f ∷ outer) = mention_fits_in table f.1 more (lookup (is_at (name_cmp f.0)) inner) && mentions_fit_in table inner more outer

-- these objects are among those, where the shapes of the fields are that both mention
abbrev pub objects_fit_in : List model.Shape → NodeObjects → NodeObjects → Bool
objects_fit_in table inner outer =
    (outer.extra || (not inner.extra && others_never_there (fields_at table outer.fields.now.entries) (fields_at table inner.fields.now.entries)))
    && mentions_fit_in table inner.fields.now.entries inner.extra outer.fields.now.entries

-- ---- all that is left to do

-- the first shape of the pair that was asked for is inside its second exactly where all is that is to be compared
pub record AreGoing (table : List model.Shape) (root : Pair) (tasks : List Task) : Type 0 where
  pub standing : AreStanding table tasks
  pub same : inside table root ≡ all_inside table tasks
