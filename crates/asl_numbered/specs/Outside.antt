-- Where a tree of one shape of a table lacks another, by their numbers. No public clause cites this module.
use Rattle.std.specs.Prelude.{◌≡◌, ◌<◌, ℕ, suc, List, [], ◌∷◌, ◌++◌, length, true, false, ◌&&◌, not, Option, Some, None, IfSome, is_some, option_map, pos, if◌then◌else◌}
use Rattle.asl_model.specs.Examples.{needed_examples, first_tree, fresh_name, outside, elements_outside, fields_outside, mentioned_shape, unmentioned_shape, forbidden_outside, only_if}
use Rattle.std.specs.Option.{option_or}
use Rattle.asl_model.specs.Placing.{set_field}
use Rattle.asl_model.specs.Shape.{Simple, Shape, Any, OfKinds, Arrays, WithoutArrays, ArraysOf, Objects, WithoutObjects, ObjectsOf, all_inhabited, needed_inhabited}
use Rattle.asl_model.specs.Tree.{Tree, Null, Boolean, Integer, Text, Array, Object, Trees, Fields, trees_of}
use Rattle.asl_numbered.specs.declared.finding.Found.{Found}
use Rattle.asl_numbered.specs.declared.finding.Levels.{Levels}
use Rattle.asl_numbered.specs.declared.finding.Mentions.{Mentions}
use Rattle.asl_numbered.specs.declared.finding.Places.{Places}
use Rattle.asl_numbered.specs.declared.finding.Sought.{Sought}
use Rattle.asl_numbered.specs.declared.finding.Step.{Step}
use Rattle.asl_numbered.specs.declared.finding.Step.TheVariants as steps
use Rattle.asl_numbered.specs.declared.kinds.NodeArrays.{NodeArrays}
use Rattle.asl_numbered.specs.declared.kinds.NodeObjects.{NodeObjects}
use Rattle.asl_numbered.specs.declared.node.NodeField.{NodeField}
use Rattle.asl_numbered.specs.Examples.{examples_at}
use Rattle.asl_numbered.specs.Expansion.{shape_at, shapes_at, fields_at, numbers_in, AreBelow}
use Rattle.asl_numbered.specs.Names.{Name}
use Rattle.std.specs.Rc.{rc_str_bytes}

-- ---- shapes

-- the shape of the number; Any where none is given
abbrev pub first_shape : List Shape → Option ℕ → Shape
first_shape table None = Any
first_shape table (Some n) = shape_at table n

-- the arrays of a first shape
abbrev pub places_over : List Shape → Option Places → Arrays
places_over table None = WithoutArrays
places_over table (Some p) = ArraysOf (shapes_at table p.places.now) (first_shape table p.further)

-- its objects
abbrev pub mentions_over : List Shape → Option Mentions → Objects
mentions_over table None = WithoutObjects
mentions_over table (Some m) = ObjectsOf (fields_at table m.fields.now.entries) m.more

-- its simple kinds
abbrev pub simple_in : Levels → Simple
simple_in levels =
    record { null = levels.null; boolean = levels.boolean; integer = levels.integer; text = levels.text }

-- the shape of these kinds
abbrev pub levels_over : List Shape → Levels → Shape
levels_over table levels =
    OfKinds (simple_in levels) (places_over table levels.places) (mentions_over table levels.mentions)

-- there is such an array, and the numbers are in the table
pub record AreLivePlaces (table : List Shape) (p : Places) : Type 0 where
  pub live : all_inhabited (shapes_at table p.places.now) ≡ true
  pub places : AreBelow (length table) p.places.now
  pub further : IfSome p.further (λ n. n < length table)

-- the same of an object
pub record AreLiveMentions (table : List Shape) (m : Mentions) : Type 0 where
  pub live : needed_inhabited (fields_at table m.fields.now.entries) ≡ true
  pub fields : AreBelow (length table) (numbers_in m.fields.now.entries)

-- both are so, where there are some
pub record AreLiveLevels (table : List Shape) (levels : Levels) : Type 0 where
  pub places : IfSome levels.places (AreLivePlaces table)
  pub mentions : IfSome levels.mentions (AreLiveMentions table)

-- ---- what is sought and found

-- the first number is in the table, if one is given, and the second is below the bound
pub record IsSought (table : List Shape) (bound : ℕ) (sought : Sought) : Type 0 where
  pub first : IfSome sought.first (λ n. n < length table)
  pub second : sought.second < bound

-- the tree inside, if there is one; null where none is sought
abbrev pub sought_tree : List Shape → Option Sought → Option Tree
sought_tree table None = Some Null
sought_tree table (Some sought) = outside (first_shape table sought.first) (shape_at table sought.second)

-- at most so many steps find it
abbrev pub steps_left : Option Sought → ℕ
steps_left None = 0
steps_left (Some sought) = suc sought.second

-- the needed ones of these fields
abbrev pub needed_of : List Shape → List (Name × NodeField) → Fields
needed_of table fs = needed_examples (fields_at table fs)

-- the tree of the step, with that one inside
abbrev pub step_over : List Shape → Step → Tree → Tree
step_over table (steps.Examples places) t = Array (trees_of (examples_at table places.now))
step_over table (steps.Between before behind) t =
    Array (trees_of (examples_at table before.now ++ t ∷ examples_at table behind.now))
step_over table steps.False t = Boolean false
step_over table steps.Zero t = Integer (pos 0)
step_over table steps.Null t = Null
step_over table steps.Empty t = Text []
step_over table (steps.Needed fields) t = Object (needed_of table fields.now.entries)
step_over table (steps.With fields name) t = Object (set_field (rc_str_bytes name.now) t (needed_of table fields.now.entries))
step_over table (steps.WithFirst fields name number) t =
    Object (set_field (rc_str_bytes name.now) (first_tree (shape_at table number)) (needed_of table fields.now.entries))
step_over table (steps.WithNew fields others) t =
    Object (set_field (fresh_name (fields_at table fields.now.entries) (fields_at table others.now.entries)) Null (needed_of table fields.now.entries))

-- the tree of several steps, each inside the one before it
abbrev pub steps_over : List Shape → List Step → Tree → Tree
steps_over table [] t = t
steps_over table (step ∷ steps) t = step_over table step (steps_over table steps t)

-- the numbers in a step of which examples are built
abbrev pub numbers_of : Step → List ℕ
numbers_of (steps.Examples places) = places.now
numbers_of (steps.Between before behind) = before.now ++ behind.now
numbers_of steps.False = []
numbers_of steps.Zero = []
numbers_of steps.Null = []
numbers_of steps.Empty = []
numbers_of (steps.Needed fields) = numbers_in fields.now.entries
numbers_of (steps.With fields name) = numbers_in fields.now.entries
numbers_of (steps.WithFirst fields name number) = number ∷ numbers_in fields.now.entries
numbers_of (steps.WithNew fields others) = numbers_in fields.now.entries

-- the numbers of each step are in the table
abbrev pub AreStepsWithin : List Shape → List Step → Type 0
AreStepsWithin table [] = Unit {0}
AreStepsWithin table (step ∷ steps) = AreBelow (length table) (numbers_of step) × AreStepsWithin table steps

-- the tree that is found, if one is
abbrev pub outcome : List Shape → Option Found → Option Tree
outcome table None = None
outcome table (Some found) = option_map (step_over table found.step) (sought_tree table found.next)

-- The tree, if there is one, is that of what is found, whose tree inside is there; its numbers are in the table, and the
-- second one of what is sought next is below the bound.
pub record IsFound (table : List Shape) (bound : ℕ) (tree : Option Tree) (found : Option Found) : Type 0 where
  pub same : tree ≡ outcome table found
  pub there : IfSome found (λ f. is_some (sought_tree table f.next) ≡ true)
  pub step : IfSome found (λ f. AreBelow (length table) (numbers_of f.step))
  pub next : IfSome found (λ f. IfSome f.next (IsSought table bound))

-- ---- one kind after another

-- the first simple kind but texts that the one takes and the other doesn't
abbrev pub first_simple : Simple → Simple → Option Step
first_simple some simple =
    if some.boolean && not simple.boolean then Some steps.False
    else (if some.integer && not simple.integer then Some steps.Zero
    else (if some.null && not simple.null then Some steps.Null else None))

-- the elements that are found place by place
abbrev pub found_elements : List Shape → Places → NodeArrays → Option Trees
found_elements table p arrays =
    elements_outside (shapes_at table p.places.now) (first_shape table p.further) (shapes_at table arrays.first.now)
    (λ s. outside s (shape_at table arrays.rest))

-- the fields that are found among those that both mention
abbrev pub mentioned_fields : List Shape → List (Name × NodeField) → List (Name × NodeField) → Option Fields
mentioned_fields table inner outer =
    fields_outside (mentioned_shape (fields_at table inner)) (fields_at table outer) (needed_of table inner)

-- among those that the second alone mentions
abbrev pub unmentioned_fields : List Shape → Mentions → List (Name × NodeField) → Option Fields
unmentioned_fields table m outer =
    fields_outside (unmentioned_shape (fields_at table m.fields.now.entries) m.more) (fields_at table outer)
    (needed_of table m.fields.now.entries)

-- among those that the second doesn't mention
abbrev pub forbidden_fields : List Shape → Mentions → List (Name × NodeField) → Option Fields
forbidden_fields table m outer =
    forbidden_outside (fields_at table m.fields.now.entries) m.more (fields_at table outer)
    (needed_of table m.fields.now.entries)

-- the fields that are found where the second needs no more
abbrev pub found_fields : List Shape → Mentions → NodeObjects → Option Fields
found_fields table m objects =
    option_or (mentioned_fields table m.fields.now.entries objects.fields.now.entries)
    (option_or (unmentioned_fields table m objects.fields.now.entries)
    (only_if (not objects.extra) (forbidden_fields table m objects.fields.now.entries)))
