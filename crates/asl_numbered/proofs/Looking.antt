-- What a look at two shapes of a table puts down: the joins of their parts.
use Rattle.std.proofs.Common.{◌≡◌, ◌<◌, ◌≤◌, ◌+◌, ℕ, List, [], ◌∷◌, ◌++◌, length, take, drop, Bool, true, false, Option, Some, None, option_map, refl, sym, ap, ◌∙◌, subst, arith, ◌⊎◌, inl, inr, append_assoc}
use Rattle.std.proofs.Math.Seq.{drop-append_seam, take-append_seam}
use Rattle.std.proofs.lemmas.List.{append-nil, length-append, length-map, map-append}
use Rattle.std.specs.BTreeMap.{is_at}
use Rattle.std.specs.Map.{lookup}
use Rattle.std.specs.Prelude.{if◌then◌else◌}
use Rattle.asl_model.specs.Shape as model
use Rattle.asl_model.specs.Shape.{Shape, Any, OfKinds, Arrays, WithoutArrays, ArraysOf, Objects, WithoutObjects, ObjectsOf, Shapes, some_array, some_object}
use Rattle.asl_model.specs.ShapeOrder.{further_places, joined_with_each, kept_arrays, kept_objects, join}
use Rattle.asl_numbered.specs.declared.kinds.NodeArrays.{NodeArrays}
use Rattle.asl_numbered.specs.declared.kinds.NodeKinds.{NodeKinds}
use Rattle.asl_numbered.specs.declared.kinds.NodeObjects.{NodeObjects}
use Rattle.asl_numbered.specs.declared.node.NodeField.{NodeField}
use Rattle.asl_numbered.specs.declared.pair.Pair.{Pair}
use Rattle.asl_numbered.specs.declared.joining.JoinTask.{JoinTask}
use Rattle.asl_numbered.specs.declared.joining.JoinTask.TheVariants.{Join, Nothing, With, Finish}
use Rattle.asl_numbered.specs.Comparison.{IsWithin}
use Rattle.asl_numbered.specs.Expansion.{shape_at, shapes_at, fields_at, numbers_in, AreBelow}
use Rattle.asl_numbered.specs.TakenApart.{arrays_over, objects_over, kinds_over}
use Rattle.asl_numbered.specs.Joins.{place_joins, with_field_join, field_joins, array_joins, object_joins, kinds_joins, kept, part_joins, Step, NothingStep, WithStep, FinishStep, step_of, steps_of, joined_last, done, all_done, IsFed, AreEachFed, places_cost, each_cost, rest_cost, with_field_cost, fields_cost, arrays_cost, objects_cost, parts_cost, cost_of, last_of, work_left, place_joinings, joinings_with, field_joinings, field_joining, array_joinings, object_joinings, AreInhabited, found_in, AreEachTasksWithin, Moves, AreArraysWithin, AreObjectsWithin, AreKindsWithin, AreKindsOf}
use Rattle.asl_numbered.proofs.Comparisons.{mention_of_number, found-below}
use Rattle.asl_numbered.proofs.Joins.{done_append, work_append, joined_behind, last_behind, with_each, with_each_work, places_each, places_each_work, parts_cheaper, behind_one, behind_each}
use Rattle.asl_numbered.specs.Laws.{below-drop}
use Rattle.asl_numbered.specs.Names.{Name, name_cmp}

-- ---- tasks for parts

-- the numbers in the tasks are in the table, and none of them finishes a pair
abbrev AreParts : List Shape → List JoinTask → Type 0
AreParts table [] = Unit {0}
AreParts table (Join p ∷ tasks) = IsWithin table p × AreParts table tasks
AreParts table (Nothing ∷ tasks) = AreParts table tasks
AreParts table (With n ∷ tasks) = (n < length table) × AreParts table tasks
AreParts table (Finish p start ∷ tasks) = ⊥

parts-append : (table : List Shape) (tasks more : List JoinTask) → AreParts table tasks → AreParts table more → AreParts table (tasks ++ more)
parts-append table [] more h further = further
parts-append table (Join p ∷ tasks) more h further = (h.0, parts-append table tasks more h.1 further)
parts-append table (Nothing ∷ tasks) more h further = parts-append table tasks more h further
parts-append table (With n ∷ tasks) more h further = (h.0, parts-append table tasks more h.1 further)
parts-append table (Finish p start ∷ tasks) more h further = absurd h

parts_within : (table : List Shape) (tasks : List JoinTask) → AreParts table tasks → AreEachTasksWithin table tasks
parts_within table [] h = tt
parts_within table (Join p ∷ tasks) h = (h.0, parts_within table tasks h.1)
parts_within table (Nothing ∷ tasks) h = (tt, parts_within table tasks h)
parts_within table (With n ∷ tasks) h = (h.0, parts_within table tasks h.1)
parts_within table (Finish p start ∷ tasks) h = absurd h

parts_fed : (table : List Shape) (tasks : List JoinTask) (found : List Shape) → AreParts table tasks → AreEachFed (steps_of table tasks) found
parts_fed table [] found h = tt
parts_fed table (Join p ∷ tasks) found h = (tt, parts_fed table tasks found h.1)
parts_fed table (Nothing ∷ tasks) found h = (tt, parts_fed table tasks found h)
parts_fed table (With n ∷ tasks) found h = (tt, parts_fed table tasks found h.1)
parts_fed table (Finish p start ∷ tasks) found h = absurd h

place-parts : (table : List Shape) (ps os : List ℕ) → AreBelow (length table) ps → AreBelow (length table) os → AreParts table (place_joinings ps os)
place-parts table [] os h i = tt
place-parts table (p ∷ ps) [] h i = tt
place-parts table (p ∷ ps) (o ∷ os) h i =
    parts-append table (place_joinings ps os) (Join (record { first = p; second = o }) ∷ []) (place-parts table ps os h.1 i.1) (record { first = h.0; second = i.0 }, tt)

with-parts : (table : List Shape) (ns : List ℕ) → AreBelow (length table) ns → AreParts table (joinings_with ns)
with-parts table [] h = tt
with-parts table (n ∷ ns) h = parts-append table (joinings_with ns) (With n ∷ []) (with-parts table ns h.1) (h.0, tt)

field-parts : (table : List Shape) (fs os : List (Name × NodeField)) → AreBelow (length table) (numbers_in fs) → AreBelow (length table) (numbers_in os) → AreParts table (field_joinings fs os)
field-parts table [] os h i = tt
field-parts table (f ∷ fs) os h i =
    parts-append table (field_joinings fs os) (field_joining f.1 (lookup (is_at (name_cmp f.0)) os)) (field-parts table fs os h.1 i) (go (lookup (is_at (name_cmp f.0)) os) refl)
  where
    go : (o : Option NodeField) → lookup (is_at (name_cmp f.0)) os ≡ o → AreParts table (field_joining f.1 o)
    go None at = tt
    go (Some other) at = (record { first = h.0; second = found-below (length table) (is_at (name_cmp f.0)) os other i at }, tt)

-- ---- the parts of lists

module _ (table : List Shape) (ps os : List ℕ) (rest further : ℕ) (found : List Shape) where
  -- the places that the first list alone has, and the second
  abbrev mine : List ℕ
  mine = drop (length os) ps

  abbrev its : List ℕ
  its = drop (length ps) os

  -- the steps of the joins with them
  abbrev own : List Step
  own = steps_of table (joinings_with mine)

  abbrev other : List Step
  other = steps_of table (joinings_with its)

  -- what stands behind the places that both have, and its join
  abbrev all : Shapes
  all = further_places (shapes_at table ps) (shapes_at table os)

  abbrev whole : Shape
  whole = joined_with_each join model.Never all

  -- it takes so many steps
  each-work : work_left (own ++ other) (found ++ model.Never ∷ []) ≡ each_cost cost_of model.Never all
  each-work =
      work_append own other (found ++ model.Never ∷ [])
      ∙ ap (λ n. work_left own (all_done other (found ++ model.Never ∷ [])) + n) (with_each_work table its model.Never found)
      ∙ ap (λ more. work_left own more + each_cost cost_of model.Never (shapes_at table its)) (with_each table its model.Never found)
      ∙ ap (λ n. n + each_cost cost_of model.Never (shapes_at table its)) (with_each_work table mine (joined_with_each join model.Never (shapes_at table its)) found)
      ∙ go (behind_one table ps os)
    where
      go : ((mine ≡ []) × (shapes_at table its ≡ all)) ⊎ ((its ≡ []) × (shapes_at table mine ≡ all)) → each_cost cost_of (joined_with_each join model.Never (shapes_at table its)) (shapes_at table mine) + each_cost cost_of model.Never (shapes_at table its) ≡ each_cost cost_of model.Never all
      go (inl h) =
          let none : each_cost cost_of (joined_with_each join model.Never (shapes_at table its)) (shapes_at table mine) ≡ 0 = ap (λ ns. each_cost cost_of (joined_with_each join model.Never (shapes_at table its)) (shapes_at table ns)) h.0 in
          omega (arith, none, ap (each_cost cost_of model.Never) h.1)
      go (inr h) =
          let none : each_cost cost_of model.Never (shapes_at table its) ≡ 0 = ap (λ ns. each_cost cost_of model.Never (shapes_at table ns)) h.0 in
          let never : joined_with_each join model.Never (shapes_at table its) ≡ model.Never = ap (λ ns. joined_with_each join model.Never (shapes_at table ns)) h.0 in
          let same : each_cost cost_of (joined_with_each join model.Never (shapes_at table its)) (shapes_at table mine) ≡ each_cost cost_of model.Never all = ap (λ s. each_cost cost_of s (shapes_at table mine)) never ∙ ap (each_cost cost_of model.Never) h.1 in
          omega (arith, none, same)

  -- the tasks behind the two joins with further elements
  abbrev behind : List JoinTask
  behind = joinings_with mine ++ (joinings_with its ++ Nothing ∷ [])

  behind-split : steps_of table behind ≡ (own ++ other) ++ NothingStep ∷ []
  behind-split =
      map-append (step_of table) (joinings_with mine) (joinings_with its ++ Nothing ∷ [])
      ∙ ap (λ steps. own ++ steps) (map-append (step_of table) (joinings_with its) (Nothing ∷ []))
      ∙ sym (append_assoc own other (NothingStep ∷ []))

  behind-done : all_done (steps_of table behind) found ≡ found ++ whole ∷ []
  behind-done =
      ap (λ steps. all_done steps found) behind-split
      ∙ done_append (own ++ other) (NothingStep ∷ []) found
      ∙ behind_each table ps os found

  behind-work : work_left (steps_of table behind) found ≡ each_cost cost_of model.Never all + 1
  behind-work =
      let split : work_left (steps_of table behind) found ≡ work_left (own ++ other) (found ++ model.Never ∷ []) + (1 + 0) =
      ap (λ steps. work_left steps found) behind-split ∙ work_append (own ++ other) (NothingStep ∷ []) found in
      omega (arith, split, each-work)

  -- the tasks of the parts of two lists
  abbrev tasks : List JoinTask
  tasks = place_joinings ps os ++ With further ∷ With rest ∷ behind

  tasks-split : steps_of table tasks ≡ steps_of table (place_joinings ps os) ++ WithStep (shape_at table further) ∷ WithStep (shape_at table rest) ∷ steps_of table behind
  tasks-split = map-append (step_of table) (place_joinings ps os) (With further ∷ With rest ∷ behind)

  -- behind the places the further elements are found
  rest-done : joined_last (shape_at table further) (joined_last (shape_at table rest) (all_done (steps_of table behind) found)) ≡ found ++ join (join whole (shape_at table rest)) (shape_at table further) ∷ []
  rest-done =
      ap (λ more. joined_last (shape_at table further) (joined_last (shape_at table rest) more)) behind-done
      ∙ ap (joined_last (shape_at table further)) (joined_behind (shape_at table rest) whole found)
      ∙ joined_behind (shape_at table further) (join whole (shape_at table rest)) found

  list_done : all_done (steps_of table tasks) found ≡ found ++ join (join whole (shape_at table rest)) (shape_at table further) ∷ place_joins (shapes_at table ps) (shapes_at table os)
  list_done =
      ap (λ steps. all_done steps found) tasks-split
      ∙ done_append (steps_of table (place_joinings ps os)) (WithStep (shape_at table further) ∷ WithStep (shape_at table rest) ∷ steps_of table behind) found
      ∙ ap (all_done (steps_of table (place_joinings ps os))) rest-done
      ∙ places_each table ps os (found ++ join (join whole (shape_at table rest)) (shape_at table further) ∷ [])
      ∙ append_assoc found (join (join whole (shape_at table rest)) (shape_at table further) ∷ []) (place_joins (shapes_at table ps) (shapes_at table os))

  rest-work : work_left (WithStep (shape_at table further) ∷ WithStep (shape_at table rest) ∷ steps_of table behind) found ≡ rest_cost cost_of all (shape_at table rest) (shape_at table further) + 1
  rest-work =
      let front : cost_of (last_of (all_done (steps_of table behind) found)) (shape_at table rest) ≡ cost_of whole (shape_at table rest) =
      ap (λ more. cost_of (last_of more) (shape_at table rest)) behind-done ∙ ap (λ s. cost_of s (shape_at table rest)) (last_behind whole found) in
      let middle : joined_last (shape_at table rest) (all_done (steps_of table behind) found) ≡ found ++ join whole (shape_at table rest) ∷ [] =
      ap (joined_last (shape_at table rest)) behind-done ∙ joined_behind (shape_at table rest) whole found in
      let end : cost_of (last_of (joined_last (shape_at table rest) (all_done (steps_of table behind) found))) (shape_at table further) ≡ cost_of (join whole (shape_at table rest)) (shape_at table further) =
      ap (λ more. cost_of (last_of more) (shape_at table further)) middle ∙ ap (λ s. cost_of s (shape_at table further)) (last_behind (join whole (shape_at table rest)) found) in
      omega (arith, front, end, behind-work)

  list_work : work_left (steps_of table tasks) found ≡ 1 + (places_cost cost_of (shapes_at table ps) (shapes_at table os) + rest_cost cost_of all (shape_at table rest) (shape_at table further))
  list_work =
      let steps = WithStep (shape_at table further) ∷ WithStep (shape_at table rest) ∷ steps_of table behind in
      let split : work_left (steps_of table tasks) found ≡ work_left (steps_of table (place_joinings ps os)) (all_done steps found) + work_left steps found =
      ap (λ all. work_left all found) tasks-split ∙ work_append (steps_of table (place_joinings ps os)) steps found in
      omega (arith, split, places_each_work table ps os (all_done steps found), rest-work)

  list_parts : AreBelow (length table) ps → AreBelow (length table) os → rest < length table → further < length table → AreParts table tasks
  list_parts h i j k =
      let last = with-parts table its (below-drop (length table) (length ps) os i) in
      let first = with-parts table mine (below-drop (length table) (length os) ps h) in
      let both = parts-append table (joinings_with mine) (joinings_with its ++ Nothing ∷ []) first (parts-append table (joinings_with its) (Nothing ∷ []) last tt) in
      parts-append table (place_joinings ps os) (With further ∷ With rest ∷ behind) (place-parts table ps os h i) (k, (j, both))

-- ---- the parts of objects

fields_each : (table : List Shape) (fs os : List (Name × NodeField)) (found : List Shape) → all_done (steps_of table (field_joinings fs os)) found ≡ found ++ field_joins (fields_at table fs) (fields_at table os)
fields_each table [] os found = sym (append-nil found)
fields_each table (f ∷ fs) os found =
    ap (λ all. all_done all found) (map-append (step_of table) (field_joinings fs os) (field_joining f.1 (lookup (is_at (name_cmp f.0)) os)))
    ∙ done_append (steps_of table (field_joinings fs os)) (steps_of table (field_joining f.1 (lookup (is_at (name_cmp f.0)) os))) found
    ∙ go (lookup (is_at (name_cmp f.0)) os) (λ more. fields_each table fs os more)
    ∙ ap (λ o. found ++ with_field_join (shape_at table f.1.shape) o (field_joins (fields_at table fs) (fields_at table os))) (sym (mention_of_number table f.0 os))
  where
    go : (o : Option NodeField) → ((more : List Shape) → all_done (steps_of table (field_joinings fs os)) more ≡ more ++ field_joins (fields_at table fs) (fields_at table os)) → all_done (steps_of table (field_joinings fs os)) (all_done (steps_of table (field_joining f.1 o)) found) ≡ found ++ with_field_join (shape_at table f.1.shape) (option_map (λ (x : NodeField). (x.needed, shape_at table x.shape)) o) (field_joins (fields_at table fs) (fields_at table os))
    go None each = each found
    go (Some other) each =
        let s = join (shape_at table f.1.shape) (shape_at table other.shape) in
        each (found ++ s ∷ []) ∙ append_assoc found (s ∷ []) (field_joins (fields_at table fs) (fields_at table os))

fields_each_work : (table : List Shape) (fs os : List (Name × NodeField)) (found : List Shape) → work_left (steps_of table (field_joinings fs os)) found ≡ fields_cost cost_of (fields_at table fs) (fields_at table os)
fields_each_work table [] os found = refl
fields_each_work table (f ∷ fs) os found =
    ap (λ all. work_left all found) (map-append (step_of table) (field_joinings fs os) (field_joining f.1 (lookup (is_at (name_cmp f.0)) os)))
    ∙ work_append (steps_of table (field_joinings fs os)) (steps_of table (field_joining f.1 (lookup (is_at (name_cmp f.0)) os))) found
    ∙ go (lookup (is_at (name_cmp f.0)) os) (λ more. fields_each_work table fs os more)
    ∙ ap (λ o. with_field_cost cost_of (shape_at table f.1.shape) o (fields_cost cost_of (fields_at table fs) (fields_at table os))) (sym (mention_of_number table f.0 os))
  where
    go : (o : Option NodeField) → ((more : List Shape) → work_left (steps_of table (field_joinings fs os)) more ≡ fields_cost cost_of (fields_at table fs) (fields_at table os)) → work_left (steps_of table (field_joinings fs os)) (all_done (steps_of table (field_joining f.1 o)) found) + work_left (steps_of table (field_joining f.1 o)) found ≡ with_field_cost cost_of (shape_at table f.1.shape) (option_map (λ (x : NodeField). (x.needed, shape_at table x.shape)) o) (fields_cost cost_of (fields_at table fs) (fields_at table os))
    go None each = omega (arith, each found)
    go (Some other) each = omega (arith, each (found ++ join (shape_at table f.1.shape) (shape_at table other.shape) ∷ []))

-- ---- the parts of two shapes

arrays-done : (table : List Shape) (arrays others : Option NodeArrays) (found : List Shape) → all_done (steps_of table (array_joinings arrays others)) found ≡ found ++ array_joins (arrays_over table arrays) (arrays_over table others)
arrays-done table None others found = sym (append-nil found)
arrays-done table (Some arrays) None found = sym (append-nil found)
arrays-done table (Some arrays) (Some others) found = list_done table arrays.first.now others.first.now arrays.rest others.rest found

arrays-work : (table : List Shape) (arrays others : Option NodeArrays) (found : List Shape) → work_left (steps_of table (array_joinings arrays others)) found ≤ 1 + arrays_cost cost_of (arrays_over table arrays) (arrays_over table others)
arrays-work table None others found = omega arith
arrays-work table (Some arrays) None found = omega arith
arrays-work table (Some arrays) (Some others) found = omega (arith, list_work table arrays.first.now others.first.now arrays.rest others.rest found)

array-parts : (table : List Shape) (arrays others : Option NodeArrays) → AreArraysWithin table arrays → AreArraysWithin table others → AreParts table (array_joinings arrays others)
array-parts table None others h i = tt
array-parts table (Some arrays) None h i = tt
array-parts table (Some arrays) (Some others) h i = list_parts table arrays.first.now others.first.now arrays.rest others.rest [] h.parts.1 i.parts.1 h.parts.0 i.parts.0

objects-done : (table : List Shape) (objects others : Option NodeObjects) (found : List Shape) → all_done (steps_of table (object_joinings objects others)) found ≡ found ++ object_joins (objects_over table objects) (objects_over table others)
objects-done table None others found = sym (append-nil found)
objects-done table (Some objects) None found = sym (append-nil found)
objects-done table (Some objects) (Some others) found = fields_each table objects.fields.now.entries others.fields.now.entries found

objects-work : (table : List Shape) (objects others : Option NodeObjects) (found : List Shape) → work_left (steps_of table (object_joinings objects others)) found ≡ objects_cost cost_of (objects_over table objects) (objects_over table others)
objects-work table None others found = refl
objects-work table (Some objects) None found = refl
objects-work table (Some objects) (Some others) found = fields_each_work table objects.fields.now.entries others.fields.now.entries found

object-parts : (table : List Shape) (objects others : Option NodeObjects) → AreObjectsWithin table objects → AreObjectsWithin table others → AreParts table (object_joinings objects others)
object-parts table None others h i = tt
object-parts table (Some objects) None h i = tt
object-parts table (Some objects) (Some others) h i = field-parts table objects.fields.now.entries others.fields.now.entries h.parts i.parts

module _ (table : List Shape) (first second : NodeKinds) (found : List Shape) where
  -- the tasks of both kinds
  abbrev both : List JoinTask
  both = object_joinings first.objects second.objects ++ array_joinings first.arrays second.arrays

  abbrev array-steps : List Step
  array-steps = steps_of table (array_joinings first.arrays second.arrays)

  abbrev object-steps : List Step
  object-steps = steps_of table (object_joinings first.objects second.objects)

  both-split : steps_of table both ≡ object-steps ++ array-steps
  both-split = map-append (step_of table) (object_joinings first.objects second.objects) (array_joinings first.arrays second.arrays)

  kinds_done : all_done (steps_of table both) found ≡ found ++ kinds_joins (kinds_over table first) (kinds_over table second)
  kinds_done =
      let arrays = array_joins (arrays_over table first.arrays) (arrays_over table second.arrays) in
      let objects = object_joins (objects_over table first.objects) (objects_over table second.objects) in
      ap (λ steps. all_done steps found) both-split
      ∙ done_append object-steps array-steps found
      ∙ ap (all_done object-steps) (arrays-done table first.arrays second.arrays found)
      ∙ objects-done table first.objects second.objects (found ++ arrays)
      ∙ append_assoc found arrays objects

  kinds_work : work_left (steps_of table both) found ≤ 1 + parts_cost cost_of (kinds_over table first) (kinds_over table second)
  kinds_work =
      let split : work_left (steps_of table both) found ≡ work_left object-steps (all_done array-steps found) + work_left array-steps found =
      ap (λ steps. work_left steps found) both-split ∙ work_append object-steps array-steps found in
      omega (arith, split, objects-work table first.objects second.objects (all_done array-steps found), arrays-work table first.arrays second.arrays found)

  kinds_parts : AreKindsWithin table first → AreKindsWithin table second → AreParts table both
  kinds_parts h i = parts-append table (object_joinings first.objects second.objects) (array_joinings first.arrays second.arrays) (object-parts table first.objects second.objects h.objects i.objects) (array-parts table first.arrays second.arrays h.arrays i.arrays)

-- ---- what is left out is no work

no-arrays : (a : Arrays) → arrays_cost cost_of a WithoutArrays ≡ 0
no-arrays WithoutArrays = refl
no-arrays (ArraysOf first rest) = refl

kept-arrays : (a b : Arrays) → arrays_cost cost_of (kept_arrays a) (kept_arrays b) ≤ arrays_cost cost_of a b
kept-arrays a b = go (some_array a) (some_array b)
  where
    go : (own other : Bool) → arrays_cost cost_of (if own then a else WithoutArrays) (if other then b else WithoutArrays) ≤ arrays_cost cost_of a b
    go true true = omega arith
    go true false = omega (arith, no-arrays a)
    go false other = omega arith

no-objects : (a : Objects) → objects_cost cost_of a WithoutObjects ≡ 0
no-objects WithoutObjects = refl
no-objects (ObjectsOf shapes extra) = refl

kept-objects : (a b : Objects) → objects_cost cost_of (kept_objects a) (kept_objects b) ≤ objects_cost cost_of a b
kept-objects a b = go (some_object a) (some_object b)
  where
    go : (own other : Bool) → objects_cost cost_of (if own then a else WithoutObjects) (if other then b else WithoutObjects) ≤ objects_cost cost_of a b
    go true true = omega arith
    go true false = omega (arith, no-objects a)
    go false other = omega arith

kept-cheaper : (a b : Shape) → parts_cost cost_of (kept a) (kept b) ≤ parts_cost cost_of a b
kept-cheaper Any b = omega arith
kept-cheaper (OfKinds some others more) Any = omega arith
kept-cheaper (OfKinds some others more) (OfKinds simple arrays objects) = omega (arith, kept-arrays others arrays, kept-objects more objects)

-- ---- what the parts lead to

module _ (table : List Shape) (p : Pair) (within : IsWithin table p) (some : AreInhabited table p) (numbers : List ℕ) (below : AreBelow (length table) numbers) (old new : List JoinTask) where
  abbrev a : Shape
  a = shape_at table p.first

  abbrev b : Shape
  b = shape_at table p.second

  -- tasks that find the joins of the parts of a pair, and don't cost more than these, lead to its join
  parts-lead : (tasks : List JoinTask) → AreParts table tasks → all_done (steps_of table tasks) (found_in table numbers) ≡ found_in table numbers ++ part_joins a b → work_left (steps_of table tasks) (found_in table numbers) ≤ 1 + parts_cost cost_of a b → new ≡ old ++ Finish p (length numbers) ∷ tasks → Moves table table (Join p) old new numbers numbers
  parts-lead tasks are finds cost made =
      let joins = part_joins a b in
      let start = length numbers in
      let found = found_in table numbers in
      let many : length found ≡ start = length-map numbers (shape_at table) in
      let front : take start (found ++ joins) ≡ found = subst (λ n. take n (found ++ joins) ≡ found) many (take-append_seam found joins) in
      let behind : drop start (found ++ joins) ≡ joins = subst (λ n. drop n (found ++ joins) ≡ joins) many (drop-append_seam found joins) in
      let counted : start ≤ length (found ++ joins) = omega (arith, many, length-append found joins) in
      let fed : IsFed (FinishStep a b start) (found ++ joins) = (counted, behind, some.first, some.second) in
      record {
        added = Finish p start ∷ tasks;
        whole = made;
        within = (within, parts_within table tasks are);
        below = below;
        fed = (subst (IsFed (FinishStep a b start)) (sym finds) fed, parts_fed table tasks found are);
        same = ap (done (FinishStep a b start)) finds ∙ ap (λ shapes. shapes ++ join a b ∷ []) front;
        less = omega (arith, cost, parts_cheaper a b);
      }

  -- one of the two is Any
  pub any_leads : AreKindsOf table p None → new ≡ old ++ Finish p (length numbers) ∷ [] → Moves table table (Join p) old new numbers numbers
  any_leads h made =
      let none : found_in table numbers ≡ found_in table numbers ++ part_joins a b = sym (ap (λ joins. found_in table numbers ++ joins) h.apart.1 ∙ append-nil (found_in table numbers)) in
      parts-lead [] tt none (omega arith) made

  -- the tasks are those of the kinds of both
  pub kinds_lead : (first second : NodeKinds) (last more : List JoinTask) → AreKindsOf table p (Some (first, second)) → last ≡ old ++ Finish p (length numbers) ∷ [] → more ≡ last ++ object_joinings first.objects second.objects → new ≡ more ++ array_joinings first.arrays second.arrays → Moves table table (Join p) old new numbers numbers
  kinds_lead first second last more h begun further made =
      let found = found_in table numbers in
      let objects = object_joinings first.objects second.objects in
      let arrays = array_joinings first.arrays second.arrays in
      let joins : kinds_joins (kinds_over table first) (kinds_over table second) ≡ part_joins a b = ap (λ s. kinds_joins s (kinds_over table second)) h.apart.0 ∙ ap (kinds_joins (kept a)) h.apart.1 in
      let same : parts_cost cost_of (kinds_over table first) (kinds_over table second) ≡ parts_cost cost_of (kept a) (kept b) = ap (λ s. parts_cost cost_of s (kinds_over table second)) h.apart.0 ∙ ap (parts_cost cost_of (kept a)) h.apart.1 in
      let whole : new ≡ old ++ Finish p (length numbers) ∷ (objects ++ arrays) =
      made ∙ ap (λ tasks. tasks ++ arrays) (further ∙ ap (λ tasks. tasks ++ objects) begun ∙ append_assoc old (Finish p (length numbers) ∷ []) objects) ∙ append_assoc old (Finish p (length numbers) ∷ objects) arrays in
      parts-lead (objects ++ arrays) (kinds_parts table first second found h.apart.2 h.apart.3) (kinds_done table first second found ∙ ap (λ all. found ++ all) joins) (omega (arith, kinds_work table first second found, same, kept-cheaper a b)) whole
