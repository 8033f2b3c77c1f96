-- The joins of shapes of a table, by their numbers: what is remembered, and what tasks do.
use Rattle.std.proofs.Common.{◌≡◌, ◌<◌, ◌≤◌, ◌+◌, ℕ, zero, suc, max, List, [], ◌∷◌, ◌++◌, length, drop, Bool, true, false, Option, Some, None, refl, sym, ap, ◌∙◌, subst, arith, ◌⊎◌, inl, inr, min, append_assoc, bytes_eq}
use Rattle.std.proofs.lemmas.Bool.{cases_lt}
use Rattle.std.proofs.lemmas.List.{append-nil, map-append}
use Rattle.std.specs.BTreeMap.{is_at}
use Rattle.std.specs.Map.{lookup}
use Rattle.std.specs.Prelude.{if◌then◌else◌}
use Rattle.indexmap.specs.IndexMap.{insert_entry}
use Rattle.asl_model.specs.Shape as model
use Rattle.asl_model.specs.Shape.{Shape, Any, OfKinds, Arrays, WithoutArrays, ArraysOf, Objects, WithoutObjects, ObjectsOf, Shapes, NoShapes, AndShape, FieldShapes, NoFieldShapes, AndFieldShape, inhabited}
use Rattle.asl_model.specs.ShapeOrder.{depth, depth_of_arrays, depth_of_objects, depth_of_elements, depth_of_fields, mention_of, further_places, common_joins, joined_with_each, join}
use Rattle.asl_model.proofs.JoinFuel.{one_deep, further-low, join-low, join_each-low, join-first_uninhabited, join-second_uninhabited}
use Rattle.asl_numbered.specs.declared.node.NodeField.{NodeField}
use Rattle.asl_numbered.specs.declared.pair.Pair.{Pair}
use Rattle.asl_numbered.specs.declared.joining.JoinTask.{JoinTask}
use Rattle.asl_numbered.specs.declared.joining.JoinTask.TheVariants.{Join, Nothing, With, Finish}
use Rattle.asl_shape.specs.View.{shapes_of}
use Rattle.asl_numbered.specs.Comparison.{IsWithin}
use Rattle.asl_numbered.specs.Expansion.{shape_at, shapes_at, Keeps, Shows}
use Rattle.asl_numbered.specs.Joins.{joint, IsJoin, AreJoins, place_joins, Step, JoinStep, NothingStep, WithStep, step_of, steps_of, joined_last, done, all_done, IsFed, AreEachFed, places_cost, each_cost, rest_cost, with_field_cost, fields_cost, arrays_cost, objects_cost, parts_cost, cost_within, cost_of, last_of, step_cost, work_left, place_joinings, joinings_with, field_joinings, field_joining, found_in, AreEachTasksWithin, AreLeft, Moves}
use Rattle.asl_numbered.proofs.Comparisons.{within_kept}
use Rattle.asl_numbered.proofs.Remembered.{same, each_kept, each_put, each_found}
use Rattle.asl_numbered.specs.Laws.{keeps_longer, kept_shape}
use Rattle.asl_numbered.specs.Names.{Name, name_cmp}

-- ---- what is remembered

shows_kept : (old new : List Shape) (s : Shape) (n : ℕ) → Keeps old new → Shows old s n → Shows new s n
shows_kept old new s n keeps h =
    let longer = keeps_longer old new keeps in
    record { within = omega (arith, h.within); same = kept_shape old new n keeps h.within ∙ h.same }

pub joint_kept : (old new : List Shape) (p : Pair) → Keeps old new → IsWithin old p → joint new p ≡ joint old p
joint_kept old new p keeps h = rw (kept_shape old new p.first keeps h.first, kept_shape old new p.second keeps h.second) refl

-- in a table that has grown it stays right
pub joins_kept : (old new : List Shape) (entries : List (Pair × ℕ)) → Keeps old new → AreJoins old entries → AreJoins new entries
joins_kept old new entries keeps h = record { each = each_kept (IsJoin old) (IsJoin new) entries kept h.each }
  where
    kept : (e : Pair × ℕ) → IsJoin old e → IsJoin new e
    kept e is =
        (within_kept old new e.0 keeps is.0, subst (λ s. Shows new s e.1) (sym (joint_kept old new e.0 keeps is.0)) (shows_kept old new (joint old e.0) e.1 keeps is.1))

-- one more, or another number for its pair
pub joins_put : (table : List Shape) (entries new : List (Pair × ℕ)) (p : Pair) (n : ℕ) → IsWithin table p → Shows table (joint table p) n → AreJoins table entries → new ≡ insert_entry same entries p n → AreJoins table new
joins_put table entries new p n within is h made = rw made (record { each = each_put (IsJoin table) entries p n (within, is) h.each })

-- a number that is found is right
pub joins_found : (table : List Shape) (entries : List (Pair × ℕ)) (p : Pair) (n : ℕ) → AreJoins table entries → lookup (same p) entries ≡ Some n → Shows table (joint table p) n
joins_found table entries p n h found = (each_found (IsJoin table) entries p n h.each found).1

-- ---- steps behind others

pub done_append : (front more : List Step) (found : List Shape) → all_done (front ++ more) found ≡ all_done front (all_done more found)
done_append [] more found = refl
done_append (step ∷ front) more found = ap (done step) (done_append front more found)

pub work_append : (front more : List Step) (found : List Shape) → work_left (front ++ more) found ≡ work_left front (all_done more found) + work_left more found
work_append [] more found = omega arith
work_append (step ∷ front) more found = rw (work_append front more found, done_append front more found) (omega arith)

fed_append : (front more : List Step) (found : List Shape) → AreEachFed front (all_done more found) → AreEachFed more found → AreEachFed (front ++ more) found
fed_append [] more found h further = further
fed_append (step ∷ front) more found h further = (subst (IsFed step) (sym (done_append front more found)) h.0, fed_append front more found h.1 further)

-- the last of some shapes
pub joined_behind : (s t : Shape) (found : List Shape) → joined_last s (found ++ t ∷ []) ≡ found ++ join t s ∷ []
joined_behind s t [] = refl
joined_behind s t (u ∷ []) = refl
joined_behind s t (u ∷ v ∷ found) = ap (λ x. u ∷ x) (joined_behind s t (v ∷ found))

pub last_behind : (t : Shape) (found : List Shape) → last_of (found ++ t ∷ []) ≡ t
last_behind t [] = refl
last_behind t (u ∷ []) = refl
last_behind t (u ∷ v ∷ found) = last_behind t (v ∷ found)

-- ---- joins with places, one after another

steps-last : (table : List Shape) (n : ℕ) (ns : List ℕ) → steps_of table (joinings_with (n ∷ ns)) ≡ steps_of table (joinings_with ns) ++ WithStep (shape_at table n) ∷ []
steps-last table n ns = map-append (step_of table) (joinings_with ns) (With n ∷ [])

pub with_each : (table : List Shape) (ns : List ℕ) (t : Shape) (found : List Shape) → all_done (steps_of table (joinings_with ns)) (found ++ t ∷ []) ≡ found ++ joined_with_each join t (shapes_at table ns) ∷ []
with_each table [] t found = refl
with_each table (n ∷ ns) t found =
    ap (λ steps. all_done steps (found ++ t ∷ [])) (steps-last table n ns)
    ∙ done_append (steps_of table (joinings_with ns)) (WithStep (shape_at table n) ∷ []) (found ++ t ∷ [])
    ∙ ap (all_done (steps_of table (joinings_with ns))) (joined_behind (shape_at table n) t found)
    ∙ with_each table ns (join t (shape_at table n)) found

pub with_each_work : (table : List Shape) (ns : List ℕ) (t : Shape) (found : List Shape) → work_left (steps_of table (joinings_with ns)) (found ++ t ∷ []) ≡ each_cost cost_of t (shapes_at table ns)
with_each_work table [] t found = refl
with_each_work table (n ∷ ns) t found =
    let s = shape_at table n in
    let steps = steps_of table (joinings_with ns) in
    let split : work_left (steps_of table (joinings_with (n ∷ ns))) (found ++ t ∷ []) ≡ work_left steps (joined_last s (found ++ t ∷ [])) + (1 + cost_of (last_of (found ++ t ∷ [])) s + 0) =
    ap (λ all. work_left all (found ++ t ∷ [])) (steps-last table n ns) ∙ work_append steps (WithStep s ∷ []) (found ++ t ∷ []) in
    let front : work_left steps (joined_last s (found ++ t ∷ [])) ≡ each_cost cost_of (join t s) (shapes_at table ns) =
    ap (work_left steps) (joined_behind s t found) ∙ with_each_work table ns (join t s) found in
    let last : cost_of (last_of (found ++ t ∷ [])) s ≡ cost_of t s = ap (λ x. cost_of x s) (last_behind t found) in
    omega (arith, split, front, last)

-- ---- what is there at once

pub second_shown : (table : List Shape) (p : Pair) (flag : Bool) → IsWithin table p → flag ≡ inhabited (shape_at table p.first) → flag ≡ false → Shows table (joint table p) p.second
second_shown table p flag within is none =
    record { within = within.second; same = sym (join-first_uninhabited (shape_at table p.first) (shape_at table p.second) (sym is ∙ none)) }

pub first_shown : (table : List Shape) (p : Pair) (some flag : Bool) → IsWithin table p → some ≡ inhabited (shape_at table p.first) → some ≡ true → flag ≡ inhabited (shape_at table p.second) → flag ≡ false → Shows table (joint table p) p.first
first_shown table p some flag within own there is none =
    record { within = within.first; same = sym (join-second_uninhabited (shape_at table p.first) (shape_at table p.second) (sym own ∙ there) (sym is ∙ none)) }

-- ---- tasks that are put down

none-beside : (ps : List ℕ) → place_joinings ps [] ≡ []
none-beside [] = refl
none-beside (p ∷ ps) = refl

no-places : (k : ℕ) (ps os : List ℕ) → (length ps ≤ k) ⊎ (length os ≤ k) → place_joinings (drop k ps) (drop k os) ≡ []
no-places zero [] os h = refl
no-places zero (p ∷ ps) [] h = refl
no-places zero (p ∷ ps) (o ∷ os) (inl h) = absurd (omega (arith, h))
no-places zero (p ∷ ps) (o ∷ os) (inr h) = absurd (omega (arith, h))
no-places (suc k) [] os h = refl
no-places (suc k) (p ∷ ps) [] h = none-beside (drop k ps)
no-places (suc k) (p ∷ ps) (o ∷ os) (inl h) = no-places k ps os (inl (omega (arith, h)))
no-places (suc k) (p ∷ ps) (o ∷ os) (inr h) = no-places k ps os (inr (omega (arith, h)))

-- none is put down so far, where one of the two has no further place
pub none_put : (tasks : List JoinTask) (ps os : List ℕ) (k : ℕ) → k ≡ min (length ps) (length os) → tasks ≡ tasks ++ place_joinings (drop k ps) (drop k os)
none_put tasks ps os k is = sym (ap (λ more. tasks ++ more) (no-places k ps os (past (cases_lt (length ps) (length os)))) ∙ append-nil tasks)
  where
    past : (length ps < length os) ⊎ (length os ≤ length ps) → (length ps ≤ k) ⊎ (length os ≤ k)
    past (inl h) = inl (omega (arith, is, h))
    past (inr h) = inr (omega (arith, is, h))

-- a field that the other object doesn't mention
pub field_skipped : (tasks base : List JoinTask) (e : Name × NodeField) (fields others : List (Name × NodeField)) → tasks ≡ base ++ field_joinings fields others → lookup (is_at (name_cmp e.0)) others ≡ None → tasks ≡ base ++ field_joinings (e ∷ fields) others
field_skipped tasks base e fields others so_far none =
    so_far ∙ ap (λ more. base ++ more) (sym (ap (λ o. field_joinings fields others ++ field_joining e.1 o) none ∙ append-nil (field_joinings fields others)))

-- ---- joins place by place

places-last : (table : List Shape) (p o : ℕ) (ps os : List ℕ) → steps_of table (place_joinings (p ∷ ps) (o ∷ os)) ≡ steps_of table (place_joinings ps os) ++ JoinStep (shape_at table p) (shape_at table o) ∷ []
places-last table p o ps os = map-append (step_of table) (place_joinings ps os) (Join (record { first = p; second = o }) ∷ [])

pub places_each : (table : List Shape) (ps os : List ℕ) (found : List Shape) → all_done (steps_of table (place_joinings ps os)) found ≡ found ++ place_joins (shapes_at table ps) (shapes_at table os)
places_each table [] os found = sym (append-nil found)
places_each table (p ∷ ps) [] found = sym (append-nil found)
places_each table (p ∷ ps) (o ∷ os) found =
    let a = shape_at table p in
    let b = shape_at table o in
    let steps = steps_of table (place_joinings ps os) in
    ap (λ all. all_done all found) (places-last table p o ps os)
    ∙ done_append steps (JoinStep a b ∷ []) found
    ∙ places_each table ps os (found ++ join a b ∷ [])
    ∙ append_assoc found (join a b ∷ []) (place_joins (shapes_at table ps) (shapes_at table os))

pub places_each_work : (table : List Shape) (ps os : List ℕ) (found : List Shape) → work_left (steps_of table (place_joinings ps os)) found ≡ places_cost cost_of (shapes_at table ps) (shapes_at table os)
places_each_work table [] os found = refl
places_each_work table (p ∷ ps) [] found = refl
places_each_work table (p ∷ ps) (o ∷ os) found =
    let a = shape_at table p in
    let b = shape_at table o in
    let steps = steps_of table (place_joinings ps os) in
    let split : work_left (steps_of table (place_joinings (p ∷ ps) (o ∷ os))) found ≡ work_left steps (found ++ join a b ∷ []) + (cost_of a b + 0) =
    ap (λ all. work_left all found) (places-last table p o ps os) ∙ work_append steps (JoinStep a b ∷ []) found in
    omega (arith, split, places_each_work table ps os (found ++ join a b ∷ []))

-- ---- how much is left to do

-- where a join of shapes that are at most so deep takes no more steps by the one count than by the other
record AtMost (k : ℕ) (f g : Shape → Shape → ℕ) : Type 0 where
  pub most : (a b : Shape) → depth a ≤ k → depth b ≤ k → f a b ≤ g a b

-- the mention of a field, if there is one, is no deeper
abbrev MentionLow : ℕ → Option (Bool × Shape) → Type 0
MentionLow k None = Unit {0}
MentionLow k (Some m) = depth m.1 ≤ k

mention-low : (k : ℕ) (n : List ℕ) (shapes : FieldShapes) → depth_of_fields shapes ≤ k → MentionLow k (mention_of n shapes)
mention-low k n NoFieldShapes h = tt
mention-low k n (AndFieldShape m needed s shapes) h = go (bytes_eq m n) (mention-low k n shapes (omega (arith, h)))
  where
    go : (here : Bool) → MentionLow k (mention_of n shapes) → MentionLow k (if here then Some (needed, s) else mention_of n shapes)
    go true below = omega (arith, h)
    go false below = below

module _ (f g : Shape → Shape → ℕ) (k : ℕ) (less : AtMost k f g) where
  places-less : (first others : Shapes) → depth_of_elements first ≤ k → depth_of_elements others ≤ k → places_cost f first others ≤ places_cost g first others
  places-less NoShapes others h i = omega arith
  places-less (AndShape s first) NoShapes h i = omega arith
  places-less (AndShape s first) (AndShape other others) h i =
      let here = less.most s other (omega (arith, h)) (omega (arith, i)) in
      let behind = places-less first others (omega (arith, h)) (omega (arith, i)) in
      omega (arith, here, behind)

  each-less : (s : Shape) (others : Shapes) → depth s ≤ k → depth_of_elements others ≤ k → each_cost f s others ≤ each_cost g s others
  each-less s NoShapes h i = omega arith
  each-less s (AndShape other others) h i =
      let fits : depth other ≤ k = omega (arith, i) in
      let here = less.most s other h fits in
      let behind = each-less (join s other) others (join-low.keeps k s other h fits) (omega (arith, i)) in
      omega (arith, here, behind)

  rest-less : (behind : Shapes) (rest further : Shape) → depth_of_elements behind ≤ k → depth rest ≤ k → depth further ≤ k → rest_cost f behind rest further ≤ rest_cost g behind rest further
  rest-less behind rest further h i j =
      let one : 1 ≤ k = omega (arith, one_deep rest, i) in
      let whole : depth (joined_with_each join model.Never behind) ≤ k = join_each-low k model.Never behind one h in
      let front = each-less model.Never behind one h in
      let middle = less.most (joined_with_each join model.Never behind) rest whole i in
      let last = less.most (join (joined_with_each join model.Never behind) rest) further (join-low.keeps k (joined_with_each join model.Never behind) rest whole i) j in
      omega (arith, front, middle, last)

  fields-less : (shapes others : FieldShapes) → depth_of_fields shapes ≤ k → depth_of_fields others ≤ k → fields_cost f shapes others ≤ fields_cost g shapes others
  fields-less NoFieldShapes others h i = omega arith
  fields-less (AndFieldShape n needed s shapes) others h i = go (mention_of n others) (mention-low k n others i) (fields-less shapes others (omega (arith, h)) i)
    where
      go : (o : Option (Bool × Shape)) → MentionLow k o → fields_cost f shapes others ≤ fields_cost g shapes others → with_field_cost f s o (fields_cost f shapes others) ≤ with_field_cost g s o (fields_cost g shapes others)
      go None low behind = behind
      go (Some m) low behind =
          let here = less.most s m.1 (omega (arith, h)) low in
          omega (arith, here, behind)

  arrays-less : (a b : Arrays) → depth_of_arrays a ≤ k → depth_of_arrays b ≤ k → arrays_cost f a b ≤ arrays_cost g a b
  arrays-less WithoutArrays b h i = omega arith
  arrays-less (ArraysOf first rest) WithoutArrays h i = omega arith
  arrays-less (ArraysOf first rest) (ArraysOf others further) h i =
      let own : depth_of_elements first ≤ k = omega (arith, h) in
      let other : depth_of_elements others ≤ k = omega (arith, i) in
      let front = places-less first others own other in
      let behind = rest-less (further_places first others) rest further (further-low k first others own other) (omega (arith, h)) (omega (arith, i)) in
      omega (arith, front, behind)

  objects-less : (a b : Objects) → depth_of_objects a ≤ k → depth_of_objects b ≤ k → objects_cost f a b ≤ objects_cost g a b
  objects-less WithoutObjects b h i = omega arith
  objects-less (ObjectsOf shapes extra) WithoutObjects h i = omega arith
  objects-less (ObjectsOf shapes extra) (ObjectsOf others more) h i = fields-less shapes others h i

  parts-less : (a b : Shape) → depth a ≤ suc k → depth b ≤ suc k → parts_cost f a b ≤ parts_cost g a b
  parts-less Any b h i = omega arith
  parts-less (OfKinds some others more) Any h i = omega arith
  parts-less (OfKinds some others more) (OfKinds simple arrays objects) h i =
      let front = arrays-less others arrays (omega (arith, h)) (omega (arith, i)) in
      let behind = objects-less more objects (omega (arith, h)) (omega (arith, i)) in
      omega (arith, front, behind)

-- a greater depth gives no smaller count
cost-deeper : (n m : ℕ) (a b : Shape) → n ≤ m → depth a ≤ n → depth b ≤ n → cost_within n a b ≤ cost_within m a b
cost-deeper zero m a b h i j = absurd (omega (arith, one_deep a, i))
cost-deeper (suc n) zero a b h i j = absurd (omega (arith, h))
cost-deeper (suc n) (suc m) a b h i j =
    let less : AtMost n (cost_within n) (cost_within m) = record { most = λ x y p q. cost-deeper n m x y (omega (arith, h)) p q } in
    let parts = parts-less (cost_within n) (cost_within m) n less a b i j in
    omega (arith, parts)

-- the joins of the parts, and two steps more, are less work than the join of the two
pub parts_cheaper : (a b : Shape) → 2 + parts_cost cost_of a b < cost_of a b
parts_cheaper a b = go (max (depth a) (depth b)) refl
  where
    go : (n : ℕ) → max (depth a) (depth b) ≡ n → 2 + parts_cost cost_of a b < cost_within n a b
    go zero at = absurd (omega (arith, one_deep a, at))
    go (suc n) at =
        let less : AtMost n cost_of (cost_within n) = record { most = λ x y p q. cost-deeper (max (depth x) (depth y)) n x y (omega (arith, p, q)) (omega arith) (omega arith) } in
        let parts = parts-less cost_of (cost_within n) n less a b (omega (arith, at)) (omega (arith, at)) in
        omega (arith, parts)

-- ---- the places that one list alone has

-- one of the two has none, and those of the other are the further places
pub behind_one : (table : List Shape) (ps os : List ℕ) → ((drop (length os) ps ≡ []) × (shapes_at table (drop (length ps) os) ≡ further_places (shapes_at table ps) (shapes_at table os))) ⊎ ((drop (length ps) os ≡ []) × (shapes_at table (drop (length os) ps) ≡ further_places (shapes_at table ps) (shapes_at table os)))
behind_one table [] [] = inl (refl, refl)
behind_one table [] (o ∷ os) = inl (refl, refl)
behind_one table (p ∷ ps) [] = inr (refl, refl)
behind_one table (p ∷ ps) (o ∷ os) = behind_one table ps os

-- one after the other they are all joined
pub behind_each : (table : List Shape) (ps os : List ℕ) (found : List Shape) → all_done (steps_of table (joinings_with (drop (length os) ps)) ++ steps_of table (joinings_with (drop (length ps) os))) (found ++ model.Never ∷ []) ≡ found ++ joined_with_each join model.Never (further_places (shapes_at table ps) (shapes_at table os)) ∷ []
behind_each table ps os found =
    done_append (steps_of table (joinings_with (drop (length os) ps))) (steps_of table (joinings_with (drop (length ps) os))) (found ++ model.Never ∷ [])
    ∙ ap (all_done (steps_of table (joinings_with (drop (length os) ps)))) (with_each table (drop (length ps) os) model.Never found)
    ∙ with_each table (drop (length os) ps) (joined_with_each join model.Never (shapes_at table (drop (length ps) os))) found
    ∙ ap (λ s. found ++ s ∷ []) (go (behind_one table ps os))
  where
    all : Shapes
    all = further_places (shapes_at table ps) (shapes_at table os)

    go : ((drop (length os) ps ≡ []) × (shapes_at table (drop (length ps) os) ≡ all)) ⊎ ((drop (length ps) os ≡ []) × (shapes_at table (drop (length os) ps) ≡ all)) → joined_with_each join (joined_with_each join model.Never (shapes_at table (drop (length ps) os))) (shapes_at table (drop (length os) ps)) ≡ joined_with_each join model.Never all
    go (inl h) = ap (λ ns. joined_with_each join (joined_with_each join model.Never (shapes_at table (drop (length ps) os))) (shapes_at table ns)) h.0 ∙ ap (joined_with_each join model.Never) h.1
    go (inr h) = ap (λ ns. joined_with_each join (joined_with_each join model.Never (shapes_at table ns)) (shapes_at table (drop (length os) ps))) h.0 ∙ ap (joined_with_each join model.Never) h.1

-- ---- the join made of the joins of its parts

pub common_places : (first others : Shapes) → shapes_of (place_joins first others) ≡ common_joins join first others
common_places NoShapes others = refl
common_places (AndShape s first) NoShapes = refl
common_places (AndShape s first) (AndShape other others) = ap (AndShape (join s other)) (common_places first others)

-- ---- the loop

steps_kept : (old new : List Shape) (tasks : List JoinTask) → Keeps old new → AreEachTasksWithin old tasks → steps_of new tasks ≡ steps_of old tasks
steps_kept old new [] keeps h = refl
steps_kept old new (Join p ∷ tasks) keeps h =
    rw (kept_shape old new p.first keeps h.0.first, kept_shape old new p.second keeps h.0.second, steps_kept old new tasks keeps h.1) refl
steps_kept old new (Nothing ∷ tasks) keeps h = ap (λ steps. NothingStep ∷ steps) (steps_kept old new tasks keeps h.1)
steps_kept old new (With n ∷ tasks) keeps h = rw (kept_shape old new n keeps h.0, steps_kept old new tasks keeps h.1) refl
steps_kept old new (Finish p start ∷ tasks) keeps h =
    rw (kept_shape old new p.first keeps h.0.first, kept_shape old new p.second keeps h.0.second, steps_kept old new tasks keeps h.1) refl

tasks_kept : (old new : List Shape) (tasks added : List JoinTask) → Keeps old new → AreEachTasksWithin old tasks → AreEachTasksWithin new added → AreEachTasksWithin new (tasks ++ added)
tasks_kept old new [] added keeps h further = further
tasks_kept old new (Join p ∷ tasks) added keeps h further = (within_kept old new p keeps h.0, tasks_kept old new tasks added keeps h.1 further)
tasks_kept old new (Nothing ∷ tasks) added keeps h further = (tt, tasks_kept old new tasks added keeps h.1 further)
tasks_kept old new (With n ∷ tasks) added keeps h further = (omega (arith, h.0, keeps_longer old new keeps), tasks_kept old new tasks added keeps h.1 further)
tasks_kept old new (Finish p start ∷ tasks) added keeps h further = (within_kept old new p keeps h.0, tasks_kept old new tasks added keeps h.1 further)

within-front : (table : List Shape) (tasks more : List JoinTask) → AreEachTasksWithin table (tasks ++ more) → AreEachTasksWithin table tasks
within-front table [] more h = tt
within-front table (task ∷ tasks) more h = (h.0, within-front table tasks more h.1)

fed-front : (front more : List Step) (found : List Shape) → AreEachFed (front ++ more) found → AreEachFed front (all_done more found)
fed-front [] more found h = tt
fed-front (step ∷ front) more found h = (subst (IsFed step) (done_append front more found) h.0, fed-front front more found h.1)

module _ (old new : List Shape) (task : JoinTask) (front left : List JoinTask) (numbers next : List ℕ) (keeps : Keeps old new) (moves : Moves old new task front left numbers next) where
  abbrev now : List Step
  now = steps_of old front

  split : steps_of old (front ++ task ∷ []) ≡ now ++ step_of old task ∷ []
  split = map-append (step_of old) front (task ∷ [])

  then_ : AreEachTasksWithin old front → steps_of new left ≡ now ++ steps_of new moves.added
  then_ within = ap (steps_of new) moves.whole ∙ map-append (step_of new) front moves.added ∙ ap (λ steps. steps ++ steps_of new moves.added) (steps_kept old new front keeps within)

  -- what is left leads to the same shape
  pub moved : (whole : Shape) → AreLeft old whole (front ++ task ∷ []) numbers → AreLeft new whole left next
  moved whole h =
      let within = within-front old front (task ∷ []) h.within in
      let fed : AreEachFed (now ++ step_of old task ∷ []) (found_in old numbers) = subst (λ steps. AreEachFed steps (found_in old numbers)) split h.fed in
      let front_fed = subst (AreEachFed now) (sym moves.same) (fed-front now (step_of old task ∷ []) (found_in old numbers) fed) in
      record {
        within = subst (AreEachTasksWithin new) (sym moves.whole) (tasks_kept old new front moves.added keeps within moves.within);
        below = moves.below;
        fed = subst (λ steps. AreEachFed steps (found_in new next)) (sym (then_ within)) (fed_append now (steps_of new moves.added) (found_in new next) front_fed moves.fed);
        same =
            ap (λ steps. all_done steps (found_in new next)) (then_ within)
            ∙ done_append now (steps_of new moves.added) (found_in new next)
            ∙ ap (all_done now) moves.same
            ∙ sym (done_append now (step_of old task ∷ []) (found_in old numbers))
            ∙ sym (ap (λ steps. all_done steps (found_in old numbers)) split)
            ∙ h.same;
      }

  -- and is less work
  pub less_work : (whole : Shape) → AreLeft old whole (front ++ task ∷ []) numbers → work_left (steps_of new left) (found_in new next) < work_left (steps_of old (front ++ task ∷ [])) (found_in old numbers)
  less_work whole h =
      let within = within-front old front (task ∷ []) h.within in
      let new_work : work_left (steps_of new left) (found_in new next) ≡ work_left now (all_done (steps_of new moves.added) (found_in new next)) + work_left (steps_of new moves.added) (found_in new next) =
      ap (λ steps. work_left steps (found_in new next)) (then_ within) ∙ work_append now (steps_of new moves.added) (found_in new next) in
      let old_work : work_left (steps_of old (front ++ task ∷ [])) (found_in old numbers) ≡ work_left now (done (step_of old task) (found_in old numbers)) + (step_cost (step_of old task) (found_in old numbers) + 0) =
      ap (λ steps. work_left steps (found_in old numbers)) split ∙ work_append now (step_of old task ∷ []) (found_in old numbers) in
      let front_work = ap (work_left now) moves.same in
      omega (arith, new_work, old_work, front_work, moves.less)
