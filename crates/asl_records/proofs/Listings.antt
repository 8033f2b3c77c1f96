-- Listing the shapes of a certificate: a task done, all of them, and the places of numbers.
use Rattle.std.proofs.Common.{◌≡◌, ◌≢◌, ◌<◌, ℕ, suc, List, [], ◌∷◌, ◌++◌, length, map, get_or, set, Bool, true, false, if◌then◌else◌, is_some, Option, Some, None, option_map, refl, sym, ap, ◌∙◌, subst, ◌⊎◌, inl, inr, arith, append-nil}
use Rattle.std.proofs.lemmas.Bool.{cases_eq}
use Rattle.std.proofs.lemmas.List.{map-append, length-map, length-set, get_or-set_same, get_or-set_other}
use Rattle.std.specs.List.{AllByRecursion}
use Rattle.std.specs.Prelude.{IfSome}
use Rattle.asl_model.specs.Shape.{Shape, IsProperShape}
use Rattle.asl_model.specs.WrittenNumbered.{same_shape, place_of, with_last, is_listed, list_after, list_after_all, list_after_states}
use Rattle.asl_model.proofs.SameShapes.{same_are, same_itself}
use Rattle.asl_model.proofs.Listing.{AreBehind, goes_last, proper_all}
use Rattle.asl_numbered.specs.Expansion.{shape_at, numbers_in, AreBelow, AreDistinct}
use Rattle.asl_numbered.specs.TakenApart.{AreArraysIfAny, AreObjectsIfAny, AreKindsAt}
use Rattle.asl_numbered.specs.declared.kinds.NodeArrays.{NodeArrays}
use Rattle.asl_numbered.specs.declared.kinds.NodeKinds.{NodeKinds}
use Rattle.asl_numbered.specs.declared.kinds.NodeObjects.{NodeObjects}
use Rattle.asl_numbered.specs.Laws.{below-append, below-behind, below-front, below-wider}
use Rattle.asl_records.specs.Numbered.{numbered_entries, AreEntriesBelow}
use Rattle.asl_records.specs.Listing.{IsPlaced, IsListing, Opens, Puts, array_visits, listed_shapes, object_visits, task_if, tasks_at, visits}
use Rattle.asl_records.specs.declared.listing.Listing.{Listing}
use Rattle.asl_records.specs.declared.listing.Task.{Task}
use Rattle.asl_records.specs.declared.listing.Task.TheVariants.{Visit, List as Put}
use Rattle.asl_records.specs.Laws.{Entry}
use Rattle.asl_records.proofs.Walks.{step_of, steps_of, done, all_done, AreEachFed, done-append, fed-append, fed-front, fed-behind, work, work-append, some_cost, tasks_done, tasks_fed, tasks_work, nothing_more}

-- the number of a task
abbrev pub number_of : Task → ℕ
number_of (Visit n) = n
number_of (Put n) = n

-- the tasks can be done, and end with that list
pub record IsGoing (table : List Shape) (final : List Shape) (tasks : List Task) (listing : Listing) : Type 0 where
  pub placed : IsPlaced table listing
  pub within : AreBelow (length table) (map number_of tasks)
  pub behind : AreBehind [] (listed_shapes table listing)
  pub fed : AreEachFed (steps_of table tasks) (listed_shapes table listing)
  pub same : all_done (steps_of table tasks) (listed_shapes table listing) ≡ final

-- ---- the beginning and the end

-- the parts of what is listed are listed
pub listing_behind : (table : List Shape) (listing : Listing) → IsListing table listing → AreBehind [] (listed_shapes table listing)
listing_behind table listing h = subst (AreBehind []) (sym h.listed) (proper_all [] h.seen tt h.proper).0.behind

pub begun : (table : List Shape) (listing : Listing) (n : ℕ) (none tasks : List Task) → IsListing table listing → n < length table → ((m : ℕ) → IsProperShape (shape_at table m)) → none ≡ [] → tasks ≡ none ++ Visit n ∷ []
    → IsGoing table (list_after (listed_shapes table listing) (shape_at table n)) tasks listing
begun table listing n none tasks h within proper empty made =
    rw (made, empty) (record { placed = h.placed; within = (within, tt); behind = listing_behind table listing h; fed = (proper n, tt); same = refl })

-- one more shape was gone through
all-last : (before seen : List Shape) (s : Shape) → list_after_all before (seen ++ s ∷ []) ≡ list_after (list_after_all before seen) s
all-last before [] s = refl
all-last before (t ∷ seen) s = all-last (list_after before t) seen s

proper-last : (seen : List Shape) (s : Shape) → AllByRecursion IsProperShape seen → IsProperShape s → AllByRecursion IsProperShape (seen ++ s ∷ [])
proper-last [] s h own = (own, tt)
proper-last (t ∷ seen) s h own = (h.0, proper-last seen s h.1 own)

pub ended : (table : List Shape) (old new : Listing) (s : Shape) (tasks : List Task) → IsListing table old → IsProperShape s → tasks ≡ [] → IsGoing table (list_after (listed_shapes table old) s) tasks new → IsListing table new × (listed_shapes table new ≡ list_after (listed_shapes table old) s)
ended table old new s tasks h proper none going =
    let same : listed_shapes table new ≡ list_after (listed_shapes table old) s = subst (λ ts. all_done (steps_of table ts) (listed_shapes table new) ≡ list_after (listed_shapes table old) s) none going.same in (
      record {
        placed = going.placed;
        seen = h.seen ++ s ∷ [];
        proper = proper-last h.seen s h.proper proper;
        listed = same ∙ ap (λ l. list_after l s) h.listed ∙ sym (all-last [] h.seen s);
      },
      same,
    )

-- ---- one task

module _ (table : List Shape) (final : List Shape) (tasks front : List Task) (t : Task) (listing : Listing) (split : tasks ≡ front ++ t ∷ []) (going : IsGoing table final tasks listing) where
  abbrev shown : List Shape
  shown = listed_shapes table listing

  numbers : AreBelow (length table) (map number_of front ++ number_of t ∷ [])
  numbers = subst (AreBelow (length table)) (ap (map number_of) split ∙ map-append number_of front (t ∷ [])) going.within

  steps : steps_of table tasks ≡ steps_of table front ++ step_of table t ∷ []
  steps = ap (steps_of table) split ∙ map-append (step_of table) front (t ∷ [])

  fed : AreEachFed (steps_of table front ++ step_of table t ∷ []) shown
  fed = subst (λ ss. AreEachFed ss shown) steps going.fed

  pub last_within : number_of t < length table
  last_within = (below-behind (length table) (map number_of front) (number_of t ∷ []) numbers).0

  pub last_fed : AreEachFed (step_of table t ∷ []) shown
  last_fed = fed-behind (steps_of table front) (step_of table t ∷ []) shown fed

  -- the task is replaced by others, which end with the same
  pub go_on : (added new : List Task) (next : Listing) → new ≡ front ++ added → IsPlaced table next → AreBehind [] (listed_shapes table next) → AreBelow (length table) (map number_of added) → AreEachFed (steps_of table added) (listed_shapes table next)
      → all_done (steps_of table added) (listed_shapes table next) ≡ done (step_of table t) shown → IsGoing table final new next
  go_on added new next made placed behind below own same =
      let parts : steps_of table new ≡ steps_of table front ++ steps_of table added = ap (steps_of table) made ∙ map-append (step_of table) front added in
      let after = listed_shapes table next in
      let rest = fed-front (steps_of table front) (step_of table t ∷ []) shown fed in
      record {
        placed = placed;
        within = subst (AreBelow (length table)) (sym (ap (map number_of) made ∙ map-append number_of front added)) (below-append (length table) (map number_of front) (map number_of added) (below-front (length table) (map number_of front) (number_of t ∷ []) numbers) below);
        behind = behind;
        fed = subst (λ ss. AreEachFed ss after) (sym parts) (fed-append (steps_of table front) (steps_of table added) after (subst (AreEachFed (steps_of table front)) (sym same) rest) own);
        same =
            ap (λ ss. all_done ss after) parts ∙ done-append (steps_of table front) (steps_of table added) after
            ∙ ap (all_done (steps_of table front)) same
            ∙ sym (done-append (steps_of table front) (step_of table t ∷ []) shown)
            ∙ sym (ap (λ ss. all_done ss shown) steps)
            ∙ going.same;
      }

  pub less : (added new : List Task) → new ≡ front ++ added → work (steps_of table added) < work (step_of table t ∷ []) → work (steps_of table new) < work (steps_of table tasks)
  less added new made h =
      let parts : steps_of table new ≡ steps_of table front ++ steps_of table added = ap (steps_of table) made ∙ map-append (step_of table) front added in
      rw (parts, steps, work-append (steps_of table front) (steps_of table added), work-append (steps_of table front) (step_of table t ∷ [])) (omega (arith, h))

-- ---- going through a shape

visits_below : (bound : ℕ) (ns : List ℕ) → AreBelow bound ns → AreBelow bound (map number_of (visits ns))
visits_below bound [] h = tt
visits_below bound (n ∷ ns) h = subst (AreBelow bound) (sym (map-append number_of (visits ns) (Visit n ∷ []))) (below-append bound (map number_of (visits ns)) (n ∷ []) (visits_below bound ns h.1) (h.0, tt))

arrays_below : (table : List Shape) (bound n : ℕ) (arrays : Option NodeArrays) → n < bound → AreArraysIfAny table n arrays → AreBelow bound (map number_of (array_visits arrays))
arrays_below table bound n None h at = tt
arrays_below table bound n (Some arrays) h at =
    (omega (arith, h, at.within, at.rest), visits_below bound arrays.first.now (below-wider arrays.number bound arrays.first.now (omega (arith, h, at.within)) at.first))

objects_below : (table : List Shape) (bound n : ℕ) (objects : Option NodeObjects) → n < bound → AreObjectsIfAny table n objects → AreBelow bound (map number_of (object_visits objects))
objects_below table bound n None h at = tt
objects_below table bound n (Some objects) h at =
    let numbers = numbers_in objects.fields.now.entries in
    visits_below bound numbers (below-wider objects.number bound numbers (omega (arith, h, at.within)) at.fields)

itself_below : (bound n : ℕ) (wanted : Bool) → n < bound → AreBelow bound (map number_of (task_if wanted (Put n)))
itself_below bound n true h = (h, tt)
itself_below bound n false h = tt

tasks_below : (table : List Shape) (bound n : ℕ) (kinds : Option NodeKinds) → n < bound → IfSome kinds (AreKindsAt table n) → AreBelow bound (map number_of (tasks_at table n kinds))
tasks_below table bound n None h lends = tt
tasks_below table bound n (Some kinds) h lends =
    let front = task_if (is_listed (shape_at table n)) (Put n) in
    let objects = object_visits kinds.objects in
    let arrays = array_visits kinds.arrays in
    rw (map-append number_of front (objects ++ arrays), map-append number_of objects arrays)
    (below-append bound (map number_of front) (map number_of objects ++ map number_of arrays) (itself_below bound n (is_listed (shape_at table n)) h)
    (below-append bound (map number_of objects) (map number_of arrays) (objects_below table bound n kinds.objects h lends.objects) (arrays_below table bound n kinds.arrays h lends.arrays)))

module _ (table : List Shape) (final : List Shape) (tasks front new : List Task) (n : ℕ) (listing : Listing) (split : tasks ≡ front ++ Visit n ∷ []) (opens : Opens (get_or listing.places.items n None) table n front new) (going : IsGoing table final tasks listing) where
  within-table : n < length table
  within-table = last_within table final tasks front (Visit n) listing split going

  none-added : (new : List Task) → new ≡ front → new ≡ front ++ []
  none-added new same = same ∙ sym (append-nil front)

  pub visited : ((m : ℕ) → IsProperShape (shape_at table m)) → IsGoing table final new listing
  visited proper = by (get_or listing.places.items n None) refl opens
    where
      shown : List Shape
      shown = listed_shapes table listing

      by : (o : Option ℕ) → get_or listing.places.items n None ≡ o → Opens o table n front new → IsGoing table final new listing
      by (Some place) is same =
          let s = shape_at table n in
          let at : place_of s shown ≡ Some place = sym (going.placed.places n within-table) ∙ is in
          let idle = nothing_more shown s going.behind (λ _. (place, at)) in
          go_on table final tasks front (Visit n) listing split going [] new listing (none-added new same) going.placed going.behind tt tt (sym idle)
      by None is opened =
          let kinds = opened.kinds in
          let over = tasks_done table n kinds shown opened.shown ∙ ap (list_after shown) opened.shown in
          go_on table final tasks front (Visit n) listing split going (tasks_at table n kinds) new listing opened.put going.placed going.behind (tasks_below table (length table) n kinds within-table opened.below) (tasks_fed table n kinds shown proper going.behind opened.shown) over

  pub visited_less : work (steps_of table new) < work (steps_of table tasks)
  visited_less = by (get_or listing.places.items n None) opens
    where
      by : (o : Option ℕ) → Opens o table n front new → work (steps_of table new) < work (steps_of table tasks)
      by (Some place) same = less table final tasks front (Visit n) listing split going [] new (none-added new same) (omega (arith, some_cost (shape_at table n)))
      by None opened = less table final tasks front (Visit n) listing split going (tasks_at table n opened.kinds) new opened.put (rw (← opened.shown) (omega (arith, tasks_work table n opened.kinds)))

-- ---- listing a shape

place_other : (s t : Shape) (listed : List Shape) → same_shape s t ≡ false → place_of s (listed ++ t ∷ []) ≡ place_of s listed
place_other s t [] differs = rw differs refl
place_other s t (u ∷ listed) differs = ap (λ o. if same_shape s u then Some 0 else option_map suc o) (place_other s t listed differs)

place_own : (s : Shape) (listed : List Shape) → place_of s listed ≡ None → place_of s (listed ++ s ∷ []) ≡ Some (length listed)
place_own s [] none = rw (same_itself s) refl
place_own s (u ∷ listed) none = go (same_shape s u) (place_of s listed) (place_own s listed) none
  where
    go : (b : Bool) (o : Option ℕ) → (o ≡ None → place_of s (listed ++ s ∷ []) ≡ Some (length listed)) → (if b then Some 0 else option_map suc o) ≡ None → (if b then Some 0 else option_map suc (place_of s (listed ++ s ∷ []))) ≡ Some (suc (length listed))
    go true o further e = absurd (cc)
    go false None further e = ap (option_map suc) (further refl)
    go false (Some i) further e = absurd (cc)

module _ (table : List Shape) (old new : Listing) (n : ℕ) (distinct : AreDistinct table) (within : n < length table) (placed : IsPlaced table old) (free : get_or old.places.items n None ≡ None) (order : new.order.items ≡ old.order.items ++ n ∷ []) (places : new.places.items ≡ set old.places.items n (Some (length old.order.items))) where
  abbrev shape : ℕ → Shape
  shape m = shape_at table m

  fresh : place_of (shape n) (listed_shapes table old) ≡ None
  fresh = sym (placed.places n within) ∙ free

  one_more : listed_shapes table new ≡ listed_shapes table old ++ shape n ∷ []
  one_more = ap (map shape) order ∙ map-append shape old.order.items (n ∷ [])

  pub listed_last : listed_shapes table new ≡ with_last (shape n) (listed_shapes table old)
  listed_last = one_more ∙ rw fresh refl

  apart : (m : ℕ) → m < length table → m ≢ n → same_shape (shape m) (shape n) ≡ false
  apart m h other = go (same_shape (shape m) (shape n)) refl
    where
      go : (b : Bool) → same_shape (shape m) (shape n) ≡ b → b ≡ false
      go true is = absurd (other (distinct.apart m n h within (same_are (shape m) (shape n) is)))
      go false is = refl

  elsewhere : (m : ℕ) → m < length table → m ≢ n → get_or new.places.items m None ≡ place_of (shape m) (listed_shapes table new)
  elsewhere m h other =
      ap (λ ps. get_or ps m None) places ∙ get_or-set_other old.places.items n m (Some (length old.order.items)) None other ∙ placed.places m h
      ∙ sym (place_other (shape m) (shape n) (listed_shapes table old) (apart m h other)) ∙ ap (place_of (shape m)) (sym one_more)

  here : get_or new.places.items n None ≡ place_of (shape n) (listed_shapes table new)
  here =
      ap (λ ps. get_or ps n None) places ∙ get_or-set_same old.places.items n (Some (length old.order.items)) None (omega (arith, within, placed.counted))
      ∙ ap Some (sym (length-map old.order.items shape))
      ∙ sym (place_own (shape n) (listed_shapes table old) fresh) ∙ ap (place_of (shape n)) (sym one_more)

  pub placed_next : IsPlaced table new
  placed_next = record {
    below = subst (AreBelow (length table)) (sym order) (below-append (length table) old.order.items (n ∷ []) placed.below (within, tt));
    counted = ap length places ∙ length-set old.places.items n (Some (length old.order.items)) ∙ placed.counted;
    places = λ m h. by m h (cases_eq m n);
  }
    where
      by : (m : ℕ) → m < length table → (m ≡ n) ⊎ (m ≢ n) → get_or new.places.items m None ≡ place_of (shape m) (listed_shapes table new)
      by m h (inl same) = subst (λ k. get_or new.places.items k None ≡ place_of (shape k) (listed_shapes table new)) (sym same) here
      by m h (inr other) = elsewhere m h other

pub put_down : (table : List Shape) (final : List Shape) (tasks front : List Task) (n : ℕ) (old new : Listing) → tasks ≡ front ++ Put n ∷ [] → AreDistinct table → IsGoing table final tasks old → Puts (get_or old.places.items n None) n old new → IsGoing table final front new
put_down table final tasks front n old new split distinct going puts = by (get_or old.places.items n None) refl puts
  where
    within : n < length table
    within = last_within table final tasks front (Put n) old split going

    s : Shape
    s = shape_at table n

    shown : List Shape
    shown = listed_shapes table old

    end : front ≡ front ++ []
    end = sym (append-nil front)

    by : (o : Option ℕ) → get_or old.places.items n None ≡ o → Puts o n old new → IsGoing table final front new
    by (Some place) is same =
        let at : place_of s shown ≡ Some place = sym (going.placed.places n within) ∙ is in
        let still : shown ≡ with_last s shown = sym (ap (λ o. if is_some o then shown else shown ++ s ∷ []) at) in
        subst (IsGoing table final front) (sym same) (go_on table final tasks front (Put n) old split going [] front old end going.placed going.behind tt tt still)
    by None is next =
        let placed = placed_next table old new n distinct within going.placed is next.0 next.1 in
        let last = listed_last table old new n distinct within going.placed is next.0 next.1 in
        let own = (last_fed table final tasks front (Put n) old split going).0 in
        let goes = (goes_last shown s going.behind own.1 own.0).0 in
        go_on table final tasks front (Put n) old split going [] front new end placed (subst (AreBehind []) (sym last) goes.behind) tt tt last

pub put_less : (table : List Shape) (final : List Shape) (tasks front : List Task) (n : ℕ) (listing : Listing) → tasks ≡ front ++ Put n ∷ [] → IsGoing table final tasks listing → work (steps_of table front) < work (steps_of table tasks)
put_less table final tasks front n listing split going = less table final tasks front (Put n) listing split going [] front (sym (append-nil front)) (omega arith)

-- ---- several shapes

-- those of the numbers that are left are to be gone through, and then that list is made
pub record ListsAll (table : List Shape) (final : List Shape) (left : List ℕ) (listing : Listing) : Type 0 where
  pub is : IsListing table listing
  pub below : AreBelow (length table) left
  pub same : list_after_all (listed_shapes table listing) (map (shape_at table) left) ≡ final

pub next_listed : (table : List Shape) (final : List Shape) (now left : List ℕ) (n : ℕ) (old new : Listing) → now ≡ n ∷ left → ListsAll table final now old → IsListing table new → listed_shapes table new ≡ list_after (listed_shapes table old) (shape_at table n) → ListsAll table final left new
next_listed table final now left n old new split h is made =
    let so_far : ListsAll table final (n ∷ left) old = subst (λ ns. ListsAll table final ns old) split h in
    record {
      is = is;
      below = so_far.below.1;
      same = ap (λ l. list_after_all l (map (shape_at table) left)) made ∙ so_far.same;
    }

pub next_number : (table : List Shape) (final : List Shape) (now left : List ℕ) (n : ℕ) (listing : Listing) → now ≡ n ∷ left → ListsAll table final now listing → n < length table
next_number table final now left n listing split h = (subst (AreBelow (length table)) split h.below).0

-- so for the shapes of states
pub record ListsStates (table : List Shape) (final : List Shape) (left : List Entry) (listing : Listing) : Type 0 where
  pub is : IsListing table listing
  pub below : AreEntriesBelow (length table) left
  pub same : list_after_states (listed_shapes table listing) (numbered_entries table left) ≡ final

pub states_begun : (table : List Shape) (all left : List Entry) (listing : Listing) (before : List Shape) → left ≡ all → AreEntriesBelow (length table) all → IsListing table listing → listed_shapes table listing ≡ before → ListsStates table (list_after_states before (numbered_entries table all)) left listing
states_begun table all left listing before same below is made =
    rw same (record { is = is; below = below; same = ap (λ l. list_after_states l (numbered_entries table all)) made })
