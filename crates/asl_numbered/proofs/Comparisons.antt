-- One shape of a table inside another, by their numbers: what is remembered, tasks, places and fields.
use Rattle.std.proofs.Common.{◌≡◌, ◌<◌, ◌≤◌, ◌+◌, ◌*◌, ℕ, zero, suc, List, [], ◌∷◌, ◌++◌, length, drop, get_or, Bool, true, false, ◌&&◌, ◌||◌, not, cond, append_assoc, Option, Some, None, option_map, is_some, Result, Ok, Err, refl, sym, ap, ◌∙◌, subst, ◌⊎◌, inl, inr, arith}
use Rattle.std.proofs.Math.Bool.{and_assoc}
use Rattle.std.proofs.Math.Nat.{mul-le-mul_left}
use Rattle.std.proofs.Math.Seq.{drop-cons}
use Rattle.std.proofs.lemmas.Bool.{cases_lt}
use Rattle.std.proofs.lemmas.List.{append-nil, length-append}
use Rattle.std.specs.BTreeMap.{is_at}
use Rattle.std.specs.Map.{lookup}
use Rattle.std.specs.Prelude.{IfOk, IsTrue, ◌↔◌}
use Rattle.indexmap.specs.IndexMap.{insert_entry}
use Rattle.asl_model.specs.Examples.{count_mentions}
use Rattle.asl_model.specs.Shape as model
use Rattle.asl_model.specs.Shape.{inhabited, all_inhabited, needed_inhabited, mentions}
use Rattle.asl_model.proofs.ShapeExample.{proper-ordered}
use Rattle.asl_model.specs.ShapeOrder.{sub, simple_sub, arrays_sub, objects_sub, elements_sub, fields_sub, each_shape, others_never_there, mention_of, mention_fits, takes_all}
use Rattle.asl_tree.specs.declared.OutOfMemory.{OutOfMemory}
use Rattle.asl_shape.proofs.Lookups.{same_name, picked}
use Rattle.asl_numbered.specs.declared.kinds.NodeKinds.{NodeKinds}
use Rattle.asl_numbered.specs.declared.kinds.NodeArrays.{NodeArrays}
use Rattle.asl_numbered.specs.declared.kinds.NodeObjects.{NodeObjects}
use Rattle.asl_numbered.specs.declared.node.NodeField.{NodeField}
use Rattle.asl_numbered.specs.declared.pair.Pair.{Pair}
use Rattle.asl_numbered.specs.declared.comparing.Task.{Task}
use Rattle.asl_numbered.specs.declared.comparing.Task.TheVariants.{Compare, Conclude}
use Rattle.asl_numbered.specs.Comparison.{inside, IsWithin, IsRight, AreRight, all_inside, AreEachStanding, AreEachOutside, AreOutside, count_shapes, array_parts, object_parts, count_parts, widest, cost, work, width, RestsOn, AreComparisons, PartsRestOn, place_tasks, AreGoing, with_field_task, field_tasks, mention_fits_in, mentions_fit_in, objects_fit_in}
use Rattle.asl_numbered.specs.Expansion.{shape_at, shapes_at, fields_at, numbers_in, AreBelow, Keeps}
use Rattle.asl_numbered.specs.TakenApart.{simple_of, arrays_over, objects_over, kinds_over, AreArraysAt, AreObjectsAt, AreArraysIfAny, AreObjectsIfAny}
use Rattle.asl_numbered.proofs.Remembered.{same, each_kept, each_put, each_found}
use Rattle.asl_numbered.specs.Laws.{below-wider, keeps_longer, kept_shape}
use Rattle.asl_numbered.specs.Names.{Name, text_cmp, name_cmp}
use Rattle.std.specs.Rc.{rc_str_bytes}

-- ---- what is remembered

pub within_kept : (old new : List model.Shape) (p : Pair) → Keeps old new → IsWithin old p → IsWithin new p
within_kept old new p keeps h =
    let longer = keeps_longer old new keeps in
    record { first = omega (arith, h.first); second = omega (arith, h.second) }

-- in a table that has grown it stays right
pub right_kept : (old new : List model.Shape) (entries : List (Pair × Bool)) → Keeps old new → AreRight old entries → AreRight new entries
right_kept old new entries keeps h = record { each = each_kept (IsRight old) (IsRight new) entries kept h.each }
  where
    kept : (e : Pair × Bool) → IsRight old e → IsRight new e
    kept e is =
        let first = kept_shape old new e.0.first keeps is.0.first in
        let second = kept_shape old new e.0.second keeps is.0.second in
        (within_kept old new e.0 keeps is.0, is.1 ∙ rw (first, second) refl)

-- one more answer, or another for its pair
pub right_put : (table : List model.Shape) (entries new : List (Pair × Bool)) (p : Pair) (answer : Bool) → IsWithin table p → answer ≡ inside table p → AreRight table entries → new ≡ insert_entry same entries p answer → AreRight table new
right_put table entries new p answer within is h made = rw made (record { each = each_put (IsRight table) entries p answer (within, is) h.each })

-- an answer that is found is right
pub right_found : (table : List model.Shape) (entries : List (Pair × Bool)) (p : Pair) (answer : Bool) → AreRight table entries → lookup (same p) entries ≡ Some answer → answer ≡ inside table p
right_found table entries p answer h found = (each_found (IsRight table) entries p answer h.each found).1

-- ---- tasks behind others

inside-behind : (table : List model.Shape) (front now new : List Task) → all_inside table now ≡ all_inside table new → all_inside table (front ++ now) ≡ all_inside table (front ++ new)
inside-behind table [] now new e = e
inside-behind table (Compare p ∷ front) now new e = ap (λ b. inside table p && b) (inside-behind table front now new e)
inside-behind table (Conclude p ∷ front) now new e = inside-behind table front now new e

standing-behind : (table : List model.Shape) (front now new : List Task) → all_inside table now ≡ all_inside table new → AreEachStanding table (front ++ now) → AreEachStanding table new → AreEachStanding table (front ++ new)
standing-behind table [] now new e h further = further
standing-behind table (Compare p ∷ front) now new e h further = (h.0, standing-behind table front now new e h.1 further)
standing-behind table (Conclude p ∷ front) now new e h further = (h.0, h.1 ∙ inside-behind table front now new e, standing-behind table front now new e h.2 further)

standing-last : (table : List model.Shape) (front now : List Task) → AreEachStanding table (front ++ now) → AreEachStanding table now
standing-last table [] now h = h
standing-last table (Compare p ∷ front) now h = standing-last table front now h.1
standing-last table (Conclude p ∷ front) now h = standing-last table front now h.2

not-inside : (table : List model.Shape) (front now : List Task) → all_inside table now ≡ false → all_inside table (front ++ now) ≡ false
not-inside table [] now e = e
not-inside table (Compare p ∷ front) now e = go (inside table p) (not-inside table front now e)
  where
    go : (a : Bool) → all_inside table (front ++ now) ≡ false → (a && all_inside table (front ++ now)) ≡ false
    go true h = h
    go false h = refl
not-inside table (Conclude p ∷ front) now e = not-inside table front now e

outside-behind : (table : List model.Shape) (front now new : List Task) → all_inside table now ≡ false → AreEachStanding table (front ++ now) → AreEachOutside table new → AreEachOutside table (front ++ new)
outside-behind table [] now new e h further = further
outside-behind table (Compare p ∷ front) now new e h further = outside-behind table front now new e h.1 further
outside-behind table (Conclude p ∷ front) now new e h further = (h.0, h.1 ∙ not-inside table front now e, outside-behind table front now new e h.2 further)

work-append : (width : ℕ) (front more : List Task) → work width (front ++ more) ≡ work width front + work width more
work-append width [] more = omega arith
work-append width (Compare p ∷ front) more = rw (work-append width front more) (omega arith)
work-append width (Conclude p ∷ front) more = rw (work-append width front more) (omega arith)

-- ---- how much is left to do

cost-positive : (width n : ℕ) → 2 ≤ cost width n
cost-positive width zero = omega arith
cost-positive width (suc n) = omega arith

cost-next : (width n : ℕ) → cost width n ≤ cost width (suc n)
cost-next width zero = omega arith
cost-next width (suc n) = let more = mul-le-mul_left width (cost-next width n) in omega (arith, more)

cost-most : (width m n : ℕ) → m ≤ n → cost width m ≤ cost width n
cost-most width m zero h = let none : m ≡ 0 = omega arith in rw none (omega arith)
cost-most width m (suc n) h = go (λ below. cost-most width m n below) (cases_lt m (suc n))
  where
    go : (m ≤ n → cost width m ≤ cost width n) → (m < suc n) ⊎ (suc n ≤ m) → cost width m ≤ cost width (suc n)
    go most (inl below) = let so_far = most (omega (arith, below)) in omega (arith, so_far, cost-next width n)
    go most (inr above) = let same : m ≡ suc n = omega (arith, above, h) in rw same (omega arith)

comparisons-standing : (table : List model.Shape) (bound : ℕ) (tasks : List Task) → AreComparisons table bound tasks → AreEachStanding table tasks
comparisons-standing table bound [] h = tt
comparisons-standing table bound (Compare p ∷ tasks) h = (h.0, comparisons-standing table bound tasks h.2)
comparisons-standing table bound (Conclude p ∷ tasks) h = absurd h

comparisons-append : (table : List model.Shape) (bound : ℕ) (tasks more : List Task) → AreComparisons table bound tasks → AreComparisons table bound more → AreComparisons table bound (tasks ++ more)
comparisons-append table bound [] more h further = further
comparisons-append table bound (Compare p ∷ tasks) more h further = (h.0, h.1, comparisons-append table bound tasks more h.2 further)
comparisons-append table bound (Conclude p ∷ tasks) more h further = absurd h

comparisons-work : (table : List model.Shape) (width n : ℕ) (tasks : List Task) → AreComparisons table (suc n) tasks → work width tasks ≤ cost width n * length tasks
comparisons-work table width n [] h = omega arith
comparisons-work table width n (Compare p ∷ tasks) h =
    let here = cost-most width p.first n (omega (arith, h.1)) in
    let behind = comparisons-work table width n tasks h.2 in
    omega (arith, here, behind)
comparisons-work table width n (Conclude p ∷ tasks) h = absurd h

-- they are less work than a pair of that bound
comparisons-less : (table : List model.Shape) (width bound : ℕ) (tasks : List Task) → AreComparisons table bound tasks → length tasks ≤ width → 1 + work width tasks < cost width bound
comparisons-less table width zero [] h few = omega arith
comparisons-less table width zero (Compare p ∷ tasks) h few = absurd (omega (arith, h.1))
comparisons-less table width zero (Conclude p ∷ tasks) h few = absurd h
comparisons-less table width (suc n) tasks h few =
    let each = comparisons-work table width n tasks h in
    let most = mul-le-mul_left (cost width n) few in
    omega (arith, each, most)

-- the tasks have nothing to be concluded
comparisons-outside : (table : List model.Shape) (bound : ℕ) (tasks : List Task) → AreComparisons table bound tasks → AreEachOutside table tasks
comparisons-outside table bound [] h = tt
comparisons-outside table bound (Compare p ∷ tasks) h = comparisons-outside table bound tasks h.2
comparisons-outside table bound (Conclude p ∷ tasks) h = absurd h

-- a shape has no more parts than the widest
within-widest : (table : List model.Shape) (n : ℕ) → count_parts (shape_at table n) ≤ widest table
within-widest [] n = omega arith
within-widest (s ∷ table) zero = omega arith
within-widest (s ∷ table) (suc n) = omega (arith, within-widest table n)

-- ---- what a pair rests on

and_true : (a : Bool) → (a && true) ≡ a
and_true true = refl
and_true false = refl

-- the answer is there at once
pub rests_known : (table : List model.Shape) (p : Pair) (answer : Bool) (tasks : List Task) → inside table p ≡ answer → RestsOn table p answer tasks tasks
rests_known table p answer tasks is = record { added = []; whole = sym (append-nil tasks); same = is ∙ sym (and_true answer); standing = λ e. record { each = tt }; outside = λ e. record { each = tt }; less = omega (arith, cost-positive (width table) p.first) }

-- it rests on comparisons
rests-on : (table : List model.Shape) (p : Pair) (answer : Bool) (old new tasks : List Task) → IsWithin table p → AreComparisons table p.first tasks → length tasks ≤ width table → inside table p ≡ (answer && all_inside table tasks) → new ≡ old ++ Conclude p ∷ tasks → RestsOn table p answer old new
rests-on table p answer old new tasks within are few is made = record { added = Conclude p ∷ tasks; whole = made; same = is; standing = λ e. record { each = (within, is ∙ ap (λ b. b && all_inside table tasks) e, comparisons-standing table p.first tasks are) }; outside = λ e. record { each = (within, is ∙ ap (λ b. b && all_inside table tasks) e, comparisons-outside table p.first tasks are) }; less = comparisons-less table (width table) p.first tasks are few }

-- ---- places

place-comparisons : (table : List model.Shape) (bound : ℕ) (places bounds : List ℕ) (rest : ℕ) → AreBelow bound places → bound ≤ length table → AreBelow (length table) bounds → rest < length table → AreComparisons table bound (place_tasks places bounds rest)
place-comparisons table bound [] bounds rest h most b r = tt
place-comparisons table bound (place ∷ places) [] rest h most b r =
    (record { first = omega (arith, h.0); second = r }, h.0, place-comparisons table bound places [] rest h.1 most b r)
place-comparisons table bound (place ∷ places) (other ∷ bounds) rest h most b r =
    (record { first = omega (arith, h.0); second = b.0 }, h.0, place-comparisons table bound places bounds rest h.1 most b.1 r)

place-count : (places bounds : List ℕ) (rest : ℕ) → length (place_tasks places bounds rest) ≡ length places
place-count [] bounds rest = refl
place-count (place ∷ places) [] rest = ap suc (place-count places [] rest)
place-count (place ∷ places) (bound ∷ bounds) rest = ap suc (place-count places bounds rest)

-- all places are inside, and then the further elements
places-inside : (table : List model.Shape) (places bounds : List ℕ) (further rest : ℕ) → length bounds ≤ length places → elements_sub (shapes_at table places) (shape_at table further) (shapes_at table bounds) (λ s. sub s (shape_at table rest)) ≡ all_inside table (place_tasks places bounds rest ++ Compare (record { first = further; second = rest }) ∷ [])
places-inside table [] [] further rest h = sym (and_true (sub (shape_at table further) (shape_at table rest)))
places-inside table [] (bound ∷ bounds) further rest h = absurd (omega (arith, h))
places-inside table (place ∷ places) [] further rest h =
    and_assoc (sub (shape_at table place) (shape_at table rest)) (each_shape (λ s. sub s (shape_at table rest)) (shapes_at table places)) (sub (shape_at table further) (shape_at table rest))
    ∙ ap (λ b. sub (shape_at table place) (shape_at table rest) && b) (places-inside table places [] further rest (omega arith))
places-inside table (place ∷ places) (bound ∷ bounds) further rest h =
    ap (λ b. sub (shape_at table place) (shape_at table bound) && b) (places-inside table places bounds further rest (omega (arith, h)))

-- there are too few places
places-outside : (table : List model.Shape) (places bounds : List ℕ) (further rest : ℕ) → length places < length bounds → elements_sub (shapes_at table places) (shape_at table further) (shapes_at table bounds) (λ s. sub s (shape_at table rest)) ≡ false
places-outside table places [] further rest h = absurd (omega (arith, h))
places-outside table [] (bound ∷ bounds) further rest h = refl
places-outside table (place ∷ places) (bound ∷ bounds) further rest h = go (sub (shape_at table place) (shape_at table bound)) (places-outside table places bounds further rest (omega (arith, h)))
  where
    go : (a : Bool) → {b : Bool} → b ≡ false → (a && b) ≡ false
    go true e = e
    go false e = refl

-- ---- fields of a name

there-or : {A : Type 0} (x : A) (b : Bool) (s : Option A) → (b || is_some s) ≡ is_some (cond b (Some x) s)
there-or x true s = refl
there-or x false s = refl

pub mentions_under : (table : List model.Shape) (n : List ℕ) (fs : List (Name × NodeField)) → mentions n (fields_at table fs) ≡ is_some (lookup (is_at (text_cmp n)) fs)
mentions_under table n [] = refl
mentions_under table n (f ∷ fs) =
    rw (same_name n (rc_str_bytes f.0), mentions_under table n fs) (there-or f.1 _ _)

pub mentions_number : (table : List model.Shape) (k : Name) (fs : List (Name × NodeField)) → mentions (rc_str_bytes k) (fields_at table fs) ≡ is_some (lookup (is_at (name_cmp k)) fs)
mentions_number table k fs = mentions_under table (rc_str_bytes k) fs

pub mention_under : (table : List model.Shape) (n : List ℕ) (fs : List (Name × NodeField)) → mention_of n (fields_at table fs) ≡ option_map (λ f. (f.needed, shape_at table f.shape)) (lookup (is_at (text_cmp n)) fs)
mention_under table n [] = refl
mention_under table n (f ∷ fs) =
    rw (same_name n (rc_str_bytes f.0), mention_under table n fs) (picked (λ (x : NodeField). (x.needed, shape_at table x.shape)) f.1 _ _)

pub mention_of_number : (table : List model.Shape) (k : Name) (fs : List (Name × NodeField)) → mention_of (rc_str_bytes k) (fields_at table fs) ≡ option_map (λ f. (f.needed, shape_at table f.shape)) (lookup (is_at (name_cmp k)) fs)
mention_of_number table k fs = mention_under table (rc_str_bytes k) fs

-- ---- fields

pub found-below : (bound : ℕ) (test : Name → Bool) (fs : List (Name × NodeField)) (f : NodeField) → AreBelow bound (numbers_in fs) → lookup test fs ≡ Some f → f.shape < bound
found-below bound test [] f h found = absurd (cc)
found-below bound test (e ∷ fs) f h found = go (test e.0) refl (λ below. found-below bound test fs f h.1 below)
  where
    go : (here : Bool) → test e.0 ≡ here → (lookup test fs ≡ Some f → f.shape < bound) → f.shape < bound
    go true is later =
        let there : Some e.1 ≡ Some f = rw is at found in
        let own : e.1 ≡ f = cc in
        subst (λ (x : NodeField). x.shape < bound) own h.0
    go false is later = later (rw is at found)

field-comparisons : (table : List model.Shape) (bound : ℕ) (inner outer : List (Name × NodeField)) → AreBelow bound (numbers_in inner) → bound ≤ length table → AreBelow (length table) (numbers_in outer) → AreComparisons table bound (field_tasks inner outer)
field-comparisons table bound inner [] h most b = tt
field-comparisons table bound inner (f ∷ outer) h most b = go (lookup (is_at (name_cmp f.0)) inner) refl (field-comparisons table bound inner outer h most b.1)
  where
    go : (o : Option NodeField) → lookup (is_at (name_cmp f.0)) inner ≡ o → AreComparisons table bound (field_tasks inner outer) → AreComparisons table bound (with_field_task o f.1 (field_tasks inner outer))
    go None at behind = behind
    go (Some other) at behind =
        let below = found-below bound (is_at (name_cmp f.0)) inner other h at in
        (record { first = omega (arith, below); second = b.0 }, below, behind)

field-count : (inner outer : List (Name × NodeField)) → length (field_tasks inner outer) ≤ length (numbers_in outer)
field-count inner [] = omega arith
field-count inner (f ∷ outer) = go (lookup (is_at (name_cmp f.0)) inner) (field-count inner outer)
  where
    go : (o : Option NodeField) → length (field_tasks inner outer) ≤ length (numbers_in outer) → length (with_field_task o f.1 (field_tasks inner outer)) ≤ suc (length (numbers_in outer))
    go None h = omega (arith, h)
    go (Some other) h = omega (arith, h)

middle : (a b c d : Bool) → ((a && b) && (c && d)) ≡ ((a && c) && (b && d))
middle false b c d = refl
middle true true true d = refl
middle true true false d = refl
middle true false true d = refl
middle true false false d = refl

-- what is said of the fields apart from their shapes, and then the shapes
fields-inside : (table : List model.Shape) (inner : List (Name × NodeField)) (more : Bool) (outer : List (Name × NodeField)) → fields_sub (fields_at table inner) more (fields_at table outer) ≡ (mentions_fit_in table inner more outer && all_inside table (field_tasks inner outer))
fields-inside table inner more [] = refl
fields-inside table inner more (f ∷ outer) =
    rw (mention_of_number table f.0 inner, fields-inside table inner more outer) (go (lookup (is_at (name_cmp f.0)) inner))
  where
    swapped : (a b : Bool) → (a || not b) ≡ (not b || a)
    swapped true true = refl
    swapped true false = refl
    swapped false true = refl
    swapped false false = refl

    go : (o : Option NodeField) → (mention_fits f.1.needed (λ s. sub s (shape_at table f.1.shape)) (takes_all (shape_at table f.1.shape)) more (option_map (λ (x : NodeField). (x.needed, shape_at table x.shape)) o) && (mentions_fit_in table inner more outer && all_inside table (field_tasks inner outer)))
        ≡ ((mention_fits_in table f.1 more o && mentions_fit_in table inner more outer) && all_inside table (with_field_task o f.1 (field_tasks inner outer)))
    go None =
        ap (λ b. (not f.1.needed && b) && (mentions_fit_in table inner more outer && all_inside table (field_tasks inner outer))) (swapped (takes_all (shape_at table f.1.shape)) more)
        ∙ sym (and_assoc (not f.1.needed && (not more || takes_all (shape_at table f.1.shape))) (mentions_fit_in table inner more outer) (all_inside table (field_tasks inner outer)))
    go (Some other) = middle (not f.1.needed || other.needed) (sub (shape_at table other.shape) (shape_at table f.1.shape)) (mentions_fit_in table inner more outer) (all_inside table (field_tasks inner outer))

-- ---- arrays

counted-places : (table : List model.Shape) (ns : List ℕ) → count_shapes (shapes_at table ns) ≡ length ns
counted-places table [] = refl
counted-places table (n ∷ ns) = ap suc (counted-places table ns)

or_false : (a : Bool) → (a || false) ≡ a
or_false true = refl
or_false false = refl

-- the answer is there at once
at-once : (table : List model.Shape) (bound most : ℕ) (is answer : Bool) (tasks : List Task) → is ≡ answer → PartsRestOn table bound most is answer tasks tasks
at-once table bound most is answer tasks e = record { added = []; whole = sym (append-nil tasks); same = e ∙ sym (and_true answer); compared = tt; few = omega arith }

-- there is an array exactly where the number's shape has a tree
arrays-live : (table : List model.Shape) (bound : ℕ) (a : NodeArrays) (live : Bool) → AreArraysAt table bound a → live ≡ inhabited (shape_at table a.number) → all_inhabited (shapes_at table a.first.now) ≡ live
arrays-live table bound a live are is =
    sym (is ∙ ap inhabited are.alone ∙ or_false (all_inhabited (shapes_at table a.first.now)))

-- what is asked of two, where the first has an array
arrays-two : (table : List model.Shape) (bound : ℕ) (a b : NodeArrays) (live : Bool) → AreArraysAt table bound a → live ≡ inhabited (shape_at table a.number) → live ≡ true → arrays_sub (arrays_over table (Some a)) (arrays_over table (Some b)) ≡ elements_sub (shapes_at table a.first.now) (shape_at table a.rest) (shapes_at table b.first.now) (λ s. sub s (shape_at table b.rest))
arrays-two table bound a b live own is some = rw (arrays-live table bound a live own is, some) refl

pub arrays_short : (table : List model.Shape) (bound most : ℕ) (inner outer : Option NodeArrays) (a b : NodeArrays) (live : Bool) (tasks : List Task) → inner ≡ Some a → outer ≡ Some b → AreArraysIfAny table bound inner → live ≡ inhabited (shape_at table a.number) → live ≡ true → length a.first.now < length b.first.now → PartsRestOn table bound most (arrays_sub (arrays_over table inner) (arrays_over table outer)) false tasks tasks
arrays_short table bound most inner outer a b live tasks e f are is some short =
    let own : AreArraysAt table bound a = subst (AreArraysIfAny table bound) e are in
    at-once table bound most _ false tasks (rw (e, f) (arrays-two table bound a b live own is some ∙ places-outside table a.first.now b.first.now a.rest b.rest short))

pub arrays_put : (table : List model.Shape) (p : Pair) (inner outer : Option NodeArrays) (a b : NodeArrays) (live : Bool) (old middle new : List Task) → IsWithin table p → inner ≡ Some a → outer ≡ Some b → AreArraysIfAny table p.first inner → AreArraysIfAny table p.second outer → live ≡ inhabited (shape_at table a.number) → live ≡ true → length b.first.now ≤ length a.first.now → middle ≡ old ++ place_tasks a.first.now b.first.now b.rest → new ≡ middle ++ Compare (record { first = a.rest; second = b.rest }) ∷ [] → PartsRestOn table p.first (array_parts (arrays_over table inner)) (arrays_sub (arrays_over table inner) (arrays_over table outer)) true old new
arrays_put table p inner outer a b live old middle new within e f are others is some enough put last =
    let own : AreArraysAt table p.first a = subst (AreArraysIfAny table p.first) e are in
    let its : AreArraysAt table p.second b = subst (AreArraysIfAny table p.second) f others in
    let tasks = place_tasks a.first.now b.first.now b.rest in
    let further = Compare (record { first = a.rest; second = b.rest }) ∷ [] in
    let below = below-wider a.number p.first a.first.now own.within own.first in
    let above = below-wider b.number (length table) b.first.now (omega (arith, its.within, within.second)) its.first in
    let rest : a.rest < p.first = omega (arith, own.rest, own.within) in
    let bound : b.rest < length table = omega (arith, its.rest, its.within, within.second) in
    let are_places = place-comparisons table p.first a.first.now b.first.now b.rest below (omega (arith, within.first)) above bound in
    let is_last : AreComparisons table p.first further = (record { first = omega (arith, rest, within.first); second = bound }, rest, tt) in
    rw (e, f) (record {
      added = tasks ++ further;
      whole = last ∙ ap (λ ts. ts ++ further) put ∙ append_assoc old tasks further;
      same = arrays-two table p.first a b live own is some ∙ places-inside table a.first.now b.first.now a.rest b.rest enough;
      compared = comparisons-append table p.first tasks further are_places is_last;
      few = omega (arith, length-append tasks further, place-count a.first.now b.first.now b.rest, counted-places table a.first.now);
    })

-- ---- objects

counted-fields : (table : List model.Shape) (fs : List (Name × NodeField)) → count_mentions (fields_at table fs) ≡ length (numbers_in fs)
counted-fields table [] = refl
counted-fields table (f ∷ fs) = ap suc (counted-fields table fs)

objects-live : (table : List model.Shape) (bound : ℕ) (a : NodeObjects) (live : Bool) → AreObjectsAt table bound a → live ≡ inhabited (shape_at table a.number) → needed_inhabited (fields_at table a.fields.now.entries) ≡ live
objects-live table bound a live are is = sym (is ∙ ap inhabited are.alone)

-- all that is said of two objects: of their fields but for the shapes, of other fields, and of the shapes
said : (fit all closed : Bool) → ((fit && all) && closed) ≡ ((closed && fit) && all)
said true true true = refl
said true true false = refl
said true false true = refl
said true false false = refl
said false all true = refl
said false all false = refl

objects-two : (table : List model.Shape) (bound : ℕ) (a b : NodeObjects) (live : Bool) → AreObjectsAt table bound a → live ≡ inhabited (shape_at table a.number) → live ≡ true → objects_sub (objects_over table (Some a)) (objects_over table (Some b)) ≡ (objects_fit_in table a b && all_inside table (field_tasks a.fields.now.entries b.fields.now.entries))
objects-two table bound a b live own is some =
    rw (objects-live table bound a live own is, some) (ap (λ x. x && closed) (fields-inside table a.fields.now.entries a.extra b.fields.now.entries)
    ∙ said (mentions_fit_in table a.fields.now.entries a.extra b.fields.now.entries) (all_inside table (field_tasks a.fields.now.entries b.fields.now.entries)) closed)
  where
    closed : Bool
    closed = b.extra || (not a.extra && others_never_there (fields_at table b.fields.now.entries) (fields_at table a.fields.now.entries))

pub objects_apart : (table : List model.Shape) (bound most : ℕ) (inner outer : Option NodeObjects) (a b : NodeObjects) (live fit : Bool) (tasks : List Task) → inner ≡ Some a → outer ≡ Some b → AreObjectsIfAny table bound inner → live ≡ inhabited (shape_at table a.number) → live ≡ true → fit ≡ objects_fit_in table a b → fit ≡ false → PartsRestOn table bound most (objects_sub (objects_over table inner) (objects_over table outer)) false tasks tasks
objects_apart table bound most inner outer a b live fit tasks e f are is some test none =
    let own : AreObjectsAt table bound a = subst (AreObjectsIfAny table bound) e are in
    at-once table bound most _ false tasks (rw (e, f) (objects-two table bound a b live own is some ∙ ap (λ x. x && all_inside table (field_tasks a.fields.now.entries b.fields.now.entries)) (sym test ∙ none)))

pub objects_put : (table : List model.Shape) (p : Pair) (inner outer : Option NodeObjects) (a b : NodeObjects) (live fit : Bool) (old new : List Task) → IsWithin table p → inner ≡ Some a → outer ≡ Some b → AreObjectsIfAny table p.first inner → AreObjectsIfAny table p.second outer → live ≡ inhabited (shape_at table a.number) → live ≡ true → fit ≡ objects_fit_in table a b → fit ≡ true → new ≡ old ++ field_tasks a.fields.now.entries b.fields.now.entries → PartsRestOn table p.first (object_parts (objects_over table outer)) (objects_sub (objects_over table inner) (objects_over table outer)) true old new
objects_put table p inner outer a b live fit old new within e f are others is some test all put =
    let own : AreObjectsAt table p.first a = subst (AreObjectsIfAny table p.first) e are in
    let its : AreObjectsAt table p.second b = subst (AreObjectsIfAny table p.second) f others in
    let tasks = field_tasks a.fields.now.entries b.fields.now.entries in
    let below = below-wider a.number p.first (numbers_in a.fields.now.entries) own.within own.fields in
    let above = below-wider b.number (length table) (numbers_in b.fields.now.entries) (omega (arith, its.within, within.second)) its.fields in
    rw (e, f) (record {
      added = tasks;
      whole = put;
      same = objects-two table p.first a b live own is some ∙ ap (λ x. x && all_inside table tasks) (sym test ∙ all);
      compared = field-comparisons table p.first a.fields.now.entries b.fields.now.entries below (omega (arith, within.first)) above;
      few = omega (arith, field-count a.fields.now.entries b.fields.now.entries, counted-fields table b.fields.now.entries);
    })

-- ---- all kinds of a pair

all-append : (table : List model.Shape) (tasks more : List Task) → all_inside table (tasks ++ more) ≡ (all_inside table tasks && all_inside table more)
all-append table [] more = refl
all-append table (Compare p ∷ tasks) more =
    ap (λ b. inside table p && b) (all-append table tasks more) ∙ sym (and_assoc (inside table p) (all_inside table tasks) (all_inside table more))
all-append table (Conclude p ∷ tasks) more = all-append table tasks more

-- every shape is inside Any
pub rests_on_any : (table : List model.Shape) (p : Pair) (tasks : List Task) → model.Any ≡ shape_at table p.second → RestsOn table p true tasks tasks
rests_on_any table p tasks e = rests_known table p true tasks (ap (sub (shape_at table p.first)) (sym e))

-- Any is inside those that take all
pub any_sub : (s : model.Shape) → sub model.Any s ≡ takes_all s
any_sub model.Any = refl
any_sub (model.OfKinds simple arrays objects) = refl

-- so its answer is there at once
pub rests_of_any : (table : List model.Shape) (p : Pair) (answer : Bool) (tasks : List Task) → model.Any ≡ shape_at table p.first → answer ≡ takes_all (shape_at table p.second) → RestsOn table p answer tasks tasks
rests_of_any table p answer tasks e is =
    rests_known table p answer tasks (ap (λ s. sub s (shape_at table p.second)) (sym e) ∙ any_sub (shape_at table p.second) ∙ sym is)

-- the simple kinds of the first aren't all there
pub rests_on_simple : (table : List model.Shape) (p : Pair) (inner outer : NodeKinds) (answer : Bool) (tasks : List Task) → kinds_over table inner ≡ shape_at table p.first → kinds_over table outer ≡ shape_at table p.second → answer ≡ simple_sub (simple_of inner) (simple_of outer) → answer ≡ false → RestsOn table p false tasks tasks
rests_on_simple table p inner outer answer tasks first second is none =
    rests_known table p false tasks (rw (← first, ← second, sym is ∙ none) refl)

-- its arrays aren't
pub rests_on_arrays : (table : List model.Shape) (p : Pair) (inner outer : NodeKinds) (simple : Bool) (old middle new : List Task) → IsWithin table p → kinds_over table inner ≡ shape_at table p.first → kinds_over table outer ≡ shape_at table p.second → simple ≡ simple_sub (simple_of inner) (simple_of outer) → simple ≡ true → middle ≡ old ++ Conclude p ∷ [] → PartsRestOn table p.first (array_parts (arrays_over table inner.arrays)) (arrays_sub (arrays_over table inner.arrays) (arrays_over table outer.arrays)) false middle new → RestsOn table p false old new
rests_on_arrays table p inner outer simple old middle new within first second is all put rests =
    let wide : count_parts (kinds_over table inner) ≤ widest table = subst (λ s. count_parts s ≤ widest table) (sym first) (within-widest table p.first) in
    rests-on table p false old new rests.added within rests.compared (omega (arith, rests.few, wide)) (rw (← first, ← second, sym is ∙ all, rests.same) refl) (rests.whole ∙ ap (λ ts. ts ++ rests.added) put ∙ append_assoc old (Conclude p ∷ []) rests.added)

four : (a b x y : Bool) → a ≡ true → ((a && x) && (b && y)) ≡ (b && (x && y))
four true true x y e = refl
four true false true y e = refl
four true false false y e = refl
four false b x y e = absurd (cc)

-- it rests on its arrays and its objects
pub rests_on_kinds : (table : List model.Shape) (p : Pair) (inner outer : NodeKinds) (simple arrays answer : Bool) (old middle more new : List Task) → IsWithin table p → kinds_over table inner ≡ shape_at table p.first → kinds_over table outer ≡ shape_at table p.second → simple ≡ simple_sub (simple_of inner) (simple_of outer) → simple ≡ true → middle ≡ old ++ Conclude p ∷ [] → PartsRestOn table p.first (array_parts (arrays_over table inner.arrays)) (arrays_sub (arrays_over table inner.arrays) (arrays_over table outer.arrays)) arrays middle more → arrays ≡ true → PartsRestOn table p.first (object_parts (objects_over table outer.objects)) (objects_sub (objects_over table inner.objects) (objects_over table outer.objects)) answer more new → RestsOn table p answer old new
rests_on_kinds table p inner outer simple arrays answer old middle more new within first second is all put rests held further =
    let own : count_parts (kinds_over table inner) ≤ widest table = subst (λ s. count_parts s ≤ widest table) (sym first) (within-widest table p.first) in
    let its : count_parts (kinds_over table outer) ≤ widest table = subst (λ s. count_parts s ≤ widest table) (sym second) (within-widest table p.second) in
    let tasks = rests.added ++ further.added in
    let same : inside table p ≡ (answer && all_inside table tasks) = rw (← first, ← second, sym is ∙ all, rests.same, further.same, all-append table rests.added further.added) (four arrays answer (all_inside table rests.added) (all_inside table further.added) held) in
    let whole : new ≡ old ++ Conclude p ∷ tasks = further.whole ∙ ap (λ ts. ts ++ further.added) (rests.whole ∙ ap (λ ts. ts ++ rests.added) put) ∙ append_assoc (old ++ Conclude p ∷ []) rests.added further.added ∙ append_assoc old (Conclude p ∷ []) tasks in
    rests-on table p answer old new tasks within (comparisons-append table p.first rests.added further.added rests.compared further.compared) (omega (arith, length-append rests.added further.added, rests.few, further.few, own, its)) same whole

-- the same where memory may run out
pub kinds_looked : (table : List model.Shape) (p : Pair) (inner outer : NodeKinds) (simple arrays : Bool) (r : Result Bool OutOfMemory) (old middle more new : List Task) → IsWithin table p → kinds_over table inner ≡ shape_at table p.first → kinds_over table outer ≡ shape_at table p.second → simple ≡ simple_sub (simple_of inner) (simple_of outer) → simple ≡ true → middle ≡ old ++ Conclude p ∷ [] → PartsRestOn table p.first (array_parts (arrays_over table inner.arrays)) (arrays_sub (arrays_over table inner.arrays) (arrays_over table outer.arrays)) arrays middle more → arrays ≡ true → IfOk r (λ answer. PartsRestOn table p.first (object_parts (objects_over table outer.objects)) (objects_sub (objects_over table inner.objects) (objects_over table outer.objects)) answer more new) → IfOk r (λ answer. RestsOn table p answer old new)
kinds_looked table p inner outer simple arrays (Ok answer) old middle more new within first second is all put rests held further =
    rests_on_kinds table p inner outer simple arrays answer old middle more new within first second is all put rests held further
kinds_looked table p inner outer simple arrays (Err e) old middle more new within first second is all put rests held further = tt

-- ---- the loop

pub go_on : (table : List model.Shape) (root p : Pair) (tasks front new : List Task) → tasks ≡ front ++ Compare p ∷ [] → AreGoing table root tasks → RestsOn table p true front new → AreGoing table root new
go_on table root p tasks front new split going rests =
    let now : AreGoing table root (front ++ Compare p ∷ []) = subst (AreGoing table root) split going in
    let same : all_inside table (Compare p ∷ []) ≡ all_inside table rests.added = and_true (inside table p) ∙ rests.same in
    rw rests.whole (record {
      standing = record { each = standing-behind table front (Compare p ∷ []) rests.added same now.standing.each (rests.standing refl).each };
      same = now.same ∙ inside-behind table front (Compare p ∷ []) rests.added same;
    })

pub less_left : (table : List model.Shape) (p : Pair) (answer : Bool) (tasks front new : List Task) → tasks ≡ front ++ Compare p ∷ [] → RestsOn table p answer front new → work (width table) new < work (width table) tasks
less_left table p answer tasks front new split rests =
    rw (split, rests.whole, work-append (width table) front rests.added, work-append (width table) front (Compare p ∷ [])) (omega (arith, rests.less))

pub next_within : (table : List model.Shape) (root p : Pair) (tasks front : List Task) → tasks ≡ front ++ Compare p ∷ [] → AreGoing table root tasks → IsWithin table p
next_within table root p tasks front split going = (standing-last table front (Compare p ∷ []) (subst (AreEachStanding table) split going.standing.each)).0

pub fails : (table : List model.Shape) (root p : Pair) (tasks front new : List Task) → tasks ≡ front ++ Compare p ∷ [] → AreGoing table root tasks → RestsOn table p false front new → AreOutside table new × (false ≡ inside table root)
fails table root p tasks front new split going rests =
    let now : AreGoing table root (front ++ Compare p ∷ []) = subst (AreGoing table root) split going in
    let not : all_inside table (Compare p ∷ []) ≡ false = and_true (inside table p) ∙ rests.same in (
      rw rests.whole (record { each = outside-behind table front (Compare p ∷ []) rests.added not now.standing.each (rests.outside refl).each }),
      sym (now.same ∙ not-inside table front (Compare p ∷ []) not),
    )

pub concluded : (table : List model.Shape) (root p : Pair) (tasks front : List Task) → tasks ≡ front ++ Conclude p ∷ [] → AreGoing table root tasks → IsWithin table p × (true ≡ inside table p) × AreGoing table root front
concluded table root p tasks front split going =
    let now : AreGoing table root (front ++ Conclude p ∷ []) = subst (AreGoing table root) split going in
    let last = standing-last table front (Conclude p ∷ []) now.standing.each in
    let none = append-nil front in (
      last.0,
      sym last.1,
      subst (AreGoing table root) none (record {
        standing = record { each = standing-behind table front (Conclude p ∷ []) [] refl now.standing.each tt };
        same = now.same ∙ inside-behind table front (Conclude p ∷ []) [] refl;
      }),
    )

pub one_less : (width : ℕ) (p : Pair) (tasks front : List Task) → tasks ≡ front ++ Conclude p ∷ [] → work width front < work width tasks
one_less width p tasks front split = rw (split, work-append width front (Conclude p ∷ [])) (omega arith)

pub all_done : (table : List model.Shape) (root : Pair) (tasks : List Task) → tasks ≡ [] → AreGoing table root tasks → true ≡ inside table root
all_done table root tasks none going = sym (going.same ∙ ap (all_inside table) none)

pub begun : (table : List model.Shape) (root : Pair) (none tasks : List Task) → none ≡ [] → tasks ≡ none ++ Compare root ∷ [] → IsWithin table root → AreGoing table root tasks
begun table root none tasks empty made within =
    rw (made, empty) (record { standing = record { each = (within, tt) }; same = sym (and_true (inside table root)) })

-- ---- what wasn't concluded

pub none_concluded : (table : List model.Shape) (now left : List Task) (p : Pair) → now ≡ Conclude p ∷ left → AreOutside table now → IsWithin table p × (false ≡ inside table p) × AreOutside table left
none_concluded table now left p split h =
    let each : AreEachOutside table (Conclude p ∷ left) = subst (AreEachOutside table) split h.each in
    (each.0, sym each.1, record { each = each.2 })

pub comparison_passed : (table : List model.Shape) (now left : List Task) (p : Pair) → now ≡ Compare p ∷ left → AreOutside table now → AreOutside table left
comparison_passed table now left p split h = record { each = subst (AreEachOutside table) split h.each }

-- the task at an index, and those behind it
pub next_task : (tasks : List Task) (i : ℕ) (d t : Task) → i < length tasks → get_or tasks i d ≡ t → drop i tasks ≡ t ∷ drop (i + 1) tasks
next_task tasks i d t h is =
    let next : suc i ≡ i + 1 = omega arith in
    subst (λ k. drop i tasks ≡ t ∷ drop k tasks) next (drop-cons tasks i d h ∙ ap (λ x. x ∷ drop (suc i) tasks) is)

-- ---- numbers of a table

pub both_within : (table : List model.Shape) (a b m n : ℕ) → a < m → m ≡ length table → b < n → n ≡ length table → IsWithin table (record { first = a; second = b })
both_within table a b m n h e i f = record { first = omega (arith, h, e); second = omega (arith, i, f) }

-- a proper shape is inside itself
pub inside_itself : (table : List model.Shape) (p : Pair) → p.first ≡ p.second → model.IsProperShape (shape_at table p.first) → ((a b : model.Shape) → model.IsOrdered a → model.Inside a b → IsTrue (sub a b)) → inside table p ≡ true
inside_itself table p same proper complete =
    let s = shape_at table p.first in
    ap (λ n. sub s (shape_at table n)) (sym same) ∙ complete s s (proper-ordered s proper) (λ t h. h)

-- the comparison tells of a proper shape exactly whether it is inside another
pub told_exactly : (a b : model.Shape) (answer : Bool) → answer ≡ sub a b → model.IsProperShape a → ((a b : model.Shape) → IsTrue (sub a b) → model.Inside a b) → ((a b : model.Shape) → model.IsOrdered a → model.Inside a b → IsTrue (sub a b)) → IsTrue answer ↔ model.Inside a b
told_exactly a b answer is proper inside complete =
    (λ h. inside a b (subst IsTrue is h), λ h. subst IsTrue (sym is) (complete a b (proper-ordered a proper) h))
