-- What is put in the parts of a shape, with refusals counted from the first segment, and the numbers that answer it.
use Rattle.std.proofs.Common.{◌≡◌, ◌<◌, ℕ, suc, ◌+◌, Bool, true, false, ◌&&◌, List, [], ◌∷◌, Option, Some, Result, Ok, Err, option_map, String, Global, string_bytes, length, get_or, drop, refl, ap, sym, ◌∙◌, subst, arith}
use Rattle.std.specs.BTreeMap.{BTreeMap, get_by}
use Rattle.std.specs.Prelude.{IfOk}
use Rattle.asl_model.specs.Path.{Segment, Name, Index}
use Rattle.asl_model.specs.Shape.{Shape, Arrays, WithoutArrays, ArraysOf, ObjectsOf, FieldShapes, Never, inhabited}
use Rattle.asl_model.specs.ShapeFlow.{part_at, place_in, arrays_alone, objects_alone, put, put_under, put_in_arrays, put_mentioned, array_with, object_with, join_results}
use Rattle.asl_model.specs.ShapeOrder.{mention_of, join}
use Rattle.asl_shape_paths.proofs.AloneParts.{alone_objects, alone_placed}
use Rattle.asl_shape_paths.specs.Changing.{arrays_with, objects_with, with_field, with_place}
use Rattle.asl_shape_paths.specs.Counting.{counted_on}
use Rattle.asl_shape_paths.specs.Putting.{Answers, mentioned}
use Rattle.asl_shape_paths.specs.declared.putting.PutRefusal.{PutRefusal}
use Rattle.asl_shape_paths.specs.declared.putting.PutRefusal.TheVariants.{MayNotFit, OutOfMemory}
use Rattle.asl_shape_paths.proofs.NumberedParts.{mention_got}
use Rattle.asl_path.specs.View.{segment_view, segments_view}
use Rattle.asl_path.specs.declared.Segment as code
use Rattle.asl_numbered.specs.declared.node.NodeField.{NodeField}
use Rattle.asl_numbered.specs.Expansion.{shape_at, fields_at, AreDistinct, IsNumberOf, Keeps, Shows}
use Rattle.asl_numbered.specs.Laws.{kept_shape, own_number}
use Rattle.asl_numbered.specs.Names.{Name as SharedName, text_cmp}

-- ---- refusals counted on

-- a shape changed by what is put in a part of it, or the refusal counted with the part's segment
abbrev pub changed_by : (Shape → Shape) → Result Shape ℕ → Result Shape ℕ
changed_by f (Ok s) = Ok (f s)
changed_by f (Err at) = Err (suc at)

counted_refusal : (at k : ℕ) (f : Shape → Shape) (r : Result Shape ℕ) → counted_on (at + 1) r ≡ Err k → counted_on at (changed_by f r) ≡ Err k
counted_refusal at k f (Ok s) e = absurd (cc)
counted_refusal at k f (Err j) e = ap Err (omega arith) ∙ e

counted_change : (at : ℕ) (f : Shape → Shape) (r : Result Shape ℕ) (t : Shape) → counted_on (at + 1) r ≡ Ok t → counted_on at (changed_by f r) ≡ Ok (f t)
counted_change at f (Ok s) t e =
    let is : s ≡ t = cc in
    rw is refl
counted_change at f (Err j) t e = absurd (cc)

-- a refusal in a part
pub refused_below : (old new : List Shape) (at : ℕ) (f : Shape → Shape) (whole r : Result Shape ℕ) (refusal : PutRefusal) → whole ≡ changed_by f r → Answers old (counted_on (at + 1) r) (Err refusal) → Answers new (counted_on at whole) (Err refusal)
refused_below old new at f whole r (MayNotFit k) is h = record { within = tt; shape = tt; refusal = ap (counted_on at) is ∙ counted_refusal at k f r h.refusal }
refused_below old new at f whole r OutOfMemory is h = record { within = tt; shape = tt; refusal = tt }

-- what was put in a part
pub changed_below : (old new : List Shape) (at : ℕ) (f : Shape → Shape) (whole r : Result Shape ℕ) (n m : ℕ) → whole ≡ changed_by f r → Answers old (counted_on (at + 1) r) (Ok n) → Shows new (f (shape_at old n)) m → Answers new (counted_on at whole) (Ok m)
changed_below old new at f whole r n m is h shows = record {
  within = shows.within;
  shape = ap (counted_on at) is ∙ counted_change at f r (shape_at old n) h.shape ∙ ap Ok (sym shows.same);
  refusal = tt;
}

-- ---- behind the first segment

-- putting at segments is putting under the first of them, where there are trees
pub put_first : (items further : List code.Segment) (s : code.Segment) (at : Segment) (w t : Shape) → 0 < length items → further ≡ drop 1 items → s ≡ get_or items 0 s → segment_view s ≡ at → inhabited t && inhabited w ≡ true
    → put_under (put (segments_view further) w) at (segments_view further) w t ≡ put (segments_view items) w t
put_first [] further s at w t h behind is same both = absurd (omega arith)
put_first (x ∷ items) further s at w t h behind is same both = rw (both, behind, ← same, is) refl

-- ---- lists

put_in_place_of : (go_on : Shape → Result Shape ℕ) (s : Shape) (i : ℕ) (arrays : Arrays) (t : Shape) → place_in i arrays ≡ Some t → put_in_arrays go_on i arrays ≡ changed_by (λ u. arrays_with i u arrays s) (go_on t)
put_in_place_of go_on s i WithoutArrays t at = absurd (cc)
put_in_place_of go_on s i (ArraysOf first rest) t at = rw at (changed (go_on t))
  where
    changed : (r : Result Shape ℕ) → array_with i first rest r ≡ changed_by (λ u. arrays_with i u (ArraysOf first rest) s) r
    changed (Ok u) = refl
    changed (Err at) = refl

-- putting under an index changes the place there
pub put_at_index : (go_on : Shape → Result Shape ℕ) (p : List Segment) (w s : Shape) (i : ℕ) (part : Option Shape) (t : Shape) → part ≡ part_at (Index i) s → part ≡ Some t → put_under go_on (Index i) p w s ≡ changed_by (λ u. with_place i u s) (go_on t)
put_at_index go_on p w s i part t is found =
    let placed : place_in i (arrays_alone s) ≡ Some t = sym is ∙ found in
    put_in_place_of go_on s i (arrays_alone s) t placed ∙ ap (λ arrays. changed_by (λ u. arrays_with i u arrays s) (go_on t)) (alone_placed s i t placed)

pub answered_in_list : (old mid new : List Shape) (at i : ℕ) (go_on : Shape → Result Shape ℕ) (p : List Segment) (w : Shape) (number : ℕ) (r : Option ℕ) (place n m : ℕ)
    → number < length old → Keeps old mid → option_map (shape_at old) r ≡ part_at (Index i) (shape_at old number) → r ≡ Some place → Answers mid (counted_on (at + 1) (go_on (shape_at old place))) (Ok n)
    → Shows new (with_place i (shape_at mid n) (shape_at mid number)) m → Answers new (counted_on at (put_under go_on (Index i) p w (shape_at old number))) (Ok m)
answered_in_list old mid new at i go_on p w number r place n m within keeps part found h shows =
    let table = old in
    let whole = put_at_index go_on p w (shape_at table number) i (option_map (shape_at table) r) (shape_at table place) part (ap (option_map (shape_at table)) found) in
    let shown = subst (λ s. Shows new (with_place i (shape_at mid n) s) m) (kept_shape old mid number keeps within) shows in
    changed_below mid new at (λ u. with_place i u (shape_at table number)) _ (go_on (shape_at table place)) n m whole h shown

-- ---- objects

-- putting under a name changes the field
pub put_at_name : (go_on : Shape → Result Shape ℕ) (p : List Segment) (w s : Shape) (n : List ℕ) (shapes : FieldShapes) (extra : Bool) (mention : Option (Bool × Shape)) → objects_alone s ≡ ObjectsOf shapes extra → mention_of n shapes ≡ mention → put_under go_on (Name n) p w s ≡ changed_by (λ u. with_field n u s) (put_mentioned go_on extra p w mention)
put_at_name go_on p w s n shapes extra mention is found = rw (is, found, alone_objects s shapes extra is) (changed (put_mentioned go_on extra p w mention))
  where
    changed : (r : Result Shape ℕ) → object_with n shapes extra r ≡ changed_by (λ u. objects_with n u (ObjectsOf shapes extra) s) r
    changed (Ok u) = refl
    changed (Err at) = refl

pub refused_in_object : (new : List Shape) (at : ℕ) (go_on : Shape → Result Shape ℕ) (p : List Segment) (w s : Shape) (table : List Shape) (k : String Global) (fields : BTreeMap SharedName NodeField) (extra : Bool) (field : Option NodeField) (refusal : PutRefusal) (answer : Result ℕ PutRefusal)
    → objects_alone s ≡ ObjectsOf (fields_at table fields.entries) extra → field ≡ get_by (text_cmp (string_bytes k)) fields → Answers new (counted_on (at + 1) (put_mentioned go_on extra p w (option_map (mentioned table) field))) (Err refusal) → answer ≡ Err refusal
    → Answers new (counted_on at (put_under go_on (Name (string_bytes k)) p w s)) answer
refused_in_object new at go_on p w s table k fields extra field refusal answer is got h e =
    let whole = put_at_name go_on p w s (string_bytes k) (fields_at table fields.entries) extra (option_map (mentioned table) field) is (mention_got table (string_bytes k) fields field got) in
    rw e (refused_below new new at (λ u. with_field (string_bytes k) u s) _ (put_mentioned go_on extra p w (option_map (mentioned table) field)) refusal whole h)

pub answered_in_object : (old mid new : List Shape) (at : ℕ) (go_on : Shape → Result Shape ℕ) (p : List Segment) (w : Shape) (number : ℕ) (k : String Global) (fields : BTreeMap SharedName NodeField) (extra : Bool) (field : Option NodeField) (n m : ℕ)
    → number < length old → Keeps old mid → objects_alone (shape_at old number) ≡ ObjectsOf (fields_at old fields.entries) extra → field ≡ get_by (text_cmp (string_bytes k)) fields
    → Answers mid (counted_on (at + 1) (put_mentioned go_on extra p w (option_map (mentioned old) field))) (Ok n) → Shows new (with_field (string_bytes k) (shape_at mid n) (shape_at mid number)) m
    → Answers new (counted_on at (put_under go_on (Name (string_bytes k)) p w (shape_at old number))) (Ok m)
answered_in_object old mid new at go_on p w number k fields extra field n m within keeps is got h shows =
    let table = old in
    let s = shape_at table number in
    let whole = put_at_name go_on p w s (string_bytes k) (fields_at table fields.entries) extra (option_map (mentioned table) field) is (mention_got table (string_bytes k) fields field got) in
    let shown = subst (λ t. Shows new (with_field (string_bytes k) (shape_at mid n) t) m) (kept_shape old mid number keeps within) shows in
    changed_below mid new at (λ u. with_field (string_bytes k) u s) _ (put_mentioned go_on extra p w (option_map (mentioned table) field)) n m whole h shown

-- ---- where there is no tree

-- where no tree has the shapes, there is nothing to put
pub nothing_put : (p : List Segment) (w s : Shape) → inhabited s && inhabited w ≡ false → put p w s ≡ Ok Never
nothing_put [] w s h = rw h refl
nothing_put (segment ∷ p) w s h = rw h refl

-- ---- an optional field

-- a refusal of the second, where the first is there
pub second_refused : (old mid new : List Shape) (at : ℕ) (first second : Result Shape ℕ) (n : ℕ) (refusal : PutRefusal) (answer : Result ℕ PutRefusal) → Answers old (counted_on at first) (Ok n) → Answers mid (counted_on at second) (Err refusal) → answer ≡ Err refusal → Answers new (counted_on at (join_results first second)) answer
second_refused old mid new at (Ok s) (Ok t) n (MayNotFit k) answer h g e =
    let told = g.refusal in
    absurd (cc)
second_refused old mid new at (Ok s) (Err j) n (MayNotFit k) answer h g e = rw e (record { within = tt; shape = tt; refusal = g.refusal })
second_refused old mid new at (Err j) second n (MayNotFit k) answer h g e =
    let told = h.shape in
    absurd (cc)
second_refused old mid new at first second n OutOfMemory answer h g e = rw e (record { within = tt; shape = tt; refusal = tt })

join_counted : (at : ℕ) (first second : Result Shape ℕ) (s t : Shape) → counted_on at first ≡ Ok s → counted_on at second ≡ Ok t → counted_on at (join_results first second) ≡ Ok (join s t)
join_counted at (Ok a) (Ok b) s t h g =
    let one : a ≡ s = cc in
    let two : b ≡ t = cc in
    rw (one, two) refl
join_counted at (Ok a) (Err k) s t h g = absurd (cc)
join_counted at (Err j) second s t h g = absurd (cc)

-- both are joined
pub both_joined : (old mid new : List Shape) (at : ℕ) (first second : Result Shape ℕ) (n m k : ℕ) → Answers old (counted_on at first) (Ok n) → Answers mid (counted_on at second) (Ok m) → shape_at mid n ≡ shape_at old n → Shows new (join (shape_at mid n) (shape_at mid m)) k → Answers new (counted_on at (join_results first second)) (Ok k)
both_joined old mid new at first second n m k h g stays shows = record {
  within = shows.within;
  shape = join_counted at first second (shape_at mid n) (shape_at mid m) (h.shape ∙ ap Ok (sym stays)) g.shape ∙ ap Ok (sym shows.same);
  refusal = tt;
}

-- ---- what is built

-- ---- answers

-- a number at hand is the answer
pub answered : (table : List Shape) (at n : ℕ) (s : Shape) (r : Result Shape ℕ) → r ≡ Ok s → Shows table s n → Answers table (counted_on at r) (Ok n)
answered table at n s r is shows = record { within = shows.within; shape = ap (counted_on at) is ∙ ap Ok (sym shows.same); refusal = tt }

-- its number
pub own_answer : (table : List Shape) (r : Result Shape ℕ) (answer : Result ℕ PutRefusal) → AreDistinct table → Answers table r answer → IfOk answer (λ n. IsNumberOf table (shape_at table n) n)
own_answer table r (Ok n) distinct h = own_number table n distinct h.within
own_answer table r (Err refusal) distinct h = tt

-- in a table of the two shapes
pub put_through : (one two three : List Shape) (p : List Segment) (w s r : Shape) (number placed changed : ℕ) → IsNumberOf one s number → Keeps one two → IsNumberOf two w placed
    → put p (shape_at two placed) (shape_at two number) ≡ Ok (shape_at three changed) → r ≡ shape_at three changed → put p w s ≡ Ok r
put_through one two three p w s r number placed changed is keeps also h shown =
    let own : shape_at two number ≡ s = kept_shape one two number keeps (is.within) ∙ is.same in
    let its : shape_at two placed ≡ w = also.same in
    ap (λ t. put p t s) (sym its) ∙ ap (put p (shape_at two placed)) (sym own) ∙ h ∙ ap Ok (sym shown)

pub refused_through : (one two : List Shape) (p : List Segment) (w s : Shape) (number placed at : ℕ) → IsNumberOf one s number → Keeps one two → IsNumberOf two w placed
    → put p (shape_at two placed) (shape_at two number) ≡ Err at → put p w s ≡ Err at
refused_through one two p w s number placed at is keeps also h =
    let own : shape_at two number ≡ s = kept_shape one two number keeps (is.within) ∙ is.same in
    let its : shape_at two placed ≡ w = also.same in
    ap (λ t. put p t s) (sym its) ∙ ap (put p (shape_at two placed)) (sym own) ∙ h
