-- Joins and puts keep names in order.
use Rattle.std.proofs.Common.{◌≡◌, ℕ, zero, suc, max, List, [], ◌∷◌, Bool, true, false, ◌&&◌, ◌||◌, Option, Some, None, Result, Ok, Err, refl, arith}
use Rattle.std.specs.Prelude.{IsTrue, IfOk, bytes_eq, if◌then◌else◌}
use Rattle.asl_model.specs.Tree.{comes_before}
use Rattle.asl_model.specs.Path.{Segment, Name, Index}
use Rattle.asl_model.specs.Shape.{Shape, Any, OfKinds, Never, Arrays, WithoutArrays, ArraysOf, Objects, WithoutObjects, ObjectsOf, Shapes, NoShapes, AndShape, FieldShapes, NoFieldShapes, AndFieldShape, mentions, before_mentions, insert_mention, some_simple, some_array, some_object, inhabited, IsOrdered, AreOrderedArrays, AreOrderedObjects, AreOrderedShapes, AreOrderedFields}
use Rattle.asl_model.specs.ShapeOrder.{mention_of, with_mention_unless, without_mention, set_mention, common_joins, further_places, joined_with_each, keep_joined, joined_fields, with_optional_unless, with_other_fields, join_arrays, join_objects, kept_arrays, kept_objects, join_kinds, join_within, join, depth}
use Rattle.asl_model.specs.ShapeFlow.{place_at, arrays_alone, objects_alone, around, built_shape, join_results, set_place, array_with, object_with, put_in_place, put_unmentioned, put_or_built, put_mentioned, put_in_objects, put_in_arrays, put_under, put}
use Rattle.asl_model.proofs.NamesInOrder.{before_more, bytes_eq-comm}
use Rattle.asl_model.proofs.ReadingTemplates.{other_way}

-- Parts of a shape

pub place-ordered : (i : ℕ) (first : Shapes) (part : Shape) → place_at i first ≡ Some part → AreOrderedShapes first → IsOrdered part
place-ordered i NoShapes part e ordered = absurd (cc)
place-ordered zero (AndShape s others) part e ordered =
    let is : s ≡ part = cc in
    rw is at ordered.0
place-ordered (suc i) (AndShape s others) part e ordered = place-ordered i others part e ordered.1

pub mention-ordered : (n : List ℕ) (shapes : FieldShapes) (m : Bool × Shape) → mention_of n shapes ≡ Some m → AreOrderedFields shapes → IsOrdered m.1
mention-ordered n NoFieldShapes m e ordered = absurd (cc)
mention-ordered n (AndFieldShape k needed s shapes) m e ordered = go (bytes_eq k n) refl e (mention-ordered n shapes m)
  where
    go : (same : Bool) → bytes_eq k n ≡ same → mention_of n (AndFieldShape k needed s shapes) ≡ Some m → (mention_of n shapes ≡ Some m → AreOrderedFields shapes → IsOrdered m.1) → IsOrdered m.1
    go true same e' below =
        let found : Some (needed, s) ≡ Some m = rw same at e' in
        let is : (needed, s) ≡ m = cc in
        rw (← is) ordered.1
    go false apart e' below = below (rw apart at e') ordered.2

pub alone_arrays-ordered : (s : Shape) → IsOrdered s → AreOrderedArrays (arrays_alone s)
alone_arrays-ordered Any ordered = tt
alone_arrays-ordered (OfKinds simple arrays objects) ordered = go (some_simple simple || some_object objects)
  where
    go : (others : Bool) → AreOrderedArrays (if others then WithoutArrays else arrays)
    go true = tt
    go false = ordered.0

pub alone_objects-ordered : (s : Shape) → IsOrdered s → AreOrderedObjects (objects_alone s)
alone_objects-ordered Any ordered = tt
alone_objects-ordered (OfKinds simple arrays objects) ordered = go (some_simple simple || some_array arrays)
  where
    go : (others : Bool) → AreOrderedObjects (if others then WithoutObjects else objects)
    go true = tt
    go false = ordered.1

-- A mention set

without-before : (k n : List ℕ) (shapes : FieldShapes) → IsTrue (before_mentions k shapes) → AreOrderedFields shapes → IsTrue (before_mentions k (without_mention n shapes))
without-before k n NoFieldShapes before ordered = refl
without-before k n (AndFieldShape m needed s shapes) before ordered = go (bytes_eq m n) (without-before k n shapes (before_more k m shapes before ordered.0) ordered.2)
  where
    go : (dropped : Bool) → IsTrue (before_mentions k (without_mention n shapes)) → IsTrue (before_mentions k (with_mention_unless dropped m needed s (without_mention n shapes)))
    go true below = below
    go false below = before

without-ordered : (n : List ℕ) (shapes : FieldShapes) → AreOrderedFields shapes → AreOrderedFields (without_mention n shapes)
without-ordered n NoFieldShapes ordered = tt
without-ordered n (AndFieldShape m needed s shapes) ordered = go (bytes_eq m n) (without-ordered n shapes ordered.2)
  where
    go : (dropped : Bool) → AreOrderedFields (without_mention n shapes) → AreOrderedFields (with_mention_unless dropped m needed s (without_mention n shapes))
    go true below = below
    go false below = (without-before m n shapes ordered.0 ordered.2, ordered.1, below)

without-none : (n : List ℕ) (shapes : FieldShapes) → mentions n (without_mention n shapes) ≡ false
without-none n NoFieldShapes = refl
without-none n (AndFieldShape m needed s shapes) = go (bytes_eq m n) refl (without-none n shapes)
  where
    go : (dropped : Bool) → bytes_eq m n ≡ dropped → mentions n (without_mention n shapes) ≡ false → mentions n (with_mention_unless dropped m needed s (without_mention n shapes)) ≡ false
    go true same below = below
    go false apart below = rw apart below

insert-before : (k n : List ℕ) (needed : Bool) (s : Shape) (shapes : FieldShapes) → IsTrue (comes_before k n) → IsTrue (before_mentions k shapes) → IsTrue (before_mentions k (insert_mention n needed s shapes))
insert-before k n needed s NoFieldShapes first before = first
insert-before k n needed s (AndFieldShape m other t shapes) first before = go (comes_before n m)
  where
    go : (front : Bool) → IsTrue (before_mentions k (if front then AndFieldShape n needed s (AndFieldShape m other t shapes) else AndFieldShape m other t (insert_mention n needed s shapes)))
    go true = first
    go false = before

insert-ordered : (n : List ℕ) (needed : Bool) (s : Shape) (shapes : FieldShapes) → mentions n shapes ≡ false → AreOrderedFields shapes → IsOrdered s → AreOrderedFields (insert_mention n needed s shapes)
insert-ordered n needed s NoFieldShapes none ordered one = (refl, one, tt)
insert-ordered n needed s (AndFieldShape m other t shapes) none ordered one =
    let apart : bytes_eq m n ≡ false = grind arith in
    go (comes_before n m) refl apart (insert-ordered n needed s shapes (rw apart at none) ordered.2 one)
  where
    go : (front : Bool) → comes_before n m ≡ front → bytes_eq m n ≡ false → AreOrderedFields (insert_mention n needed s shapes) → AreOrderedFields (if front then AndFieldShape n needed s (AndFieldShape m other t shapes) else AndFieldShape m other t (insert_mention n needed s shapes))
    go true before apart below = (before, one, ordered)
    go false behind apart below = (insert-before m n needed s shapes (other_way n m behind (bytes_eq-comm m n apart)) ordered.0, ordered.1, below)

pub set-ordered : (n : List ℕ) (needed : Bool) (s : Shape) (shapes : FieldShapes) → AreOrderedFields shapes → IsOrdered s → AreOrderedFields (set_mention n needed s shapes)
set-ordered n needed s shapes ordered one = insert-ordered n needed s (without_mention n shapes) (without-none n shapes) (without-ordered n shapes ordered) one

-- Joins

-- a way to join two shapes that keeps names in order
pub record KeepsOrder (joined : Shape → Shape → Shape) : Type 0 where
  pub keeps : (a b : Shape) → IsOrdered a → IsOrdered b → IsOrdered (joined a b)

one_of-ordered : (test : Bool) (s t : Shape) → IsOrdered s → IsOrdered t → IsOrdered (if test then s else t)
one_of-ordered true s t one other = one
one_of-ordered false s t one other = other

further-ordered : (first others : Shapes) → AreOrderedShapes first → AreOrderedShapes others → AreOrderedShapes (further_places first others)
further-ordered NoShapes others ordered more = more
further-ordered (AndShape s first) NoShapes ordered more = ordered
further-ordered (AndShape s first) (AndShape other others) ordered more = further-ordered first others ordered.1 more.1

other_fields-ordered : (shapes : FieldShapes) (extra : Bool) (others kept : FieldShapes) → AreOrderedFields others → AreOrderedFields kept → AreOrderedFields (with_other_fields shapes extra others kept)
other_fields-ordered shapes extra NoFieldShapes kept more ordered = ordered
other_fields-ordered shapes extra (AndFieldShape n needed s others) kept more ordered = go (extra || mentions n shapes) (other_fields-ordered shapes extra others kept more.2 ordered)
  where
    go : (dropped : Bool) → AreOrderedFields (with_other_fields shapes extra others kept) → AreOrderedFields (with_optional_unless dropped n s (with_other_fields shapes extra others kept))
    go true below = below
    go false below = set-ordered n false s (with_other_fields shapes extra others kept) below more.1

pub kept_arrays-ordered : (arrays : Arrays) → AreOrderedArrays arrays → AreOrderedArrays (kept_arrays arrays)
kept_arrays-ordered arrays ordered = go (some_array arrays)
  where
    go : (some : Bool) → AreOrderedArrays (if some then arrays else WithoutArrays)
    go true = ordered
    go false = tt

pub kept_objects-ordered : (objects : Objects) → AreOrderedObjects objects → AreOrderedObjects (kept_objects objects)
kept_objects-ordered objects ordered = go (some_object objects)
  where
    go : (some : Bool) → AreOrderedObjects (if some then objects else WithoutObjects)
    go true = ordered
    go false = tt

module _ (joined : Shape → Shape → Shape) (keeping : KeepsOrder joined) where
  common-ordered : (first others : Shapes) → AreOrderedShapes first → AreOrderedShapes others → AreOrderedShapes (common_joins joined first others)
  common-ordered NoShapes others ordered more = tt
  common-ordered (AndShape s first) NoShapes ordered more = tt
  common-ordered (AndShape s first) (AndShape other others) ordered more = (keeping.keeps s other ordered.0 more.0, common-ordered first others ordered.1 more.1)

  pub each-ordered : (s : Shape) (others : Shapes) → IsOrdered s → AreOrderedShapes others → IsOrdered (joined_with_each joined s others)
  each-ordered s NoShapes one more = one
  each-ordered s (AndShape other others) one more = each-ordered (joined s other) others (keeping.keeps s other one more.0) more.1

  arrays-ordered : (arrays others : Arrays) → AreOrderedArrays arrays → AreOrderedArrays others → AreOrderedArrays (join_arrays joined arrays others)
  arrays-ordered WithoutArrays others ordered more = more
  arrays-ordered (ArraysOf first rest) WithoutArrays ordered more = ordered
  arrays-ordered (ArraysOf first rest) (ArraysOf others further) ordered more =
      let places = joined_with_each joined Never (further_places first others) in
      let among : IsOrdered places = each-ordered Never (further_places first others) (tt, tt) (further-ordered first others ordered.0 more.0) in
      (common-ordered first others ordered.0 more.0, keeping.keeps (joined places rest) further (keeping.keeps places rest among ordered.1) more.1)

  joined-before : (k : List ℕ) (shapes others : FieldShapes) (more : Bool) → IsTrue (before_mentions k shapes) → AreOrderedFields shapes → IsTrue (before_mentions k (joined_fields joined shapes others more))
  joined-before k NoFieldShapes others more before ordered = refl
  joined-before k (AndFieldShape n needed s shapes) others more before ordered = go more (mention_of n others) (joined-before k shapes others more (before_more k n shapes before ordered.0) ordered.2)
    where
      go : (dropped : Bool) (mention : Option (Bool × Shape)) → IsTrue (before_mentions k (joined_fields joined shapes others more)) → IsTrue (before_mentions k (keep_joined joined n needed s dropped mention (joined_fields joined shapes others more)))
      go true None below = below
      go false None below = before
      go dropped (Some m) below = before

  joined-ordered : (shapes others : FieldShapes) (more : Bool) → AreOrderedFields shapes → AreOrderedFields others → AreOrderedFields (joined_fields joined shapes others more)
  joined-ordered NoFieldShapes others more ordered also = tt
  joined-ordered (AndFieldShape n needed s shapes) others more ordered also = go more (mention_of n others) refl (joined-ordered shapes others more ordered.2 also)
    where
      before : IsTrue (before_mentions n (joined_fields joined shapes others more))
      before = joined-before n shapes others more ordered.0 ordered.2

      go : (dropped : Bool) (mention : Option (Bool × Shape)) → mention_of n others ≡ mention → AreOrderedFields (joined_fields joined shapes others more) → AreOrderedFields (keep_joined joined n needed s dropped mention (joined_fields joined shapes others more))
      go true None at below = below
      go false None at below = (before, ordered.1, below)
      go dropped (Some m) at below = (before, keeping.keeps s m.1 ordered.1 (mention-ordered n others m at also), below)

  objects-ordered : (objects others : Objects) → AreOrderedObjects objects → AreOrderedObjects others → AreOrderedObjects (join_objects joined objects others)
  objects-ordered WithoutObjects others ordered more = more
  objects-ordered (ObjectsOf shapes extra) WithoutObjects ordered more = ordered
  objects-ordered (ObjectsOf shapes extra) (ObjectsOf others more) ordered also = other_fields-ordered shapes extra others (joined_fields joined shapes others more) also (joined-ordered shapes others more ordered also)

  kinds-ordered : (a b : Shape) → IsOrdered a → IsOrdered b → IsOrdered (join_kinds joined a b)
  kinds-ordered Any b ordered more = tt
  kinds-ordered (OfKinds some others further) Any ordered more = tt
  kinds-ordered (OfKinds some others further) (OfKinds simple arrays objects) ordered more =
      (arrays-ordered (kept_arrays others) (kept_arrays arrays) (kept_arrays-ordered others ordered.0) (kept_arrays-ordered arrays more.0), objects-ordered (kept_objects further) (kept_objects objects) (kept_objects-ordered further ordered.1) (kept_objects-ordered objects more.1))

within-ordered : (k : ℕ) (a b : Shape) → IsOrdered a → IsOrdered b → IsOrdered (join_within k a b)
within-ordered zero a b ordered more = tt
within-ordered (suc k) a b ordered more = one_of-ordered (inhabited a) (if inhabited b then join_kinds (join_within k) a b else a) b (one_of-ordered (inhabited b) (join_kinds (join_within k) a b) a (kinds-ordered (join_within k) (record { keeps = within-ordered k }) a b ordered more) ordered) more

pub join-ordered : (a b : Shape) → IsOrdered a → IsOrdered b → IsOrdered (join a b)
join-ordered a b ordered more = within-ordered (max (depth a) (depth b)) a b ordered more

-- Puts

-- the names of the shape, where there is one, stand in order
abbrev pub Ordered : {E : Type 0} → Result Shape E → Type 0
Ordered r = IfOk r IsOrdered

around-ordered : (n : List ℕ) (r : Result Shape ℕ) → Ordered r → Ordered (around n r)
around-ordered n (Ok s) one = (tt, (refl, one, tt))
around-ordered n (Err at) one = tt

built-ordered : (path : List Segment) (w : Shape) → IsOrdered w → Ordered (built_shape path w)
built-ordered [] w one = one
built-ordered (Name n ∷ path) w one = around-ordered n (built_shape path w) (built-ordered path w one)
built-ordered (Index i ∷ path) w one = tt

results-ordered : (r q : Result Shape ℕ) → Ordered r → Ordered q → Ordered (join_results r q)
results-ordered (Ok s) (Ok t) one other = join-ordered s t one other
results-ordered (Ok s) (Err at) one other = tt
results-ordered (Err at) q one other = tt

pub set_place-ordered : (i : ℕ) (w : Shape) (first : Shapes) → IsOrdered w → AreOrderedShapes first → AreOrderedShapes (set_place i w first)
set_place-ordered i w NoShapes one ordered = tt
set_place-ordered zero w (AndShape s others) one ordered = (one, ordered.1)
set_place-ordered (suc i) w (AndShape s others) one ordered = (ordered.0, set_place-ordered i w others one ordered.1)

array-ordered : (i : ℕ) (first : Shapes) (rest : Shape) (r : Result Shape ℕ) → AreOrderedShapes first → IsOrdered rest → Ordered r → Ordered (array_with i first rest r)
array-ordered i first rest (Ok w) ordered further one = ((set_place-ordered i w first one ordered, further), tt)
array-ordered i first rest (Err at) ordered further one = tt

object-ordered : (n : List ℕ) (shapes : FieldShapes) (extra : Bool) (r : Result Shape ℕ) → AreOrderedFields shapes → Ordered r → Ordered (object_with n shapes extra r)
object-ordered n shapes extra (Ok w) ordered one = (tt, set-ordered n true w shapes ordered one)
object-ordered n shapes extra (Err at) ordered one = tt

unmentioned-ordered : (extra : Bool) (path : List Segment) (w : Shape) → IsOrdered w → Ordered (put_unmentioned extra path w)
unmentioned-ordered extra [] w one = one
unmentioned-ordered true (segment ∷ path) w one = tt
unmentioned-ordered false (segment ∷ path) w one = built-ordered (segment ∷ path) w one

or_built-ordered : (needed : Bool) (inner outer : Result Shape ℕ) → Ordered inner → Ordered outer → Ordered (put_or_built needed inner outer)
or_built-ordered true inner outer one other = one
or_built-ordered false inner outer one other = results-ordered inner outer one other

module _ (go_on : Shape → Result Shape ℕ) (goes : (s : Shape) → IsOrdered s → Ordered (go_on s)) where
  in_place-ordered : (i : ℕ) (first : Shapes) (rest : Shape) → AreOrderedShapes first → IsOrdered rest → Ordered (put_in_place go_on i first rest (place_at i first))
  in_place-ordered i first rest ordered further = go (place_at i first) refl
    where
      go : (part : Option Shape) → place_at i first ≡ part → Ordered (put_in_place go_on i first rest part)
      go None at = tt
      go (Some s) at = array-ordered i first rest (go_on s) ordered further (goes s (place-ordered i first s at ordered))

  mentioned-ordered : (n : List ℕ) (shapes : FieldShapes) (extra : Bool) (path : List Segment) (w : Shape) → AreOrderedFields shapes → IsOrdered w → Ordered (put_mentioned go_on extra path w (mention_of n shapes))
  mentioned-ordered n shapes extra path w ordered one = go (mention_of n shapes) refl
    where
      go : (mention : Option (Bool × Shape)) → mention_of n shapes ≡ mention → Ordered (put_mentioned go_on extra path w mention)
      go None at = unmentioned-ordered extra path w one
      go (Some m) at = or_built-ordered m.0 (go_on m.1) (built_shape path w) (goes m.1 (mention-ordered n shapes m at ordered)) (built-ordered path w one)

  in_arrays-ordered : (i : ℕ) (arrays : Arrays) → AreOrderedArrays arrays → Ordered (put_in_arrays go_on i arrays)
  in_arrays-ordered i WithoutArrays ordered = tt
  in_arrays-ordered i (ArraysOf first rest) ordered = in_place-ordered i first rest ordered.0 ordered.1

  in_objects-ordered : (n : List ℕ) (path : List Segment) (w : Shape) (objects : Objects) → IsOrdered w → AreOrderedObjects objects → Ordered (put_in_objects go_on n path w objects)
  in_objects-ordered n path w WithoutObjects one ordered = tt
  in_objects-ordered n path w (ObjectsOf shapes extra) one ordered = object-ordered n shapes extra (put_mentioned go_on extra path w (mention_of n shapes)) ordered (mentioned-ordered n shapes extra path w ordered one)

  under-ordered : (segment : Segment) (path : List Segment) (w s : Shape) → IsOrdered w → IsOrdered s → Ordered (put_under go_on segment path w s)
  under-ordered (Name n) path w s one ordered = in_objects-ordered n path w (objects_alone s) one (alone_objects-ordered s ordered)
  under-ordered (Index i) path w s one ordered = in_arrays-ordered i (arrays_alone s) (alone_arrays-ordered s ordered)

pub put-so : (path : List Segment) (w s : Shape) → IsOrdered w → IsOrdered s → Ordered (put path w s)
put-so [] w s one ordered = one_of-ordered (inhabited s && inhabited w) w Never one (tt, tt)
put-so (segment ∷ path) w s one ordered = go (inhabited s && inhabited w) (under-ordered (put path w) (λ part. put-so path w part one) segment path w s one ordered)
  where
    go : (live : Bool) → Ordered (put_under (put path w) segment path w s) → Ordered (if live then put_under (put path w) segment path w s else Ok Never)
    go true below = below
    go false below = (tt, tt)

pub put-ordered : (path : List Segment) (w s r : Shape) → IsOrdered w → IsOrdered s → put path w s ≡ Ok r → IsOrdered r
put-ordered path w s r one ordered e = rw e at (put-so path w s one ordered)
