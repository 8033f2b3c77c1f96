-- Both shapes are inside their join.
use Rattle.std.proofs.Common.{◌≡◌, ℕ, zero, suc, max, List, Bool, true, false, ◌&&◌, ◌||◌, not, Option, Some, None, refl, sym, ◌∙◌, ◌⊎◌, inl, inr}
use Rattle.std.specs.Prelude.{IsTrue, bytes_eq, if◌then◌else◌}
use Rattle.std.proofs.lemmas.Bool.{and_parts, and_from, false≢true}
use Rattle.std.proofs.lemmas.Slice.Eq.{bytes_eq-Decides}
use Rattle.asl_model.specs.Tree.{Tree, Null, Boolean, Integer, Text, Array, Object, Trees, NoTrees, AndTree, Fields, field_named}
use Rattle.asl_model.specs.Shape.{Shape, Any, OfKinds, Never, Arrays, WithoutArrays, ArraysOf, Objects, WithoutObjects, ObjectsOf, Shapes, NoShapes, AndShape, FieldShapes, NoFieldShapes, AndFieldShape, Has, Inside, has, arrays_have, objects_have, elements_have, each_element, fields_have, there_and, mentions, all_mentioned, inhabited}
use Rattle.asl_model.specs.ShapeOrder.{mention_of, with_optional_unless, common_joins, further_places, joined_with_each, keep_joined, joined_fields, with_other_fields, join_arrays, join_objects, kept_arrays, kept_objects, join_kinds, join_within, join, depth}
use Rattle.asl_model.proofs.ShapeInhabited.{has-inhabited, arrays_have-kept, objects_have-kept}
use Rattle.asl_model.proofs.ShapeInside.{all_mentioned-from, there-mentioned, mention_holds, closed_absent}
use Rattle.asl_model.proofs.ShapeFields.{have-set, mentions-set, mentions-set_same}

-- a way to join two shapes that both are inside
pub record IsAbove (joined : Shape → Shape → Shape) : Type 0 where
  pub left : (a b : Shape) → Inside a (joined a b)
  pub right : (a b : Shape) → Inside b (joined a b)

-- Arrays

-- each of the shapes is inside that one
abbrev pub AllInside : Shapes → Shape → Type 0
AllInside NoShapes whole = Unit {0}
AllInside (AndShape s others) whole = Inside s whole × AllInside others whole

pub all_inside-more : (first : Shapes) (part whole : Shape) → Inside part whole → AllInside first part → AllInside first whole
all_inside-more NoShapes part whole up h = tt
all_inside-more (AndShape s others) part whole up h = (λ t m. up t (h.0 t m), all_inside-more others part whole up h.1)

module _ (joined : Shape → Shape → Shape) (above : IsAbove joined) where
  each_above : (s : Shape) (others : Shapes) → Inside s (joined_with_each joined s others) × AllInside others (joined_with_each joined s others)
  each_above s NoShapes = (λ t m. m, tt)
  each_above s (AndShape other others) =
      let further = each_above (joined s other) others in
      (λ t m. further.0 t (above.left s other t m), (λ t m. further.0 t (above.right s other t m), further.1))

  -- elements all of whose shapes are inside one
  pub elements_above : (first : Shapes) (rest whole : Shape) (ts : Trees) → AllInside first whole → Inside rest whole → IsTrue (elements_have first (has rest) ts) → IsTrue (each_element (has whole) ts)
  elements_above NoShapes rest whole NoTrees all up h = refl
  elements_above NoShapes rest whole (AndTree t ts) all up h =
      let both = and_parts (has rest t) (each_element (has rest) ts) h in
      and_from (has whole t) (each_element (has whole) ts) (up t both.0) (elements_above NoShapes rest whole ts all up both.1)
  elements_above (AndShape s others) rest whole NoTrees all up h = absurd (false≢true h)
  elements_above (AndShape s others) rest whole (AndTree t ts) all up h =
      let both = and_parts (has s t) (elements_have others (has rest) ts) h in
      and_from (has whole t) (each_element (has whole) ts) (all.0 t both.0) (elements_above others rest whole ts all.1 up both.1)

  array-left : (first others : Shapes) (rest whole : Shape) (ts : Trees) → AllInside (further_places first others) whole → Inside rest whole → IsTrue (elements_have first (has rest) ts) → IsTrue (elements_have (common_joins joined first others) (has whole) ts)
  array-left NoShapes others rest whole ts all up h = elements_above NoShapes rest whole ts tt up h
  array-left (AndShape s first) NoShapes rest whole ts all up h = elements_above (AndShape s first) rest whole ts all up h
  array-left (AndShape s first) (AndShape o others) rest whole NoTrees all up h = absurd (false≢true h)
  array-left (AndShape s first) (AndShape o others) rest whole (AndTree t ts) all up h =
      let both = and_parts (has s t) (elements_have first (has rest) ts) h in
      and_from (has (joined s o) t) (elements_have (common_joins joined first others) (has whole) ts) (above.left s o t both.0) (array-left first others rest whole ts all up both.1)

  array-right : (first others : Shapes) (rest whole : Shape) (ts : Trees) → AllInside (further_places first others) whole → Inside rest whole → IsTrue (elements_have others (has rest) ts) → IsTrue (elements_have (common_joins joined first others) (has whole) ts)
  array-right NoShapes others rest whole ts all up h = elements_above others rest whole ts all up h
  array-right (AndShape s first) NoShapes rest whole ts all up h = elements_above NoShapes rest whole ts tt up h
  array-right (AndShape s first) (AndShape o others) rest whole NoTrees all up h = absurd (false≢true h)
  array-right (AndShape s first) (AndShape o others) rest whole (AndTree t ts) all up h =
      let both = and_parts (has o t) (elements_have others (has rest) ts) h in
      and_from (has (joined s o) t) (elements_have (common_joins joined first others) (has whole) ts) (above.right s o t both.0) (array-right first others rest whole ts all up both.1)

  -- the joined shape of the further elements is above all that it comes from
  rest_above : (further : Shapes) (rest last : Shape) → AllInside further (joined (joined (joined_with_each joined Never further) rest) last) × Inside rest (joined (joined (joined_with_each joined Never further) rest) last) × Inside last (joined (joined (joined_with_each joined Never further) rest) last)
  rest_above further rest last =
      let inner : Shape = joined_with_each joined Never further in
      let middle : Shape = joined inner rest in
      (all_inside-more further inner (joined middle last) (λ t m. above.left middle last t (above.left inner rest t m)) (each_above Never further).1, λ t m. above.left middle last t (above.right inner rest t m), λ t m. above.right middle last t m)

  -- Objects

  optional_holds : (needed : Bool) (s : Shape) (value : Option Tree) → IsTrue (there_and needed (has s) value) → IsTrue (there_and false (has s) value)
  optional_holds needed s None h = refl
  optional_holds needed s (Some t) h = h

  joined_holds-left : (needed other : Bool) (s o : Shape) (value : Option Tree) → IsTrue (there_and needed (has s) value) → IsTrue (there_and (needed && other) (has (joined s o)) value)
  joined_holds-left true true s o None h = h
  joined_holds-left true false s o None h = refl
  joined_holds-left false other s o None h = refl
  joined_holds-left needed other s o (Some t) h = above.left s o t h

  joined_holds-right : (needed other : Bool) (s o : Shape) (value : Option Tree) → IsTrue (there_and other (has o) value) → IsTrue (there_and (needed && other) (has (joined s o)) value)
  joined_holds-right true other s o None h = h
  joined_holds-right false other s o None h = refl
  joined_holds-right needed other s o (Some t) h = above.right s o t h

  keep-left : (n : List ℕ) (needed : Bool) (s : Shape) (more : Bool) (mention : Option (Bool × Shape)) (kept : FieldShapes) (fs : Fields) → IsTrue (there_and needed (has s) (field_named n fs)) → IsTrue (fields_have kept fs) → IsTrue (fields_have (keep_joined joined n needed s more mention kept) fs)
  keep-left n needed s true None kept fs h further = further
  keep-left n needed s false None kept fs h further = and_from (there_and false (has s) (field_named n fs)) (fields_have kept fs) (optional_holds needed s (field_named n fs) h) further
  keep-left n needed s more (Some m) kept fs h further = and_from (there_and (needed && m.0) (has (joined s m.1)) (field_named n fs)) (fields_have kept fs) (joined_holds-left needed m.0 s m.1 (field_named n fs) h) further

  keep-right : (n : List ℕ) (needed : Bool) (s : Shape) (more : Bool) (mention : Option (Bool × Shape)) (kept : FieldShapes) (fs : Fields) → ((m : Bool × Shape) → mention ≡ Some m → IsTrue (there_and m.0 (has m.1) (field_named n fs))) → (mention ≡ None → IsTrue (not more) → field_named n fs ≡ None) → IsTrue (fields_have kept fs) → IsTrue (fields_have (keep_joined joined n needed s more mention kept) fs)
  keep-right n needed s true None kept fs holds absent further = further
  keep-right n needed s false None kept fs holds absent further = and_from (there_and false (has s) (field_named n fs)) (fields_have kept fs) (rw (absent refl refl) refl) further
  keep-right n needed s more (Some m) kept fs holds absent further = and_from (there_and (needed && m.0) (has (joined s m.1)) (field_named n fs)) (fields_have kept fs) (joined_holds-right needed m.0 s m.1 (field_named n fs) (holds m refl)) further

  joined-left : (shapes others : FieldShapes) (more : Bool) (fs : Fields) → IsTrue (fields_have shapes fs) → IsTrue (fields_have (joined_fields joined shapes others more) fs)
  joined-left NoFieldShapes others more fs h = refl
  joined-left (AndFieldShape n needed s shapes) others more fs h =
      let both = and_parts (there_and needed (has s) (field_named n fs)) (fields_have shapes fs) h in
      keep-left n needed s more (mention_of n others) (joined_fields joined shapes others more) fs both.0 (joined-left shapes others more fs both.1)

  joined-right : (shapes others : FieldShapes) (more : Bool) (fs : Fields) → IsTrue (fields_have others fs) → IsTrue (more || all_mentioned others fs) → IsTrue (fields_have (joined_fields joined shapes others more) fs)
  joined-right NoFieldShapes others more fs h mentioned = refl
  joined-right (AndFieldShape n needed s shapes) others more fs h mentioned = keep-right n needed s more (mention_of n others) (joined_fields joined shapes others more) fs (λ m at. mention_holds n others fs m at h) (closed_absent n others more fs mentioned) (joined-right shapes others more fs h mentioned)

-- a field that isn't mentioned isn't there where all others are
unmentioned : (n : List ℕ) (shapes : FieldShapes) (fs : Fields) → mentions n shapes ≡ false → IsTrue (all_mentioned shapes fs) → field_named n fs ≡ None
unmentioned n shapes fs none all = go (field_named n fs) refl
  where
    go : (value : Option Tree) → field_named n fs ≡ value → field_named n fs ≡ None
    go None at = at
    go (Some t) at = absurd (false≢true (sym none ∙ there-mentioned n shapes fs t at all))

others-left : (shapes : FieldShapes) (extra : Bool) (others kept : FieldShapes) (fs : Fields) → IsTrue (extra || all_mentioned shapes fs) → IsTrue (fields_have kept fs) → IsTrue (fields_have (with_other_fields shapes extra others kept) fs)
others-left shapes extra NoFieldShapes kept fs mentioned h = h
others-left shapes extra (AndFieldShape n needed s others) kept fs mentioned h = go extra (mentions n shapes) refl mentioned (others-left shapes extra others kept fs mentioned h)
  where
    go : (extra' named : Bool) → mentions n shapes ≡ named → IsTrue (extra' || all_mentioned shapes fs) → IsTrue (fields_have (with_other_fields shapes extra others kept) fs) → IsTrue (fields_have (with_optional_unless (extra' || named) n s (with_other_fields shapes extra others kept)) fs)
    go true named at all below = below
    go false true at all below = below
    go false false at all below = have-set n false s (with_other_fields shapes extra others kept) fs below (rw (unmentioned n shapes fs at all) refl)

others-right : (shapes : FieldShapes) (extra : Bool) (others kept : FieldShapes) (fs : Fields) → IsTrue (fields_have others fs) → IsTrue (fields_have kept fs) → IsTrue (fields_have (with_other_fields shapes extra others kept) fs)
others-right shapes extra NoFieldShapes kept fs h further = further
others-right shapes extra (AndFieldShape n needed s others) kept fs h further = go (extra || mentions n shapes) (others-right shapes extra others kept fs both.1 further)
  where
    both : IsTrue (there_and needed (has s) (field_named n fs)) × IsTrue (fields_have others fs)
    both = and_parts (there_and needed (has s) (field_named n fs)) (fields_have others fs) h

    optional : (value : Option Tree) → IsTrue (there_and needed (has s) value) → IsTrue (there_and false (has s) value)
    optional None h' = refl
    optional (Some t) h' = h'

    go : (dropped : Bool) → IsTrue (fields_have (with_other_fields shapes extra others kept) fs) → IsTrue (fields_have (with_optional_unless dropped n s (with_other_fields shapes extra others kept)) fs)
    go true below = below
    go false below = have-set n false s (with_other_fields shapes extra others kept) fs below (optional (field_named n fs) both.0)

-- What is mentioned in the join of two objects that have no other fields

or_true : (b : Bool) → (b || true) ≡ true
or_true true = refl
or_true false = refl

joined-mentions : (joined : Shape → Shape → Shape) (shapes others : FieldShapes) (k : List ℕ) → IsTrue (mentions k shapes) → IsTrue (mentions k (joined_fields joined shapes others false))
joined-mentions joined NoFieldShapes others k h = h
joined-mentions joined (AndFieldShape n needed s shapes) others k h = go (mention_of n others) (bytes_eq n k) refl (joined-mentions joined shapes others k)
  where
    go : (mention : Option (Bool × Shape)) (same : Bool) → bytes_eq n k ≡ same → (IsTrue (mentions k shapes) → IsTrue (mentions k (joined_fields joined shapes others false))) → IsTrue (mentions k (keep_joined joined n needed s false mention (joined_fields joined shapes others false)))
    go None true at below = rw at refl
    go None false at below = rw at (below (rw at at h))
    go (Some m) true at below = rw at refl
    go (Some m) false at below = rw at (below (rw at at h))

others-mentions : (shapes : FieldShapes) (extra : Bool) (others kept : FieldShapes) (k : List ℕ) → IsTrue (mentions k kept) → IsTrue (mentions k (with_other_fields shapes extra others kept))
others-mentions shapes extra NoFieldShapes kept k h = h
others-mentions shapes extra (AndFieldShape n needed s others) kept k h = go (extra || mentions n shapes) (others-mentions shapes extra others kept k h)
  where
    go : (dropped : Bool) → IsTrue (mentions k (with_other_fields shapes extra others kept)) → IsTrue (mentions k (with_optional_unless dropped n s (with_other_fields shapes extra others kept)))
    go true below = below
    go false below = mentions-set n false s (with_other_fields shapes extra others kept) k below

-- a name that only the second object mentions is added
others-added : (shapes others kept : FieldShapes) (k : List ℕ) → mentions k shapes ≡ false → IsTrue (mentions k others) → IsTrue (mentions k (with_other_fields shapes false others kept))
others-added shapes NoFieldShapes kept k none h = absurd (false≢true h)
others-added shapes (AndFieldShape n needed s others) kept k none h = go (bytes_eq n k) refl (others-added shapes others kept k none)
  where
    further : (dropped : Bool) → IsTrue (mentions k (with_other_fields shapes false others kept)) → IsTrue (mentions k (with_optional_unless dropped n s (with_other_fields shapes false others kept)))
    further true below = below
    further false below = mentions-set n false s (with_other_fields shapes false others kept) k below

    go : (same : Bool) → bytes_eq n k ≡ same → (IsTrue (mentions k others) → IsTrue (mentions k (with_other_fields shapes false others kept))) → IsTrue (mentions k (with_optional_unless (mentions n shapes) n s (with_other_fields shapes false others kept)))
    go true at below =
        let is : n ≡ k = (bytes_eq-Decides n k).0 at in
        let absent : mentions n shapes ≡ false = rw is none in
        rw (absent, ← is) (mentions-set_same n false s (with_other_fields shapes false others kept))
    go false at below = further (mentions n shapes) (below (rw at at h))

mentioned-right : (joined : Shape → Shape → Shape) (shapes others : FieldShapes) (k : List ℕ) → IsTrue (mentions k others) → IsTrue (mentions k (with_other_fields shapes false others (joined_fields joined shapes others false)))
mentioned-right joined shapes others k h = go (mentions k shapes) refl
  where
    go : (b : Bool) → mentions k shapes ≡ b → IsTrue (mentions k (with_other_fields shapes false others (joined_fields joined shapes others false)))
    go true at = others-mentions shapes false others (joined_fields joined shapes others false) k (joined-mentions joined shapes others k at)
    go false at = others-added shapes others (joined_fields joined shapes others false) k at h

mentioned-joined-left : (joined : Shape → Shape → Shape) (shapes others : FieldShapes) (extra more : Bool) (fs : Fields) → IsTrue (extra || all_mentioned shapes fs) → IsTrue ((extra || more) || all_mentioned (with_other_fields shapes extra others (joined_fields joined shapes others more)) fs)
mentioned-joined-left joined shapes others true more fs h = refl
mentioned-joined-left joined shapes others false true fs h = refl
mentioned-joined-left joined shapes others false false fs h = all_mentioned-from (with_other_fields shapes false others (joined_fields joined shapes others false)) fs (λ k t at. others-mentions shapes false others (joined_fields joined shapes others false) k (joined-mentions joined shapes others k (there-mentioned k shapes fs t at h)))

mentioned-joined-right : (joined : Shape → Shape → Shape) (shapes others : FieldShapes) (extra more : Bool) (fs : Fields) → IsTrue (more || all_mentioned others fs) → IsTrue ((extra || more) || all_mentioned (with_other_fields shapes extra others (joined_fields joined shapes others more)) fs)
mentioned-joined-right joined shapes others true more fs h = refl
mentioned-joined-right joined shapes others false true fs h = refl
mentioned-joined-right joined shapes others false false fs h = all_mentioned-from (with_other_fields shapes false others (joined_fields joined shapes others false)) fs (λ k t at. mentioned-right joined shapes others k (there-mentioned k others fs t at h))

-- By kinds

in_either : (a b : Bool) → IsTrue a ⊎ IsTrue b → IsTrue (a || b)
in_either a b (inl h) = rw h refl
in_either true b (inr h) = refl
in_either false b (inr h) = h

module _ (joined : Shape → Shape → Shape) (above : IsAbove joined) where
  arrays-left : (a b : Arrays) (ts : Trees) → IsTrue (arrays_have a ts) → IsTrue (arrays_have (join_arrays joined a b) ts)
  arrays-left WithoutArrays b ts m = absurd (false≢true m)
  arrays-left (ArraysOf first rest) WithoutArrays ts m = m
  arrays-left (ArraysOf first rest) (ArraysOf others last) ts m =
      let up = rest_above joined above (further_places first others) rest last in
      array-left joined above first others rest (joined (joined (joined_with_each joined Never (further_places first others)) rest) last) ts up.0 up.1 m

  arrays-right : (a b : Arrays) (ts : Trees) → IsTrue (arrays_have b ts) → IsTrue (arrays_have (join_arrays joined a b) ts)
  arrays-right WithoutArrays b ts m = m
  arrays-right (ArraysOf first rest) WithoutArrays ts m = absurd (false≢true m)
  arrays-right (ArraysOf first rest) (ArraysOf others last) ts m =
      let up = rest_above joined above (further_places first others) rest last in
      array-right joined above first others last (joined (joined (joined_with_each joined Never (further_places first others)) rest) last) ts up.0 up.2 m

  objects-left : (a b : Objects) (fs : Fields) → IsTrue (objects_have a fs) → IsTrue (objects_have (join_objects joined a b) fs)
  objects-left WithoutObjects b fs m = absurd (false≢true m)
  objects-left (ObjectsOf shapes extra) WithoutObjects fs m = m
  objects-left (ObjectsOf shapes extra) (ObjectsOf others more) fs m =
      let both = and_parts (fields_have shapes fs) (extra || all_mentioned shapes fs) m in
      let whole : FieldShapes = with_other_fields shapes extra others (joined_fields joined shapes others more) in
      and_from (fields_have whole fs) ((extra || more) || all_mentioned whole fs) (others-left shapes extra others (joined_fields joined shapes others more) fs both.1 (joined-left joined above shapes others more fs both.0)) (mentioned-joined-left joined shapes others extra more fs both.1)

  objects-right : (a b : Objects) (fs : Fields) → IsTrue (objects_have b fs) → IsTrue (objects_have (join_objects joined a b) fs)
  objects-right WithoutObjects b fs m = m
  objects-right (ObjectsOf shapes extra) WithoutObjects fs m = absurd (false≢true m)
  objects-right (ObjectsOf shapes extra) (ObjectsOf others more) fs m =
      let both = and_parts (fields_have others fs) (more || all_mentioned others fs) m in
      let whole : FieldShapes = with_other_fields shapes extra others (joined_fields joined shapes others more) in
      and_from (fields_have whole fs) ((extra || more) || all_mentioned whole fs) (others-right shapes extra others (joined_fields joined shapes others more) fs both.0 (joined-right joined above shapes others more fs both.0 both.1)) (mentioned-joined-right joined shapes others extra more fs both.1)

  -- a tree that has either shape has their join kind by kind
  kinds-have : (a b : Shape) (t : Tree) → Has a t ⊎ Has b t → Has (join_kinds joined a b) t
  kinds-have Any b t h = refl
  kinds-have (OfKinds some others more) Any t h = refl
  kinds-have (OfKinds some others more) (OfKinds simple arrays objects) Null h = in_either some.null simple.null h
  kinds-have (OfKinds some others more) (OfKinds simple arrays objects) (Boolean b) h = in_either some.boolean simple.boolean h
  kinds-have (OfKinds some others more) (OfKinds simple arrays objects) (Integer n) h = in_either some.integer simple.integer h
  kinds-have (OfKinds some others more) (OfKinds simple arrays objects) (Text s) h = in_either some.text simple.text h
  kinds-have (OfKinds some others more) (OfKinds simple arrays objects) (Array ts) (inl h) = arrays-left (kept_arrays others) (kept_arrays arrays) ts (arrays_have-kept others ts h)
  kinds-have (OfKinds some others more) (OfKinds simple arrays objects) (Array ts) (inr h) = arrays-right (kept_arrays others) (kept_arrays arrays) ts (arrays_have-kept arrays ts h)
  kinds-have (OfKinds some others more) (OfKinds simple arrays objects) (Object fs) (inl h) = objects-left (kept_objects more) (kept_objects objects) fs (objects_have-kept more fs h)
  kinds-have (OfKinds some others more) (OfKinds simple arrays objects) (Object fs) (inr h) = objects-right (kept_objects more) (kept_objects objects) fs (objects_have-kept objects fs h)

within-left : (n : ℕ) (a b : Shape) → ((t : Tree) → Has a t → Has (join_kinds (join_within n) a b) t) → Inside a (join_within (suc n) a b)
within-left n a b kinds t m = rw (has-inhabited a t m) (go (inhabited b))
  where
    go : (live : Bool) → Has (if live then join_kinds (join_within n) a b else a) t
    go true = kinds t m
    go false = m

within-right : (n : ℕ) (a b : Shape) → ((t : Tree) → Has b t → Has (join_kinds (join_within n) a b) t) → Inside b (join_within (suc n) a b)
within-right n a b kinds t m = rw (has-inhabited b t m) (go (inhabited a))
  where
    go : (live : Bool) → Has (if live then join_kinds (join_within n) a b else b) t
    go true = kinds t m
    go false = m

pub within_above : (n : ℕ) → IsAbove (join_within n)
within_above zero = record { left = λ a b t m. refl; right = λ a b t m. refl }
within_above (suc n) =
    let below = within_above n in
    record { left = λ a b. within-left n a b (λ t m. kinds-have (join_within n) below a b t (inl m)); right = λ a b. within-right n a b (λ t m. kinds-have (join_within n) below a b t (inr m)) }

-- both shapes are inside the join
pub join_above : IsAbove join
join_above = record { left = λ a b. (within_above (max (depth a) (depth b))).left a b; right = λ a b. (within_above (max (depth a) (depth b))).right a b }

-- so are all that are joined one after the other
pub join_each-above : (s : Shape) (others : Shapes) → Inside s (joined_with_each join s others) × AllInside others (joined_with_each join s others)
join_each-above s others = each_above join join_above s others
