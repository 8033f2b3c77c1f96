-- Objects of which one field is set: what their shapes are, and the shapes of their fields.
use Rattle.std.proofs.Common.{◌≡◌, ℕ, List, Bool, true, false, ◌||◌, Some, refl, sym, ◌∙◌}
use Rattle.std.specs.Prelude.{IsTrue, bytes_eq}
use Rattle.std.proofs.lemmas.Bool.{and_parts, and_from, false≢true}
use Rattle.std.proofs.lemmas.Slice.Eq.{bytes_eq-Decides}
use Rattle.asl_model.specs.Tree.{Tree, Fields, NoFields, AndField, field_named, comes_before}
use Rattle.asl_model.specs.Placing.{set_field, insert_field, without_field}
use Rattle.asl_model.specs.Shape.{Shape, FieldShapes, NoFieldShapes, AndFieldShape, Has, has, fields_have, there_and, mentions, all_mentioned, insert_mention}
use Rattle.asl_model.specs.ShapeOrder.{set_mention, without_mention, with_mention_unless}
use Rattle.asl_model.proofs.ShapeInside.{all_mentioned-from, there-mentioned}

-- The fields of an object with one set

field_named-insert_same : (n : List ℕ) (u : Tree) (fs : Fields) → field_named n (insert_field n u (without_field n fs)) ≡ Some u
field_named-insert_same n u NoFields = rw ((bytes_eq-Decides n n).1 refl) refl
field_named-insert_same n u (AndField m t fs) = go (bytes_eq m n) refl (comes_before n m) refl (field_named-insert_same n u fs)
  where
    go : (same : Bool) → bytes_eq m n ≡ same → (front : Bool) → comes_before n m ≡ front → field_named n (insert_field n u (without_field n fs)) ≡ Some u → field_named n (insert_field n u (without_field n (AndField m t fs))) ≡ Some u
    go true same front at below = rw same below
    go false other true at below = rw (other, at, (bytes_eq-Decides n n).1 refl) refl
    go false other false at below = rw (other, at, other) below

field_named-insert_other : (n k : List ℕ) (u : Tree) (fs : Fields) → bytes_eq n k ≡ false → field_named k (insert_field n u fs) ≡ field_named k fs
field_named-insert_other n k u NoFields apart = rw apart refl
field_named-insert_other n k u (AndField m t fs) apart = go (comes_before n m) refl (bytes_eq m k) refl (field_named-insert_other n k u fs apart)
  where
    go : (front : Bool) → comes_before n m ≡ front → (same : Bool) → bytes_eq m k ≡ same → field_named k (insert_field n u fs) ≡ field_named k fs → field_named k (insert_field n u (AndField m t fs)) ≡ field_named k (AndField m t fs)
    go true at same is below = rw (at, apart) refl
    go false at true is below = rw (at, is) refl
    go false at false is below = rw (at, is) below

field_named-without : (n k : List ℕ) (fs : Fields) → bytes_eq n k ≡ false → field_named k (without_field n fs) ≡ field_named k fs
field_named-without n k NoFields apart = refl
field_named-without n k (AndField m t fs) apart = go (bytes_eq m n) refl (bytes_eq m k) refl (field_named-without n k fs apart)
  where
    go : (same : Bool) → bytes_eq m n ≡ same → (found : Bool) → bytes_eq m k ≡ found → field_named k (without_field n fs) ≡ field_named k fs → field_named k (without_field n (AndField m t fs)) ≡ field_named k (AndField m t fs)
    go true same true found below =
        let is : m ≡ n = (bytes_eq-Decides m n).0 same in
        let again : bytes_eq n k ≡ true = rw is at found in
        absurd (cc)
    go true same false found below = rw (same, found) below
    go false other true found below = rw (other, found) refl
    go false other false found below = rw (other, found) below

pub field_named-set_same : (n : List ℕ) (u : Tree) (fs : Fields) → field_named n (set_field n u fs) ≡ Some u
field_named-set_same n u fs = field_named-insert_same n u fs

pub field_named-set_other : (n k : List ℕ) (u : Tree) (fs : Fields) → bytes_eq n k ≡ false → field_named k (set_field n u fs) ≡ field_named k fs
field_named-set_other n k u fs apart = field_named-insert_other n k u (without_field n fs) apart ∙ field_named-without n k fs apart

-- The mentions with one set

have-unless : (drop : Bool) (n : List ℕ) (needed : Bool) (s : Shape) (shapes : FieldShapes) (fs : Fields) → IsTrue (there_and needed (has s) (field_named n fs)) → IsTrue (fields_have shapes fs) → IsTrue (fields_have (with_mention_unless drop n needed s shapes) fs)
have-unless true n needed s shapes fs here further = further
have-unless false n needed s shapes fs here further = and_from (there_and needed (has s) (field_named n fs)) (fields_have shapes fs) here further

have-without : (n : List ℕ) (shapes : FieldShapes) (fs : Fields) → IsTrue (fields_have shapes fs) → IsTrue (fields_have (without_mention n shapes) fs)
have-without n NoFieldShapes fs h = refl
have-without n (AndFieldShape m needed s shapes) fs h =
    let both = and_parts (there_and needed (has s) (field_named m fs)) (fields_have shapes fs) h in
    have-unless (bytes_eq m n) m needed s (without_mention n shapes) fs both.0 (have-without n shapes fs both.1)

have-insert : (n : List ℕ) (needed : Bool) (s : Shape) (shapes : FieldShapes) (fs : Fields) → IsTrue (fields_have shapes fs) → IsTrue (there_and needed (has s) (field_named n fs)) → IsTrue (fields_have (insert_mention n needed s shapes) fs)
have-insert n needed s NoFieldShapes fs h here = and_from (there_and needed (has s) (field_named n fs)) true here refl
have-insert n needed s (AndFieldShape m other t shapes) fs h here = go (comes_before n m) refl (have-insert n needed s shapes fs both.1 here)
  where
    both : IsTrue (there_and other (has t) (field_named m fs)) × IsTrue (fields_have shapes fs)
    both = and_parts (there_and other (has t) (field_named m fs)) (fields_have shapes fs) h

    go : (front : Bool) → comes_before n m ≡ front → IsTrue (fields_have (insert_mention n needed s shapes) fs) → IsTrue (fields_have (insert_mention n needed s (AndFieldShape m other t shapes)) fs)
    go true at below = rw at (and_from (there_and needed (has s) (field_named n fs)) (fields_have (AndFieldShape m other t shapes) fs) here h)
    go false at below = rw at (and_from (there_and other (has t) (field_named m fs)) (fields_have (insert_mention n needed s shapes) fs) both.0 below)

-- a mention more that holds is no loss
pub have-set : (n : List ℕ) (needed : Bool) (s : Shape) (shapes : FieldShapes) (fs : Fields) → IsTrue (fields_have shapes fs) → IsTrue (there_and needed (has s) (field_named n fs)) → IsTrue (fields_have (set_mention n needed s shapes) fs)
have-set n needed s shapes fs h here = have-insert n needed s (without_mention n shapes) fs (have-without n shapes fs h) here

-- a shape's other mentions hold of an object with one field set
have-without_set : (n : List ℕ) (u : Tree) (shapes : FieldShapes) (fs : Fields) → IsTrue (fields_have shapes fs) → IsTrue (fields_have (without_mention n shapes) (set_field n u fs))
have-without_set n u NoFieldShapes fs h = refl
have-without_set n u (AndFieldShape m needed s shapes) fs h = go (bytes_eq m n) refl (have-without_set n u shapes fs both.1)
  where
    both : IsTrue (there_and needed (has s) (field_named m fs)) × IsTrue (fields_have shapes fs)
    both = and_parts (there_and needed (has s) (field_named m fs)) (fields_have shapes fs) h

    apart : bytes_eq m n ≡ false → bytes_eq n m ≡ false
    apart e = flipped (bytes_eq n m) refl
      where
        flipped : (b : Bool) → bytes_eq n m ≡ b → bytes_eq n m ≡ false
        flipped false at = at
        flipped true at =
            let is : n ≡ m = (bytes_eq-Decides n m).0 at in
            let again : bytes_eq m n ≡ true = (bytes_eq-Decides m n).1 (sym is) in
            absurd (cc)

    go : (same : Bool) → bytes_eq m n ≡ same → IsTrue (fields_have (without_mention n shapes) (set_field n u fs)) → IsTrue (fields_have (with_mention_unless (bytes_eq m n) m needed s (without_mention n shapes)) (set_field n u fs))
    go true same below = rw same below
    go false other below =
        let there : IsTrue (there_and needed (has s) (field_named m (set_field n u fs))) = rw (field_named-set_other n m u fs (apart other)) both.0 in
        rw other (and_from (there_and needed (has s) (field_named m (set_field n u fs))) (fields_have (without_mention n shapes) (set_field n u fs)) there below)

pub set-have : (n : List ℕ) (needed : Bool) (r : Shape) (u : Tree) (shapes : FieldShapes) (fs : Fields) → IsTrue (fields_have shapes fs) → Has r u → IsTrue (fields_have (set_mention n needed r shapes) (set_field n u fs))
set-have n needed r u shapes fs h fits = have-insert n needed r (without_mention n shapes) (set_field n u fs) (have-without_set n u shapes fs h) (rw (field_named-set_same n u fs) fits)

-- What is mentioned

mentions-insert_same : (n : List ℕ) (needed : Bool) (s : Shape) (shapes : FieldShapes) → IsTrue (mentions n (insert_mention n needed s shapes))
mentions-insert_same n needed s NoFieldShapes = rw ((bytes_eq-Decides n n).1 refl) refl
mentions-insert_same n needed s (AndFieldShape m other t shapes) = go (comes_before n m) refl (mentions-insert_same n needed s shapes)
  where
    or_true : (b : Bool) → (b || true) ≡ true
    or_true true = refl
    or_true false = refl

    go : (front : Bool) → comes_before n m ≡ front → IsTrue (mentions n (insert_mention n needed s shapes)) → IsTrue (mentions n (insert_mention n needed s (AndFieldShape m other t shapes)))
    go true at below = rw (at, (bytes_eq-Decides n n).1 refl) refl
    go false at below = rw (at, below) (or_true (bytes_eq m n))

mentions-insert : (n : List ℕ) (needed : Bool) (s : Shape) (shapes : FieldShapes) (k : List ℕ) → IsTrue (mentions k shapes) → IsTrue (mentions k (insert_mention n needed s shapes))
mentions-insert n needed s NoFieldShapes k h = absurd (false≢true h)
mentions-insert n needed s (AndFieldShape m other t shapes) k h = go (comes_before n m) refl (bytes_eq m k) refl (mentions-insert n needed s shapes k)
  where
    or_true : (b : Bool) → (b || true) ≡ true
    or_true true = refl
    or_true false = refl

    go : (front : Bool) → comes_before n m ≡ front → (same : Bool) → bytes_eq m k ≡ same → (IsTrue (mentions k shapes) → IsTrue (mentions k (insert_mention n needed s shapes))) → IsTrue (mentions k (insert_mention n needed s (AndFieldShape m other t shapes)))
    go true at same is below = rw (at, h) (or_true (bytes_eq n k))
    go false at true is below = rw (at, is) refl
    go false at false is below = rw (at, is) (below (rw is at h))

mentions-unless : (drop : Bool) (m : List ℕ) (needed : Bool) (s : Shape) (shapes : FieldShapes) (k : List ℕ) → IsTrue (mentions k shapes) → IsTrue (mentions k (with_mention_unless drop m needed s shapes))
mentions-unless true m needed s shapes k h = h
mentions-unless false m needed s shapes k h = rw h (or_true (bytes_eq m k))
  where
    or_true : (b : Bool) → (b || true) ≡ true
    or_true true = refl
    or_true false = refl

mentions-without : (n : List ℕ) (shapes : FieldShapes) (k : List ℕ) → bytes_eq n k ≡ false → IsTrue (mentions k shapes) → IsTrue (mentions k (without_mention n shapes))
mentions-without n NoFieldShapes k apart h = h
mentions-without n (AndFieldShape m needed s shapes) k apart h = go (bytes_eq m n) refl (bytes_eq m k) refl (mentions-without n shapes k apart)
  where
    go : (same : Bool) → bytes_eq m n ≡ same → (found : Bool) → bytes_eq m k ≡ found → (IsTrue (mentions k shapes) → IsTrue (mentions k (without_mention n shapes))) → IsTrue (mentions k (with_mention_unless (bytes_eq m n) m needed s (without_mention n shapes)))
    go true same true found below =
        let is : m ≡ n = (bytes_eq-Decides m n).0 same in
        let again : bytes_eq n k ≡ true = rw is at found in
        absurd (cc)
    go false other true found below = rw (other, found) refl
    go same' at false found below = mentions-unless (bytes_eq m n) m needed s (without_mention n shapes) k (below (rw found at h))

pub mentions-set_same : (n : List ℕ) (needed : Bool) (s : Shape) (shapes : FieldShapes) → IsTrue (mentions n (set_mention n needed s shapes))
mentions-set_same n needed s shapes = mentions-insert_same n needed s (without_mention n shapes)

pub mentions-set : (n : List ℕ) (needed : Bool) (s : Shape) (shapes : FieldShapes) (k : List ℕ) → IsTrue (mentions k shapes) → IsTrue (mentions k (set_mention n needed s shapes))
mentions-set n needed s shapes k h = go (bytes_eq n k) refl
  where
    go : (same : Bool) → bytes_eq n k ≡ same → IsTrue (mentions k (set_mention n needed s shapes))
    go true same =
        let is : n ≡ k = (bytes_eq-Decides n k).0 same in
        rw (← is) (mentions-set_same n needed s shapes)
    go false apart = mentions-insert n needed s (without_mention n shapes) k (mentions-without n shapes k apart h)

-- every field of an object with one set is mentioned
pub set-mentioned : (n : List ℕ) (needed : Bool) (r : Shape) (u : Tree) (shapes : FieldShapes) (fs : Fields) → IsTrue (all_mentioned shapes fs) → IsTrue (all_mentioned (set_mention n needed r shapes) (set_field n u fs))
set-mentioned n needed r u shapes fs h = all_mentioned-from (set_mention n needed r shapes) (set_field n u fs) (λ k t at. go k t at (bytes_eq n k) refl)
  where
    go : (k : List ℕ) (t : Tree) → field_named k (set_field n u fs) ≡ Some t → (same : Bool) → bytes_eq n k ≡ same → IsTrue (mentions k (set_mention n needed r shapes))
    go k t at true same =
        let is : n ≡ k = (bytes_eq-Decides n k).0 same in
        rw (← is) (mentions-set_same n needed r shapes)
    go k t at false apart = mentions-set n needed r shapes k (there-mentioned k shapes fs t (rw (field_named-set_other n k u fs apart) at at) h)

-- One more field in front

have-without_front : (n : List ℕ) (u : Tree) (shapes : FieldShapes) (fs : Fields) → IsTrue (fields_have shapes fs) → IsTrue (fields_have (without_mention n shapes) (AndField n u fs))
have-without_front n u NoFieldShapes fs h = refl
have-without_front n u (AndFieldShape m needed s shapes) fs h = go (bytes_eq m n) refl (bytes_eq n m) refl (have-without_front n u shapes fs both.1)
  where
    both : IsTrue (there_and needed (has s) (field_named m fs)) × IsTrue (fields_have shapes fs)
    both = and_parts (there_and needed (has s) (field_named m fs)) (fields_have shapes fs) h

    go : (same : Bool) → bytes_eq m n ≡ same → (back : Bool) → bytes_eq n m ≡ back → IsTrue (fields_have (without_mention n shapes) (AndField n u fs)) → IsTrue (fields_have (with_mention_unless (bytes_eq m n) m needed s (without_mention n shapes)) (AndField n u fs))
    go true same back at below = rw same below
    go false other true at below =
        let is : n ≡ m = (bytes_eq-Decides n m).0 at in
        let again : bytes_eq m n ≡ true = (bytes_eq-Decides m n).1 (sym is) in
        absurd (cc)
    go false other false at below =
        let there : IsTrue (there_and needed (has s) (field_named m (AndField n u fs))) = rw at both.0 in
        rw other (and_from (there_and needed (has s) (field_named m (AndField n u fs))) (fields_have (without_mention n shapes) (AndField n u fs)) there below)

-- the mention of the field in front holds, in place of all others of its name
pub have-set_front : (n : List ℕ) (r : Shape) (u : Tree) (shapes : FieldShapes) (fs : Fields) → IsTrue (fields_have shapes fs) → Has r u → IsTrue (fields_have (set_mention n true r shapes) (AndField n u fs))
have-set_front n r u shapes fs h fits =
    let here : field_named n (AndField n u fs) ≡ Some u = rw ((bytes_eq-Decides n n).1 refl) refl in
    have-insert n true r (without_mention n shapes) (AndField n u fs) (have-without_front n u shapes fs h) (rw here fits)

-- all fields are mentioned where a mention of the one in front is set
pub set_front-mentioned : (n : List ℕ) (r : Shape) (u : Tree) (shapes : FieldShapes) (fs : Fields) → IsTrue (all_mentioned shapes fs) → IsTrue (all_mentioned (set_mention n true r shapes) (AndField n u fs))
set_front-mentioned n r u shapes fs h = all_mentioned-from (set_mention n true r shapes) (AndField n u fs) (λ k t at. go k t at (bytes_eq n k) refl)
  where
    go : (k : List ℕ) (t : Tree) → field_named k (AndField n u fs) ≡ Some t → (same : Bool) → bytes_eq n k ≡ same → IsTrue (mentions k (set_mention n true r shapes))
    go k t at true same =
        let is : n ≡ k = (bytes_eq-Decides n k).0 same in
        rw (← is) (mentions-set_same n true r shapes)
    go k t at false apart = mentions-set n true r shapes k (there-mentioned k shapes fs t (rw apart at at) h)
