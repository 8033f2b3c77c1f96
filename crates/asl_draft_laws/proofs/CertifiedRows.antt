-- What the certificate of a draft has under the names of a table.
use Rattle.std.proofs.Common.{◌≡◌, ◌+◌, ℕ, zero, suc, List, [], ◌∷◌, length, map, Bool, true, false, if◌then◌else◌, Some, None, slice_get, refl, sym, ap, subst, ◌∙◌, ◌⊎◌, inl, inr, arith}
use Rattle.std.specs.Prelude.{IsTrue, bytes_eq, is_some, zip}
use Rattle.std.proofs.lemmas.Bool.{false≢true}
use Rattle.std.proofs.lemmas.List.{length-map}
use Rattle.std.proofs.lemmas.Slice.Eq.{bytes_eq-Decides}
use Rattle.asl_model.specs.Certificate.{StateShapes, under, certified, branches_in, is_map, branch_shape}
use Rattle.asl_model.specs.Machine.{State, Kind, Pass, Task, Choice, Wait, Succeed, Fail, Parallel, Map}
use Rattle.asl_model.specs.Numbering.{Table}
use Rattle.asl_model.specs.Shape.{Shape}
use Rattle.asl_model.specs.ShapeSpelling.{are_distinct}
use Rattle.asl_model.specs.Tree.{comes_before}
use Rattle.asl_model.proofs.NumberedRows.{one_number}
use Rattle.asl_model.proofs.RunOptions.{none_some, some_inj}
use Rattle.asl_draft_laws.specs.Drafts.{Draft, Row, DraftEntry, Growth, children_in, entry_with, entry_of, rows_from, with_named, in_name_order, rows_of, certificate_of}

-- ---- rows

-- one of the elements
abbrev pub Among : {A : Type 0} → List A → A → Type 0
Among [] x = ⊥
Among (y ∷ ys) x = (y ≡ x) ⊎ Among ys x

module _ {A : Type 0} (name : A → List ℕ) where
  -- one more stands among them
  with-here : (x : A) (xs : List A) → Among (with_named name x xs) x
  with-here x [] = inl refl
  with-here x (y ∷ ys) = by (comes_before (name y) (name x)) (with-here x ys)
    where
      by : (b : Bool) → Among (with_named name x ys) x → Among (if b then y ∷ with_named name x ys else x ∷ (y ∷ ys)) x
      by true further = inr further
      by false further = inl refl

  -- so does each other
  with-there : (x z : A) (xs : List A) → Among xs z → Among (with_named name x xs) z
  with-there x z [] h = absurd h
  with-there x z (y ∷ ys) h = by (comes_before (name y) (name x)) h (with-there x z ys)
    where
      by : (b : Bool) → (y ≡ z) ⊎ Among ys z → (Among ys z → Among (with_named name x ys) z) → Among (if b then y ∷ with_named name x ys else x ∷ (y ∷ ys)) z
      by true (inl e) further = inl e
      by true (inr a) further = inr (further a)
      by false a further = inr a

  -- and there is no other
  with-only : (x z : A) (xs : List A) → Among (with_named name x xs) z → (x ≡ z) ⊎ Among xs z
  with-only x z [] (inl e) = inl e
  with-only x z [] (inr h) = absurd h
  with-only x z (y ∷ ys) h = by (comes_before (name y) (name x)) h (with-only x z ys)
    where
      front : (x ≡ z) ⊎ Among ys z → (x ≡ z) ⊎ ((y ≡ z) ⊎ Among ys z)
      front (inl e) = inl e
      front (inr a) = inr (inr a)

      by : (b : Bool) → Among (if b then y ∷ with_named name x ys else x ∷ (y ∷ ys)) z → (Among (with_named name x ys) z → (x ≡ z) ⊎ Among ys z) → (x ≡ z) ⊎ ((y ≡ z) ⊎ Among ys z)
      by true (inl e) further = inr (inl e)
      by true (inr a) further = front (further a)
      by false a further = a

  pub ordered-there : (xs : List A) (z : A) → Among xs z → Among (in_name_order name xs) z
  ordered-there [] z h = h
  ordered-there (x ∷ xs) z (inl e) = subst (Among (with_named name x (in_name_order name xs))) e (with-here x (in_name_order name xs))
  ordered-there (x ∷ xs) z (inr h) = with-there x z (in_name_order name xs) (ordered-there xs z h)

  pub ordered-only : (xs : List A) (z : A) → Among (in_name_order name xs) z → Among xs z
  ordered-only [] z h = h
  ordered-only (x ∷ xs) z h = by (with-only x z (in_name_order name xs) h) (ordered-only xs z)
    where
      by : (x ≡ z) ⊎ Among (in_name_order name xs) z → (Among (in_name_order name xs) z → Among xs z) → (x ≡ z) ⊎ Among xs z
      by (inl e) further = inl e
      by (inr a) further = inr (further a)

  -- where the ordered list is empty, so is the list
  pub ordered-none : (xs : List A) → in_name_order name xs ≡ [] → xs ≡ []
  ordered-none [] none = refl
  ordered-none (x ∷ xs) none = absurd (subst (λ ys. Among ys x) none (ordered-there (x ∷ xs) x (inl refl)))

-- the name of a row
abbrev pub name_of : Row → List ℕ
name_of row = row.name

-- the row of a number stands among those from another on
from-there : (i : ℕ) (names : List (List ℕ)) (states : List State) (k : ℕ) (n : List ℕ) (state : State) → slice_get names k ≡ Some n → slice_get states k ≡ Some state → Among (rows_from i (zip names states)) (record { number = i + k; name = n; state = state })
from-there i [] states k n state named at = none_some named
from-there i (m ∷ names) [] k n state named at = none_some at
from-there i (m ∷ names) (st ∷ states) zero n state named at =
    let same : i ≡ i + 0 = omega arith in
    inl (rw (some_inj named, some_inj at, ← same) refl)
from-there i (m ∷ names) (st ∷ states) (suc k) n state named at =
    let same : suc i + k ≡ i + suc k = omega arith in
    inr (subst (λ j. Among (rows_from (suc i) (zip names states)) (record { number = j; name = n; state = state })) same (from-there (suc i) names states k n state named at))

-- and each of them is the row of its number
pub record IsRowFrom (i : ℕ) (names : List (List ℕ)) (states : List State) (r : Row) : Type 0 where
  pub place : ℕ
  pub number : r.number ≡ i + place
  pub named : slice_get names place ≡ Some r.name
  pub at : slice_get states place ≡ Some r.state

pub from-only : (i : ℕ) (names : List (List ℕ)) (states : List State) (r : Row) → Among (rows_from i (zip names states)) r → IsRowFrom i names states r
from-only i [] states r h = absurd h
from-only i (m ∷ names) [] r h = absurd h
from-only i (m ∷ names) (st ∷ states) r (inl e) = record { place = 0; number = ap (λ (x : Row). x.number) (sym e) ∙ omega arith; named = ap (λ (x : Row). Some x.name) e; at = ap (λ (x : Row). Some x.state) e }
from-only i (m ∷ names) (st ∷ states) r (inr h) =
    let further = from-only (suc i) names states r h in
    record { place = suc further.place; number = further.number ∙ omega arith; named = further.named; at = further.at }

module _ (table : Table) where
  -- the row of a number
  pub row-there : (k : ℕ) (n : List ℕ) (state : State) → slice_get table.names k ≡ Some n → slice_get table.states k ≡ Some state → Among (rows_of table) (record { number = k; name = n; state = state })
  row-there k n state named at =
      let same : 0 + k ≡ k = omega arith in
      ordered-there name_of (rows_from 0 (zip table.names table.states)) (record { number = k; name = n; state = state }) (subst (λ j. Among (rows_from 0 (zip table.names table.states)) (record { number = j; name = n; state = state })) same (from-there 0 table.names table.states k n state named at))

  pub row-known : (r : Row) → Among (rows_of table) r → (slice_get table.names r.number ≡ Some r.name) × (slice_get table.states r.number ≡ Some r.state)
  row-known r h =
      let is = from-only 0 table.names table.states r (ordered-only name_of (rows_from 0 (zip table.names table.states)) r h) in
      let same : is.place ≡ r.number = omega (arith, is.number) in
      (subst (λ k. slice_get table.names k ≡ Some r.name) same is.named, subst (λ k. slice_get table.states k ≡ Some r.state) same is.at)

-- ---- what stands under a name

module _ (entry : Row → StateShapes) where
  abbrev pairs : List Row → List (List ℕ × StateShapes)
  pairs rows = map (λ row. (row.name, entry row)) rows

  -- that of the only row of that name
  under-only : (rows : List Row) (row : Row) → Among rows row → ((r : Row) → Among rows r → r.name ≡ row.name → r ≡ row) → under row.name (pairs rows) ≡ Some (entry row)
  under-only [] row h only = absurd h
  under-only (x ∷ xs) row h only = go (bytes_eq x.name row.name) refl h (under-only xs row)
    where
      go : (b : Bool) → bytes_eq x.name row.name ≡ b → (x ≡ row) ⊎ Among xs row → (Among xs row → ((r : Row) → Among xs r → r.name ≡ row.name → r ≡ row) → under row.name (pairs xs) ≡ Some (entry row)) → (if b then Some (entry x) else under row.name (pairs xs)) ≡ Some (entry row)
      go true same a further = ap (λ (r : Row). Some (entry r)) (only x (inl refl) ((bytes_eq-Decides x.name row.name).0 same))
      go false other (inl e) further =
          let same : bytes_eq x.name row.name ≡ true = (bytes_eq-Decides x.name row.name).1 (ap (λ (r : Row). r.name) e) in
          absurd (false≢true (sym other ∙ same))
      go false other (inr a) further = further a (λ r b named. only r (inr b) named)

  -- only names of rows stand there
  under-named : (rows : List Row) (n : List ℕ) → IsTrue (is_some (under n (pairs rows))) → (r : Row) × Among rows r × (r.name ≡ n)
  under-named [] n h = absurd (false≢true h)
  under-named (x ∷ xs) n h = go (bytes_eq x.name n) refl h (under-named xs n)
    where
      go : (b : Bool) → bytes_eq x.name n ≡ b → IsTrue (is_some (if b then Some (entry x) else under n (pairs xs))) → (IsTrue (is_some (under n (pairs xs))) → (r : Row) × Among xs r × (r.name ≡ n)) → (r : Row) × Among (x ∷ xs) r × (r.name ≡ n)
      go true same g further = (x, inl refl, (bytes_eq-Decides x.name n).0 same)
      go false other g further =
          let below = further g in
          (below.0, inr below.1, below.2)

-- the entry of a state in the certificate of a draft
pub certified-row : (table : Table) (draft : Draft) → are_distinct table.names ≡ true → (k : ℕ) (n : List ℕ) (state : State) → slice_get table.names k ≡ Some n → slice_get table.states k ≡ Some state → certified (certificate_of table draft) n ≡ Some (entry_of draft (record { number = k; name = n; state = state }))
certified-row table draft distinct k n state named at =
    let row : Row = record { number = k; name = n; state = state } in
    under-only (entry_of draft) (rows_of table) row (row-there table k n state named at) (λ r h same. one r h same)
  where
    one : (r : Row) → Among (rows_of table) r → r.name ≡ n → r ≡ record { number = k; name = n; state = state }
    one r h same =
        let known = row-known table r h in
        let number : r.number ≡ k = one_number table.names r.number k n distinct (known.0 ∙ ap Some same) named in
        let is : r.state ≡ state = some_inj (sym known.1 ∙ (ap (slice_get table.states) number ∙ at)) in
        rw (← number, ← same, ← is) refl

-- its names are those of the table
pub certified-named : (table : Table) (draft : Draft) (n : List ℕ) → IsTrue (is_some (certified (certificate_of table draft) n)) → (k : ℕ) × (slice_get table.names k ≡ Some n)
certified-named table draft n h =
    let found = under-named (entry_of draft) (rows_of table) n h in
    (found.0.number, (row-known table found.0 found.1).0 ∙ ap Some found.2)

-- ---- the form of an entry

-- a Map has no branches
no-branches : (kind : Kind) → is_map kind ≡ true → branches_in kind ≡ 0
no-branches (Pass result) h = refl
no-branches (Task resource) h = refl
no-branches (Choice rules default) h = refl
no-branches (Wait delay) h = refl
no-branches Succeed h = refl
no-branches (Fail error cause) h = refl
no-branches (Parallel branches) h = absurd (false≢true h)
no-branches (Map items selector processor) h = refl

-- there is one
one-there : {A B : Type 0} (f : A → B) (xs : List A) → length xs ≡ 1 → is_some (slice_get (map f xs) 0) ≡ true
one-there f [] h = absurd (omega (arith, h))
one-there f (x ∷ xs) h = refl

pub entry-form : (kind : Kind) (entry : DraftEntry) → length entry.ends ≡ children_in kind → (length (entry_with kind entry).branches ≡ branches_in kind) × (is_some (entry_with kind entry).item ≡ is_map kind)
entry-form kind entry long = go (is_map kind) refl long
  where
    shape : Growth → Shape
    shape g = g.shape

    go : (m : Bool) → is_map kind ≡ m → length entry.ends ≡ branches_in kind + (if m then 1 else 0) → (length {A = Shape} (if m then [] else map shape entry.ends) ≡ branches_in kind) × (is_some {T = Shape} (if m then slice_get (map shape entry.ends) 0 else None) ≡ m)
    go true is all =
        let none = no-branches kind is in
        (sym none, one-there shape entry.ends (omega (arith, all, none)))
    go false is all = (omega (arith, all, length-map entry.ends shape), refl)

-- a branch's end is the shape at its number
pub branch-at : (i : ℕ) (shapes : List Shape) → branch_shape i shapes ≡ slice_get shapes i
branch-at i [] = refl
branch-at zero (s ∷ further) = refl
branch-at (suc i) (s ∷ further) = branch-at i further
