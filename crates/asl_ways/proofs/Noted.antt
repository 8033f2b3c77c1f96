-- Shapes that are noted of the first visits of states.
use Rattle.std.proofs.Common.{◌≡◌, ◌⊎◌, inl, inr, ℕ, zero, suc, List, [], ◌∷◌, ◌++◌, length, map, take, drop, slice_get, slice_set, cond, Bool, true, false, nat_eq, Contains, Some, refl, sym, ap, ◌∙◌, subst, eq-eqb}
use Rattle.std.specs.List.{filter}
use Rattle.std.proofs.lemmas.Bool.{eqb-true, false≢true}
use Rattle.std.proofs.lemmas.List.{append-nil, map-append, take-append-drop, take-map, take_at}
use Rattle.std.proofs.lemmas.List.Elements.{Contains-append_left, filter-append}
use Rattle.arrayvec.specs.ArrayVec.{ArrayVec}
use Rattle.asl_model.proofs.Listed.{first_in, first_or_later, in_map, later_in, map_in}
use Rattle.asl_model.specs.Shape.{Shape, Inside}
use Rattle.asl_numbered.specs.Expansion.{shape_at}
use Rattle.asl_ways.specs.Coming.{coming}
use Rattle.asl_ways.specs.Noted.{numbers_in, AreNoted, IsInsideNone, IsInsideOne}
use Rattle.asl_ways.specs.Visits.{first_of, IsNew, IsTakenIn}
use Rattle.asl_ways.specs.declared.arriving.Arrival.{Arrival}
use Rattle.asl_ways.specs.declared.search.TheConstants.{MOST_COMPARED}
use Rattle.asl_ways.specs.declared.visiting.Visit.{Visit}
use Rattle.asl_ways.proofs.Places.{no_element}

-- ---- the first visits of a state

pub taken_stands : {X : Type 0} (n : ℕ) (xs : List X) (x : X) → Contains (take n xs) x → Contains xs x
taken_stands n xs x has = subst (λ ys. Contains ys x) (take-append-drop n xs) (Contains-append_left (take n xs) (drop n xs) x has)

filtered_stands : {X : Type 0} (p : X → Bool) (xs : List X) (x : X) → Contains (filter p xs) x → Contains xs x × (p x ≡ true)
filtered_stands p [] x has = absurd (no_element x has)
filtered_stands p (y ∷ xs) x has = by (λ further. let there = filtered_stands p xs x further in (later_in y x xs there.0, there.1)) (p y) refl has
  where
    either : (Contains (filter p xs) x → Contains (y ∷ xs) x × (p x ≡ true)) → p y ≡ true → (y ≡ x) ⊎ Contains (filter p xs) x → Contains (y ∷ xs) x × (p x ≡ true)
    either later passes (inl is) = subst (λ z. Contains (y ∷ xs) z × (p z ≡ true)) is (first_in y xs, passes)
    either later passes (inr has) = later has

    by : (Contains (filter p xs) x → Contains (y ∷ xs) x × (p x ≡ true)) → (b : Bool) → p y ≡ b → Contains (cond b (y ∷ filter p xs) (filter p xs)) x → Contains (y ∷ xs) x × (p x ≡ true)
    by later true passes has = either later passes (first_or_later y x (filter p xs) has)
    by later false fails has = later has

-- each is a visit of that state
pub first_stands : (state : ℕ) (visits : List Visit) (visit : Visit) → Contains (first_of state visits) visit → Contains visits visit × (visit.arrival.state ≡ state)
first_stands state visits visit has =
    let there = filtered_stands (λ (v : Visit). nat_eq v.arrival.state state) visits visit (taken_stands MOST_COMPARED (filter (λ (v : Visit). nat_eq v.arrival.state state) visits) visit has) in
    (there.0, eqb-true _ _ there.1)

-- ---- the first of a list

take_push : {X : Type 0} (n : ℕ) (xs : List X) (y : X) → take n (take n xs ++ y ∷ []) ≡ take n (xs ++ y ∷ [])
take_push zero xs y = refl
take_push (suc n) [] y = refl
take_push (suc n) (x ∷ xs) y = ap (λ ys. x ∷ ys) (take_push n xs y)

-- where as many are noted as are compared, the first are those
pub full_stays : (numbers : List ℕ) (shape : ℕ) → length numbers ≡ MOST_COMPARED → numbers ≡ take MOST_COMPARED (numbers ++ shape ∷ [])
full_stays numbers shape full = sym (take_at numbers (shape ∷ []) MOST_COMPARED full)

-- ---- a place that is written

set_here : {X : Type 0} (xs : List X) (k : ℕ) (x y : X) → slice_get xs k ≡ Some x → slice_get (slice_set xs k y) k ≡ Some y
set_here [] k x y e = absurd (cc)
set_here (z ∷ xs) zero x y e = refl
set_here (z ∷ xs) (suc k) x y e = set_here xs k x y e

set_elsewhere : {X : Type 0} (xs : List X) (k i : ℕ) (y : X) → ¬ (k ≡ i) → slice_get (slice_set xs k y) i ≡ slice_get xs i
set_elsewhere [] k i y differs = refl
set_elsewhere (z ∷ xs) zero zero y differs = absurd (differs refl)
set_elsewhere (z ∷ xs) zero (suc i) y differs = refl
set_elsewhere (z ∷ xs) (suc k) zero y differs = refl
set_elsewhere (z ∷ xs) (suc k) (suc i) y differs = set_elsewhere xs k i y (λ same. differs (ap suc same))

-- ---- what is noted

-- one more visit
module _ (visits : List Visit) (visit : Visit) (noted : List (ArrayVec ℕ)) (old new : ArrayVec ℕ) (are : AreNoted visits noted) (stands : slice_get noted visit.arrival.state ≡ Some old) (notes : new.items ≡ take MOST_COMPARED (old.items ++ visit.arrival.shape ∷ [])) where
  abbrev shape_of : Visit → ℕ
  shape_of v = v.arrival.shape

  abbrev is_of : ℕ → Visit → Bool
  is_of state v = nat_eq v.arrival.state state

  -- those of its state are one more
  here : (state : ℕ) → visit.arrival.state ≡ state → nat_eq visit.arrival.state state ≡ true → numbers_in (slice_get (slice_set noted visit.arrival.state new) state) ≡ map shape_of (first_of state (visits ++ visit ∷ []))
  here state same is =
      let read : slice_get (slice_set noted visit.arrival.state new) state ≡ Some new = subst (λ k. slice_get (slice_set noted visit.arrival.state new) k ≡ Some new) same (set_here noted visit.arrival.state old new stands) in
      let before : old.items ≡ map shape_of (first_of state visits) = ap numbers_in (sym (subst (λ k. slice_get noted k ≡ Some old) same stands)) ∙ are.each state in
      let of_state = filter (is_of state) visits in
      ap numbers_in read
      ∙ notes
      ∙ ap (λ ns. take MOST_COMPARED (ns ++ visit.arrival.shape ∷ [])) (before ∙ sym (take-map shape_of MOST_COMPARED of_state))
      ∙ take_push MOST_COMPARED (map shape_of of_state) visit.arrival.shape
      ∙ ap (take MOST_COMPARED) (sym (map-append shape_of of_state (visit ∷ [])))
      ∙ take-map shape_of MOST_COMPARED (of_state ++ visit ∷ [])
      ∙ ap (λ vs. map shape_of (take MOST_COMPARED vs)) (sym (filter-append (is_of state) visits (visit ∷ []) ∙ ap (λ b. of_state ++ cond b (visit ∷ []) []) is))

  -- those of another are the same
  elsewhere : (state : ℕ) → nat_eq visit.arrival.state state ≡ false → numbers_in (slice_get (slice_set noted visit.arrival.state new) state) ≡ map shape_of (first_of state (visits ++ visit ∷ []))
  elsewhere state is =
      let of_state = filter (is_of state) visits in
      ap numbers_in (set_elsewhere noted visit.arrival.state state new (λ same. false≢true (sym is ∙ eq-eqb visit.arrival.state state same)))
      ∙ are.each state
      ∙ ap (λ vs. map shape_of (take MOST_COMPARED vs)) (sym (filter-append (is_of state) visits (visit ∷ []) ∙ ap (λ b. of_state ++ cond b (visit ∷ []) []) is ∙ append-nil of_state))

  at : (state : ℕ) (b : Bool) → nat_eq visit.arrival.state state ≡ b → numbers_in (slice_get (slice_set noted visit.arrival.state new) state) ≡ map shape_of (first_of state (visits ++ visit ∷ []))
  at state true is = here state (eqb-true _ _ is) is
  at state false is = elsewhere state is

  pub noted_pushed : AreNoted (visits ++ visit ∷ []) (slice_set noted visit.arrival.state new)
  noted_pushed = record { each = λ state. at state (nat_eq visit.arrival.state state) refl }

-- ---- what comes, beside what is noted

module _ (table : List Shape) (visits : List Visit) (noted : List (ArrayVec ℕ)) (arrival : Arrival) (outer : List ℕ) (are : AreNoted visits noted) (same : numbers_in (slice_get noted arrival.state) ≡ outer) where
  abbrev first : List Visit
  first = first_of arrival.state visits

  numbers_of : map (λ (v : Visit). v.arrival.shape) first ≡ outer
  numbers_of = sym (are.each arrival.state) ∙ same

  -- inside a shape that is noted it is taken in
  pub noted_taken : IsInsideOne table arrival.shape outer → IsTakenIn table visits (coming table arrival)
  noted_taken is =
      let of = in_map (λ (v : Visit). v.arrival.shape) first is.number (subst (λ ns. Contains ns is.number) (sym numbers_of) is.stands) in
      let there = first_stands arrival.state visits of.0 of.1 in
      record {
        visit = of.0;
        stands = there.0;
        state = there.1;
        inside = subst (λ n. Inside (shape_at table arrival.shape) (shape_at table n)) (sym of.2) is.inside;
      }

  -- inside none of them it is new
  pub noted_new : IsInsideNone table arrival.shape outer → IsNew table visits (coming table arrival)
  noted_new outside earlier has = outside earlier.arrival.shape (subst (λ ns. Contains ns earlier.arrival.shape) numbers_of (map_in (λ (v : Visit). v.arrival.shape) first earlier has))
