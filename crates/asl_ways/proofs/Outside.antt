-- Shapes that aren't inside others.
use Rattle.std.proofs.Common.{◌≡◌, ◌<◌, ◌≤◌, ℕ, List, [], ◌+◌, ◌⊎◌, inl, inr, length, take, get_or, nat_lt, Option, Some, None, Contains, Bool, true, false, refl, sym, ap, ◌∙◌, subst, arith}
use borrow.Author.Tests.{ltb-true, ltb-false}
use Rattle.std.specs.Prelude.{◌↔◌, IfSome, IsSome, IsTrue}
use Rattle.std.proofs.lemmas.Bool.{false≢true}
use Rattle.std.proofs.lemmas.List.{get_or_past, take_all, take_more}
use Rattle.std.proofs.lemmas.List.Elements.{Contains-push_cases}
use Rattle.asl_model.proofs.ShapeExample.{inhabited-some}
use Rattle.asl_model.proofs.ShapeInhabited.{has-inhabited}
use Rattle.asl_model.specs.Shape.{Shape, Inside, IsProperShape, Never, inhabited}
use Rattle.asl_numbered.specs.Expansion.{shape_at}
use Rattle.asl_ways.specs.Noted.{IsInsideNone}
use Rattle.asl_ways.proofs.Places.{no_element}

-- a shape that some tree has isn't inside the one that none has
not_never : (s : Shape) → IsProperShape s → inhabited s ≡ true → ¬ Inside s Never
not_never s proper some inside = let tree = inhabited-some s proper some in false≢true (has-inhabited Never tree.0 (inside tree.0 tree.2))

module _ (table : List Shape) (inner outer : ℕ) (proper : IsProperShape (shape_at table inner)) (some : inhabited (shape_at table inner) ≡ true) where
  -- a number of no shape is as that of Never
  within : (n : ℕ) → (b : Bool) → nat_lt n (length table) ≡ b → ¬ (shape_at table n ≡ Never) → n < length table
  within n true front differs = ltb-true n (length table) front
  within n false front differs = let past = ltb-false n (length table) front in absurd (differs (get_or_past table n Never (omega (arith, past))))

  -- it isn't inside another, unless the answer is that it is
  pub not_inside : (answer : Option Bool) → (IsSome answer ↔ (inner < length table) × (outer < length table)) → IfSome answer (λ b. IsTrue b ↔ Inside (shape_at table inner) (shape_at table outer)) → ¬ (answer ≡ Some true) → ¬ Inside (shape_at table inner) (shape_at table outer)
  not_inside (Some true) there exactly differs inside = differs refl
  not_inside (Some false) there exactly differs inside = false≢true (exactly.1 inside)
  not_inside None there exactly differs inside =
      let inner_within = within inner (nat_lt inner (length table)) refl (λ never. false≢true (ap inhabited (sym never) ∙ some)) in
      let outer_within = within outer (nat_lt outer (length table)) refl (λ never. not_never (shape_at table inner) proper some (subst (Inside (shape_at table inner)) never inside)) in
      false≢true (there.1 (inner_within, outer_within))

-- ---- one after another

module _ (table : List Shape) (inner : ℕ) (outer : List ℕ) where
  pub inside_none : IsInsideNone table inner []
  inside_none number has = absurd (no_element number has)

  pub inside_no_more : (i d : ℕ) → i < length outer → IsInsideNone table inner (take i outer) → ¬ Inside (shape_at table inner) (shape_at table (get_or outer i d)) → IsInsideNone table inner (take (i + 1) outer)
  inside_no_more i d here before outside number has = by (Contains-push_cases (take i outer) (get_or outer i d) number (subst (λ ns. Contains ns number) (take_more outer i d here) has))
    where
      by : Contains (take i outer) number ⊎ (get_or outer i d ≡ number) → ¬ Inside (shape_at table inner) (shape_at table number)
      by (inl has) = before number has
      by (inr is) = subst (λ n. ¬ Inside (shape_at table inner) (shape_at table n)) is outside

  pub inside_none_of_all : (i : ℕ) → length outer ≤ i → IsInsideNone table inner (take i outer) → IsInsideNone table inner outer
  inside_none_of_all i end none = subst (IsInsideNone table inner) (take_all i outer end) none
