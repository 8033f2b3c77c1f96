-- What is remembered for pairs of numbers.
use Rattle.std.proofs.Common.{◌≡◌, List, [], ◌∷◌, Bool, true, false, cond, Some, refl, sym, ap, ◌∙◌, subst}
use Rattle.std.proofs.lemmas.Bool.{and_parts, eqb-true}
use Rattle.std.specs.List.{AllByRecursion}
use Rattle.std.specs.Map.{lookup}
use Rattle.indexmap.specs.IndexMap.{insert_entry}
use Rattle.asl_numbered.specs.contracts.pair.PairPartialEq.TheImpl as pair_eq
use Rattle.asl_numbered.specs.declared.pair.Pair.{Pair}

-- equal pairs
abbrev pub same : Pair → Pair → Bool
same = pair_eq.ghosts.eq

same-is : (p q : Pair) → same p q ≡ true → p ≡ q
same-is p q e =
    let both = and_parts _ _ e in
    let first : p.first ≡ q.first = eqb-true p.first q.first both.0 in
    let second : p.second ≡ q.second = eqb-true p.second q.second both.1 in
    let front : p ≡ record { first = q.first; second = p.second } = ap (λ n. record { first = n; second = p.second }) first in
    front ∙ ap (λ n. record { first = q.first; second = n }) second

-- what follows of an entry follows of each
pub each_kept : {X : Type 0} (P Q : Pair × X → Type 0) (entries : List (Pair × X)) → ((e : Pair × X) → P e → Q e) → AllByRecursion P entries → AllByRecursion Q entries
each_kept P Q [] keeps h = tt
each_kept P Q (e ∷ entries) keeps h = (keeps e h.0, each_kept P Q entries keeps h.1)

module _ {X : Type 0} (P : Pair × X → Type 0) where
  -- one entry more, or another value for its pair
  pub each_put : (entries : List (Pair × X)) (p : Pair) (x : X) → P (p, x) → AllByRecursion P entries → AllByRecursion P (insert_entry same entries p x)
  each_put [] p x is h = (is, tt)
  each_put (e ∷ entries) p x is h = go (same p e.0) refl (each_put entries p x is h.1)
    where
      go : (here : Bool) → same p e.0 ≡ here → AllByRecursion P (insert_entry same entries p x) → AllByRecursion P (cond here ((e.0, x) ∷ entries) (e ∷ insert_entry same entries p x))
      go true found behind = (subst (λ q. P (q, x)) (same-is p e.0 found) is, h.1)
      go false found behind = (h.0, behind)

  -- a value that is found
  pub each_found : (entries : List (Pair × X)) (p : Pair) (x : X) → AllByRecursion P entries → lookup (same p) entries ≡ Some x → P (p, x)
  each_found [] p x h found = absurd (cc)
  each_found (e ∷ entries) p x h found = go (same p e.0) refl (λ below. each_found entries p x h.1 below)
    where
      go : (here : Bool) → same p e.0 ≡ here → (lookup (same p) entries ≡ Some x → P (p, x)) → P (p, x)
      go true is later =
          let there : Some e.1 ≡ Some x = rw is at found in
          let own : e.1 ≡ x = cc in
          subst (λ y. P (p, y)) own (subst (λ q. P (q, e.1)) (sym (same-is p e.0 is)) h.0)
      go false is later = later (rw is at found)
