-- What is known of shapes that were cut.
use Rattle.std.proofs.Common.{◌≡◌, ◌<◌, ℕ, List, [], ◌∷◌, length, Bool, true, false, cond, Option, Some, None, refl, sym, ap, ◌∙◌, subst, arith}
use Rattle.std.proofs.lemmas.Bool.{and_parts, eqb-true}
use Rattle.std.proofs.lemmas.List.Elements.{All-cons, All-head, All-nil, All-tail, All-weaker}
use Rattle.std.specs.List.{All}
use Rattle.std.specs.Map.{lookup}
use Rattle.std.specs.Prelude.{IfSome}
use Rattle.indexmap.specs.IndexMap.{insert_entry}
use Rattle.asl_model.specs.Shape.{Shape}
use Rattle.asl_numbered.specs.Expansion.{Keeps, Shows}
use Rattle.asl_numbered.specs.Laws.{keeps_longer, kept_shape}
use Rattle.asl_drafts.specs.Cutting.{cut_to}
use Rattle.asl_drafts.specs.Cuts.{cut_of, IsCut, AreCuts}
use Rattle.asl_drafts.specs.contracts.store.CutPartialEq.TheImpl as cut_eq
use Rattle.asl_drafts.specs.declared.store.Cut.{Cut}

-- a shape in a table that has grown
pub shows_kept : (a b : List Shape) (s : Shape) (n : ℕ) → Keeps a b → Shows a s n → Shows b s n
shows_kept a b s n keeps is = record { within = omega (arith, is.within, keeps_longer a b keeps); same = kept_shape a b n keeps is.within ∙ is.same }

-- equal cuts
abbrev pub same : Cut → Cut → Bool
same = cut_eq.ghosts.eq

same-is : (p q : Cut) → same p q ≡ true → p ≡ q
same-is p q e =
    let both = and_parts _ _ e in
    let number : p.number ≡ q.number = eqb-true p.number q.number both.0 in
    let levels : p.levels ≡ q.levels = eqb-true p.levels q.levels both.1 in
    let front : p ≡ record { number = q.number; levels = p.levels } = ap (λ n. record { number = n; levels = p.levels }) number in
    front ∙ ap (λ n. record { number = q.number; levels = n }) levels

module _ (table : List Shape) where
  -- a cut that is found
  found : (entries : List (Cut × ℕ)) (p : Cut) (n : ℕ) → All (IsCut table) entries → lookup (same p) entries ≡ Some n → IsCut table (p, n)
  found [] p n h at = absurd (cc)
  found (e ∷ entries) p n h at = go (same p e.0) refl (λ below. found entries p n (All-tail (IsCut table) e entries h) below)
    where
      go : (here : Bool) → same p e.0 ≡ here → (lookup (same p) entries ≡ Some n → IsCut table (p, n)) → IsCut table (p, n)
      go true is later =
          let there : Some e.1 ≡ Some n = rw is at at in
          let own : e.1 ≡ n = cc in
          subst (λ m. IsCut table (p, m)) own (subst (λ q. IsCut table (q, e.1)) (sym (same-is p e.0 is)) (All-head (IsCut table) e entries h))
      go false is later = later (rw is at at)

  pub cut_found : (entries : List (Cut × ℕ)) (p : Cut) (r : Option ℕ) → AreCuts table entries → r ≡ lookup (same p) entries → IfSome r (Shows table (cut_of table p))
  cut_found entries p None are at = tt
  cut_found entries p (Some n) are at = (found entries p n are.each (sym at)).1

  -- one more
  put : (entries : List (Cut × ℕ)) (p : Cut) (n : ℕ) → IsCut table (p, n) → All (IsCut table) entries → All (IsCut table) (insert_entry same entries p n)
  put [] p n is h = All-cons (IsCut table) (p, n) [] is (All-nil (IsCut table))
  put (e ∷ entries) p n is h = go (same p e.0) refl (put entries p n is (All-tail (IsCut table) e entries h))
    where
      go : (here : Bool) → same p e.0 ≡ here → All (IsCut table) (insert_entry same entries p n) → All (IsCut table) (cond here ((e.0, n) ∷ entries) (e ∷ insert_entry same entries p n))
      go true at behind = All-cons (IsCut table) (e.0, n) entries (subst (λ q. IsCut table (q, n)) (same-is p e.0 at) is) (All-tail (IsCut table) e entries h)
      go false at behind = All-cons (IsCut table) e (insert_entry same entries p n) (All-head (IsCut table) e entries h) behind

  pub cut_put : (entries new : List (Cut × ℕ)) (p : Cut) (n : ℕ) → p.number < length table → Shows table (cut_of table p) n → AreCuts table entries → new ≡ insert_entry same entries p n → AreCuts table new
  cut_put entries new p n within is are inserted = record { each = subst (All (IsCut table)) (sym inserted) (put entries p n (within, is) are.each) }

-- in a table that has grown
pub cuts_kept : (a b : List Shape) (entries : List (Cut × ℕ)) → Keeps a b → AreCuts a entries → AreCuts b entries
cuts_kept a b entries keeps are = record { each = All-weaker (IsCut a) (IsCut b) kept entries are.each }
  where
    kept : (e : Cut × ℕ) → IsCut a e → IsCut b e
    kept e is = (
      omega (arith, is.0, keeps_longer a b keeps),
      subst (λ s. Shows b (cut_to e.0.levels s) e.1) (sym (kept_shape a b e.0.number keeps is.0)) (shows_kept a b (cut_of a e.0) e.1 keeps is.1),
    )
