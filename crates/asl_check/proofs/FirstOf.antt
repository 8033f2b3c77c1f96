-- The first finding of a name.
use Rattle.std.proofs.Common.{◌≡◌, ℕ, List, [], ◌∷◌, ◌++◌, Bool, true, false, cond, bytes_eq, Option, Some, None, refl, ap, ◌∙◌, subst, ◌⊎◌, inl, inr}
use Rattle.std.specs.List.{Contains}
use Rattle.std.specs.Option.{option_or}
use Rattle.std.specs.Prelude.{IsTrue}
use Rattle.std.proofs.lemmas.List.Folds.{find-append}
use Rattle.std.proofs.lemmas.Slice.Eq.{bytes_eq-Decides}
use Rattle.asl_model.specs.Finding.{Finding}
use Rattle.asl_model.specs.Tree.{comes_before}
use Rattle.asl_model.specs.Verdict.{AreInNameOrder, before_next}
use Rattle.asl_model.proofs.NamesInOrder.{comes_before-trans, comes_before-other}
use Rattle.asl_check.specs.Told.{first_of}
use Rattle.asl_check.proofs.Members.{first, later, first_or_later, no_member}

-- that of two lists
pub first_of_both : (n : List ℕ) (xs ys : List Finding) → first_of n (xs ++ ys) ≡ option_or (first_of n xs) (first_of n ys)
first_of_both n xs ys = find-append (λ f. bytes_eq f.state n) xs ys

-- nothing behind
pub or_none : (o : Option Finding) → option_or o None ≡ o
or_none None = refl
or_none (Some f) = refl

-- a name is its own
pub itself : (n : List ℕ) → bytes_eq n n ≡ true
itself n = (bytes_eq-Decides n n).1 refl

-- the first of a name is one of the findings, and has that name
pub record IsThere (n : List ℕ) (xs : List Finding) (f : Finding) : Type 0 where
  pub among : Contains xs f
  pub named : f.state ≡ n

pub first_there : (n : List ℕ) (xs : List Finding) (f : Finding) → first_of n xs ≡ Some f → IsThere n xs f
first_there n [] f e = absurd (cc)
first_there n (x ∷ xs) f e = go (bytes_eq x.state n) refl e (first_there n xs f)
  where
    go : (b : Bool) → bytes_eq x.state n ≡ b → cond b (Some x) (first_of n xs) ≡ Some f → (first_of n xs ≡ Some f → IsThere n xs f) → IsThere n (x ∷ xs) f
    go true is e below =
        let same : x ≡ f = cc in
        subst (IsThere n (x ∷ xs)) same (record { among = first x xs; named = (bytes_eq-Decides x.state n).0 is })
    go false is e below =
        let there = below e in
        record { among = later x xs f there.among; named = there.named }

-- the name of each finding has a first one
pub some_first : (xs : List Finding) (f : Finding) → Contains xs f → (g : Finding) × (first_of f.state xs ≡ Some g)
some_first [] f h = absurd (no_member f h)
some_first (x ∷ xs) f h = go (bytes_eq x.state f.state) refl (first_or_later x xs f h) (some_first xs f)
  where
    go : (b : Bool) → bytes_eq x.state f.state ≡ b → (x ≡ f) ⊎ Contains xs f → (Contains xs f → (g : Finding) × (first_of f.state xs ≡ Some g)) → (g : Finding) × (cond b (Some x) (first_of f.state xs) ≡ Some g)
    go true is either below = (x, refl)
    go false is (inl same) below =
        let yes : bytes_eq x.state f.state ≡ true = subst (λ g. bytes_eq x.state g.state ≡ true) same (itself x.state) in
        absurd (cc)
    go false is (inr there) below = below there

-- ---- findings in the order of their names

-- a name that comes before the first one's comes before each one's
pub before_each : (n : List ℕ) (xs : List Finding) → IsTrue (before_next n xs) → AreInNameOrder xs → (f : Finding) → Contains xs f → IsTrue (comes_before n f.state)
before_each n [] next order f h = absurd (no_member f h)
before_each n (x ∷ xs) next order f h = by (first_or_later x xs f h) (before_each x.state xs order.0 order.1 f)
  where
    by : (x ≡ f) ⊎ Contains xs f → (Contains xs f → IsTrue (comes_before x.state f.state)) → IsTrue (comes_before n f.state)
    by (inl same) below = subst (λ g. IsTrue (comes_before n g.state)) same next
    by (inr there) below = comes_before-trans n x.state f.state next (below there)

-- each is the first of its name
pub first_in_order : (xs : List Finding) → AreInNameOrder xs → (f : Finding) → Contains xs f → first_of f.state xs ≡ Some f
first_in_order [] order f h = absurd (no_member f h)
first_in_order (x ∷ xs) order f h = by (first_or_later x xs f h) (first_in_order xs order.1 f)
  where
    by : (x ≡ f) ⊎ Contains xs f → (Contains xs f → first_of f.state xs ≡ Some f) → cond (bytes_eq x.state f.state) (Some x) (first_of f.state xs) ≡ Some f
    by (inl same) below = subst (λ g. cond (bytes_eq x.state g.state) (Some x) (first_of g.state xs) ≡ Some g) same (ap (λ b. cond b (Some x) (first_of x.state xs)) (itself x.state))
    by (inr there) below = ap (λ b. cond b (Some x) (first_of f.state xs)) (comes_before-other x.state f.state (before_each x.state xs order.0 order.1 f there)) ∙ below there
