-- Ways that are gone back from their ends.
use Rattle.std.proofs.Common.{◌≡◌, ◌<◌, ◌≤◌, ◌+◌, ℕ, List, [], ◌∷◌, ◌++◌, length, reverse, Option, Some, None, Bool, true, false, slice_get, if◌then◌else◌, refl, sym, ap, ◌∙◌, subst, append_assoc, arith, length-append}
use Rattle.std.proofs.lemmas.List.{append-nil, reverse-append}
use Rattle.std.specs.Prelude.{nat_lt}
use borrow.Author.Tests.{ltb-true}
use Rattle.asl_model.proofs.RunOptions.{some_inj}
use Rattle.asl_ways.specs.Way.{before_at, before_visit, in_front_of, IsWay, begins, goes_on}
use Rattle.asl_ways.specs.declared.visiting.Visit.{Visit}

-- one before stands in front
before_in_front : (visits : List Visit) (place before : ℕ) → before_at visits place ≡ Some before → before < place
before_in_front visits place before e = by_visit (slice_get visits place) e
  where
    by_test : (k : ℕ) (b : Bool) → nat_lt k place ≡ b → (if b then Some k else None) ≡ Some before → before < place
    by_test k true holds e = ltb-true before place (subst (λ n. nat_lt n place ≡ true) (some_inj e) holds)
    by_test k false holds e = absurd (cc)

    by_before : (o : Option ℕ) → in_front_of place o ≡ Some before → before < place
    by_before None e = absurd (cc)
    by_before (Some k) e = by_test k (nat_lt k place) refl e

    by_visit : (o : Option Visit) → before_visit place o ≡ Some before → before < place
    by_visit None e = absurd (cc)
    by_visit (Some visit) e = by_before visit.before e

-- a way has no more visits than numbers up to its end's
pub way_many : (visits : List Visit) (way : List ℕ) (last : ℕ) → IsWay visits way last → length way ≤ last + 1
way_many visits way last (begins place none) = omega arith
way_many visits way last (goes_on front before place is stands) =
    let few = way_many visits front before is in
    let sooner = before_in_front visits place before stands in
    rw (length-append front (place ∷ [])) (omega (arith, few, sooner))

-- What is left of the way to the last visit, once it is gone back to a place.
pub record GoesBack (visits : List Visit) (last place : ℕ) (back : List ℕ) : Type 0 where
  pub behind : List ℕ
  pub whole : back ≡ behind ++ place ∷ []
  pub leads : (way : List ℕ) → IsWay visits way place → IsWay visits (way ++ reverse behind) last

pub back_at_last : (visits : List Visit) (last : ℕ) (back : List ℕ) → back ≡ last ∷ [] → GoesBack visits last last back
back_at_last visits last back is = record {
  behind = [];
  whole = is;
  leads = λ way h. subst (λ w. IsWay visits w last) (sym (append-nil way)) h;
}

turned : (behind : List ℕ) (place : ℕ) → reverse (behind ++ place ∷ []) ≡ place ∷ reverse behind
turned behind place = reverse-append behind (place ∷ [])

pub back_further : (visits : List Visit) (last place before : ℕ) (back further : List ℕ) → GoesBack visits last place back → before_at visits place ≡ Some before → further ≡ back ++ before ∷ [] → GoesBack visits last before further
back_further visits last place before back further g stands is = record {
  behind = back;
  whole = is;
  leads = λ way h. subst (λ w. IsWay visits w last) (step way) (g.leads (way ++ place ∷ []) (goes_on way before place h stands));
}
  where
    step : (way : List ℕ) → (way ++ place ∷ []) ++ reverse g.behind ≡ way ++ reverse back
    step way = append_assoc way (place ∷ []) (reverse g.behind) ∙ ap (λ rest. way ++ rest) (sym (ap reverse g.whole ∙ turned g.behind place))

pub way_gone : (visits : List Visit) (last place : ℕ) (back : List ℕ) → GoesBack visits last place back → before_at visits place ≡ None → IsWay visits (reverse back) last
way_gone visits last place back g none =
    subst (λ w. IsWay visits w last) (sym (ap reverse g.whole ∙ turned g.behind place)) (g.leads (place ∷ []) (begins place none))
