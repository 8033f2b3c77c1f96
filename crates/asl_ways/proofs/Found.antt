-- Visits that are added to a search.
use Rattle.std.proofs.Common.{◌≡◌, ◌<◌, ◌≤◌, ◌⊎◌, inl, inr, ℕ, List, [], ◌∷◌, ◌++◌, length, take, slice_get, nat_lt, Option, Some, Contains, Bool, true, false, refl, sym, ap, ◌∙◌, subst, append_assoc, arith, length-append}
use borrow.Author.Tests.{ltb-true, ltb-false}
use Rattle.std.proofs.lemmas.List.{append-nil, take-append-le}
use Rattle.std.proofs.lemmas.List.Elements.{Contains-append_left, Contains-append_right, Contains-append_cases, Contains-push}
use Rattle.std.proofs.lemmas.Option.{slice_get_within}
use Rattle.asl_model.specs.Shape.{Shape, inhabited}
use Rattle.asl_numbered.specs.Expansion.{shape_at}
use Rattle.asl_ways.specs.Coming.{Coming, coming}
use Rattle.asl_ways.specs.Seeking.{IsOf, Visits}
use Rattle.asl_ways.specs.Visits.{AreTakenIn, IsNew, IsTakenIn}
use Rattle.asl_ways.specs.declared.arriving.Arrival.{Arrival}
use Rattle.asl_ways.specs.declared.search.Search.{Search}
use Rattle.asl_ways.specs.declared.visiting.Visit.{Visit}
use Rattle.asl_ways.proofs.Places.{front_at, last_at, no_element, only_element}

-- ---- what is taken in

module _ (table : List Shape) where
  -- among more visits
  pub taken_more : (visits added : List Visit) (x : Coming) → IsTakenIn table visits x → IsTakenIn table (visits ++ added) x
  taken_more visits added x taken = record {
    visit = taken.visit;
    stands = Contains-append_left visits added taken.visit taken.stands;
    state = taken.state;
    inside = taken.inside;
  }

  pub all_more : (visits added now : List Visit) (all : List Coming) → now ≡ visits ++ added → AreTakenIn table visits all → AreTakenIn table now all
  all_more visits added now all is taken x has some = subst (λ vs. IsTakenIn table vs x) (sym is) (taken_more visits added x (taken x has some))

  -- one that is taken in itself
  pub taken_one : (visits : List Visit) (y : Coming) → (inhabited y.shape ≡ true → IsTakenIn table visits y) → AreTakenIn table visits (y ∷ [])
  taken_one visits y taken x has some =
      let is = only_element y x has in
      subst (IsTakenIn table visits) is (taken (ap (λ z. inhabited z.shape) is ∙ some))

-- ---- visits

module _ (table : List Shape) (before : Option ℕ) where
  -- none is added
  pub visits_none : (a : Search) (all : List Coming) → (length a.visits.items < a.most → AreTakenIn table a.visits.items all) → Visits table a a all before
  visits_none a all taken = record {
    added = [];
    whole = sym (append-nil a.visits.items);
    most = refl;
    each = λ visit has. absurd (no_element visit has);
    new = λ place visit past stands. let within = slice_get_within a.visits.items place visit stands in absurd (omega (arith, past, within));
    taken_in = taken;
  }

  -- nothing comes
  pub visits_of_none : (a : Search) → Visits table a a [] before
  visits_of_none a = visits_none a [] (λ room x has. absurd (no_element x has))

  -- one is added
  pub visits_one : (a b : Search) (arrival : Arrival) → b.visits.items ≡ a.visits.items ++ record { arrival = arrival; before = before } ∷ [] → b.most ≡ a.most → inhabited (shape_at table arrival.shape) ≡ true → arrival.shape < length table → IsNew table a.visits.items (coming table arrival) → Visits table a b (coming table arrival ∷ []) before
  visits_one a b arrival whole most some below new = record {
    added = visit ∷ [];
    whole = whole;
    most = most;
    each = λ v has. subst (IsOf table all before) (only_element visit v has) itself;
    new = λ place v past stands. as_last place v (last_at a.visits.items visit place v past (subst (λ vs. slice_get vs place ≡ Some v) whole stands));
    taken_in = λ room. taken_one table b.visits.items (coming table arrival) (λ there. record {
      visit = visit;
      stands = subst (λ vs. Contains vs visit) (sym whole) (Contains-push a.visits.items visit);
      state = refl;
      inside = λ t has. has;
    });
  }
    where
      visit : Visit
      visit = record { arrival = arrival; before = before }

      all : List Coming
      all = coming table arrival ∷ []

      itself : IsOf table all before visit
      itself = record { behind = refl; comes = Contains-push [] (coming table arrival); inhabited = some; below = below }

      as_last : (place : ℕ) (v : Visit) → (v ≡ visit) × (take place (a.visits.items ++ visit ∷ []) ≡ a.visits.items) → IsNew table (take place b.visits.items) (coming table v.arrival)
      as_last place v last =
          let in_front : take place b.visits.items ≡ a.visits.items = ap (take place) whole ∙ last.1 in
          subst (λ (w : Visit). IsNew table (take place b.visits.items) (coming table w.arrival)) (sym last.0) (subst (λ vs. IsNew table vs (coming table arrival)) (sym in_front) new)

  -- some are added, and then others
  pub visits_then : (a b c : Search) (xs ys : List Coming) → Visits table a b xs before → Visits table b c ys before → Visits table a c (xs ++ ys) before
  visits_then a b c xs ys first second = record {
    added = first.added ++ second.added;
    whole = second.whole ∙ ap (λ vs. vs ++ second.added) first.whole ∙ append_assoc a.visits.items first.added second.added;
    most = second.most ∙ first.most;
    each = λ visit has. by visit (Contains-append_cases first.added second.added visit has);
    new = λ place visit past stands. new place visit past stands (nat_lt place (length b.visits.items)) refl;
    taken_in = λ room x has some. taken room x some (Contains-append_cases xs ys x has);
  }
    where
      by : (visit : Visit) → Contains first.added visit ⊎ Contains second.added visit → IsOf table (xs ++ ys) before visit
      by visit (inl has) =
          let of = first.each visit has in
          record { behind = of.behind; comes = Contains-append_left xs ys _ of.comes; inhabited = of.inhabited; below = of.below }
      by visit (inr has) =
          let of = second.each visit has in
          record { behind = of.behind; comes = Contains-append_right xs ys _ of.comes; inhabited = of.inhabited; below = of.below }

      new : (place : ℕ) (visit : Visit) → length a.visits.items ≤ place → slice_get c.visits.items place ≡ Some visit → (front : Bool) → nat_lt place (length b.visits.items) ≡ front → IsNew table (take place c.visits.items) (coming table visit.arrival)
      new place visit past stands true front =
          let within = ltb-true place (length b.visits.items) front in
          let stood : slice_get b.visits.items place ≡ Some visit = sym (front_at b.visits.items second.added place within) ∙ subst (λ vs. slice_get vs place ≡ Some visit) second.whole stands in
          let same : take place c.visits.items ≡ take place b.visits.items = ap (take place) second.whole ∙ take-append-le place b.visits.items second.added (omega (arith, within)) in
          subst (λ vs. IsNew table vs (coming table visit.arrival)) (sym same) (first.new place visit past stood)
      new place visit past stands false front = let behind = ltb-false place (length b.visits.items) front in second.new place visit (omega (arith, behind)) stands

      sooner : length c.visits.items < c.most → length b.visits.items < b.most
      sooner room =
          let longer = ap length second.whole ∙ length-append b.visits.items second.added in
          let same = second.most in
          omega (arith, room, longer, same)

      taken : length c.visits.items < c.most → (x : Coming) → inhabited x.shape ≡ true → Contains xs x ⊎ Contains ys x → IsTakenIn table c.visits.items x
      taken room x some (inl has) = all_more table b.visits.items second.added c.visits.items xs second.whole (first.taken_in (sooner room)) x has some
      taken room x some (inr has) = second.taken_in room x has some

-- ---- told otherwise, in the same table

pub visits_told : (t u : List Shape) (a b : Search) (all now : List Coming) (before : Option ℕ) → u ≡ t → all ≡ now → Visits t a b all before → Visits u a b now before
visits_told t u a b all now before same is visits = subst (λ s. Visits s a b now before) (sym same) (subst (λ cs. Visits t a b cs before) is visits)
