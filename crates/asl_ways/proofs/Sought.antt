-- What a search has found, once the first of its visits are gone on from.
use Rattle.std.proofs.Common.{◌≡◌, ◌<◌, ◌≤◌, ◌+◌, ◌⊎◌, inl, inr, ℕ, List, [], ◌++◌, length, take, slice_get, get_or, Option, Some, None, Contains, Bool, true, false, refl, sym, ap, ◌∙◌, subst, arith, length-append}
use borrow.Author.Tests.{ltb-true, ltb-false}
use Rattle.std.proofs.lemmas.List.{take-append-le}
use Rattle.std.specs.Prelude.{IfSome, nat_lt}
use Rattle.std.proofs.lemmas.List.Elements.{All-append, All-contains, All-weaker, Contains-get_or}
use Rattle.std.proofs.lemmas.Option.{slice_get-get_or, slice_get_cases, slice_get_within}
use Rattle.asl_model.proofs.RunOptions.{none_some, some_inj}
use Rattle.asl_model.specs.Shape.{Shape, Inside}
use Rattle.asl_numbered.specs.Expansion.{shape_at, Keeps}
use Rattle.asl_numbered.specs.Laws.{keeps_longer, kept_shape}
use Rattle.asl_ways.specs.Coming.{Coming, coming, leaves, starts}
use Rattle.asl_ways.specs.Given.{Given}
use Rattle.asl_ways.specs.Seeking.{IsOf, Visits}
use Rattle.asl_ways.specs.Visits.{comes_next, leaves_visit, leaves_where, AreAll, AreTakenIn, AreVisits, AreVisitsBelow, IsNew, IsNoLater, IsTakenIn, IsVisit}
use Rattle.asl_ways.specs.declared.search.Search.{Search}
use Rattle.asl_ways.specs.declared.visiting.Visit.{Visit}
use Rattle.asl_ways.proofs.Found.{all_more}
use Rattle.asl_ways.proofs.Places.{contains_at, front_at, front_or_behind, place_of}
use Rattle.asl_ways.proofs.Noted.{first_stands, taken_stands}

-- Each is a visit, with one before it among the first; what comes to the start is taken in, and what leaves the first,
-- unless there are as many as there may be.
pub record AreSought (table : List Shape) (given : Given) (visits : List Visit) (most first : ℕ) : Type 0 where
  pub found : AreVisits table given visits
  pub below : AreVisitsBelow (length table) visits
  pub sooner : (place : ℕ) (visit : Visit) → slice_get visits place ≡ Some visit → IfSome visit.before (λ before. before < first)
  pub start : length visits < most → AreTakenIn table visits (starts given)
  pub onward : (place : ℕ) (visit : Visit) → place < first → slice_get visits place ≡ Some visit → length visits < most → AreTakenIn table visits (leaves_visit table given visit)

-- ---- in a table that has grown

module _ (a b : List Shape) (keeps : Keeps a b) (given : Given) (visits : List Visit) (below : AreVisitsBelow (length a) visits) where
  visit_below : (visit : Visit) → Contains visits visit → visit.arrival.shape < length a
  visit_below visit has = All-contains (λ v. v.arrival.shape < length a) visits visit below has

  shape_kept : (visit : Visit) → Contains visits visit → shape_at b visit.arrival.shape ≡ shape_at a visit.arrival.shape
  shape_kept visit has = kept_shape a b visit.arrival.shape keeps (visit_below visit has)

  leaves_kept : (visit : Visit) → Contains visits visit → leaves_visit b given visit ≡ leaves_visit a given visit
  leaves_kept visit has = ap (leaves given visit.arrival.state) (shape_kept visit has)

  next_kept : (before : Option ℕ) → comes_next b given visits before ≡ comes_next a given visits before
  next_kept None = refl
  next_kept (Some place) = by (slice_get visits place) refl
    where
      by : (o : Option Visit) → slice_get visits place ≡ o → leaves_where b given o ≡ leaves_where a given o
      by None e = refl
      by (Some visit) e = leaves_kept visit (contains_at visits place visit e)

  taken_kept : (x : Coming) → IsTakenIn a visits x → IsTakenIn b visits x
  taken_kept x taken = record {
    visit = taken.visit;
    stands = taken.stands;
    state = taken.state;
    inside = subst (Inside x.shape) (sym (shape_kept taken.visit taken.stands)) taken.inside;
  }

  all_kept : (all now : List Coming) → now ≡ all → AreTakenIn a visits all → AreTakenIn b visits now
  all_kept all now is taken x has some = taken_kept x (taken x (subst (λ cs. Contains cs x) is has) some)

  visit_kept : (place : ℕ) (visit : Visit) → slice_get visits place ≡ Some visit → IsVisit a given visits place visit → IsVisit b given visits place visit
  visit_kept place visit stands is =
      let has = contains_at visits place visit stands in
      let same = shape_kept visit has in
      record {
        sooner = is.sooner;
        comes = rw (next_kept visit.before, same) is.comes;
        inhabited = rw same is.inhabited;
        new = λ earlier has inside. is.new earlier has (subst (λ outer. Inside (shape_at a visit.arrival.shape) outer) (shape_kept earlier (taken_stands place visits earlier (first_stands visit.arrival.state (take place visits) earlier has).0)) (subst (λ inner. Inside inner (shape_at b earlier.arrival.shape)) same inside));
      }

  pub sought_kept : (most first : ℕ) → AreSought a given visits most first → AreSought b given visits most first
  sought_kept most first are = record {
    found = record {
      each = λ place visit stands. visit_kept place visit stands (are.found.each place visit stands);
      in_order = are.found.in_order;
    };
    below = All-weaker (λ v. v.arrival.shape < length a) (λ v. v.arrival.shape < length b) (λ v h. let longer = keeps_longer a b keeps in omega (arith, h, longer)) visits below;
    sooner = are.sooner;
    start = λ room. all_kept (starts given) (starts given) refl (are.start room);
    onward = λ place visit sooner stands room. all_kept (leaves_visit a given visit) (leaves_visit b given visit) (leaves_kept visit (contains_at visits place visit stands)) (are.onward place visit sooner stands room);
  }

-- ---- at first, and one visit further

sooner_or_same : (place first : ℕ) → place < first + 1 → (place < first) ⊎ (place ≡ first)
sooner_or_same place first h = by (nat_lt place first) refl
  where
    by : (b : Bool) → nat_lt place first ≡ b → (place < first) ⊎ (place ≡ first)
    by true e = inl (ltb-true place first e)
    by false e = let past = ltb-false place first e in inr (omega (arith, h, past))

module _ (table : List Shape) (given : Given) where
  -- none is before another, where each begins a way
  no_later : (before next : Option ℕ) → before ≡ None → IsNoLater before next
  no_later before next is = subst (λ o. IsNoLater o next) (sym is) tt

  pub sought_first : (a b : Search) → a.visits.items ≡ [] → Visits table a b (starts given) None → AreSought table given b.visits.items b.most 0
  sought_first a b none adds = record {
    found = record {
      each = λ place visit stands. by place visit stands (of place visit stands);
      in_order = λ place later visit next sooner stands behind. no_later visit.before next.before (of place visit stands).behind;
    };
    below = λ k d within. (of k _ (slice_get-get_or b.visits.items k d within)).below;
    sooner = λ place visit stands. subst (λ o. IfSome o (λ before. before < 0)) (sym (of place visit stands).behind) tt;
    start = adds.taken_in;
    onward = λ place visit sooner stands room. absurd (omega (arith, sooner));
  }
    where
      whole : b.visits.items ≡ adds.added
      whole = adds.whole ∙ ap (λ vs. vs ++ adds.added) none

      of : (place : ℕ) (visit : Visit) → slice_get b.visits.items place ≡ Some visit → IsOf table (starts given) None visit
      of place visit stands = adds.each visit (contains_at adds.added place visit (subst (λ vs. slice_get vs place ≡ Some visit) whole stands))

      by : (place : ℕ) (visit : Visit) → slice_get b.visits.items place ≡ Some visit → IsOf table (starts given) None visit → IsVisit table given b.visits.items place visit
      by place visit stands is = record {
        sooner = subst (λ o. IfSome o (λ before. before < place)) (sym is.behind) tt;
        comes = subst (λ o. Contains (comes_next table given b.visits.items o) (coming table visit.arrival)) (sym is.behind) is.comes;
        inhabited = is.inhabited;
        new = adds.new place visit (subst (λ vs. length vs ≤ place) (sym none) (omega arith)) stands;
      }

  module _ (a b : Search) (first : ℕ) (own : Visit) (stands : slice_get a.visits.items first ≡ Some own) (are : AreSought table given a.visits.items a.most first) (adds : Visits table a b (leaves_visit table given own) (Some first)) where
    abbrev old : List Visit
    old = a.visits.items

    whole : b.visits.items ≡ old ++ adds.added
    whole = adds.whole

    own_within : first < length old
    own_within = slice_get_within old first own stands

    room_before : length b.visits.items < b.most → length old < a.most
    room_before room =
        let longer = ap length whole ∙ length-append old adds.added in
        let same = adds.most in
        omega (arith, room, longer, same)

    -- it stood there before, or it is new
    which : (place : ℕ) (visit : Visit) → slice_get b.visits.items place ≡ Some visit → ((place < length old) × (slice_get old place ≡ Some visit)) ⊎ ((length old ≤ place) × Contains adds.added visit)
    which place visit e = front_or_behind old adds.added place visit (subst (λ vs. slice_get vs place ≡ Some visit) whole e)

    next_same : (before : Option ℕ) → IfSome before (λ k. k < length old) → comes_next table given b.visits.items before ≡ comes_next table given old before
    next_same None within = refl
    next_same (Some k) within = ap (leaves_where table given) (ap (λ vs. slice_get vs k) whole ∙ front_at old adds.added k within)

    within_old : (place : ℕ) (before : Option ℕ) → place < length old → IfSome before (λ k. k < place) → IfSome before (λ k. k < length old)
    within_old place None h sooner = tt
    within_old place (Some k) h sooner = omega (arith, h, sooner)

    next_own : comes_next table given b.visits.items (Some first) ≡ leaves_visit table given own
    next_own = ap (leaves_where table given) (ap (λ vs. slice_get vs first) whole ∙ front_at old adds.added first own_within ∙ stands)

    -- in front of one that stood there before are those that stood there before
    front_same : (place : ℕ) → place < length old → take place b.visits.items ≡ take place old
    front_same place within = ap (take place) whole ∙ take-append-le place old adds.added (omega (arith, within))

    each : (place : ℕ) (visit : Visit) → slice_get b.visits.items place ≡ Some visit → ((place < length old) × (slice_get old place ≡ Some visit)) ⊎ ((length old ≤ place) × Contains adds.added visit) → IsVisit table given b.visits.items place visit
    each place visit e (inl here) =
        let is = are.found.each place visit here.1 in
        record {
          sooner = is.sooner;
          comes = subst (λ cs. Contains cs (coming table visit.arrival)) (sym (next_same visit.before (within_old place visit.before here.0 is.sooner))) is.comes;
          inhabited = is.inhabited;
          new = subst (λ vs. IsNew table vs (coming table visit.arrival)) (sym (front_same place here.0)) is.new;
        }
    each place visit e (inr there) =
        let is = adds.each visit there.1 in
        let past = there.0 in
        let within = own_within in
        record {
          sooner = subst (λ o. IfSome o (λ k. k < place)) (sym is.behind) (omega (arith, past, within));
          comes = subst (λ o. Contains (comes_next table given b.visits.items o) (coming table visit.arrival)) (sym is.behind) (subst (λ cs. Contains cs (coming table visit.arrival)) (sym next_own) is.comes);
          inhabited = is.inhabited;
          new = adds.new place visit past e;
        }

    sooner_more : (before : Option ℕ) → IfSome before (λ k. k < first) → IfSome before (λ k. k < first + 1)
    sooner_more None h = tt
    sooner_more (Some k) h = omega (arith, h)

    sooner : (place : ℕ) (visit : Visit) → ((place < length old) × (slice_get old place ≡ Some visit)) ⊎ ((length old ≤ place) × Contains adds.added visit) → IfSome visit.before (λ k. k < first + 1)
    sooner place visit (inl here) = sooner_more visit.before (are.sooner place visit here.1)
    sooner place visit (inr there) = subst (λ o. IfSome o (λ k. k < first + 1)) (sym (adds.each visit there.1).behind) (omega arith)

    no_later_than : (before : Option ℕ) → IfSome before (λ k. k < first + 1) → IsNoLater before (Some first)
    no_later_than None h = tt
    no_later_than (Some k) h = omega (arith, h)

    in_order : (place later : ℕ) (visit next : Visit) → place < later → slice_get b.visits.items place ≡ Some visit → ((later < length old) × (slice_get old later ≡ Some next)) ⊎ ((length old ≤ later) × Contains adds.added next) → IsNoLater visit.before next.before
    in_order place later visit next sooner_than here (inr behind) = subst (IsNoLater visit.before) (sym (adds.each next behind.1).behind) (no_later_than visit.before (sooner place visit (which place visit here)))
    in_order place later visit next sooner_than here (inl front) =
        let within = front.0 in
        are.found.in_order place later visit next sooner_than (sym (front_at old adds.added place (omega (arith, sooner_than, within))) ∙ subst (λ vs. slice_get vs place ≡ Some visit) whole here) front.1

    -- the first ones are those from before, and the one that is gone on from
    stood : (place : ℕ) (visit : Visit) → place < first + 1 → slice_get b.visits.items place ≡ Some visit → slice_get old place ≡ Some visit
    stood place visit h e =
        let within = own_within in
        sym (front_at old adds.added place (omega (arith, h, within))) ∙ subst (λ vs. slice_get vs place ≡ Some visit) whole e

    onward : (place : ℕ) (visit : Visit) → slice_get old place ≡ Some visit → length b.visits.items < b.most → (place < first) ⊎ (place ≡ first) → AreTakenIn table b.visits.items (leaves_visit table given visit)
    onward place visit e room (inl h) = all_more table old adds.added b.visits.items (leaves_visit table given visit) whole (are.onward place visit h e (room_before room))
    onward place visit e room (inr is) =
        let same : own ≡ visit = some_inj (sym stands ∙ subst (λ k. slice_get old k ≡ Some visit) is e) in
        subst (λ v. AreTakenIn table b.visits.items (leaves_visit table given v)) same (adds.taken_in room)

    pub sought_on : AreSought table given b.visits.items b.most (first + 1)
    sought_on = record {
      found = record {
        each = λ place visit e. each place visit e (which place visit e);
        in_order = λ place later visit next sooner_than here behind. in_order place later visit next sooner_than here (which later next behind);
      };
      below = subst (AreVisitsBelow (length table)) (sym whole) (All-append (λ v. v.arrival.shape < length table) old adds.added are.below (λ k d within. (adds.each _ (Contains-get_or adds.added k d within)).below));
      sooner = λ place visit e. sooner place visit (which place visit e);
      start = λ room. all_more table old adds.added b.visits.items (starts given) whole (are.start (room_before room));
      onward = λ place visit h e room. onward place visit (stood place visit h e) room (sooner_or_same place first h);
    }

-- ---- at last

-- where each visit is among the first, no way is left out
pub sought_all : (table : List Shape) (given : Given) (visits : List Visit) (most first : ℕ) → length visits ≤ first → AreSought table given visits most first → length visits < most → AreAll table given visits
sought_all table given visits most first all are room = record {
  start = are.start room;
  onward = λ visit has.
      let at = place_of visits visit has in
      let within = slice_get_within visits at.0 visit at.1 in
      are.onward at.0 visit (omega (arith, all, within)) at.1 room;
}

-- one visit further, in a table that has grown
pub sought_step : (a b : List Shape) (given : Given) (x y : Search) (first : ℕ) (own : Visit) → Keeps a b → slice_get x.visits.items first ≡ Some own → AreSought a given x.visits.items x.most first → Visits b x y (leaves_visit a given own) (Some first) → AreSought b given y.visits.items y.most (first + 1)
sought_step a b given x y first own keeps stands are adds =
    let same = leaves_kept a b keeps given x.visits.items are.below own (contains_at x.visits.items first own stands) in
    sought_on b given x y first own stands (sought_kept a b keeps given x.visits.items are.below x.most first are) (subst (λ all. Visits b x y all (Some first)) (sym same) adds)

-- no visit stands at the place
pub none_at : {X : Type 0} (xs : List X) (k : ℕ) → slice_get xs k ≡ None → length xs ≤ k
none_at {X} xs k none = by (slice_get_cases xs k).1
  where
    by : ((x : X) × (k < length xs) × (slice_get xs k ≡ Some x) × (get_or xs k x ≡ x)) ⊎ ((length xs ≤ k) × (slice_get xs k ≡ None)) → length xs ≤ k
    by (inl has) = none_some (sym none ∙ has.2)
    by (inr past) = past.0

-- the shape of the visit at a place is in the table
pub visit_within : (table : List Shape) (given : Given) (visits : List Visit) (most first place : ℕ) (visit : Visit) → slice_get visits place ≡ Some visit → AreSought table given visits most first → visit.arrival.shape < length table
visit_within table given visits most first place visit stands are = All-contains (λ v. v.arrival.shape < length table) visits visit are.below (contains_at visits place visit stands)

-- What is told of visits once the search ends.
pub record Ends (table : List Shape) (given : Given) (visits : List Visit) (most : ℕ) : Type 0 where
  pub found : AreVisits table given visits
  pub all : length visits < most → AreAll table given visits
  pub few : length visits ≤ most
  pub below : AreVisitsBelow (length table) visits

pub sought_ends : (table : List Shape) (given : Given) (search : Search) (visits : List Visit) (most first : ℕ) → search.most ≡ most → visits ≡ search.visits.items → length search.visits.items ≤ first → AreSought table given search.visits.items search.most first → Ends table given visits most
sought_ends table given search visits most first same is all are =
    subst (Ends table given visits) same (subst (λ vs. Ends table given vs search.most) (sym is) (record {
      found = are.found;
      all = sought_all table given search.visits.items search.most first all are;
      few = search.few;
      below = are.below;
    }))
