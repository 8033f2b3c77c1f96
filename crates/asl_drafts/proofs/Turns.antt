-- The turns of the states that wait.
use Rattle.std.proofs.Common.{◌≡◌, ◌≢◌, ◌<◌, ◌≤◌, ◌+◌, ℕ, zero, suc, List, [], ◌∷◌, length, replicate, slice_get, slice_set, Bool, true, false, Option, Some, None, IfNone, Ordering, Less, Equal, Greater, refl, sym, ap, ◌∙◌, subst, arith}
use Rattle.std.proofs.lemmas.Bool.{false≢true}
use Rattle.std.proofs.lemmas.Cmp.{ranked}
use Rattle.std.proofs.lemmas.Option.{slice_get_within}
use Rattle.std.specs.BTreeMap.{is_at}
use Rattle.std.specs.BTreeSet.{BTreeSet, IsKeyRangeOf, Updates, contains}
use Rattle.std.specs.Ordering.{MatchOrdering, is_eq, is_gt, nat_cmp}
use Rattle.std.specs.declared.ops.Bound.TheVariants.{Included, Unbounded}
use borrow.Author.Tests.{ltb-true, ltb-false}
use lib.Dec.{ltb}
use Rattle.asl_model.proofs.RunOptions.{some_inj}
use Rattle.asl_drafts.specs.Waiting.{ArePlaced, AreQueued, AreTurnsAt, IsNextTurn, NoneWaits, StandOnce, waits_in}

-- ---- places

-- so for the states that stand before that place
pub record ArePlacedBefore (order places : List ℕ) (before : ℕ) : Type 0 where
  pub stands : (n place : ℕ) → slice_get places n ≡ Some place → place < length order → slice_get order place ≡ Some n
  pub placed : StandOnce order → (n place : ℕ) → place < before → slice_get order place ≡ Some n → n < length places → slice_get places n ≡ Some place

-- ---- turns

-- one number against another
not-after : (a b : ℕ) → a ≤ b → is_gt (nat_cmp a b) ≡ false
not-after a b h = by (nat_cmp a b) (ranked a b (nat_cmp a b) refl)
  where
    by : (o : Ordering) → MatchOrdering o (a < b) (a ≡ b) (b < a) → is_gt o ≡ false
    by Less m = refl
    by Equal m = refl
    by Greater m = absurd (omega (arith, m, h))

at-most : (a b : ℕ) → is_gt (nat_cmp a b) ≡ false → a ≤ b
at-most a b h = by (nat_cmp a b) (ranked a b (nat_cmp a b) refl) h
  where
    by : (o : Ordering) → MatchOrdering o (a < b) (a ≡ b) (b < a) → is_gt o ≡ false → a ≤ b
    by Less m e = omega (arith, m)
    by Equal m e = omega (arith, m)
    by Greater m e = absurd (false≢true (sym e))

-- the turns from a place on begin with the first of them
pub record IsFirstTurn (turns : BTreeSet ℕ) (from place : ℕ) : Type 0 where
  pub after : from ≤ place
  pub here : contains nat_cmp turns place ≡ true
  pub first : (q : ℕ) → from ≤ q → contains nat_cmp turns q ≡ true → place ≤ q

pub turns-from : (turns : BTreeSet ℕ) (from place : ℕ) (later found : List ℕ) → IsKeyRangeOf nat_cmp (Included from) Unbounded turns found → found ≡ place ∷ later → IsFirstTurn turns from place
turns-from turns from place later found range begins =
    let whole : IsKeyRangeOf nat_cmp (Included from) Unbounded turns (place ∷ later) = subst (IsKeyRangeOf nat_cmp (Included from) Unbounded turns) begins range in
    record {
      after = at-most from place whole.1.0.0;
      here = whole.1.1;
      first = λ q more has. at-most place q (whole.2 q (not-after from q more, tt) has);
    }

-- ---- which states wait

pub set-many : (ws : List Bool) (n : ℕ) (b : Bool) → length (slice_set ws n b) ≡ length ws
set-many [] n b = refl
set-many (w ∷ ws) zero b = refl
set-many (w ∷ ws) (suc n) b = ap suc (set-many ws n b)

pub set-here : (ws : List Bool) (n : ℕ) (b : Bool) → n < length ws → waits_in (slice_set ws n b) n ≡ b
set-here [] n b h = absurd (omega (arith, h))
set-here (w ∷ ws) zero b h = refl
set-here (w ∷ ws) (suc n) b h = set-here ws n b (omega (arith, h))

set-other : (ws : List Bool) (n m : ℕ) (b : Bool) → m ≢ n → waits_in (slice_set ws n b) m ≡ waits_in ws m
set-other [] n m b other = refl
set-other (w ∷ ws) zero zero b other = absurd (other refl)
set-other (w ∷ ws) zero (suc m) b other = refl
set-other (w ∷ ws) (suc n) zero b other = refl
set-other (w ∷ ws) (suc n) (suc m) b other = set-other ws n m b (λ same. other (ap suc same))

all-wait : (count n : ℕ) → n < count → waits_in (replicate count true) n ≡ true
all-wait zero n h = absurd (omega (arith, h))
all-wait (suc count) zero h = refl
all-wait (suc count) (suc n) h = all-wait count n (omega (arith, h))

-- what waits is a state
waits-within : (waits : List Bool) (n : ℕ) → waits_in waits n ≡ true → n < length waits
waits-within [] n is = absurd (false≢true is)
waits-within (w ∷ ws) zero is = omega arith
waits-within (w ∷ ws) (suc n) is = let within = waits-within ws n is in omega (arith, within)

-- ---- a turn more, or one less

is-there : (a b : ℕ) → is_at (nat_cmp a) b ≡ true → a ≡ b
is-there a b h = by (nat_cmp a b) (ranked a b (nat_cmp a b) refl) h
  where
    by : (o : Ordering) → MatchOrdering o (a < b) (a ≡ b) (b < a) → is_eq o ≡ true → a ≡ b
    by Less m e = absurd (false≢true e)
    by Equal m e = m
    by Greater m e = absurd (false≢true e)

-- each place is the one that changes, or another
data Which (place q : ℕ) : Type 0 where
  here : place ≡ q → Which place q
  there : place ≢ q → is_at (nat_cmp place) q ≡ false → Which place q

which : (place q : ℕ) → Which place q
which place q = by (is_at (nat_cmp place) q) refl
  where
    itself : is_at (nat_cmp place) place ≡ true
    itself = by_order (nat_cmp place place) (ranked place place (nat_cmp place place) refl)
      where
        by_order : (o : Ordering) → MatchOrdering o (place < place) (place ≡ place) (place < place) → is_eq o ≡ true
        by_order Less m = absurd (omega (arith, m))
        by_order Equal m = refl
        by_order Greater m = absurd (omega (arith, m))

    by : (b : Bool) → is_at (nat_cmp place) q ≡ b → Which place q
    by true is = here (is-there place q is)
    by false is = there (λ same. false≢true (sym is ∙ subst (λ x. is_at (nat_cmp place) x ≡ true) same itself)) is

pub more-turns : (places : List ℕ) (many place : ℕ) (turns after : BTreeSet ℕ) → AreTurnsAt places many turns → slice_get places many ≡ Some place → Updates nat_cmp turns after place true → AreTurnsAt places (many + 1) after
more-turns places many place turns after are at updates = record {
  each = λ n q below is. each n q is (which place q) (ltb n many) refl below;
  only = λ q has. only q has (which place q);
}
  where
    each : (n q : ℕ) → slice_get places n ≡ Some q → Which place q → (b : Bool) → ltb n many ≡ b → n < many + 1 → contains nat_cmp after q ≡ true
    each n q is (here same) b low below = subst (λ x. contains nat_cmp after x ≡ true) same updates.1
    each n q is (there other apart) true low below = updates.2 q apart ∙ are.each n q (ltb-true n many low) is
    each n q is (there other apart) false low below =
        let past = ltb-false n many low in
        let last : n ≡ many = omega (arith, past, below) in
        absurd (other (some_inj (sym at ∙ subst (λ i. slice_get places i ≡ Some q) last is)))

    only : (q : ℕ) → contains nat_cmp after q ≡ true → Which place q → (n : ℕ) × (slice_get places n ≡ Some q)
    only q has (here same) = (many, at ∙ ap Some same)
    only q has (there other apart) = are.only q (sym (updates.2 q apart) ∙ has)

-- all wait
pub all-queued : (order places : List ℕ) (waits : List Bool) (turns : BTreeSet ℕ) (count : ℕ) → waits ≡ replicate count true → length waits ≡ count → length places ≡ count → ArePlaced order places → AreTurnsAt places (length places) turns → AreQueued order places waits turns
all-queued order places waits turns count all many so_many placed are = record {
  many = so_many ∙ sym many;
  placed = placed;
  queued = λ n q at below is. are.each n q (slice_get_within places n q at) at;
  turn_waits = λ n q has stands.
      let there = place-of n q has stands in
      subst (λ ws. waits_in ws n ≡ true) (sym all) (all-wait count n (let within = slice_get_within places n q there in omega (arith, within, so_many)));
  turn_placed = place-of;
}
  where
    place-of : (n q : ℕ) → contains nat_cmp turns q ≡ true → slice_get order q ≡ Some n → slice_get places n ≡ Some q
    place-of n q has stands =
        let one = are.only q has in
        let same : one.0 ≡ n = some_inj (sym (placed.stands one.0 q one.1 (slice_get_within order q n stands)) ∙ stands) in
        subst (λ i. slice_get places i ≡ Some q) same one.1

module _ (order places : List ℕ) (waits : List Bool) (turns after : BTreeSet ℕ) (number place : ℕ) (at : slice_get places number ≡ Some place) (are : AreQueued order places waits turns) where
  number-within : number < length waits
  number-within = let within = slice_get_within places number place at in omega (arith, within, are.many)

  -- the state at that place
  at-place : (n q : ℕ) → place ≡ q → slice_get order q ≡ Some n → number ≡ n
  at-place n q same stands = some_inj (sym (are.placed.stands number q (at ∙ ap Some same) (slice_get_within order q n stands)) ∙ stands)

  -- another place is that of another state
  other-state : (n q : ℕ) → slice_get places n ≡ Some q → place ≢ q → n ≢ number
  other-state n q is other same = other (some_inj (sym at ∙ subst (λ i. slice_get places i ≡ Some q) same is))

  -- the state waits, or waits no longer
  pub changed : (b : Bool) → Updates nat_cmp turns after place b → AreQueued order places (slice_set waits number b) after
  changed b updates = record {
    many = are.many ∙ sym (set-many waits number b);
    placed = are.placed;
    queued = λ n q is below waiting. queued n q is below waiting (which place q);
    turn_waits = λ n q has stands. still n q has stands (which place q);
    turn_placed = λ n q has stands. placed n q has stands (which place q);
  }
    where
      -- it has a turn where it waits
      itself : (n q : ℕ) → place ≡ q → slice_get order q ≡ Some n → waits_in (slice_set waits number b) n ≡ contains nat_cmp after q
      itself n q same stands =
          subst (λ i. waits_in (slice_set waits number b) i ≡ contains nat_cmp after q) (at-place n q same stands) (set-here waits number b number-within ∙ sym updates.1 ∙ ap (contains nat_cmp after) same)

      queued : (n q : ℕ) → slice_get places n ≡ Some q → q < length order → waits_in (slice_set waits number b) n ≡ true → Which place q → contains nat_cmp after q ≡ true
      queued n q is below waiting (here same) = sym (itself n q same (are.placed.stands n q is below)) ∙ waiting
      queued n q is below waiting (there other apart) =
          updates.2 q apart ∙ are.queued n q is below (sym (set-other waits number n b (other-state n q is other)) ∙ waiting)

      placed : (n q : ℕ) → contains nat_cmp after q ≡ true → slice_get order q ≡ Some n → Which place q → slice_get places n ≡ Some q
      placed n q has stands (here same) =
          subst (λ i. slice_get places i ≡ Some q) (at-place n q same stands) (at ∙ ap Some same)
      placed n q has stands (there other apart) = are.turn_placed n q (sym (updates.2 q apart) ∙ has) stands

      still : (n q : ℕ) → contains nat_cmp after q ≡ true → slice_get order q ≡ Some n → Which place q → waits_in (slice_set waits number b) n ≡ true
      still n q has stands (here same) = itself n q same stands ∙ has
      still n q has stands (there other apart) =
          set-other waits number n b (other-state n q (placed n q has stands (there other apart)) other)
          ∙ are.turn_waits n q (sym (updates.2 q apart) ∙ has) stands

module _ (order places : List ℕ) (waits : List Bool) (turns : BTreeSet ℕ) (are : AreQueued order places waits turns) where
  -- ---- the next turn

  -- a state that waits has its turn at its place
  turn-of : (n place : ℕ) → StandOnce order → slice_get order place ≡ Some n → waits_in waits n ≡ true → contains nat_cmp turns place ≡ true
  turn-of n place once at is =
      let within = waits-within waits n is in
      are.queued n place (are.placed.placed once n place at (omega (arith, are.many, within))) (slice_get_within order place n at) is

  -- what stands before the first turn doesn't wait
  passed-over : (from to : ℕ) → ((q : ℕ) → from ≤ q → q < to → contains nat_cmp turns q ≡ true → ⊥) → NoneWaits order waits from to
  passed-over from to none = record { none = λ once n place least below at. by once n place least below at (waits_in waits n) refl }
    where
      by : StandOnce order → (n place : ℕ) → from ≤ place → place < to → slice_get order place ≡ Some n → (w : Bool) → waits_in waits n ≡ w → waits_in waits n ≡ false
      by once n place least below at false is = is
      by once n place least below at true is = absurd (none place least below (turn-of n place once at is))

  pub next-turn : (from place number : ℕ) → IsFirstTurn turns from place → slice_get order place ≡ Some number → IsNextTurn order waits from (record { place = place; number = number })
  next-turn from place number is at = record {
    after = is.after;
    stands = at;
    turn_waits = are.turn_waits number place is.here at;
    passed = passed-over from place (λ q more less has. let first = is.first q more has in omega (arith, first, less));
  }

  -- it is behind the end
  pub turn-behind : (from place : ℕ) → IsFirstTurn turns from place → length order ≤ place → NoneWaits order waits from (length order)
  turn-behind from place is past = passed-over from (length order) (λ q more less has. let first = is.first q more has in omega (arith, first, less, past))

  -- there is none
  pub no-turn : (from : ℕ) (found : List ℕ) → IsKeyRangeOf nat_cmp (Included from) Unbounded turns found → found ≡ [] → NoneWaits order waits from (length order)
  no-turn from found range none = passed-over from (length order) (λ q more less has. false≢true (sym (range.5 none q (not-after from q more, tt)) ∙ has))

-- that is left, whether there is a value
pub either-way : {A P : Type 0} (r : Option A) → P → IfNone r P
either-way None p = p
either-way (Some x) p = tt
