-- States that wait or are at rest.
use Rattle.std.proofs.Common.{◌≡◌, ◌≢◌, ◌<◌, ℕ, zero, suc, List, [], ◌∷◌, length, slice_set, Bool, true, false, replicate, Global, Vec, Ok, refl, sym, ap, ◌∙◌, subst, ◌⊎◌, inl, inr, arith}
use Rattle.std.proofs.lemmas.Bool.{false≢true}
use Rattle.std.proofs.lemmas.Bool.Decides.{eqb_tells}
use Rattle.std.proofs.lemmas.Option.{slice_get_within}
use Rattle.asl_model.specs.Certificate.{Declared}
use Rattle.asl_model.specs.Numbering.{Table}
use Rattle.asl_draft_laws.specs.Drafts.{Draft, Row, walked}
use Rattle.asl_draft_laws.specs.Resting.{Rests}
use Rattle.asl_draft_laws.proofs.PassedOver.{rests-known, rests-walked}
use Rattle.asl_numbered.specs.Expansion.{Keeps}
use Rattle.asl_drafts.specs.Calm.{IsCalm, memory_of}
use Rattle.asl_drafts.specs.Drafted.{draft_view}
use Rattle.asl_drafts.specs.Order.{AreOrdered}
use Rattle.asl_drafts.specs.Underway.{OthersStayCalm}
use Rattle.asl_drafts.specs.Waiting.{waits_in}
use Rattle.asl_drafts.specs.Walker.{StaysWaiting}
use Rattle.asl_drafts.specs.declared.waiting.Waiting.{Waiting}
use Rattle.asl_drafts.specs.declared.walker.Walker.{Walker}
use Rattle.asl_drafts.proofs.Calm.{remembered}
use Rattle.asl_infer.specs.Rounds.{AreCalm, AreOthersCalm, IsIn, IsNoRow, Walks, walked_by}
use Rattle.asl_infer.specs.declared.rounds.Strictness.{Strictness}
use Rattle.asl_infer.specs.declared.rounds.Strictness.TheVariants.{Strict, Lenient}
use Rattle.asl_infer.proofs.StrictRounds.{walked-leniently}

-- ---- flags

set-many : (ws : List Bool) (n : ℕ) (flag : Bool) → length (slice_set ws n flag) ≡ length ws
set-many [] n flag = refl
set-many (w ∷ ws) zero flag = refl
set-many (w ∷ ws) (suc n) flag = ap suc (set-many ws n flag)

-- the flag of another one stays
set-other : (ws : List Bool) (n m : ℕ) (flag : Bool) → m ≢ n → waits_in (slice_set ws n flag) m ≡ waits_in ws m
set-other [] n m flag other = refl
set-other (w ∷ ws) zero zero flag other = absurd (other refl)
set-other (w ∷ ws) zero (suc m) flag other = refl
set-other (w ∷ ws) (suc n) zero flag other = refl
set-other (w ∷ ws) (suc n) (suc m) flag other = set-other ws n m flag (λ same. other (ap suc same))

-- its own is set
set-own : (ws : List Bool) (n : ℕ) (flag : Bool) → n < length ws → waits_in (slice_set ws n flag) n ≡ flag
set-own [] n flag within = absurd (omega (arith, within))
set-own (w ∷ ws) zero flag within = refl
set-own (w ∷ ws) (suc n) flag within = set-own ws n flag (omega (arith, within))

-- one that is cleared already stays so
clear-cleared : (ws : List Bool) (n m : ℕ) → waits_in ws n ≡ false → waits_in (slice_set ws n false) m ≡ waits_in ws m
clear-cleared [] n m h = refl
clear-cleared (w ∷ ws) zero zero h = sym h
clear-cleared (w ∷ ws) zero (suc m) h = refl
clear-cleared (w ∷ ws) (suc n) zero h = refl
clear-cleared (w ∷ ws) (suc n) (suc m) h = clear-cleared ws n m h

all-wait : (count n : ℕ) → n < count → waits_in (replicate count true) n ≡ true
all-wait zero n h = absurd (omega (arith, h))
all-wait (suc count) zero h = refl
all-wait (suc count) (suc n) h = all-wait count n (omega (arith, h))

all-many : (count : ℕ) → length (replicate count true) ≡ count
all-many zero = refl
all-many (suc count) = ap suc (all-many count)

-- ---- a state

module _ (table : Table) (declared : Declared) (row : Row) where
  -- in a draft of the same shapes, over a table that has grown
  pub calm-kept : (one two : Walker) → Keeps one.draft.store two.draft.store → draft_view two.draft ≡ draft_view one.draft → two.predecessors ≡ one.predecessors → waits_in two.waiting.waits.items row.number ≡ waits_in one.waiting.waits.items row.number → IsCalm table declared row one → IsCalm table declared row two
  calm-kept one two keeps same remembers waits is = record { calm = by is.calm }
    where
      rested : Rests table declared row (memory_of one.draft.store one.predecessors) (draft_view one.draft) → Rests table declared row (memory_of two.draft.store two.predecessors) (draft_view two.draft)
      rested rest =
          let more = rests-known table declared row (memory_of one.draft.store one.predecessors) (memory_of two.draft.store one.predecessors) (draft_view one.draft) (λ into place s h. remembered one.draft.store two.draft.store one.predecessors into row.number place s keeps h) rest in
          subst (λ p. Rests table declared row (memory_of two.draft.store p) (draft_view two.draft)) (sym remembers) (subst (Rests table declared row (memory_of two.draft.store one.predecessors)) (sym same) more)

      by : (waits_in one.waiting.waits.items row.number ≡ true) ⊎ Rests table declared row (memory_of one.draft.store one.predecessors) (draft_view one.draft) → (waits_in two.waiting.waits.items row.number ≡ true) ⊎ Rests table declared row (memory_of two.draft.store two.predecessors) (draft_view two.draft)
      by (inl w) = inl (waits ∙ w)
      by (inr rest) = inr (rested rest)

  -- one that doesn't wait is at rest
  pub calm-rests : (walker : Walker) → waits_in walker.waiting.waits.items row.number ≡ false → IsCalm table declared row walker → Rests table declared row (memory_of walker.draft.store walker.predecessors) (draft_view walker.draft)
  calm-rests walker none is = by is.calm
    where
      by : (waits_in walker.waiting.waits.items row.number ≡ true) ⊎ Rests table declared row (memory_of walker.draft.store walker.predecessors) (draft_view walker.draft) → Rests table declared row (memory_of walker.draft.store walker.predecessors) (draft_view walker.draft)
      by (inl w) = absurd (false≢true (sym none ∙ w))
      by (inr rest) = rest

-- ---- all states

-- they stand in the same order
order-kept : (table : Table) (one two : Waiting) → two.order ≡ one.order → AreOrdered table one.order.items → AreOrdered table two.order.items
order-kept table one two same is = record { ordered = λ distinct. ap (λ (order : Vec ℕ Global). order.items) same ∙ is.ordered distinct }

-- a row's number is one of the states'
pub row-below : (table : Table) (row : Row) → IsIn table row → row.number < length table.states
row-below table row is = slice_get_within table.states row.number row.state is.at

module _ (table : Table) (declared : Declared) where
  -- at first all wait
  pub first-calm : (walker : Walker) (count : ℕ) → walker.waiting.waits.items ≡ replicate count true → count ≡ length table.states → AreOrdered table walker.waiting.order.items → AreCalm table declared walker
  first-calm walker count all many ordered = record {
    many = ap length all ∙ (all-many count ∙ many);
    ordered = ordered;
    each = λ row is. record { calm = inl (subst (λ ws. waits_in ws row.number ≡ true) (sym all) (all-wait count row.number (omega (arith, row-below table row is, many)))) };
  }

  -- the flag of one is cleared
  pub stop-calm : (one two : Walker) (number : ℕ) → two.waiting.waits.items ≡ slice_set one.waiting.waits.items number false → two.waiting.order ≡ one.waiting.order → two.draft ≡ one.draft → two.predecessors ≡ one.predecessors → Keeps one.draft.store two.draft.store → AreCalm table declared one → AreOthersCalm table declared number two
  stop-calm one two number cleared order draft remembers keeps are = record {
    many = ap length cleared ∙ (set-many one.waiting.waits.items number false ∙ are.many);
    ordered = order-kept table one.waiting two.waiting order are.ordered;
    each = λ row is other. calm-kept table declared row one two keeps (ap draft_view draft) remembers (ap (λ ws. waits_in ws row.number) cleared ∙ set-other one.waiting.waits.items number row.number false other) (are.each row is);
  }

  -- which was cleared already
  pub pass-calm : (one two : Walker) (number : ℕ) → two.waiting.waits.items ≡ slice_set one.waiting.waits.items number false → waits_in one.waiting.waits.items number ≡ false → two.waiting.order ≡ one.waiting.order → two.draft ≡ one.draft → two.predecessors ≡ one.predecessors → Keeps one.draft.store two.draft.store → AreCalm table declared one → AreCalm table declared two
  pass-calm one two number cleared none order draft remembers keeps are = record {
    many = ap length cleared ∙ (set-many one.waiting.waits.items number false ∙ are.many);
    ordered = order-kept table one.waiting two.waiting order are.ordered;
    each = λ row is. calm-kept table declared row one two keeps (ap draft_view draft) remembers (ap (λ ws. waits_in ws row.number) cleared ∙ clear-cleared one.waiting.waits.items number row.number none) (are.each row is);
  }

  -- a walk through it would change nothing
  pub pass-walks : (strictness : Strictness) (walker : Walker) (number : ℕ) → waits_in walker.waiting.waits.items number ≡ false → AreCalm table declared walker → Walks strictness table declared number (draft_view walker.draft) (draft_view walker.draft)
  pass-walks strictness walker number none are = record { walks = λ row is here. by strictness row (rests row is here) }
    where
      now : Draft
      now = draft_view walker.draft

      rests : (row : Row) → IsIn table row → row.number ≡ number → walked table declared row now ≡ Ok now
      rests row is here =
          let waits : waits_in walker.waiting.waits.items row.number ≡ false = ap (waits_in walker.waiting.waits.items) here ∙ none in
          rests-walked table declared row (memory_of walker.draft.store walker.predecessors) now (calm-rests table declared row walker waits (are.each row is))

      by : (strictness : Strictness) (row : Row) → walked table declared row now ≡ Ok now → walked_by strictness table declared row now ≡ Ok now
      by Strict row h = h
      by Lenient row h = ap Ok (walked-leniently table declared row now now h)

  -- a shape has been taken in
  pub taken-calm : (one two : Walker) → StaysWaiting one.waiting two.waiting → ((row : Row) → row.number < length two.waiting.waits.items → IsCalm table declared row one → IsCalm table declared row two) → AreCalm table declared one → AreCalm table declared two
  taken-calm one two stays each are = record {
    many = stays.many ∙ are.many;
    ordered = order-kept table one.waiting two.waiting stays.order are.ordered;
    each = λ row is. each row (omega (arith, row-below table row is, stays.many, are.many)) (are.each row is);
  }

  -- there is no state of that number
  pub none-calm : (walker : Walker) (number : ℕ) → IsNoRow table number → AreOthersCalm table declared number walker → AreCalm table declared walker
  none-calm walker number none are = record { many = are.many; ordered = are.ordered; each = λ row is. are.each row is (λ same. none.none row is same) }

  -- the steps of the state of that number were made, and what flows at them was taken in
  pub walked-calm : (one made two : Walker) (number : ℕ) → made.waiting ≡ one.waiting → made.predecessors ≡ one.predecessors → draft_view made.draft ≡ draft_view one.draft → Keeps one.draft.store made.draft.store
      → StaysWaiting made.waiting two.waiting → OthersStayCalm number made two → AreOthersCalm table declared number one → AreOthersCalm table declared number two
  walked-calm one made two number waits remembers same keeps stays others are = record {
    many = many;
    ordered = order-kept table one.waiting two.waiting (stays.order ∙ ap (λ (w : Waiting). w.order) waits) are.ordered;
    each = λ row is other. others.calm table declared row other (omega (arith, row-below table row is, many)) (calm-kept table declared row one made keeps same remembers (ap (λ (w : Waiting). waits_in w.waits.items row.number) waits) (are.each row is other));
  }
    where
      many : length two.waiting.waits.items ≡ length table.states
      many = stays.many ∙ (ap (λ (w : Waiting). length w.waits.items) waits ∙ are.many)

  -- each is calm where that one is, too
  pub all-calm : (walker : Walker) (number : ℕ) → ((row : Row) → IsIn table row → row.number ≡ number → row.number < length walker.waiting.waits.items → IsCalm table declared row walker) → AreOthersCalm table declared number walker → AreCalm table declared walker
  all-calm walker number own are = record { many = are.many; ordered = are.ordered; each = λ row is. by row is (eqb_tells row.number number) }
    where
      by : (row : Row) → IsIn table row → ((Rattle.std.proofs.Common.eqb row.number number ≡ true) × (row.number ≡ number)) ⊎ ((Rattle.std.proofs.Common.eqb row.number number ≡ false) × (row.number ≢ number)) → IsCalm table declared row walker
      by row is (inl here) = own row is here.1 (omega (arith, row-below table row is, are.many))
      by row is (inr other) = are.each row is other.1

  -- as where it waits again
  pub woken-calm : (one two : Walker) (number : ℕ) → two.waiting.waits.items ≡ slice_set one.waiting.waits.items number true → two.waiting.order ≡ one.waiting.order → two.draft ≡ one.draft → two.predecessors ≡ one.predecessors → Keeps one.draft.store two.draft.store → AreOthersCalm table declared number one → AreCalm table declared two
  woken-calm one two number woken order draft remembers keeps are = all-calm two number own others
    where
      others : AreOthersCalm table declared number two
      others = record {
        many = ap length woken ∙ (set-many one.waiting.waits.items number true ∙ are.many);
        ordered = order-kept table one.waiting two.waiting order are.ordered;
        each = λ row is other. calm-kept table declared row one two keeps (ap draft_view draft) remembers (ap (λ ws. waits_in ws row.number) woken ∙ set-other one.waiting.waits.items number row.number true other) (are.each row is other);
      }

      own : (row : Row) → IsIn table row → row.number ≡ number → row.number < length two.waiting.waits.items → IsCalm table declared row two
      own row is here within =
          let below : number < length one.waiting.waits.items = omega (arith, within, here, ap length woken, set-many one.waiting.waits.items number true) in
          record { calm = inl (ap (λ ws. waits_in ws row.number) woken ∙ (ap (waits_in (slice_set one.waiting.waits.items number true)) here ∙ set-own one.waiting.waits.items number true below)) }
