-- Rounds as they are taken, row by row, and round by round.
use Rattle.std.proofs.Common.{◌≡◌, ◌≢◌, ◌<◌, ◌≤◌, ◌+◌, ◌-◌, ℕ, zero, suc, List, [], ◌∷◌, length, drop, get_or, slice_get, Bool, true, false, Option, Some, None, option_map, Ok, Err, refl, sym, ap, ◌∙◌, subst, ◌⊎◌, inl, inr, arith}
use Rattle.std.proofs.lemmas.List.{length-map, drop_all}
use Rattle.std.proofs.lemmas.Option.{slice_get-get_or, slice_get-map}
use Rattle.asl_model.specs.Certificate as model
use Rattle.asl_model.specs.Finding.{Finding}
use Rattle.asl_model.specs.Numbering.{Placement, Table}
use Rattle.asl_model.specs.Shape.{Shape}
use Rattle.asl_model.specs.ShapeSpelling.{are_distinct}
use Rattle.asl_model.proofs.RunOptions.{none_some, some_inj}
use Rattle.asl_draft_laws.specs.Drafts.{Draft, Input, Row, first_draft, input_taken, rows_of, taken_at, unless_told}
use Rattle.asl_draft_laws.proofs.CertifiedRows.{Among, row-known}
use Rattle.asl_drafts.specs.Drafted.{draft_view, room}
use Rattle.asl_drafts.specs.Entries.{Makes}
use Rattle.asl_drafts.specs.Order.{AreOrdered}
use Rattle.asl_drafts.specs.Waiting.{NoneWaits}
use Rattle.asl_drafts.specs.declared.walker.Walker.{Walker}
use Rattle.asl_drafts.proofs.Ordered.{stand-once}
use Rattle.asl_check.specs.View.{finding_view}
use Rattle.asl_infer.specs.Rounds.{AreCalm, EndsWhereDistinct, IsChanged, IsEndBy, IsIn, RoundTells, SettlesWhereDistinct, TakesRound, Tells, WalkTells, Walks, after_rounds_by, all_walked_by, round_by}
use Rattle.asl_infer.specs.declared.inferring.InferRefusal.{InferRefusal}
use Rattle.asl_infer.specs.declared.inferring.InferRefusal.TheVariants as refusal
use Rattle.asl_infer.specs.declared.rounds.Strictness.{Strictness}
use Rattle.asl_infer.proofs.CalmStates.{pass-walks}
use Rattle.asl_infer.proofs.FirstRooms.{first-room}

-- ---- changes

pub unchanged : (before : Draft) → IsChanged before false before
unchanged before = record { told = refl }

pub more-changed : (before between after : Draft) (changed : Bool) → IsChanged before changed between → IsChanged between true after → IsChanged before true after
more-changed before between after true one two = record { told = omega (arith, one.told, two.told) }
more-changed before between after false one two = record { told = subst (λ (d : Draft). room after < room d) one.told two.told }

pub still-changed : (before between after : Draft) (changed : Bool) → IsChanged before changed between → IsChanged between false after → IsChanged before changed after
still-changed before between after changed one two = subst (IsChanged before changed) (sym two.told) one

-- ---- the declared input

pub input-made : (table : Table) (declared : model.Declared) (placement : Placement) (s : Shape) (before : Draft) (changed : Bool) (after : Draft) → slice_get table.placements 0 ≡ Some placement → s ≡ declared.input → Makes room (taken_at (Some (Input placement.start)) s) before changed after → Makes room (input_taken table declared) before changed after
input-made table declared placement s before changed after there same makes = record {
  made = makes.made ∙ (ap (λ t. taken_at (Some (Input placement.start)) t before) same ∙ sym (ap (λ o. taken_at (option_map (λ (p : Placement). Input p.start) o) declared.input before) there));
  told = makes.told;
}

-- ---- the rows in their order

-- the element at a position
drop-at : {A : Type 0} (xs : List A) (i : ℕ) (x : A) → slice_get xs i ≡ Some x → drop i xs ≡ x ∷ drop (suc i) xs
drop-at [] i x h = none_some h
drop-at (y ∷ ys) zero x h = ap (λ z. z ∷ ys) (some_inj h)
drop-at (y ∷ ys) (suc i) x h = drop-at ys i x h

among-at : (rows : List Row) (i : ℕ) (row : Row) → slice_get rows i ≡ Some row → Among rows row
among-at [] i row h = none_some h
among-at (r ∷ rows) zero row h = inl (some_inj h)
among-at (r ∷ rows) (suc i) row h = inr (among-at rows i row h)

-- what is seen of an element
seen-at : {A B : Type 0} (f : A → B) (o : Option A) (y : B) → option_map f o ≡ Some y → (x : A) × (o ≡ Some x) × (f x ≡ y)
seen-at f None y h = none_some h
seen-at f (Some x) y h = (x, refl, some_inj h)

-- the next row
pub record IsNext (table : Table) (place n : ℕ) : Type 0 where
  pub row : Row
  pub among : IsIn table row
  pub number : row.number ≡ n
  pub left : drop place (rows_of table) ≡ row ∷ drop (place + 1) (rows_of table)

module _ (table : Table) (numbers : List ℕ) (are : AreOrdered table numbers) (distinct : are_distinct table.names ≡ true) where
  pub next-row : (place number : ℕ) → slice_get numbers place ≡ Some number → IsNext table place number
  next-row place number here =
      let seen : option_map (λ (row : Row). row.number) (slice_get (rows_of table) place) ≡ Some number = sym (slice_get-map (λ (row : Row). row.number) (rows_of table) place) ∙ (ap (λ ns. slice_get ns place) (sym (are.ordered distinct)) ∙ here) in
      let there = seen-at (λ (row : Row). row.number) (slice_get (rows_of table) place) number seen in
      let after : suc place ≡ place + 1 = omega arith in
      let known = row-known table there.0 (among-at (rows_of table) place there.0 there.1) in
      record {
        row = there.0;
        among = record { named = known.0; at = known.1 };
        number = there.2;
        left = drop-at (rows_of table) place there.0 there.1 ∙ ap (λ i. there.0 ∷ drop i (rows_of table)) after;
      }

  pub no-row : (place : ℕ) → length numbers ≤ place → drop place (rows_of table) ≡ []
  no-row place past =
      let many : length numbers ≡ length (rows_of table) = ap length (are.ordered distinct) ∙ length-map (rows_of table) (λ (row : Row). row.number) in
      drop_all place (rows_of table) (omega (arith, past, many))

-- ---- a round

module _ (strictness : Strictness) (table : Table) (declared : model.Declared) where
  -- the rows before that place have been walked
  pub record IsInRound (before : Draft) (place : ℕ) (is_changed : Bool) (now : Draft) : Type 0 where
    pub walked : are_distinct table.names ≡ true → all_walked_by strictness table declared (drop place (rows_of table)) now ≡ round_by strictness table declared before
    pub changed : IsChanged before is_changed now

  -- rows of states that don't wait are passed over
  pass-rows : (walker : Walker) → AreCalm table declared walker → are_distinct table.names ≡ true → (count from : ℕ) → from + count ≤ length walker.waiting.order.items → NoneWaits walker.waiting.order.items walker.waiting.waits.items from (from + count) → all_walked_by strictness table declared (drop from (rows_of table)) (draft_view walker.draft) ≡ all_walked_by strictness table declared (drop (from + count) (rows_of table)) (draft_view walker.draft)
  pass-rows walker are distinct zero from within none =
      let same : from ≡ from + 0 = omega arith in
      ap (λ i. all_walked_by strictness table declared (drop i (rows_of table)) (draft_view walker.draft)) same
  pass-rows walker are distinct (suc count) from within none =
      let numbers = walker.waiting.order.items in
      let number = get_or numbers from 0 in
      let at : slice_get numbers from ≡ Some number = slice_get-get_or numbers from 0 (omega (arith, within)) in
      let quiet = none.none (stand-once table numbers are.ordered distinct) number from (omega arith) (omega arith) at in
      let walks = pass-walks table declared strictness walker number quiet are in
      let next = next-row table numbers are.ordered distinct from number at in
      let same : (from + 1) + count ≡ from + suc count = omega arith in
      ap (λ rows. all_walked_by strictness table declared rows (draft_view walker.draft)) next.left
      ∙ (ap (unless_told (all_walked_by strictness table declared (drop (from + 1) (rows_of table)))) (walks.walks next.row next.among next.number)
      ∙ (pass-rows walker are distinct count (from + 1) (omega (arith, within)) (record { none = λ once n place least below there. none.none once n place (omega (arith, least)) (omega (arith, below)) there })
      ∙ ap (λ i. all_walked_by strictness table declared (drop i (rows_of table)) (draft_view walker.draft)) same))

  pub pass-round : (walker : Walker) (before : Draft) (from place : ℕ) (changed : Bool) → AreCalm table declared walker → from ≤ place → place ≤ length walker.waiting.order.items → NoneWaits walker.waiting.order.items walker.waiting.waits.items from place → IsInRound before from changed (draft_view walker.draft) → IsInRound before place changed (draft_view walker.draft)
  pass-round walker before from place changed are after within none so_far = record {
    walked = λ distinct. sym (passed distinct) ∙ so_far.walked distinct;
    changed = so_far.changed;
  }
    where
      same : from + (place - from) ≡ place
      same = omega (arith, after)

      passed : are_distinct table.names ≡ true → all_walked_by strictness table declared (drop from (rows_of table)) (draft_view walker.draft) ≡ all_walked_by strictness table declared (drop place (rows_of table)) (draft_view walker.draft)
      passed distinct =
          pass-rows walker are distinct (place - from) from (omega (arith, same, within)) (subst (NoneWaits walker.waiting.order.items walker.waiting.waits.items from) (sym same) none)
          ∙ ap (λ i. all_walked_by strictness table declared (drop i (rows_of table)) (draft_view walker.draft)) same

  walk-next : (numbers : List ℕ) (before : Draft) (place number : ℕ) (changed : Bool) (now next : Draft) → AreOrdered table numbers → slice_get numbers place ≡ Some number → IsInRound before place changed now → Walks strictness table declared number now next → are_distinct table.names ≡ true → all_walked_by strictness table declared (drop (place + 1) (rows_of table)) next ≡ round_by strictness table declared before
  walk-next numbers before place number changed now next are at so_far walks distinct =
      let next = next-row table numbers are distinct place number at in
      sym (ap (λ rows. all_walked_by strictness table declared rows now) next.left ∙ ap (unless_told (all_walked_by strictness table declared (drop (place + 1) (rows_of table)))) (walks.walks next.row next.among next.number)) ∙ so_far.walked distinct

  pub walk-changed : (numbers : List ℕ) (before : Draft) (place number : ℕ) (changed : Bool) (now next : Draft) → AreOrdered table numbers → slice_get numbers place ≡ Some number → IsInRound before place changed now → Walks strictness table declared number now next → IsChanged now true next → IsInRound before (place + 1) true next
  walk-changed numbers before place number changed now next are at so_far walks more = record {
    walked = walk-next numbers before place number changed now next are at so_far walks;
    changed = more-changed before now next changed so_far.changed more;
  }

  pub walk-unchanged : (numbers : List ℕ) (before : Draft) (place number : ℕ) (changed : Bool) (now next : Draft) → AreOrdered table numbers → slice_get numbers place ≡ Some number → IsInRound before place changed now → Walks strictness table declared number now next → IsChanged now false next → IsInRound before (place + 1) changed next
  walk-unchanged numbers before place number changed now next are at so_far walks more = record {
    walked = walk-next numbers before place number changed now next are at so_far walks;
    changed = still-changed before now next changed so_far.changed more;
  }

  -- a walk tells
  pub walk-told : (numbers : List ℕ) (before : Draft) (place number : ℕ) (changed : Bool) (now : Draft) (why : InferRefusal) → AreOrdered table numbers → slice_get numbers place ≡ Some number → IsInRound before place changed now → WalkTells strictness table declared number now why → RoundTells strictness table declared before why
  walk-told numbers before place number changed now why are at so_far tells = record { tells = λ distinct. by why distinct (next-row table numbers are distinct place number at) tells }
    where
      by : (r : InferRefusal) → are_distinct table.names ≡ true → IsNext table place number → WalkTells strictness table declared number now r → Tells (round_by strictness table declared before) r
      by (refusal.Finding found) distinct at h =
          sym (so_far.walked distinct) ∙ (ap (λ rows. all_walked_by strictness table declared rows now) at.left ∙ ap (unless_told (all_walked_by strictness table declared (drop (place + 1) (rows_of table)))) (h.tells at.row at.among at.number))
      by refusal.NotSettled distinct at h = h.tells at.row at.among at.number
      by refusal.OutOfMemory distinct at h = tt

  pub end-round : (numbers : List ℕ) (before : Draft) (place : ℕ) (changed : Bool) (now : Draft) → AreOrdered table numbers → length numbers ≤ place → IsInRound before place changed now → TakesRound strictness table declared before now
  end-round numbers before place changed now are past so_far = record {
    taken = λ distinct. sym (so_far.walked distinct) ∙ ap (λ rows. all_walked_by strictness table declared rows now) (no-row table numbers are distinct place past);
  }

  -- ---- several rounds

  -- so many have been taken, and each of them changed the draft before it
  abbrev pub Changes : ℕ → Type 0
  Changes n = (before after : Draft) × (after_rounds_by strictness table declared n ≡ Ok before) × (round_by strictness table declared before ≡ Ok after) × (after ≢ before)

  pub record AreTaken (count : ℕ) (now : Draft) : Type 0 where
    pub comes : are_distinct table.names ≡ true → after_rounds_by strictness table declared count ≡ Ok now
    pub changes : are_distinct table.names ≡ true → (n : ℕ) → n < count → Changes n
    pub spent : room now + count ≤ room (first_draft table)

  pub none-taken : (now : Draft) → now ≡ first_draft table → AreTaken 0 now
  none-taken now is = record {
    comes = λ distinct. ap Ok (sym is);
    changes = λ distinct n less. absurd (omega (arith, less));
    spent = subst (λ (d : Draft). room d + 0 ≤ room (first_draft table)) (sym is) (omega arith);
  }

  -- one that changed the draft
  pub one-taken : (count : ℕ) (now next : Draft) → AreTaken count now → TakesRound strictness table declared now next → IsChanged now true next → AreTaken (count + 1) next
  one-taken count now next are takes changed = record {
    comes = λ distinct. let more : count + 1 ≡ suc count = omega arith in ap (after_rounds_by strictness table declared) more ∙ (ap (unless_told (round_by strictness table declared)) (are.comes distinct) ∙ takes.taken distinct);
    changes = λ distinct n less. by distinct n (Rattle.std.proofs.lemmas.Bool.Decides.eqb_tells n count) less;
    spent = omega (arith, are.spent, changed.told);
  }
    where
      other : next ≢ now
      other same =
          let never : room now < room now = subst (λ (d : Draft). room d < room now) same changed.told in
          omega (arith, never)

      by : are_distinct table.names ≡ true → (n : ℕ) → ((Rattle.std.proofs.Common.eqb n count ≡ true) × (n ≡ count)) ⊎ ((Rattle.std.proofs.Common.eqb n count ≡ false) × (n ≢ count)) → n < count + 1 → Changes n
      by distinct n (inl here) less = (now, next, ap (after_rounds_by strictness table declared) here.1 ∙ are.comes distinct, takes.taken distinct, other)
      by distinct n (inr before) less = are.changes distinct n (omega (arith, less, before.1))

  -- one that left it as it was
  pub settled : (rounds count : ℕ) (now next : Draft) → AreTaken count now → count < rounds → TakesRound strictness table declared now next → IsChanged now false next → SettlesWhereDistinct strictness table declared rounds next
  settled rounds count now next are within takes changed = record {
    settles = λ distinct.
        let same : next ≡ now = changed.told in
        record {
          before = count;
          within = within;
          comes = are.comes distinct ∙ ap Ok (sym same);
          stays = ap (round_by strictness table declared) same ∙ takes.taken distinct;
        };
  }

  -- what is told stays so in further rounds
  told-later : (rounds n : ℕ) (found : Finding) → n ≤ rounds → after_rounds_by strictness table declared n ≡ Err found → after_rounds_by strictness table declared rounds ≡ Err found
  told-later zero n found within h =
      let none : n ≡ 0 = omega (arith, within) in
      subst (λ m. after_rounds_by strictness table declared m ≡ Err found) none h
  told-later (suc rounds) n found within h = by (Rattle.std.proofs.lemmas.Bool.Decides.eqb_tells n (suc rounds)) (λ less. told-later rounds n found less h)
    where
      by : ((Rattle.std.proofs.Common.eqb n (suc rounds) ≡ true) × (n ≡ suc rounds)) ⊎ ((Rattle.std.proofs.Common.eqb n (suc rounds) ≡ false) × (n ≢ suc rounds)) → (n ≤ rounds → after_rounds_by strictness table declared rounds ≡ Err found) → after_rounds_by strictness table declared (suc rounds) ≡ Err found
      by (inl same) below = subst (λ m. after_rounds_by strictness table declared m ≡ Err found) same.1 h
      by (inr other) below = ap (unless_told (round_by strictness table declared)) (below (omega (arith, within, other.1)))

  -- one that tells
  pub told : (rounds count : ℕ) (now : Draft) (why : InferRefusal) → AreTaken count now → count < rounds → RoundTells strictness table declared now why → EndsWhereDistinct strictness table declared rounds why
  told rounds count now why are within tells = record { ends = by why tells }
    where
      by : (r : InferRefusal) → RoundTells strictness table declared now r → are_distinct table.names ≡ true → IsEndBy strictness table declared rounds r
      by (refusal.Finding found) h distinct = told-later rounds (suc count) (finding_view found) (omega (arith, within)) (ap (unless_told (round_by strictness table declared)) (are.comes distinct) ∙ h.tells distinct)
      by refusal.NotSettled h distinct = absurd (h.tells distinct)
      by refusal.OutOfMemory h distinct = tt

  -- all of them
  pub never-settled : (rounds count : ℕ) (now : Draft) → AreTaken count now → rounds ≤ count → EndsWhereDistinct strictness table declared rounds refusal.NotSettled
  never-settled rounds count now are past = record {
    ends = λ distinct. (record { changes = λ n less. are.changes distinct n (omega (arith, less, past)) }, omega (arith, are.spent, past, first-room table));
  }
