-- The states that wait while a draft changes.
use Rattle.std.proofs.Common.{◌≡◌, ◌<◌, ◌≤◌, ◌+◌, ℕ, zero, suc, List, [], ◌∷◌, length, get_or, slice_get, slice_set, Bool, true, false, Some, refl, sym, ap, ap₂, ◌∙◌, subst, ◌⊎◌, inl, inr, arith}
use Rattle.std.proofs.lemmas.Option.{slice_get-get_or}
use borrow.Author.Tests.{ltb-true, ltb-false}
use lib.Dec.{ltb}
use Rattle.asl_model.proofs.RunOptions.{some_inj}
use Rattle.asl_draft_laws.specs.Drafts.{taken_at}
use Rattle.asl_numbered.specs.Expansion.{shape_at, Keeps}
use Rattle.asl_numbered.specs.Laws.{kept_shape, kept_within}
use Rattle.asl_drafts.specs.Drafted.{draft_view, target_view}
use Rattle.asl_drafts.specs.Predecessors.{flowed}
use Rattle.asl_drafts.specs.Waiting.{waits_in}
use Rattle.asl_drafts.proofs.Turns.{set-here, set-many}
use Rattle.asl_drafts.specs.Walker.{HaveWoken, PredecessorsWait, ReaderWaits, StaysWaiting, WaitsOrStays}
use Rattle.asl_draft_laws.specs.Resting.{IsPassedBy}
use Rattle.asl_drafts.specs.declared.draft.Draft.{Draft}
use Rattle.asl_drafts.specs.declared.draft.Target.{Target}
use Rattle.asl_drafts.specs.declared.predecessors.Inflow.{Inflow}
use Rattle.asl_drafts.specs.declared.predecessors.Origin.{Origin}
use Rattle.asl_drafts.specs.declared.predecessors.Predecessors.{Predecessors}
use Rattle.asl_drafts.specs.declared.waiting.Waiting.{Waiting}

-- ---- one more waits

set-stays : (ws : List Bool) (n m : ℕ) → waits_in ws m ≡ true → waits_in (slice_set ws n true) m ≡ true
set-stays [] n m h = h
set-stays (w ∷ ws) zero zero h = refl
set-stays (w ∷ ws) zero (suc m) h = h
set-stays (w ∷ ws) (suc n) zero h = h
set-stays (w ∷ ws) (suc n) (suc m) h = set-stays ws n m h

-- one after the other
pub waits-twice : (before between after : Waiting) → StaysWaiting before between → StaysWaiting between after → StaysWaiting before after
waits-twice before between after one two = record { many = two.many ∙ one.many; order = two.order ∙ one.order; stays = λ m h. two.stays m (one.stays m h) }

-- ---- what is remembered

-- the shape would stay in a draft that is the same, in a table that has grown
pub stays-before : (d e : Draft) (target : Target) (f : ℕ) → Keeps d.store e.store → draft_view e ≡ draft_view d
    → (f < length e.store → taken_at (Some (target_view target)) (shape_at e.store f) (draft_view e) ≡ draft_view e) → f < length d.store
    → taken_at (Some (target_view target)) (shape_at d.store f) (draft_view d) ≡ draft_view d
stays-before d e target f keeps same stays below =
    let there = stays (kept_within d.store e.store f keeps below) in
    let shape = kept_shape d.store e.store f keeps below in
    ap (λ s. taken_at (Some (target_view target)) s (draft_view d)) (sym shape) ∙ (ap (taken_at (Some (target_view target)) (shape_at e.store f)) (sym same) ∙ (there ∙ same))

module _ (draft : Draft) (target : Target) (ws : List Bool) (items : List Inflow) (index : ℕ) (inflow : Inflow) (at : inflow ≡ get_or items index inflow) (there : index < length items) (so_far : (i : ℕ) (x : Inflow) → i < index → slice_get items i ≡ Some x → WaitsOrStays draft target ws x.state x.flowing) where
  -- the next of them
  next : (i : ℕ) (x : Inflow) → index ≤ i → i < index + 1 → slice_get items i ≡ Some x → inflow ≡ x
  next i x least most found =
      let same : i ≡ index = omega (arith, least, most) in
      let here : slice_get items index ≡ Some inflow = slice_get-get_or items index inflow there ∙ ap Some (sym at) in
      some_inj (sym here ∙ (ap (slice_get items) (sym same) ∙ found))

  -- it waits
  pub again-waits : (i : ℕ) (x : Inflow) → i < index + 1 → slice_get items i ≡ Some x → WaitsOrStays draft target (slice_set ws inflow.state true) x.state x.flowing
  again-waits i x most found = go (ltb i index) refl
    where
      still : WaitsOrStays draft target ws x.state x.flowing → WaitsOrStays draft target (slice_set ws inflow.state true) x.state x.flowing
      still h in_ws in_table = by (h (omega (arith, in_ws, set-many ws inflow.state true)) in_table)
        where
          by : (waits_in ws x.state ≡ true) ⊎ (taken_at (Some (target_view target)) (shape_at draft.store x.flowing) (draft_view draft) ≡ draft_view draft) → (waits_in (slice_set ws inflow.state true) x.state ≡ true) ⊎ (taken_at (Some (target_view target)) (shape_at draft.store x.flowing) (draft_view draft) ≡ draft_view draft)
          by (inl waits) = inl (set-stays ws inflow.state x.state waits)
          by (inr stays) = inr stays

      last : inflow ≡ x → WaitsOrStays draft target (slice_set ws inflow.state true) x.state x.flowing
      last same = λ in_ws in_table. inl (subst (λ (y : Inflow). waits_in (slice_set ws inflow.state true) y.state ≡ true) same (set-here ws inflow.state true (subst (λ (y : Inflow). y.state < length ws) (sym same) (omega (arith, in_ws, set-many ws inflow.state true)))))

      go : (b : Bool) → ltb i index ≡ b → WaitsOrStays draft target (slice_set ws inflow.state true) x.state x.flowing
      go true less = still (so_far i x (ltb-true i index less) found)
      go false more = last (next i x (ltb-false i index more) most found)

  -- or the shape would stay
  pub again-stays : (inflow.flowing < length draft.store → taken_at (Some (target_view target)) (shape_at draft.store inflow.flowing) (draft_view draft) ≡ draft_view draft) → (i : ℕ) (x : Inflow) → i < index + 1 → slice_get items i ≡ Some x → WaitsOrStays draft target ws x.state x.flowing
  again-stays stays i x most found = go (ltb i index) refl
    where
      last : inflow ≡ x → WaitsOrStays draft target ws x.state x.flowing
      last same = subst (λ (y : Inflow). WaitsOrStays draft target ws y.state y.flowing) same (λ in_ws in_table. inr (stays in_table))

      go : (b : Bool) → ltb i index ≡ b → WaitsOrStays draft target ws x.state x.flowing
      go true less = so_far i x (ltb-true i index less) found
      go false more = last (next i x (ltb-false i index more) most found)

-- all of them
pub again-all : (draft : Draft) (predecessors : Predecessors) (target : Target) (ws : List Bool) (items : List Inflow) (index : ℕ) → length items ≤ index
    → ((origin : Origin) (n : ℕ) → flowed predecessors target origin ≡ Some n → Rattle.std.specs.List.Contains items (record { state = origin.state; flowing = n }))
    → ((i : ℕ) (x : Inflow) → i < index → slice_get items i ≡ Some x → WaitsOrStays draft target ws x.state x.flowing) → PredecessorsWait draft predecessors target ws
again-all draft predecessors target ws items index end found again = record {
  each = λ origin n is.
      let among = found origin n is in
      let inflow : Inflow = record { state = origin.state; flowing = n } in
      again among.0 inflow (omega (arith, among.1, end)) (slice_get-get_or items among.0 inflow among.1 ∙ ap Some among.2);
}

-- ---- after a change

pub woken : (bound : ℕ) (d e : Draft) (p q : Predecessors) (target : Target) (ws more : Waiting) → bound ≤ length d.store → Keeps d.store e.store → draft_view e ≡ draft_view d → q ≡ p → ReaderWaits (target_view target) ws.waits.items → StaysWaiting ws more → PredecessorsWait d p target more.waits.items → HaveWoken bound e q target more.waits.items
woken bound d e p q target ws more long keeps same preds reader stays again = record {
  reader = record { reader = λ n within. read n (reader.reader n (omega (arith, within, stays.many))) };
  again = λ origin f is in_ws below.
      let there : f < length d.store = omega (arith, below, long) in
      told f there (again.each origin f (subst (λ r. flowed r target origin ≡ Some f) preds is) in_ws there);
}
  where
    read : (n : ℕ) → IsPassedBy n (target_view target) ⊎ (waits_in ws.waits.items n ≡ true) → IsPassedBy n (target_view target) ⊎ (waits_in more.waits.items n ≡ true)
    read n (inl passed) = inl passed
    read n (inr waits) = inr (stays.stays n waits)

    told : {W : Type 0} (f : ℕ) → f < length d.store → W ⊎ (taken_at (Some (target_view target)) (shape_at d.store f) (draft_view d) ≡ draft_view d) → W ⊎ (taken_at (Some (target_view target)) (shape_at e.store f) (draft_view e) ≡ draft_view e)
    told f there (inl waits) = inl waits
    told f there (inr is) = inr (ap₂ (taken_at (Some (target_view target))) (kept_shape d.store e.store f keeps there) same ∙ (is ∙ sym same))
