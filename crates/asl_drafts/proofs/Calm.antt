-- States that don't wait stay at rest.
use Rattle.std.proofs.Common.{◌≡◌, ◌<◌, ℕ, List, length, Bool, true, false, IsTrue, nat_lt, Option, Some, None, refl, sym, ap, ◌∙◌, subst, ◌⊎◌, inl, inr, arith}
use Rattle.std.proofs.lemmas.Bool.{and_parts, and_from, false≢true}
use borrow.Author.Tests.{ltb-true, lt-ltb}
use Rattle.asl_model.specs.Certificate.{Declared}
use Rattle.asl_model.specs.Numbering.{Table}
use Rattle.asl_model.specs.Shape.{Shape}
use Rattle.asl_model.specs.WrittenNumbered.{same_shape}
use Rattle.asl_model.proofs.SameShapes.{same_are, same_itself}
use Rattle.asl_draft_laws.specs.Drafts as model
use Rattle.asl_draft_laws.specs.Drafts.{Row, taken_at}
use Rattle.asl_draft_laws.specs.Resting.{IsPassedBy, IsTakenIn, Memory, Rests}
use Rattle.asl_draft_laws.proofs.PassedOver.{rests-kept, rests-known}
use Rattle.asl_numbered.specs.Expansion.{shape_at, Keeps}
use Rattle.asl_numbered.specs.Laws.{keeps_longer, kept_shape}
use Rattle.asl_drafts.specs.Calm.{IsCalm, has_shape, memory_of, target_meant}
use Rattle.asl_drafts.specs.Drafted.{draft_view, room, target_view}
use Rattle.asl_drafts.specs.Entries.{Makes}
use Rattle.asl_drafts.specs.Predecessors.{flowed}
use Rattle.asl_drafts.specs.Waiting.{waits_in}
use Rattle.asl_drafts.specs.Walker.{HaveWoken, StaysWaiting}
use Rattle.asl_drafts.specs.declared.draft.Target.{Target}
use Rattle.asl_drafts.specs.declared.draft.Target.TheVariants as target
use Rattle.asl_drafts.specs.declared.predecessors.Predecessors.{Predecessors}
use Rattle.asl_drafts.specs.declared.walker.Walker.{Walker}

-- ---- what is remembered

pub meant-same : (t : Target) → target_meant (target_view t) ≡ t
meant-same target.MachineOutput = refl
meant-same (target.Input state) = refl
meant-same (target.Output state) = refl
meant-same (target.End state child) = refl

pub recalled : (table : List Shape) (o : Option ℕ) (s : Shape) → IsTrue (has_shape table o s) → (f : ℕ) × (o ≡ Some f) × (f < length table) × (shape_at table f ≡ s)
recalled table None s h = absurd (false≢true h)
recalled table (Some f) s h =
    let both = and_parts (nat_lt f (length table)) (same_shape (shape_at table f) s) h in
    (f, refl, ltb-true f (length table) both.0, same_are (shape_at table f) s both.1)

pub recalls : (table : List Shape) (o : Option ℕ) (f : ℕ) (s : Shape) → o ≡ Some f → f < length table → shape_at table f ≡ s → IsTrue (has_shape table o s)
recalls table o f s is within same =
    let alike : same_shape (shape_at table f) s ≡ true = ap (same_shape (shape_at table f)) (sym same) ∙ same_itself (shape_at table f) in
    subst (λ p. IsTrue (has_shape table p s)) (sym is) (and_from (nat_lt f (length table)) (same_shape (shape_at table f) s) (lt-ltb f (length table) within) alike)

-- in a table that has grown
pub remembered : (a b : List Shape) (p : Predecessors) (into : model.Target) (n place : ℕ) (s : Shape) → Keeps a b → IsTrue (memory_of a p into n place s) → IsTrue (memory_of b p into n place s)
remembered a b p into n place s keeps h =
    let flow = flowed p (target_meant into) (record { state = n; place = place }) in
    let there = recalled a flow s h in
    recalls b flow there.0 s there.1 (omega (arith, there.2, keeps_longer a b keeps)) (kept_shape a b there.0 keeps there.2 ∙ there.3)

-- ---- a state that doesn't wait

module _ (table : Table) (declared : Declared) (row : Row) (a b : List Shape) (p : Predecessors) (keeps : Keeps a b) where
  abbrev before : Memory
  before = memory_of a p

  abbrev after : Memory
  after = memory_of b p

  -- where nothing changes
  rests-same : (d e : model.Draft) → e ≡ d → Rests table declared row before d → Rests table declared row after e
  rests-same d e same rest = subst (Rests table declared row after) (sym same) (rests-known table declared row before after d (λ into place s h. remembered a b p into row.number place s keeps h) rest)

  -- where the shape changes, and nothing that flowed there would change it again
  pub taken-again : (t : Target) (s : Shape) (d e : model.Draft) → e ≡ taken_at (Some (target_view t)) s d
      → ((place f : ℕ) → flowed p t (record { state = row.number; place = place }) ≡ Some f → f < length a → taken_at (Some (target_view t)) (shape_at b f) e ≡ e)
      → IsTakenIn row.number before (target_view t) (taken_at (Some (target_view t)) s d)
  taken-again t s d e made again = λ place r h.
      let there = recalled a (flowed p (target_meant (target_view t)) (record { state = row.number; place = place })) r h in
      let is : flowed p t (record { state = row.number; place = place }) ≡ Some there.0 = ap (λ u. flowed p u (record { state = row.number; place = place })) (sym (meant-same t)) ∙ there.1 in
      let stays = again place there.0 is there.2 in
      let shape : shape_at b there.0 ≡ r = kept_shape a b there.0 keeps there.2 ∙ there.3 in
      subst (λ x. taken_at (Some (target_view t)) r x ≡ x) made (ap (λ y. taken_at (Some (target_view t)) y e) (sym shape) ∙ stays)

  rests-changed : (t : Target) (s : Shape) (d e : model.Draft) → e ≡ taken_at (Some (target_view t)) s d → IsPassedBy row.number (target_view t)
      → ((place f : ℕ) → flowed p t (record { state = row.number; place = place }) ≡ Some f → f < length a → taken_at (Some (target_view t)) (shape_at b f) e ≡ e)
      → Rests table declared row before d → Rests table declared row after e
  rests-changed t s d e made passed again rest =
      rests-same (taken_at (Some (target_view t)) s d) e made (rests-kept table declared row before (target_view t) s d passed (taken-again t s d e made again) rest)

-- ---- after something has flowed in

module _ (table : Table) (declared : Declared) (row : Row) (one two : Walker) (t : Target) (s : Shape) (keeps : Keeps one.draft.store two.draft.store) (same : two.predecessors ≡ one.predecessors) (stays : StaysWaiting one.waiting two.waiting) (within : row.number < length two.waiting.waits.items) where
  -- the row's state is at rest in the second draft
  abbrev RestsNow : Type 0
  RestsNow = Rests table declared row (memory_of two.draft.store two.predecessors) (draft_view two.draft)

  abbrev RestedThen : Type 0
  RestedThen = Rests table declared row (memory_of one.draft.store one.predecessors) (draft_view one.draft)

  moved : Rests table declared row (memory_of two.draft.store one.predecessors) (draft_view two.draft) → RestsNow
  moved rest = subst (λ p. Rests table declared row (memory_of two.draft.store p) (draft_view two.draft)) (sym same) rest

  pub calm-by : (changed : Bool) → Makes room (taken_at (Some (target_view t)) s) (draft_view one.draft) changed (draft_view two.draft) → (changed ≡ true → HaveWoken (length one.draft.store) two.draft two.predecessors t two.waiting.waits.items) → IsCalm table declared row one → IsCalm table declared row two
  calm-by changed makes woken was = record { calm = by was.calm }
    where
      rested : (b : Bool) → changed ≡ b → Makes room (taken_at (Some (target_view t)) s) (draft_view one.draft) b (draft_view two.draft) → RestedThen → (waits_in two.waiting.waits.items row.number ≡ true) ⊎ RestsNow
      rested false is m rest = inr (moved (rests-same table declared row one.draft.store two.draft.store one.predecessors keeps (draft_view one.draft) (draft_view two.draft) m.told rest))
      rested true is m rest = reads (woken is) (waits_in two.waiting.waits.items row.number) refl ((woken is).reader.reader row.number within)
        where
          reads : HaveWoken (length one.draft.store) two.draft two.predecessors t two.waiting.waits.items → (w : Bool) → waits_in two.waiting.waits.items row.number ≡ w → IsPassedBy row.number (target_view t) ⊎ (waits_in two.waiting.waits.items row.number ≡ true) → (waits_in two.waiting.waits.items row.number ≡ true) ⊎ RestsNow
          reads wake w is_w (inr waits) = inl waits
          reads wake true is_w (inl passed) = inl is_w
          reads wake false is_w (inl passed) = inr (moved (rests-changed table declared row one.draft.store two.draft.store one.predecessors keeps t s (draft_view one.draft) (draft_view two.draft) m.made passed again rest))
            where
              again : (place f : ℕ) → flowed one.predecessors t (record { state = row.number; place = place }) ≡ Some f → f < length one.draft.store → taken_at (Some (target_view t)) (shape_at two.draft.store f) (draft_view two.draft) ≡ draft_view two.draft
              again place f flow below = pick (wake.again (record { state = row.number; place = place }) f (subst (λ p. flowed p t (record { state = row.number; place = place }) ≡ Some f) (sym same) flow) within below)
                where
                  pick : (waits_in two.waiting.waits.items row.number ≡ true) ⊎ (taken_at (Some (target_view t)) (shape_at two.draft.store f) (draft_view two.draft) ≡ draft_view two.draft) → taken_at (Some (target_view t)) (shape_at two.draft.store f) (draft_view two.draft) ≡ draft_view two.draft
                  pick (inl waits) = absurd (false≢true (sym is_w ∙ waits))
                  pick (inr stay) = stay

      by : (waits_in one.waiting.waits.items row.number ≡ true) ⊎ RestedThen → (waits_in two.waiting.waits.items row.number ≡ true) ⊎ RestsNow
      by (inl waits) = inl (stays.stays row.number waits)
      by (inr rest) = rested changed refl makes rest
