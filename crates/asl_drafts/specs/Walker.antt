-- What is known of the states that wait while a draft changes. No public clause cites this module.
use Rattle.std.specs.Prelude.{◌≡◌, ◌<◌, ℕ, List, length, Bool, true, Some}
use mathlib.Core.Logic.{◌⊎◌}
use Rattle.asl_draft_laws.specs.Drafts as model
use Rattle.asl_draft_laws.specs.Drafts.{taken_at}
use Rattle.asl_draft_laws.specs.Resting.{IsPassedBy}
use Rattle.asl_numbered.specs.Expansion.{shape_at}
use Rattle.asl_drafts.specs.Drafted.{draft_view, target_view}
use Rattle.asl_drafts.specs.Predecessors.{flowed}
use Rattle.asl_drafts.specs.Waiting.{waits_in}
use Rattle.asl_drafts.specs.declared.draft.Draft.{Draft}
use Rattle.asl_drafts.specs.declared.draft.Target.{Target}
use Rattle.asl_drafts.specs.declared.predecessors.Origin.{Origin}
use Rattle.asl_drafts.specs.declared.predecessors.Predecessors.{Predecessors}
use Rattle.asl_drafts.specs.declared.waiting.Waiting.{Waiting}

-- there are as many states in the same order, and each that waited waits
pub record StaysWaiting (before after : Waiting) : Type 0 where
  pub many : length after.waits.items ≡ length before.waits.items
  pub order : after.order ≡ before.order
  pub stays : (n : ℕ) → waits_in before.waits.items n ≡ true → waits_in after.waits.items n ≡ true

-- the state that looks at the shape waits
pub record ReaderWaits (target : model.Target) (waits : List Bool) : Type 0 where
  pub reader : (n : ℕ) → n < length waits → IsPassedBy n target ⊎ (waits_in waits n ≡ true)

-- the state from which that flowed waits, or the shape would stay where it flows in again
abbrev pub WaitsOrStays : Draft → Target → List Bool → ℕ → ℕ → Type 0
WaitsOrStays draft target waits state flowing = state < length waits → flowing < length draft.store
    → (waits_in waits state ≡ true)
    ⊎ (taken_at (Some (target_view target)) (shape_at draft.store flowing) (draft_view draft)
    ≡ draft_view draft)

-- so for all that is remembered of the shape
pub record PredecessorsWait (draft : Draft) (predecessors : Predecessors) (target : Target) (waits : List Bool)
    : Type 0 where
  pub each : (origin : Origin) (flowing : ℕ) → flowed predecessors target origin ≡ Some flowing
      → WaitsOrStays draft target waits origin.state flowing

-- After a change of the shape the state waits that looks at it, and those wait from which something below that bound
-- flowed into it that would change it again.
pub record HaveWoken (bound : ℕ) (draft : Draft) (predecessors : Predecessors) (target : Target) (waits : List Bool)
    : Type 0 where
  pub reader : ReaderWaits (target_view target) waits
  pub again : (origin : Origin) (flowing : ℕ) → flowed predecessors target origin ≡ Some flowing
      → origin.state < length waits → flowing < bound
      → (waits_in waits origin.state ≡ true)
      ⊎ (taken_at (Some (target_view target)) (shape_at draft.store flowing) (draft_view draft)
      ≡ draft_view draft)
