-- What is known of states while what flows along the edges of one of them is taken in. No public clause but those of
-- that walk cites this module.
use Rattle.std.specs.Prelude.{◌≡◌, ◌≢◌, ◌<◌, ◌++◌, ◌∷◌, ℕ, List, [], length, true}
use mathlib.Core.Logic.{◌⊎◌}
use Rattle.asl_model.specs.Certificate.{Declared, takes_of}
use Rattle.asl_model.specs.Edges.{Walked}
use Rattle.asl_model.specs.Numbering.{Table}
use Rattle.asl_draft_laws.specs.Drafts.{Row, own_breaches, steps_of}
use Rattle.asl_draft_laws.specs.Resting.{StepsRest}
use Rattle.asl_drafts.specs.Calm.{IsCalm, memory_of}
use Rattle.asl_drafts.specs.Drafted.{draft_view}
use Rattle.asl_drafts.specs.Waiting.{waits_in}
use Rattle.asl_drafts.specs.declared.predecessors.Origin.{Origin}
use Rattle.asl_drafts.specs.declared.walker.Walker.{Walker}

-- The row's state is walked, and has those steps: it waits again, or it still has these steps, and what flowed along
-- the first ones would change nothing.
pub record IsUnderway (table : Table) (declared : Declared) (row : Row) (steps done : List Walked) (walker : Walker)
    : Type 0 where
  pub underway : (waits_in walker.waiting.waits.items row.number ≡ true)
      ⊎ ((steps_of declared (draft_view walker.draft) row ≡ steps)
      × StepsRest table row.number (memory_of walker.draft.store walker.predecessors)
      (draft_view walker.draft) 0 done)

-- so after one more step, whose place is that of the origin
pub record StepsOn (table : Table) (origin : Origin) (step : Walked) (before after : Walker) : Type 0 where
  pub further : (declared : Declared) (row : Row) (steps done : List Walked) → row.number ≡ origin.state
      → row.number < length after.waiting.waits.items → length done ≡ origin.place
      → IsUnderway table declared row steps done before → IsUnderway table declared row steps (done ++ step ∷ []) after

-- each state of another number that waited or was at rest waits or is at rest
pub record OthersStayCalm (number : ℕ) (before after : Walker) : Type 0 where
  pub calm : (table : Table) (declared : Declared) (row : Row) → row.number ≢ number
      → row.number < length after.waiting.waits.items → IsCalm table declared row before
      → IsCalm table declared row after

-- the state of that number waits again or is at rest, if it had these steps and they break no rule of its own
pub record IsCalmAfter (table : Table) (number : ℕ) (steps : List Walked) (before after : Walker) : Type 0 where
  pub calm : (declared : Declared) (row : Row) → row.number ≡ number → row.number < length after.waiting.waits.items
      → steps_of declared (draft_view before.draft) row ≡ steps → own_breaches (takes_of declared row.name) steps ≡ []
      → IsCalm table declared row after
