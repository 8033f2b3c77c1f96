-- States that may be passed over: those that don't wait are at rest. No public clause cites this module.
use Rattle.std.specs.Prelude.{◌≡◌, ◌&&◌, ℕ, List, length, Bool, true, false, nat_lt, Option, Some, None}
use mathlib.Core.Logic.{◌⊎◌}
use Rattle.asl_model.specs.Certificate.{Declared}
use Rattle.asl_model.specs.Numbering.{Table}
use Rattle.asl_model.specs.Shape.{Shape}
use Rattle.asl_model.specs.WrittenNumbered.{same_shape}
use Rattle.asl_draft_laws.specs.Drafts as model
use Rattle.asl_draft_laws.specs.Drafts.{Row}
use Rattle.asl_draft_laws.specs.Resting.{Memory, Rests}
use Rattle.asl_numbered.specs.Expansion.{shape_at}
use Rattle.asl_drafts.specs.Drafted.{draft_view}
use Rattle.asl_drafts.specs.Predecessors.{flowed}
use Rattle.asl_drafts.specs.Waiting.{waits_in}
use Rattle.asl_drafts.specs.declared.draft.Target.{Target}
use Rattle.asl_drafts.specs.declared.draft.Target.TheVariants as target
use Rattle.asl_drafts.specs.declared.predecessors.Predecessors.{Predecessors}
use Rattle.asl_drafts.specs.declared.walker.Walker.{Walker}

-- the code's name of a shape of a draft
abbrev pub target_meant : model.Target → Target
target_meant model.MachineOutput = target.MachineOutput
target_meant (model.Input n) = target.Input n
target_meant (model.Output n) = target.Output n
target_meant (model.End n child) = target.End n child

-- whether there is a number, of that shape in the table
abbrev pub has_shape : List Shape → Option ℕ → Shape → Bool
has_shape table None s = false
has_shape table (Some n) s = nat_lt n (length table) && same_shape (shape_at table n) s

-- what is remembered of what flowed, with the shapes of a table
abbrev pub memory_of : List Shape → Predecessors → Memory
memory_of table predecessors into n place s =
    has_shape table (flowed predecessors (target_meant into) (record { state = n; place = place })) s

-- the state of the row waits, or it is at rest
pub record IsCalm (table : Table) (declared : Declared) (row : Row) (walker : Walker) : Type 0 where
  pub calm : (waits_in walker.waiting.waits.items row.number ≡ true)
      ⊎ Rests table declared row (memory_of walker.draft.store walker.predecessors)
      (draft_view walker.draft)
