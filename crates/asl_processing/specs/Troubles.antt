-- What comes of an error, as the definitions have it.
use Rattle.std.specs.Prelude.{◌<◌, ◌+◌, ◌^◌, ◌≡◌, ℕ, List, length}
use Rattle.asl_states.specs.Machine.{target_name}
use Rattle.asl_model.specs.Run as model
use Rattle.asl_tree.specs.View.{view}
use Rattle.asl_processing.specs.Leading.{Leads}
use Rattle.asl_processing.specs.declared.troubles.Trouble.{Trouble}
use Rattle.asl_processing.specs.declared.troubles.Trouble.TheVariants.{Retries, Catches, Misfits, Escapes}

-- what comes of it
abbrev pub trouble_view : Trouble → model.Trouble
trouble_view (Retries i) = model.Retries i
trouble_view (Catches i next input) = model.Catches i (target_name next.now) (view input.value)
trouble_view Misfits = model.Misfits
trouble_view Escapes = model.Escapes

-- the state at which it goes on has the name of the definitions
abbrev pub TroubleLeads : List (List ℕ) → Trouble → Type 0
TroubleLeads names (Retries i) = Unit {0}
TroubleLeads names (Catches i next input) = Leads names next.now
TroubleLeads names Misfits = Unit {0}
TroubleLeads names Escapes = Unit {0}

-- the count of the retrier of that number can be raised by one and written
abbrev pub CanRise : List ℕ → ℕ → Type 0
CanRise counts retrier = (retrier + 1 < 2 ^ 64) × (model.count_at retrier counts + 1 < 2 ^ 64)

-- the same counts, written up to that of the retrier of that number
pub record Reaches (retrier : ℕ) (counts longer : List ℕ) : Type 0 where
  pub written : retrier < length longer
  pub same_count : model.count_at retrier longer ≡ model.count_at retrier counts
  pub same_raised : model.one_higher retrier longer ≡ model.one_higher retrier counts
