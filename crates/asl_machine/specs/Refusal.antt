-- Why a definition is refused.
use Rattle.std.specs.Prelude.{Option, Some, None}
use Rattle.serde_json.specs.Data.{Data}
use Rattle.asl_model.specs.StandsFor.{Complaint, HasComplaint}

-- the value may be refused so: for want of memory, or for what is wrong with it
pub data IsRefused (v : Data) : Option Complaint → Type 0 where
  without_memory : IsRefused v None
  for_broken_rule : {c : Complaint} → HasComplaint v c → IsRefused v (Some c)
