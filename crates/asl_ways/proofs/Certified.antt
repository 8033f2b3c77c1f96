-- What is walked, in a table that has grown.
use Rattle.std.proofs.Common.{◌≡◌, ◌+◌, ℕ, List, length, ◌++◌, refl, ap, ◌∙◌, append_assoc, add-one}
use Rattle.asl_model.specs.Certificate.{StateShapes}
use Rattle.asl_model.specs.Names.{StateName}
use Rattle.asl_numbered.specs.Expansion.{Keeps}
use Rattle.asl_model.specs.Shape.{Shape}
use Rattle.asl_records.specs.Numbered.{AreEntriesBelow}
use Rattle.asl_records.specs.View.{declared_view}
use Rattle.asl_records.specs.Laws.{entries_shown}
use Rattle.asl_machine_table.specs.Table.{table_view}
use Rattle.asl_ways.specs.Coming.{Coming, leaves_certified, leaves_first}
use Rattle.asl_ways.specs.Given.{Given, given_in}
use Rattle.asl_ways.specs.declared.leaving.Walker.{Walker}

pub given_kept : (a b : List Shape) (walker : Walker) → Keeps a b → AreEntriesBelow (length a) walker.states.now.entries → given_in b walker ≡ given_in a walker
given_kept a b walker keeps below =
    ap (λ (states : List (StateName × StateShapes)). record { machine = table_view walker.machine.now; declared = declared_view walker.declared.now; states = states }) (entries_shown a b keeps walker.states.now.entries below)

-- one state further
pub leaves_more : (given : Given) (before : List Coming) (count : ℕ) → (before ++ leaves_first given count) ++ leaves_certified given count ≡ before ++ leaves_first given (count + 1)
leaves_more given before count = append_assoc before (leaves_first given count) (leaves_certified given count) ∙ rw (add-one count) refl
