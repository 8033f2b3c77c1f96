use Rattle.std.proofs.Common.{◌≡◌, map, take}
use Rattle.asl_model.specs.Machine.{State, kind_of}
use Rattle.asl_draft_laws.specs.Drafts.{children_in}
use Rattle.asl_machine_table.specs.Table.{table_view}
use Rattle.asl_drafts.specs.Entries.{filled_with, growths_in}
use Rattle.asl_drafts.proofs.entries.new_entries.Given as goal

abbrev pub invariant-loop-number : goal.invariant-loop-number
invariant-loop-number l =
    map growths_in l.entries.items
    ≡ map (λ (state : State). filled_with l.never (children_in (kind_of state))) (take l.number (table_view l.machine).states)
