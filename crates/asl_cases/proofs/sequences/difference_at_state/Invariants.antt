use Rattle.std.proofs.Common.{◌≡◌, ◌↔◌, ◌≤◌, map}
use Rattle.asl_run.specs.Entries.{entry_view}
use Rattle.asl_tree.specs.View.{view}
use Rattle.asl_cases.specs.Judging.{asked_in, payloads_of}
use Rattle.asl_cases.proofs.Remainders.{IsLeft}
use Rattle.asl_cases.proofs.sequences.difference_at_state.Given as goal

-- the payloads are those that are expected where what is left is
abbrev pub invariant-loop-entry : goal.invariant-loop-entry
invariant-loop-entry l =
    (payloads_of l.name (map entry_view l.trace) ≡ map view l.expected ↔ IsLeft (asked_in l.name) entry_view l.trace (map view l.expected) l.entry-index l.number) × (l.number ≤ l.entry-index)
