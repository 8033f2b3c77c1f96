use Rattle.std.proofs.Common.{◌≡◌, ◌↔◌, ◌≤◌, map, string_bytes}
use Rattle.asl_run.specs.Entries.{entry_view}
use Rattle.asl_cases.specs.Judging.{entered_in, path_of}
use Rattle.asl_cases.proofs.Remainders.{IsLeft}
use Rattle.asl_cases.proofs.sequences.difference_of_paths.Given as goal

-- the states entered are those of the path where what is left is
abbrev pub invariant-loop-entry : goal.invariant-loop-entry
invariant-loop-entry l =
    (path_of (map entry_view l.trace) ≡ map string_bytes l.path ↔ IsLeft entered_in entry_view l.trace (map string_bytes l.path) l.entry-index l.step) × (l.step ≤ l.entry-index)
