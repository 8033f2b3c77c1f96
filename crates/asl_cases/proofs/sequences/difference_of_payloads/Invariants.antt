use Rattle.std.proofs.Common.{◌↔◌, All, drop, map}
use Rattle.asl_run.specs.Entries.{entry_view}
use Rattle.asl_cases.specs.Judging.{AreAsked}
use Rattle.asl_cases.proofs.sequences.difference_of_payloads.Given as goal

-- all are right where those that are left are
abbrev pub invariant-loop-of_state : goal.invariant-loop-of_state
invariant-loop-of_state l =
    All (AreAsked (map entry_view l.trace)) l.expected ↔ All (AreAsked (map entry_view l.trace)) (drop l.of_state-index l.expected)
