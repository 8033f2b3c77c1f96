use Rattle.std.proofs.Common.{◌≡◌, length}
use Rattle.asl_machine_table.specs.Table.{table_view}
use Rattle.asl_cases.proofs.Recorded.{NoneTaken}
use Rattle.asl_cases.proofs.coverage.nothing_of.Given as goal

-- nothing is taken of the states so far
abbrev pub invariant-loop-number : goal.invariant-loop-number
invariant-loop-number l =
    (length l.states.items ≡ l.number) × NoneTaken (table_view l.machine) l.states.items
