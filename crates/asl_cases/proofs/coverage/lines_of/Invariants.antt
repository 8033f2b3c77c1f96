use Rattle.std.proofs.Common.{◌≡◌, ◌+◌, drop, length}
use Rattle.asl_machine_table.specs.Table.{table_view}
use Rattle.asl_run.specs.Driving.{Told}
use Rattle.asl_cases.specs.Coverage.{AreFlagsOf, is_taken, lacking}
use Rattle.asl_cases.proofs.Lacks.{lacking_from}
use Rattle.asl_cases.proofs.coverage.lines_of.Given as goal

-- with the states that are left it is as many as all
abbrev pub invariant-loop-number : goal.invariant-loop-number
invariant-loop-number l =
    (told : Told) → AreFlagsOf (table_view l.machine) told l.states
    → length l.lines.items + length (lacking_from (is_taken (table_view l.machine) told) l.number (drop l.number (table_view l.machine).states))
    ≡ length (lacking (table_view l.machine) told)
