use Rattle.std.proofs.Common.{◌++◌, map, take}
use Rattle.asl_machine_table.specs.Table.{table_view}
use Rattle.asl_run.specs.Entries.{entry_view}
use Rattle.asl_run.specs.Driving.{Told}
use Rattle.asl_cases.specs.Coverage.{IsCoverageOf}
use Rattle.asl_cases.proofs.coverage.Coverage.add.Given as goal

-- the entries so far are added
abbrev pub invariant-loop-entry : goal.invariant-loop-entry
invariant-loop-entry l =
    (told : Told) → IsCoverageOf (table_view l.machine) told l.fn.self
    → IsCoverageOf (table_view l.machine) (told ++ map entry_view (take l.entry-index l.trace)) l.self
