use Rattle.std.proofs.Common.{◌-◌}
use Rattle.asl_machine_table.specs.Table.{table_view}
use Rattle.asl_drafts.specs.Certified.{AreCertified}
use Rattle.asl_drafts.proofs.certificate.certified_states.Given as goal

abbrev pub invariant-loop-passed : goal.invariant-loop-passed
invariant-loop-passed l = AreCertified (table_view l.machine) l.draft (l.count - l.passed) l.states.entries
