use Rattle.std.proofs.Common.{◌-◌, List, length}
use Rattle.asl_machine_table.specs.Table.{table_view}
use Rattle.asl_model.specs.Shape.{Shape}
use Rattle.asl_records.specs.View.{declared_view}
use Rattle.asl_check.specs.Numbers.{certificate_of}
use Rattle.asl_check.specs.Rules.{entry_rules, found_in, found_from, found_in_all, row_at}
use Rattle.asl_check.proofs.Passes.{AreLeft}
use Rattle.asl_check.proofs.checker.Checker.list_entries.Given as goal

-- those of the rows left are still to be listed
abbrev pub invariant-loop-number : goal.invariant-loop-number
invariant-loop-number l = (shapes : List Shape) →
    let table = table_view l.self.machine.now in
    let found = found_in (entry_rules (declared_view l.self.declared.now) (certificate_of shapes l.self)) in
    AreLeft shapes l.initial.rules.items l.rules.items (found_in_all (entry_rules (declared_view l.self.declared.now) (certificate_of shapes l.self)) table) (found_from (λ i. found (row_at table i)) (length table.states - l.number) l.number)
