use Rattle.std.proofs.Common.{◌-◌, length}
use Rattle.asl_numbered.specs.Expansion.{Keeps}
use Rattle.asl_machine_table.specs.Table.{table_view}
use Rattle.asl_records.specs.View.{declared_view}
use Rattle.asl_check.specs.Numbers.{certificate_of}
use Rattle.asl_check.specs.Rules.{flow_rules, found_in, found_from, found_in_all, row_at}
use Rattle.asl_check.proofs.Passes.{AreLeft}
use Rattle.asl_check.proofs.checker.Checker.list_flows.Given as goal

-- those of the rows left are still to be listed, and the shapes have kept their numbers
abbrev pub invariant-loop-number : goal.invariant-loop-number
invariant-loop-number l =
    let table = table_view l.self.machine.now in
    let rules = flow_rules table (declared_view l.self.declared.now) (certificate_of l.fn.shapes l.self) in
    record {
      keeps : Keeps l.fn.shapes l.shapes;
      left : AreLeft l.shapes l.fn.rules.items l.rules.items (found_in_all rules table) (found_from (λ i. found_in rules (row_at table i)) (length table.states - l.number) l.number);
    }
