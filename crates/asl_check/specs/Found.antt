-- What is found by the rules of one state, by the numbers of a table of shapes. No public clause cites this module.
use Rattle.std.specs.Prelude.{List}
use Rattle.asl_model.specs.Finding.{Finding, found_at, flow_breaches, surrounded_by}
use Rattle.asl_model.specs.Shape.{Shape}
use Rattle.asl_states.specs.Machine.{kind_view, scope_view, settings_view}
use Rattle.asl_machine_table.specs.Table.{table_view}
use Rattle.asl_records.specs.Numbered.{numbers_view}
use Rattle.asl_records.specs.View.{declared_view}
use Rattle.asl_records.specs.declared.records.StateNumbers.{StateNumbers}
use Rattle.asl_check.specs.Checking.{row_view}
use Rattle.asl_check.specs.Numbers.{certificate_of}
use Rattle.asl_check.specs.Rules.{end_in, entry_rules, flow_rules, inputs_in}
use Rattle.asl_check.specs.declared.checker.Checker.{Checker}
use Rattle.asl_check.specs.declared.lookups.Row.{Row}

-- on its entry, and on what is declared of it
abbrev pub found_on_entry : List Shape → Checker → Row → List Finding
found_on_entry table checker row =
    found_at row.name.now
    (entry_rules (declared_view checker.declared.now) (certificate_of table checker) (row_view row))

-- on what flows through it; nothing where it has no entry
abbrev pub found_through : List Shape → Checker → Row → List Finding
found_through table checker row =
    found_at row.name.now
    (flow_rules (table_view checker.machine.now) (declared_view checker.declared.now)
    (certificate_of table checker) (row_view row))

-- the same with that entry
abbrev pub found_with_entry : List Shape → Checker → Row → StateNumbers → List Finding
found_with_entry table checker row entry =
    let machine = table_view checker.machine.now in
    let certificate = certificate_of table checker in
    found_at row.name.now
    (flow_breaches
    (surrounded_by (declared_view checker.declared.now) (inputs_in machine certificate)
    (end_in machine certificate (scope_view row.scope.now)) row.name.now (numbers_view table entry))
    (settings_view row.state.now.settings) (kind_view row.state.now.kind))
