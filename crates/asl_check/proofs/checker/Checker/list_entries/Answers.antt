use Rattle.std.proofs.Common.{◌<◌, ◌≤◌, length, subst}
use Rattle.asl_numbered.specs.Laws.{keeps_same}
use Rattle.asl_machine_table.specs.Table.{table_view}
use Rattle.asl_records.specs.View.{declared_view}
use Rattle.asl_check.specs.Checking.{row_view}
use Rattle.asl_check.specs.Listing.{Adds}
use Rattle.asl_check.specs.Numbers.{certificate_of}
use Rattle.asl_check.specs.Rules.{entry_rules, found_in, row_at}
use Rattle.asl_check.proofs.Passes.{all_rows, left_row, no_row, row_added, rows_added}
use Rattle.asl_check.proofs.checker.Checker.list_entries.Goals as goal
use Rattle.asl_check.proofs.checker.Checker.list_entries.Goals.{in-Some+in_ok-list_entry, in_default}

pub loop-number-init : goal.loop-number-init
loop-number-init c = λ shapes.
    let checker = c.args.self.now in
    let table = table_view checker.machine.now in
    let rules = entry_rules (declared_view checker.declared.now) (certificate_of shapes checker) in
    all_rows (λ i. found_in rules (row_at table i)) (length table.states) shapes c.args.rules.now.items

pub loop-number-preserved : goal.loop-number-preserved
loop-number-preserved c = λ shapes.
    let checker = c.args.self.now in
    let table = table_view checker.machine.now in
    let rules = entry_rules (declared_view checker.declared.now) (certificate_of shapes checker) in
    let l = c.loop-number in
    let row = row_at table l.number in
    let added : Adds shapes l.rules.items c.match-row_of.rules.items (found_in rules row) = elim c.match-row_of.branch [
      | in-Some+in_ok-list_entry w ↦ rw w.rules-is (row_added shapes rules (row_view w.in-Some.row) row _ _ w.in-Some.ensures.row (w.in_ok-list_entry.ensures shapes))
      | in_default w ↦ rw w.rules-is (no_row shapes rules row _ w.in_default.ensures.row)
    ] in
    left_row (λ i. found_in rules (row_at table i)) (length table.states) shapes shapes l.number _ _ _ _ (subst (λ n. l.number < n) c.states-number-end.ensures.number c.loop-number-test.true) (keeps_same shapes) (l.invariant shapes) added

pub returns : goal.returns
returns c = λ shapes.
    let checker = c.args.self.now in
    let table = table_view checker.machine.now in
    let rules = entry_rules (declared_view checker.declared.now) (certificate_of shapes checker) in
    rows_added (λ i. found_in rules (row_at table i)) (length table.states) shapes c.loop-number.number _ _ _ (subst (λ n. n ≤ c.loop-number.number) c.states-number-end.ensures.number c.loop-number-test.false) (c.loop-number.invariant shapes)
