use Rattle.std.proofs.Common.{◌<◌, ◌≤◌, length, subst}
use Rattle.asl_model.specs.Certificate.{Certificate}
use Rattle.asl_model.specs.Finding.{found_at}
use Rattle.asl_numbered.specs.Expansion.{Keeps}
use Rattle.asl_numbered.specs.Laws.{keeps_same, keeps_trans}
use Rattle.asl_machine_table.specs.Table.{table_view}
use Rattle.asl_records.specs.View.{declared_view}
use Rattle.asl_check.specs.Checking.{row_view}
use Rattle.asl_check.specs.Listing.{Adds}
use Rattle.asl_check.specs.Numbers.{certificate_of}
use Rattle.asl_check.specs.Rules.{flow_rules, found_in, row_at}
use Rattle.asl_check.proofs.Grown.{certificate_kept, checker_within}
use Rattle.asl_check.proofs.Passes.{all_rows, left_row, no_row, row_added, rows_added}
use Rattle.asl_check.proofs.checker.Checker.list_flows.Goals as goal
use Rattle.asl_check.proofs.checker.Checker.list_flows.Goals.{in-Some+in_ok-list_flow, in_default}

pub loop-number-init : goal.loop-number-init
loop-number-init c =
    let checker = c.args.self.now in
    let table = table_view checker.machine.now in
    let shapes = c.args.shapes.now in
    let rules = flow_rules table (declared_view checker.declared.now) (certificate_of shapes checker) in
    record { keeps = keeps_same shapes; left = all_rows (λ i. found_in rules (row_at table i)) (length table.states) shapes c.args.rules.now.items }

pub list_flow-requires : goal.list_flow-requires
list_flow-requires c = record { within = checker_within c.args.shapes.now c.loop-number.shapes c.loop-number.invariant.keeps c.args.self.now c.requires.within }

pub loop-number-preserved : goal.loop-number-preserved
loop-number-preserved c =
    let checker = c.args.self.now in
    let table = table_view checker.machine.now in
    let a = c.args.shapes.now in
    let l = c.loop-number in
    let rules = flow_rules table (declared_view checker.declared.now) (certificate_of a checker) in
    let row = row_at table l.number in
    let same = certificate_kept a l.shapes l.invariant.keeps checker c.requires.within in
    let added : Adds c.match-row_of.shapes l.rules.items c.match-row_of.rules.items (found_in rules row) = elim c.match-row_of.branch [
      | in-Some+in_ok-list_flow w ↦ rw (w.rules-is, w.shapes-is) (row_added w.list_flow.new.shapes rules (row_view w.in-Some.row) row _ _ w.in-Some.ensures.row (subst (λ (certificate : Certificate). Adds w.list_flow.new.shapes l.rules.items w.list_flow.new.rules.items (found_at w.in-Some.row.name.now (flow_rules table (declared_view checker.declared.now) certificate (row_view w.in-Some.row)))) same w.in_ok-list_flow.ensures.adds))
      | in_default w ↦ rw (w.rules-is, w.shapes-is) (no_row l.shapes rules row _ w.in_default.ensures.row)
    ] in
    let grown : Keeps l.shapes c.match-row_of.shapes = elim c.match-row_of.branch [
      | in-Some+in_ok-list_flow w ↦ rw w.shapes-is w.in_ok-list_flow.ensures.keeps
      | in_default w ↦ rw w.shapes-is (keeps_same l.shapes)
    ] in
    record {
      keeps = keeps_trans _ _ _ l.invariant.keeps grown;
      left = left_row (λ i. found_in rules (row_at table i)) (length table.states) _ _ l.number _ _ _ _ (subst (λ n. l.number < n) c.states-number-end.ensures.number c.loop-number-test.true) grown l.invariant.left added;
    }

pub returns-clause-adds : goal.returns-clause-adds
returns-clause-adds c =
    let checker = c.args.self.now in
    let table = table_view checker.machine.now in
    let rules = flow_rules table (declared_view checker.declared.now) (certificate_of c.args.shapes.now checker) in
    rows_added (λ i. found_in rules (row_at table i)) (length table.states) _ c.loop-number.number _ _ _ (subst (λ n. n ≤ c.loop-number.number) c.states-number-end.ensures.number c.loop-number-test.false) c.loop-number.invariant.left
