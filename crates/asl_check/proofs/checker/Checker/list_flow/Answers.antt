use Rattle.std.proofs.Common.{List, Some, None, sym, ap, subst}
use Rattle.std.specs.Prelude.{OnOk}
use Rattle.asl_model.specs.Finding.{Breach, flow_breaches, found_at, surrounded_by, where_certified}
use Rattle.asl_states.specs.Machine.{kind_view, scope_view, settings_view}
use Rattle.asl_machine_table.specs.Table.{table_view}
use Rattle.asl_records.specs.View.{declared_view}
use Rattle.asl_check.specs.Listing.{Adds}
use Rattle.asl_check.specs.Numbers.{certificate_of}
use Rattle.asl_check.specs.Rules.{end_in, inputs_in}
use Rattle.asl_check.proofs.Adding.{adds_none}
use Rattle.asl_check.proofs.Below.{entry_below}
use Rattle.asl_check.proofs.LookedUp.{certified_there}
use Rattle.asl_check.proofs.checker.Checker.list_flow.Goals as goal

pub list_walk-requires-clause-entry : goal.list_walk-requires-clause-entry
list_walk-requires-clause-entry c = entry_below _ c.args.row.now.name.now c.args.self.now.states.now.entries c.in-Some.entry.now c.in-Some.ensures.value c.requires.within.states

pub returns-in-Some-clause-adds : goal.returns-in-Some-clause-adds
returns-in-Some-clause-adds c =
    let checker = c.args.self.now in
    let rows = table_view checker.machine.now in
    let table = c.args.shapes.now in
    let row = c.args.row.now in
    let rules = where_certified (λ own. flow_breaches (surrounded_by (declared_view checker.declared.now) (inputs_in rows (certificate_of table checker)) (end_in rows (certificate_of table checker) (scope_view row.scope.now)) row.name.now own) (settings_view row.state.now.settings) (kind_view row.state.now.kind)) in
    subst (λ (breaches : List Breach). OnOk c.list_walk.result (Adds c.list_walk.new.shapes c.args.rules.now.items c.list_walk.new.rules.items (found_at row.name.now breaches))) (ap rules (sym (certified_there table checker row.name.now (Some c.in-Some.entry.now) c.in-Some.ensures.value))) c.list_walk.ensures.adds

pub returns-in-None-clause-adds : goal.returns-in-None-clause-adds
returns-in-None-clause-adds c =
    let checker = c.args.self.now in
    let rows = table_view checker.machine.now in
    let table = c.args.shapes.now in
    let row = c.args.row.now in
    let rules = where_certified (λ own. flow_breaches (surrounded_by (declared_view checker.declared.now) (inputs_in rows (certificate_of table checker)) (end_in rows (certificate_of table checker) (scope_view row.scope.now)) row.name.now own) (settings_view row.state.now.settings) (kind_view row.state.now.kind)) in
    subst (λ entry. Adds table c.args.rules.now.items c.args.rules.now.items (found_at row.name.now (rules entry))) (sym (certified_there table checker row.name.now None c.in-None.ensures.value)) (adds_none table c.args.rules.now.items)
