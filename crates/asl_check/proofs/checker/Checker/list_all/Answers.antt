use Rattle.std.proofs.Common.{sym, subst}
use Rattle.asl_model.specs.Certificate.{Certificate}
use Rattle.asl_numbered.specs.Laws.{keeps_trans}
use Rattle.asl_machine_table.specs.Table.{table_view}
use Rattle.asl_records.specs.View.{declared_view}
use Rattle.asl_check.specs.Listing.{Adds}
use Rattle.asl_check.specs.Numbers.{certificate_of}
use Rattle.asl_check.specs.Rules.{found_by, flow_rules, found_in_all, state_rule, task_rule}
use Rattle.asl_check.specs.Told.{listed}
use Rattle.asl_check.proofs.Adding.{added_below, added_seen, adds_then}
use Rattle.asl_check.proofs.Grown.{certificate_kept, checker_within}
use Rattle.asl_check.proofs.TableListed.{entries_named, tasks_named}
use Rattle.asl_check.proofs.checker.Checker.list_all.Goals as goal

pub list_flows-requires : goal.list_flows-requires
list_flows-requires c = record { within = checker_within c.args.shapes.now c.list_start.new.shapes c.in_ok-list_start.ensures.keeps c.args.self.now c.requires.within }

-- the five lists are added behind each other, each in the table as it is then
pub returns : goal.returns
returns c =
    let checker = c.args.self.now in
    let a = c.args.shapes.now in
    let b = c.list_start.new.shapes in
    let d = c.list_flows.new.shapes in
    let table = table_view checker.machine.now in
    let declared = declared_view checker.declared.now in
    let certificate = certificate_of a checker in
    let to_start = c.in_ok-list_start.ensures.keeps in
    let to_flows = c.in_ok-list_flows.ensures.keeps in
    let keeps = keeps_trans a b d to_start to_flows in
    let m0 = c.new-rules.result.items in
    let m1 = c.list_entries.new.rules.items in
    let m2 = c.list_unknown_entries.new.rules.items in
    let m3 = c.list_unknown_tasks.new.rules.items in
    let m4 = c.list_start.new.rules.items in
    let m5 = c.list_flows.new.rules.items in
    let states = subst (λ ns. Adds a m1 m2 (found_by (state_rule table) ns)) (sym (entries_named a checker.states.now.entries)) (c.in_ok-list_unknown_entries.ensures a) in
    let tasks = subst (λ ns. Adds a m2 m3 (found_by (task_rule table) ns)) (sym (tasks_named checker.declared.now.tasks.entries)) (c.in_ok-list_unknown_tasks.ensures a) in
    let flows = subst (λ (certified : Certificate). Adds d m4 m5 (found_in_all (flow_rules table declared certified) table)) (certificate_kept a b to_start checker c.requires.within) c.in_ok-list_flows.ensures.adds in
    let all : Adds d m0 m5 (listed table declared certificate) =
    adds_then a d m0 m1 m5 _ _ keeps (c.in_ok-list_entries.ensures a)
    (adds_then a d m1 m2 m5 _ _ keeps states
    (adds_then a d m2 m3 m5 _ _ keeps tasks
    (adds_then b d m3 m4 m5 _ _ to_flows c.in_ok-list_start.ensures.adds flows))) in
    record {
      listed = added_seen d m0 m5 (listed table declared certificate) c.new-rules.ensures.items all;
      below = added_below d m0 m5 (listed table declared certificate) c.new-rules.ensures.items all;
      keeps = keeps;
    }
