use Rattle.std.proofs.Common.{◌≡◌, refl, ap, ◌∙◌}
use Rattle.asl_model.specs.Edges.{destination_shapes}
use Rattle.asl_model.specs.Finding.{surrounded_by}
use Rattle.asl_numbered.specs.Expansion.{shape_at}
use Rattle.asl_state_edges.specs.Entry.{entry_view}
use Rattle.asl_state_edges.specs.declared.found.Entry.{Entry}
use Rattle.asl_state_edges.specs.View.{steps_of}
use Rattle.asl_states.specs.Machine.{kind_view, scope_view, settings_view}
use Rattle.asl_machine_table.specs.Table.{table_view}
use Rattle.asl_records.specs.Numbered.{numbers_view}
use Rattle.asl_records.specs.View.{declared_view}
use Rattle.asl_check.specs.Numbers.{certificate_of}
use Rattle.asl_check.specs.Rules.{end_in, inputs_in}
use Rattle.asl_check.specs.Standing.{standing_view}
use Rattle.asl_check.specs.declared.standing.Standing.{Standing}
use Rattle.asl_check.proofs.FlowsTold.{listed_along, entered, entered_below, standing_seen, standing_within}
use Rattle.asl_check.proofs.StepsApart.{steps_apart}
use Rattle.asl_records.specs.Laws.{numbers_shown}
use Rattle.asl_check.proofs.checker.Checker.list_walk.Goals as goal

pub edges_of-requires-clause-entry : goal.edges_of-requires-clause-entry
edges_of-requires-clause-entry c = entered_below c.args.entry.now c.deref.result c.deref.ensures.value c.args.shapes.now c.number_task.new.shapes c.number_task.ensures.keeps c.requires.entry

pub list_steps-requires-clause-standing : goal.list_steps-requires-clause-standing
list_steps-requires-clause-standing c =
    standing_within c.args.shapes.now c.number_task.new.shapes c.edges_of.new.shapes c.number_task.ensures.keeps c.edges_of.ensures.keeps _ c.requires.within c.args.entry.now c.requires.entry _ _ c.in_ok-task.task c.in_ok-task.ensures.numbered refl refl c.end_of.ensures.within

pub list_steps-requires-clause-apart : goal.list_steps-requires-clause-apart
list_steps-requires-clause-apart c =
    let b = c.number_task.new.shapes in
    let d = c.edges_of.new.shapes in
    let state = c.args.row.now.state.now in
    let entry = c.args.entry.now in
    let lent : Entry = record { input = entry.input; output = entry.output; branches = c.deref.result; item = entry.item } in
    steps_apart d c.deref-2.result.now (shape_at b c.in_ok-task.task.gives) (settings_view state.settings) (kind_view state.kind) (entry_view b lent) (ap (steps_of d) c.deref-2.ensures.value ∙ c.in_ok-steps.ensures.walked)

pub returns-clause-adds : goal.returns-clause-adds
returns-clause-adds c =
    let a = c.args.shapes.now in
    let b = c.number_task.new.shapes in
    let d = c.edges_of.new.shapes in
    let checker = c.args.self.now in
    let declared = declared_view checker.declared.now in
    let row = c.args.row.now in
    let n = row.name.now in
    let entry = c.args.entry.now in
    let task = c.in_ok-task.task in
    let settings = settings_view row.state.now.settings in
    let kind = kind_view row.state.now.kind in
    let inputs = inputs_in (table_view checker.machine.now) (certificate_of a checker) in
    let end = end_in (table_view checker.machine.now) (certificate_of a checker) (scope_view row.scope.now) in
    let own = numbers_view a entry in
    let s : Standing = record { checker = c.args.self; output = entry.output; end = c.end_of.result; takes = task.takes } in
    let around = surrounded_by declared inputs end n own in
    let seen : standing_view d s ≡ destination_shapes around =
    standing_seen a b d c.number_task.ensures.keeps c.edges_of.ensures.keeps s c.requires.within entry c.requires.entry (scope_view row.scope.now) declared n task c.in_ok-task.ensures.numbered refl refl (c.end_of.ensures.seen d) in
    let same = entered entry c.deref.result c.deref.ensures.value b ∙ numbers_shown a b c.number_task.ensures.keeps entry c.requires.entry in
    listed_along around settings kind _ _ _ _ d c.list_steps.new.shapes c.args.rules.now.items c.list_steps.new.rules.items c.list_steps.result c.list_steps.ensures.unchanged seen c.in_ok-task.ensures.numbered.gives same (ap (steps_of d) c.deref-2.ensures.value ∙ c.in_ok-steps.ensures.walked) c.list_steps.ensures.adds
