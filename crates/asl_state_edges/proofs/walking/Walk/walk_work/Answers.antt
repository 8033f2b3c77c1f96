use Rattle.std.proofs.Common.{◌++◌, map, option_map, string_bytes, sym, ap, ◌∙◌}
use Rattle.std.proofs.lemmas.Result.{on_ok_weaker}
use Rattle.asl_states.specs.Machine.{branches_view, choice_rule_view, delay_view, kind_view, started_at, target_name}
use Rattle.asl_model.specs.Edges.{to_branches}
use Rattle.asl_numbered.specs.Expansion.{shape_at}
use Rattle.asl_template.specs.View as templates
use Rattle.asl_state_edges.specs.Entry.{entry_view}
use Rattle.asl_state_edges.specs.Steps.{settings_of, kind_of, rules_steps, default_steps}
use Rattle.asl_state_edges.specs.Walks.{payload_step}
use Rattle.asl_state_edges.proofs.Adding.{adds_pushed, adds_same}
use Rattle.asl_state_edges.proofs.KindSteps.{choice_steps, map_steps, parallel_steps, succeed_steps, task_steps, wait_steps}
use Rattle.asl_state_edges.proofs.walking.Walk.walk_work.Goals as goal

pub returns-in-Task-clause-adds : goal.returns-in-Task-clause-adds
returns-in-Task-clause-adds c =
    let walk = c.args.self.now in
    let table = c.args.shapes.now in
    let same = task_steps (settings_of walk) (kind_of walk) (entry_view table walk.entry) (string_bytes c.in-Task.resource) (shape_at table c.args.effective) (ap kind_view c.in-Task.is) in
    on_ok_weaker _ (adds_pushed _ _ _ c.args.effective payload_step _ c.requires.effective (sym same)) c.push_payload.ensures

pub returns-in-Choice-clause-adds : goal.returns-in-Choice-clause-adds
returns-in-Choice-clause-adds c =
    let walk = c.args.self.now in
    let table = c.args.shapes.now in
    let same = choice_steps (settings_of walk) (kind_of walk) (entry_view table walk.entry) (map choice_rule_view c.in-Choice.choices.items) (option_map target_name c.in-Choice.default) (shape_at table c.args.effective) (ap kind_view c.in-Choice.is) in
    on_ok_weaker _ (adds_same _ _ _ _ _ (ap (λ rules. rules_steps table walk rules c.args.effective ++ default_steps table walk rules c.in-Choice.default c.args.effective) c.deref.ensures.value ∙ same)) c.walk_choice.ensures.adds

pub returns-in-Wait-clause-adds : goal.returns-in-Wait-clause-adds
returns-in-Wait-clause-adds c =
    let walk = c.args.self.now in
    let table = c.args.shapes.now in
    on_ok_weaker _ (adds_same _ _ _ _ _ (wait_steps (settings_of walk) (kind_of walk) (entry_view table walk.entry) (delay_view c.in-Wait.delay) (shape_at table c.args.effective) (ap kind_view c.in-Wait.is))) c.walk_wait.ensures.adds

pub returns-in-Succeed-clause-adds : goal.returns-in-Succeed-clause-adds
returns-in-Succeed-clause-adds c =
    let walk = c.args.self.now in
    let table = c.args.shapes.now in
    on_ok_weaker _ (adds_same _ _ _ _ _ (succeed_steps (settings_of walk) (kind_of walk) (entry_view table walk.entry) (shape_at table c.args.effective) (ap kind_view c.in-Succeed.is))) c.walk_end.ensures.adds

pub returns-in-Parallel-clause-adds : goal.returns-in-Parallel-clause-adds
returns-in-Parallel-clause-adds c =
    let walk = c.args.self.now in
    let table = c.args.shapes.now in
    let same = parallel_steps (settings_of walk) (kind_of walk) (entry_view table walk.entry) (branches_view c.in-Parallel.branches.items) (shape_at table c.args.effective) (ap kind_view c.in-Parallel.is) in
    on_ok_weaker _ (adds_pushed _ _ _ c.args.effective (to_branches (branches_view c.in-Parallel.branches.items)) _ c.requires.effective (sym same)) (rw c.deref-in-Parallel.ensures.value at c.push_branches.ensures)

pub returns-in-Map-clause-adds : goal.returns-in-Map-clause-adds
returns-in-Map-clause-adds c =
    let walk = c.args.self.now in
    let table = c.args.shapes.now in
    let same = map_steps (settings_of walk) (kind_of walk) (entry_view table walk.entry) c.in-Map.items_path (option_map templates.view c.in-Map.item_selector) (started_at c.in-Map.processor) (shape_at table c.args.effective) (ap kind_view c.in-Map.is) in
    on_ok_weaker _ (adds_same _ _ _ _ _ same) c.walk_map.ensures.adds
