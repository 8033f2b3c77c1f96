use Rattle.std.proofs.Common.{codes, map, length, option_map, option_to_list, string_bytes, ap, ◌∙◌}
use Rattle.asl_model.specs.Finding.{TaskUnknown, breach_unless}
use Rattle.asl_machine_table.specs.Table.{table_view}
use Rattle.asl_check.specs.Faults.{fault_view}
use Rattle.asl_check.specs.Rules.{found_by, task_rule}
use Rattle.asl_check.proofs.Passes.{all_left, left_named, left_none}
use Rattle.asl_check.proofs.checker.Checker.list_unknown_tasks.Goals as goal

pub loop-name-init : goal.loop-name-init
loop-name-init c = λ shapes.
    let rule = task_rule (table_view c.args.self.now.machine.now) in
    all_left shapes _ _ _ (ap (λ names. found_by rule (map string_bytes names)) (c.into_iter-name-iterator.ensures.into_iter_gives ∙ c.keys-name-items.ensures.rest))

pub loop-name-preserved : goal.loop-name-preserved
loop-name-preserved c = λ shapes.
    let rule = task_rule (table_view c.args.self.now.machine.now) in
    let known = c.names_task-known.ensures in
    let by = c.breach_unless.ensures.told shapes ∙ ap (λ holds. breach_unless holds (codes "tasks") TaskUnknown) known ∙ ap rule c.deref.ensures in
    left_named shapes rule _ _ _ _ _ _ c.in-Some.name.now (option_to_list (option_map (fault_view shapes) c.breach_unless.result)) c.in-Some.ensures.steps by (c.loop-name.invariant shapes) (rw c.deref-in-loop-name.ensures at (c.in_ok-list.ensures shapes (c.breach_unless.ensures.below (length shapes))))

pub returns : goal.returns
returns c = λ shapes.
    let rule = task_rule (table_view c.args.self.now.machine.now) in
    left_none shapes _ _ _ _ (ap (λ names. found_by rule (map string_bytes names)) c.in-None.ensures.steps.0) (c.loop-name.invariant shapes)
