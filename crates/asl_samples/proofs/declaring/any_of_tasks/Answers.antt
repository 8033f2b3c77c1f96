use Rattle.std.proofs.Common.{Some, sym, ap, ◌∙◌}
use Rattle.asl_records.specs.View.{task_view, tasks_view}
use Rattle.asl_machine_table.specs.Table.{table_view}
use Rattle.asl_samples.proofs.Entries.{tasks-more, tasks-passed}
use Rattle.asl_samples.proofs.declaring.any_of_tasks.Goals as goal
use Rattle.asl_samples.proofs.declaring.any_of_tasks.Goals.{in-Some+in_ok-name+in_ok-insert, in_default}

pub loop-number-preserved : goal.loop-number-preserved
loop-number-preserved c =
    let l = c.loop-number in
    let table = table_view c.args.machine.now in
    elim c.match-task_at.branch [
      | in-Some+in_ok-name+in_ok-insert w ↦ rw w.tasks-is (tasks-more task_view table l.number l.tasks.entries _ w.in_ok-name.name w.any_task.result l.invariant (sym w.in-Some.ensures ∙ ap Some (sym w.in_ok-name.ensures.ok)) w.any_task.ensures w.in_ok-insert.ensures.entries)
      | in_default w ↦ rw w.tasks-is (tasks-passed table l.number (tasks_view l.tasks.entries) l.invariant (sym w.in_default.ensures))
    ]
