use Rattle.std.proofs.Common.{option_map, sym, ap, ◌∙◌}
use Rattle.asl_records.specs.View.{task_view}
use Rattle.asl_records.proofs.Tasks.{task_looked_up, task_seen}
use Rattle.asl_records.proofs.records.Declared.task.Goals as goal

pub returns : goal.returns
returns c = task_seen c.get.result ∙ ap (option_map task_view) c.get.ensures.value ∙ sym (task_looked_up c.args.name.now c.args.self.now.tasks.entries)
