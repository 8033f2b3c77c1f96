use Rattle.std.proofs.Common.{refl}
use Rattle.asl_records.specs.View.{declared_view}
use Rattle.asl_machine_table.specs.Table.{table_view}
use Rattle.asl_infer.proofs.Declared.{tasks_kept}
use Rattle.asl_infer.proofs.rounds.Given.new.Goals as goal

pub returns-clause-given : goal.returns-clause-given
returns-clause-given c = record {
  machine = refl;
  declares = refl;
  strict = refl;
  numbers = record {
    tasks = tasks_kept (declared_view c.args.declared.now) (table_view c.args.machine.now).names c.task_numbers.new.store c.add.new.self c.in_ok-tasks.tasks.items c.in_ok-input.ensures.keeps c.in_ok-tasks.ensures.tasks;
    many = c.in_ok-tasks.ensures.many;
    input = c.in_ok-input.ensures.number;
  };
}
