use Rattle.asl_records.specs.View.{declared_view}
use Rattle.asl_machine_table.specs.Table.{table_view}
use Rattle.asl_infer.proofs.TaskNames.{are-named, names-tell}
use Rattle.asl_infer.proofs.declarations.check_tasks.Goals as goal

pub returns-in_ok-finding-in-Some-clause-told : goal.returns-in_ok-finding-in-Some-clause-told
returns-in_ok-finding-in-Some-clause-told c = names-tell (table_view c.args.machine.now) (declared_view c.args.declared.now) c.first_undeclared-undeclared.result c.first_unknown-unknown.result c.earlier.result c.first_undeclared-undeclared.ensures c.first_unknown-unknown.ensures c.earlier.ensures c.in-Some.first c.in_ok-finding-in-Some.field-0 c.in-Some.is c.in_ok-finding-in-Some.ensures

pub returns-in-None-clause-named : goal.returns-in-None-clause-named
returns-in-None-clause-named c = are-named (table_view c.args.machine.now) (declared_view c.args.declared.now) c.first_undeclared-undeclared.result c.first_unknown-unknown.result c.earlier.result c.first_undeclared-undeclared.ensures c.first_unknown-unknown.ensures c.earlier.ensures c.in-None.is
