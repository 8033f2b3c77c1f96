use Rattle.std.proofs.Common.{map, String, Global, sym, subst}
use Rattle.asl_records.specs.View.{declared_view}
use Rattle.asl_records.specs.declared.records.TaskShapes.{TaskShapes}
use Rattle.asl_machine_table.specs.Table.{table_view}
use Rattle.asl_infer.proofs.TaskNames.{UnknownLeft, one-unknown, task_seen}
use Rattle.asl_infer.proofs.declarations.first_unknown.Goals as goal

pub loop-name-preserved : goal.loop-name-preserved
loop-name-preserved c =
    let table = table_view c.args.machine.now in
    let tasks = (declared_view c.args.declared.now).tasks in
    let l = c.loop-name in
    let entry : String Global × TaskShapes = (c.in-Some.name.now, c.in-Some.field-0-1.now) in
    one-unknown table tasks (map task_seen c.next.new.self) (task_seen entry) c.deref.result.now l.first c.unknown.result c.earlier-first.result (sym c.deref.ensures) c.earlier-first.ensures c.unknown.ensures (subst (λ es. UnknownLeft table tasks (map task_seen es) l.first) c.in-Some.ensures.steps l.invariant)
