use Rattle.std.proofs.Common.{ℕ, get_or}
use Rattle.std.proofs.lemmas.List.{get_or_default}
use Rattle.asl_records.specs.View.{declared_view}
use Rattle.asl_machine_table.specs.Table.{table_view}
use Rattle.asl_infer.proofs.TaskNames.{one-less}
use Rattle.asl_infer.proofs.declarations.first_undeclared.Goals as goal

pub loop-number-preserved : goal.loop-number-preserved
loop-number-preserved c =
    let l = c.loop-number in
    let numbers = c.args.order.now in
    let number : ℕ = get_or numbers l.number-index 0 in
    one-less (table_view c.args.machine.now) (declared_view c.args.declared.now) numbers l.number-index number l.first c.undeclared.result c.earlier-first.result c.requires c.loop-number-test.true (get_or_default numbers l.number-index 0 number c.loop-number-test.true) c.earlier-first.ensures c.undeclared.ensures l.invariant
