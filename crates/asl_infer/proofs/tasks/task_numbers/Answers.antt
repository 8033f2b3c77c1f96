use Rattle.std.proofs.Common.{◌+◌, length, sym, ap, ◌∙◌}
use Rattle.std.proofs.lemmas.List.{length_push}
use Rattle.asl_numbered.specs.Laws.{keeps_trans}
use Rattle.asl_records.specs.View.{declared_view}
use Rattle.asl_machine_table.specs.Table.{table_view}
use Rattle.asl_infer.proofs.Declared.{one_more_task}
use Rattle.asl_infer.proofs.tasks.task_numbers.Goals as goal

pub loop-number-preserved : goal.loop-number-preserved
loop-number-preserved c =
    let l = c.loop-number in
    let task = c.in_ok-task_of.field-0 in
    let more = c.in_ok-push.ensures.items in (
      keeps_trans _ _ _ l.invariant.0 c.in_ok-task_of.ensures.keeps,
      ap (λ n. n + 1) l.invariant.1 ∙ sym (ap length more ∙ length_push l.tasks.items task),
      one_more_task (declared_view c.args.declared.now) (table_view c.args.machine.now).names l.store c.task_of.new.store l.tasks.items c.push.new.self.items task l.number c.name.result _ c.unwrap_or-name.result l.invariant.1 l.invariant.2 c.in_ok-task_of.ensures.keeps c.name.ensures.name c.unwrap_or-name.ensures c.in_ok-task_of.ensures.task more,
    )
