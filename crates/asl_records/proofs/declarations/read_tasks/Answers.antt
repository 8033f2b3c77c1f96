use Rattle.std.proofs.Common.{codes, false, refl, sym, ap, ◌∙◌}
use Rattle.std.proofs.lemmas.Result.{IfErr-weaker, IfOk-weaker, on_ok_weaker}
use Rattle.asl_model.specs.Records.{declared_reading, entries_from, task_from, task_rows}
use Rattle.asl_tree.specs.View.{view}
use Rattle.asl_records.specs.View.{tasks_view}
use Rattle.asl_records.specs.Values.{as_value, value_there}
use Rattle.asl_records.proofs.FieldParts.{entries_there, kind_told, members_are}
use Rattle.asl_records.proofs.Telling.{handed_on, told_same}
use Rattle.asl_records.proofs.declarations.read_tasks.Goals as goal

pub returns-in_err-entries-in-Some-clause-refused : goal.returns-in_err-entries-in-Some-clause-refused
returns-in_err-entries-in-Some-clause-refused c =
    let f = c.in_err-entries-in-Some.field-0.0 in
    let stands = sym (ap value_there c.in-Some.is) ∙ c.stated.ensures in
    handed_on c.from_residual.result f _ c.from_residual.ensures.1 (kind_told declared_reading (codes "tasks") false task_rows (as_value (view c.in-Some.tasks.now)) _ f stands c.in_err-entries-in-Some.ensures.refused)

pub returns-in_ok-entries-in-Some-clause-right : goal.returns-in_ok-entries-in-Some-clause-right
returns-in_ok-entries-in-Some-clause-right c =
    let stands = sym (ap value_there c.in-Some.is) ∙ c.stated.ensures in
    on_ok_weaker c.read_entries.result (λ h. entries_there declared_reading (codes "tasks") false task_rows (view c.in-Some.tasks.now) _ _ stands c.in_ok-entries-in-Some.ensures.entries ∙ h) c.read_entries.ensures.right

pub returns-in_ok-entries-in-Some-clause-tasks : goal.returns-in_ok-entries-in-Some-clause-tasks
returns-in_ok-entries-in-Some-clause-tasks c =
    let stands = sym (ap value_there c.in-Some.is) ∙ c.stated.ensures in
    IfOk-weaker c.read_entries.result _ _ (λ tasks h. h ∙ ap (entries_from task_from) (sym (members_are (view c.in-Some.tasks.now) _ _ stands c.in_ok-entries-in-Some.ensures.entries))) c.read_entries.ensures.tasks

pub returns-in_ok-entries-in-Some-clause-refused : goal.returns-in_ok-entries-in-Some-clause-refused
returns-in_ok-entries-in-Some-clause-refused c =
    let stands = sym (ap value_there c.in-Some.is) ∙ c.stated.ensures in
    IfErr-weaker c.read_entries.result _ _ (λ f h. told_same f _ _ h (sym (entries_there declared_reading (codes "tasks") false task_rows (view c.in-Some.tasks.now) _ _ stands c.in_ok-entries-in-Some.ensures.entries))) c.read_entries.ensures.refused

pub returns-in-None-clause-right : goal.returns-in-None-clause-right
returns-in-None-clause-right c = rw (sym c.stated.ensures, c.in-None.is) refl

pub returns-in-None-clause-tasks : goal.returns-in-None-clause-tasks
returns-in-None-clause-tasks c = rw (sym c.stated.ensures, c.in-None.is) (ap tasks_view c.new.ensures.empty)
