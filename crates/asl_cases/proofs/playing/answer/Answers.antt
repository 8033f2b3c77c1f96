use Rattle.std.proofs.Common.{◌≡◌, ◌∙◌, Bor, List, Some, slice_get, ap, sym, map, option_map, subst}
use Rattle.std.proofs.lemmas.Result.{IfOk-weaker}
use Rattle.asl_machine_table.specs.Held.{Held}
use Rattle.asl_machine_table.specs.Table.{Shows, table_view}
use Rattle.asl_records.specs.View.{declared_view}
use Rattle.asl_records.specs.declared.records.Declared.{Declared}
use Rattle.asl_run.specs.Entries.{answer_view, entry_view}
use Rattle.asl_run.specs.Running.{run_view, scope_of}
use Rattle.asl_run.specs.declared.entries.Entry as code
use Rattle.asl_suites.specs.View.{answers_under}
use Rattle.asl_cases.specs.Asking.{IsTurnOf, item_at}
use Rattle.asl_cases.specs.Playing.{stage_of}
use Rattle.asl_cases.specs.Stepping.{IsAsked, place_asked}
use Rattle.asl_cases.proofs.Answered.{IsMeant, answered, meant, misfit, name_known, unanswered}
use Rattle.asl_cases.proofs.playing.answer.Goals as goal
use Rattle.asl_cases.proofs.playing.answer.Goals.{In_ok-answer}

-- the task that waits is the one that is meant
is_meant : (c : In_ok-answer) → IsAsked (scope_of c.args.run.now) (stage_of (run_view c.args.run.now) (answers_under c.args.answers.now) (map entry_view c.args.trace.now.items)) c.args.state
    → IsMeant (scope_of c.args.run.now) (stage_of (run_view c.args.run.now) (answers_under c.args.answers.now) (map entry_view c.args.trace.now.items)) c.args.state c.unwrap_or-name.result.now c.in_ok-place.place.items c.item_at-item.result
is_meant c asked =
    let m = scope_of c.args.run.now in
    let shows = subst (λ (held : Held). Shows held m) c.requires.machine c.stands.ensures.shown in
    let table = table_view c.args.machine.now in
    meant m table (stage_of (run_view c.args.run.now) (answers_under c.args.answers.now) (map entry_view c.args.trace.now.items)) c.args.state (option_map (λ (n : Bor _). n.now) c.name.result) c.unwrap_or-name.result.now c.in_ok-place.place.items c.item_at-item.result
    shows.table shows.well_named c.stands.ensures.stands asked c.name.ensures.name (λ n named. name_known c.name.result _ c.unwrap_or-name.result n c.unwrap_or-name.ensures named)
    (c.in_ok-place.ensures.items ∙ c.asked_place.ensures ∙ ap (λ es. place_asked (map entry_view es)) c.deref.ensures.value)
    (c.item_at-item.ensures ∙ ap (item_at table c.args.state) c.deref-2.ensures.value)

pub returns-in-Some-clause-steps : goal.returns-in-Some-clause-steps
returns-in-Some-clause-steps c = λ asked.
    let m = scope_of c.args.run.now in
    let is = is_meant (goal.at.returns-in-Some-clause-steps c).In_ok-answer asked in
    let shapes = option_map (λ (d : Bor Declared). declared_view d.now) c.args.declared in
    let given = ap (option_map answer_view) (sym c.in-Some.is) ∙ c.in_ok-answer.ensures.given in
    IfOk-weaker c.take_answer.result _ _ (λ end takes. answered m shapes (stage_of (run_view c.args.run.now) (answers_under c.args.answers.now) (map entry_view c.args.trace.now.items)) _ c.args.state c.unwrap_or-name.result.now c.in_ok-place.place.items c.item_at-item.result (answer_view c.in-Some.answer) end
    is given c.in_ok-answer.ensures.left c.in_ok-answer.ensures.others (sym c.if-fits_task.ensures) takes) c.take_answer.ensures.taken

pub returns-in-Some-2-clause-steps : goal.returns-in-Some-2-clause-steps
returns-in-Some-2-clause-steps c = λ asked.
    let m = scope_of c.args.run.now in
    let shows = subst (λ (held : Held). Shows held m) c.requires.machine c.stands.ensures.shown in
    let is = is_meant (goal.at.returns-in-Some-2-clause-steps c).In_ok-answer asked in
    let shapes = option_map (λ (d : Bor Declared). declared_view d.now) c.args.declared in
    let given = ap (option_map answer_view) (sym c.in-Some.is) ∙ c.in_ok-answer.ensures.given in
    let table = table_view c.args.machine.now in
    let name = c.unwrap_or-name.result.now in
    let named : slice_get table.names c.args.state ≡ Some name = ap (λ t. slice_get t.names c.args.state) shows.table ∙ is.waits.numbered in
    let turn = subst (λ (es : List code.Entry). IsTurnOf table c.args.state name (answers_under c.next.new.self name) c.item_at-item.result (map entry_view es) c.turn_of-attempt.result.0 c.turn_of-attempt.result.1)
    c.deref-in-Some-2.ensures.value (c.turn_of-attempt.ensures name named) in
    misfit m shapes (table_view c.args.machine.now) (stage_of (run_view c.args.run.now) (answers_under c.args.answers.now) (map entry_view c.args.trace.now.items)) (answers_under c.next.new.self) c.args.state c.unwrap_or-name.result.now c.in_ok-place.place.items c.item_at-item.result c.in-Some.answer
    c.turn_of-attempt.result.0 c.turn_of-attempt.result.1 shows.table is given c.in_ok-answer.ensures.left c.in_ok-answer.ensures.others (sym c.if-fits_task.ensures) turn

pub returns-in-None-clause-steps : goal.returns-in-None-clause-steps
returns-in-None-clause-steps c = λ asked.
    let m = scope_of c.args.run.now in
    let shows = subst (λ (held : Held). Shows held m) c.requires.machine c.stands.ensures.shown in
    let is = is_meant (goal.at.returns-in-None-clause-steps c).In_ok-answer asked in
    let shapes = option_map (λ (d : Bor Declared). declared_view d.now) c.args.declared in
    let given = ap (option_map answer_view) (sym c.in-None.is) ∙ c.in_ok-answer.ensures.given in
    let table = table_view c.args.machine.now in
    let name = c.unwrap_or-name.result.now in
    let named : slice_get table.names c.args.state ≡ Some name = ap (λ t. slice_get t.names c.args.state) shows.table ∙ is.waits.numbered in
    let turn = subst (λ (es : List code.Entry). IsTurnOf table c.args.state name (answers_under c.next.new.self name) c.item_at-item.result (map entry_view es) c.turn_of-attempt-in-None.result.0 c.turn_of-attempt-in-None.result.1)
    c.deref-in-None.ensures.value (c.turn_of-attempt-in-None.ensures name named) in
    unanswered m shapes (table_view c.args.machine.now) (stage_of (run_view c.args.run.now) (answers_under c.args.answers.now) (map entry_view c.args.trace.now.items)) (answers_under c.next.new.self) c.args.state c.unwrap_or-name.result.now c.in_ok-place.place.items c.item_at-item.result
    c.turn_of-attempt-in-None.result.0 c.turn_of-attempt-in-None.result.1 shows.table is given c.in_ok-answer.ensures.left c.in_ok-answer.ensures.others turn
