use Rattle.std.proofs.Common.{◌∙◌, Bor, IfOk, ap, map, option_map, subst, sym}
use Rattle.asl_machine_table.specs.Held.{Held}
use Rattle.asl_machine_table.specs.Table.{scope_in}
use Rattle.std.proofs.lemmas.List.{map-append}
use Rattle.std.proofs.lemmas.Result.{IfOk-weaker}
use Rattle.asl_records.specs.View.{declared_view}
use Rattle.asl_records.specs.declared.records.Declared.{Declared}
use Rattle.asl_run.specs.Entries.{answer_view, entry_view}
use Rattle.asl_run.specs.Running.{run_view, scope_of}
use Rattle.asl_suites.specs.View.{answers_under}
use Rattle.asl_cases.specs.Playing.{stage_of}
use Rattle.asl_cases.specs.Stepping.{IsAsked, IsGoing, StepsTo}
use Rattle.asl_cases.proofs.Answered.{DrivenTo, driven, driven_to}
use Rattle.asl_cases.proofs.Steps.{steps_from}
use Rattle.asl_cases.proofs.playing.take_step.Goals as goal
use Rattle.asl_cases.proofs.playing.take_step.Goals.{In_ok-append}

-- what driving by one step comes to
comes_to : (c : In_ok-append) → IsGoing (scope_of c.args.run.now) (stage_of (run_view c.args.run.now) (answers_under c.args.answers.now) (map entry_view c.args.trace.now.items))
    → DrivenTo (scope_of c.args.run.now) (option_map (λ (d : Bor Declared). declared_view d.now) c.args.declared)
    (stage_of (run_view c.args.run.now) (answers_under c.args.answers.now) (map entry_view c.args.trace.now.items))
    (stage_of (run_view c.drive.new.run) (answers_under c.args.answers.now) (map entry_view c.append.new.self.items)) c.in-Ok.driven.0
comes_to c going =
    let m = scope_of c.args.run.now in
    let shapes = option_map (λ (d : Bor Declared). declared_view d.now) c.args.declared in
    let entries = c.in-Ok.driven.1.items in
    driven_to c.in-Ok.driven.0 (λ n k e. e) going
    (driven _ m shapes (answers_under c.args.answers.now) (run_view c.args.run.now) (run_view c.drive.new.run) _ _ (map entry_view c.args.trace.now.items) (map entry_view entries) (map entry_view c.append.new.self.items) c.in-Ok.driven.0
    (λ n k e. e) (c.new-silent.ensures.content ∙ ap (map answer_view) c.new.ensures.items)
    (ap (map entry_view) c.in_ok-append.ensures.items ∙ map-append entry_view c.args.trace.now.items entries) c.in-Ok.ensures.stops)

pub returns-in-Output-clause-steps : goal.returns-in-Output-clause-steps
returns-in-Output-clause-steps c = λ going.
    let to = comes_to (goal.at.returns-in-Output-clause-steps c).In_ok-append going in
    subst (DrivenTo (scope_of c.args.run.now) _ _ _) c.in-Output.is to

pub returns-in-Failed-clause-steps : goal.returns-in-Failed-clause-steps
returns-in-Failed-clause-steps c = λ going.
    let to = comes_to (goal.at.returns-in-Failed-clause-steps c).In_ok-append going in
    subst (DrivenTo (scope_of c.args.run.now) _ _ _) c.in-Failed.is to

pub answer-requires : goal.answer-requires
answer-requires c = record { machine = c.in-Ok.ensures.machine ∙ c.requires.machine }

pub returns-in-NoAnswer-clause-machine : goal.returns-in-NoAnswer-clause-machine
returns-in-NoAnswer-clause-machine c = c.answer.ensures.machine ∙ c.in-Ok.ensures.machine

pub returns-in-NoAnswer-clause-steps : goal.returns-in-NoAnswer-clause-steps
returns-in-NoAnswer-clause-steps c = λ going.
    let to = comes_to (goal.at.returns-in-NoAnswer-clause-steps c).In_ok-append going in
    let held = subst (DrivenTo (scope_of c.args.run.now) _ _ _) c.in-NoAnswer.is to in
    let shapes = option_map (λ (d : Bor Declared). declared_view d.now) c.args.declared in
    let same = c.in-Ok.ensures.machine in
    let between = stage_of (run_view c.drive.new.run) (answers_under c.args.answers.now) (map entry_view c.append.new.self.items) in
    let after = stage_of (run_view c.answer.new.run) (answers_under c.answer.new.answers) (map entry_view c.answer.new.trace.items) in
    let asked = subst (λ (held : Held). IsAsked (scope_in held) between c.in-NoAnswer.state) (sym same) held.asked in
    let further = subst (λ (held : Held). IfOk c.answer.result (λ end. StepsTo (scope_in held) shapes between end after)) same (c.answer.ensures.steps asked) in
    IfOk-weaker c.answer.result _ _ (λ end steps. steps_from _ end held.none held.plays steps) further

pub returns-clause-steps : goal.returns-clause-steps
returns-clause-steps c = λ going.
    let to = comes_to (goal.at.returns-clause-steps c).In_ok-append going in
    subst (DrivenTo (scope_of c.args.run.now) _ _ _) c.in-StepsSpent.is to
