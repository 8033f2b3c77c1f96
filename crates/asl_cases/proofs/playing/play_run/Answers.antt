use Rattle.std.proofs.Common.{Bor, List, ◌∙◌, ap, sym, map, option_map, subst, arith}
use Rattle.asl_machine_table.specs.Held.{Held}
use Rattle.asl_machine_table.specs.Table.{scope_in}
use Rattle.asl_model.specs.Run.{outcome_of}
use Rattle.asl_records.specs.View.{declared_view}
use Rattle.asl_records.specs.declared.records.Declared.{Declared}
use Rattle.asl_run.specs.Entries.{entry_view}
use Rattle.asl_run.specs.Running.{run_view}
use Rattle.asl_run.specs.declared.entries.Entry as code
use Rattle.asl_suites.specs.View.{answers_under}
use Rattle.asl_tree.specs.View.{view}
use Rattle.asl_cases.specs.Playing.{Plays, begun, case_of, stage_of}
use Rattle.asl_cases.specs.Stepping.{IsGoing, StepsTo}
use Rattle.asl_cases.proofs.Chains.{plays_alone}
use Rattle.asl_cases.proofs.Steps.{begins, begins_alone, ends_there, one_more}
use Rattle.asl_cases.proofs.playing.play_run.Goals as goal

pub steps-init : goal.steps-init
steps-init c =
    let m = scope_in c.args.machine.now in
    let shapes = option_map (λ (d : Bor Declared). declared_view d.now) c.args.declared in
    let answers = answers_under c.args.answers.now in
    let given = case_of m shapes (view c.args.input) answers in
    let here = subst (λ (es : List code.Entry). Plays m shapes 0 (begun given) (stage_of (begun given).activity answers (map entry_view es))) (sym c.new-trace.ensures.items) (begins given) in
    record {
      machine = c.in-Ok.ensures.machine;
      plays = subst (λ a. Plays m shapes 0 (begun given) (stage_of a answers (map entry_view c.new-trace.result.items))) (sym c.in-Ok.ensures.starts) here;
      goes_on = ap outcome_of c.in-Ok.ensures.starts;
    }

pub take_step-requires : goal.take_step-requires
take_step-requires c = record { machine = c.steps.invariant.machine }

pub returns-in-Some : goal.returns-in-Some
returns-in-Some c =
    let so_far = c.steps.invariant in
    let m = scope_in c.args.machine.now in
    let shapes = option_map (λ (d : Bor Declared). declared_view d.now) c.args.declared in
    let given = case_of m shapes (view c.args.input) (answers_under c.args.answers.now) in
    let before = stage_of (run_view c.steps.run) (answers_under c.steps.answers) (map entry_view c.steps.trace.items) in
    let after = stage_of (run_view c.take_step.new.run) (answers_under c.take_step.new.answers) (map entry_view c.take_step.new.trace.items) in
    let going : IsGoing m before = record { goes_on = so_far.goes_on; alone = plays_alone so_far.plays (begins_alone given) } in
    let step = subst (λ (held : Held). StepsTo (scope_in held) shapes before c.in_ok-end.end after) so_far.machine (c.in_ok-end.ensures.steps (subst (λ (held : Held). IsGoing (scope_in held) before) (sym so_far.machine) going)) in
    ends_there given c.args.max_steps c.steps._taken before after c.in-Some.end (omega arith) so_far.plays (subst (λ e. StepsTo m shapes before e after) c.in-Some.is step)

pub steps-preserved : goal.steps-preserved
steps-preserved c =
    let so_far = c.steps.invariant in
    let m = scope_in c.args.machine.now in
    let shapes = option_map (λ (d : Bor Declared). declared_view d.now) c.args.declared in
    let given = case_of m shapes (view c.args.input) (answers_under c.args.answers.now) in
    let before = stage_of (run_view c.steps.run) (answers_under c.steps.answers) (map entry_view c.steps.trace.items) in
    let after = stage_of (run_view c.take_step.new.run) (answers_under c.take_step.new.answers) (map entry_view c.take_step.new.trace.items) in
    let going : IsGoing m before = record { goes_on = so_far.goes_on; alone = plays_alone so_far.plays (begins_alone given) } in
    let step = subst (λ (held : Held). StepsTo (scope_in held) shapes before c.in_ok-end.end after) so_far.machine (c.in_ok-end.ensures.steps (subst (λ (held : Held). IsGoing (scope_in held) before) (sym so_far.machine) going)) in
    let goes = subst (λ e. StepsTo m shapes before e after) c.in_default.is step in
    record {
      machine = c.in_ok-end.ensures.machine ∙ so_far.machine;
      plays = one_more so_far.plays goes;
      goes_on = goes.goes_on;
    }
