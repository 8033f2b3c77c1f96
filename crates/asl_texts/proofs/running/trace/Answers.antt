use Rattle.std.proofs.Common.{◌≡◌, List, [], None, ◌+◌, ◌++◌, ◌∙◌, map, sym, ap, subst, arith}
use Rattle.asl_machine_table.specs.Held.{Held}
use Rattle.asl_machine_table.specs.Table.{scope_in}
use Rattle.asl_model.specs.Run.{outcome_of, start}
use Rattle.asl_model.specs.TracePrinted.{trace_text}
use Rattle.asl_run.specs.Driving.{Stops, policy_of, stage_of}
use Rattle.asl_run.specs.Entries.{entry_view}
use Rattle.asl_run.specs.Running.{run_view}
use Rattle.asl_run.specs.declared.entries.Entry.{Entry}
use Rattle.asl_trace.specs.Lines.{lines_text}
use Rattle.asl_tree.specs.View.{view}
use Rattle.asl_texts.specs.Tracing.{begun}
use Rattle.asl_texts.proofs.Stepwise.{Written, goes_on, none_written, stopped_there}
use Rattle.asl_texts.proofs.running.trace.Goals as goal

pub steps-init : goal.steps-init
steps-init g c =
    let policy = policy_of (g.O.Order.may_pick c.args.order.now) (g.A.Answers.may_give c.args.answers.now) (g.A.Answers.may_be_silent c.args.answers.now c.args.answers.now) in
    let given = g.A.Answers.content c.args.answers.now in
    let m = scope_in c.args.machine.now in
    let first = start m (view c.args.input) in
    let before = begun m (view c.args.input) given in
    let none : Written policy m 0 before (lines_text c.new-lines.result) first given = subst (λ text. Written policy m 0 before text first given) (sym c.new-lines.ensures) (none_written policy m first given) in
    record {
      machine = c.in-Ok.ensures.machine;
      written = subst (λ a. Written policy m 0 before (lines_text c.new-lines.result) a given) (sym c.in-Ok.ensures.starts) none;
      goes_on = ap outcome_of c.in-Ok.ensures.starts;
      lasting_order = λ n k e. e;
      lasting = λ n t answer e. e;
      lasting_silent = λ later n t e. e;
    }

pub returns-in_default : goal.returns-in_default
returns-in_default g c =
    let so_far = c.steps.invariant in
    let lines = lines_text c.add.new.self in
    let P : List Entry → Type 0 = λ es. lines ≡ lines_text c.steps.lines ++ trace_text (map entry_view es) in
    let policy = policy_of (g.O.Order.may_pick c.steps.order) (g.A.Answers.may_give c.steps.answers) (g.A.Answers.may_be_silent c.steps.answers c.drive.new.answers) in
    let stops = subst (λ (held : Held). Stops policy (scope_in held) 1 (stage_of (run_view c.steps.run) (g.A.Answers.content c.steps.answers) []) c.in-Ok-drive.driven.0 (stage_of (run_view c.drive.new.run) (g.A.Answers.content c.drive.new.answers) (map entry_view c.in-Ok-drive.driven.1.items))) so_far.machine c.in-Ok-drive.ensures.stops in
    stopped_there c.args.max_steps c.in-Ok-drive.driven.0 (omega arith) c.in_default.not-StepsSpent so_far.written stops
    (record { picks = λ n k e. e; gives = λ n t answer e. e }) (record { picks = so_far.lasting_order; gives = so_far.lasting }) (so_far.lasting_silent c.drive.new.answers) (c.into_bytes.ensures ∙ subst P c.deref.ensures.value c.in_ok-add.ensures)

pub steps-preserved : goal.steps-preserved
steps-preserved g c =
    let so_far = c.steps.invariant in
    let lines = lines_text c.add.new.self in
    let P : List Entry → Type 0 = λ es. lines ≡ lines_text c.steps.lines ++ trace_text (map entry_view es) in
    let policy = policy_of (g.O.Order.may_pick c.steps.order) (g.A.Answers.may_give c.steps.answers) (g.A.Answers.may_be_silent c.steps.answers c.drive.new.answers) in
    let stops = subst (λ (held : Held). Stops policy (scope_in held) 1 (stage_of (run_view c.steps.run) (g.A.Answers.content c.steps.answers) []) c.in-Ok-drive.driven.0 (stage_of (run_view c.drive.new.run) (g.A.Answers.content c.drive.new.answers) (map entry_view c.in-Ok-drive.driven.1.items))) so_far.machine c.in-Ok-drive.ensures.stops in
    let m = scope_in c.args.machine.now in
    let wider = policy_of (g.O.Order.may_pick c.args.order.now) (g.A.Answers.may_give c.args.answers.now) (g.A.Answers.may_be_silent c.args.answers.now c.drive.new.answers) in
    let left = g.A.Answers.content c.drive.new.answers in
    let more : Written wider m (c.steps._taken + 1) (begun m (view c.args.input) (g.A.Answers.content c.args.answers.now)) lines (run_view c.drive.new.run) left × (outcome_of (run_view c.drive.new.run) ≡ None) =
    goes_on c.in-Ok-drive.driven.0 c.in-StepsSpent.is so_far.written stops
    (record { picks = λ n k e. e; gives = λ n t answer e. e }) (record { picks = so_far.lasting_order; gives = so_far.lasting }) (subst P c.deref.ensures.value c.in_ok-add.ensures) in
    record {
      machine = c.in-Ok-drive.ensures.machine ∙ so_far.machine;
      written = more.0;
      goes_on = more.1;
      lasting_order = λ n k e. so_far.lasting_order n k (c.in-Ok-drive.ensures.lasting_order n k e);
      lasting = λ n t answer e. so_far.lasting n t answer (c.in-Ok-drive.ensures.lasting n t answer e);
      lasting_silent = λ later n t e. so_far.lasting_silent later n t (c.in-Ok-drive.ensures.lasting_silent later n t e);
    }
