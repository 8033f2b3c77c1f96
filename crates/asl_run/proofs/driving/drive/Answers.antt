use Rattle.std.proofs.Common.{List, [], map, arith, ap, sym, ◌∙◌, refl, subst}
use Rattle.asl_run.specs.Driving.{Drives, TurnIsUnanswered, policy_of, stage_of}
use Rattle.asl_run.specs.Entries.{entry_view}
use Rattle.asl_run.specs.Running.{run_view, scope_of}
use Rattle.asl_run.specs.declared.driving.Pause.TheVariants as pauses
use Rattle.asl_run.specs.declared.entries.Entry as code
use Rattle.asl_run.proofs.Driven.{one_turn_more}
use Rattle.asl_run.proofs.Turns.{drives_none}
use Rattle.asl_run.proofs.Stopping.{broken_off_there, same_drives, same_pauses, stopped_at_end, stopped_unanswered, stopped_when_spent}
use Rattle.asl_run.proofs.driving.drive.Goals as goal

pub turns-init : goal.turns-init
turns-init g c =
    let policy = policy_of (g.O.Order.may_pick c.args.order.now) (g.A.Answers.may_give c.args.answers.now) (g.A.Answers.may_be_silent c.args.answers.now c.args.answers.now) in
    let answers = g.A.Answers.content c.args.answers.now in
    let begun = stage_of (run_view c.args.run.now) answers [] in
    record {
      machine = refl;
      drives = subst (λ (es : List code.Entry). Drives policy (scope_of c.args.run.now) 0 begun (stage_of (run_view c.args.run.now) answers (map entry_view es))) (sym c.new-trace.ensures.items) (drives_none policy (scope_of c.args.run.now) begun);
      lasting_order = λ n k e. e;
      lasting = λ n t answer e. e;
      lasting_silent = λ later n t e. e;
    }

pub turns-preserved : goal.turns-preserved
turns-preserved g c =
    let so_far = c.turns.invariant in
    record {
      machine = c.in-Ok.ensures.machine ∙ so_far.machine;
      drives =
          one_turn_more so_far.drives (same_drives so_far.machine c.in-Ok.ensures.goes_on) (record { picks = λ n k e. e; gives = λ n t answer e. e }) (record { picks = so_far.lasting_order; gives = so_far.lasting });
      lasting_order = λ n k e. so_far.lasting_order n k (c.in-Ok.ensures.lasting_order n k e);
      lasting = λ n t answer e. so_far.lasting n t answer (c.in-Ok.ensures.lasting n t answer e);
      lasting_silent = λ later n t e. so_far.lasting_silent later n t (c.in-Ok.ensures.lasting_silent later n t e);
    }

pub returns-in-Some-how_ended-clause-stops : goal.returns-in-Some-how_ended-clause-stops
returns-in-Some-how_ended-clause-stops g c =
    stopped_at_end c.args.max_steps c.in-Some-how_ended.stop (omega arith) c.turns.invariant.drives c.in-Some-how_ended.ensures

pub returns-in-Some-clause-stops : goal.returns-in-Some-clause-stops
returns-in-Some-clause-stops g c =
    stopped_at_end c.args.max_steps c.in-Some.stop (omega arith) c.turns.invariant.drives c.in-Some.ensures

pub returns-in-Err-NoAnswer-clause-stops : goal.returns-in-Err-NoAnswer-clause-stops
returns-in-Err-NoAnswer-clause-stops g c =
    let same = c.turns.invariant.machine in
    let pause = c.in-Err-NoAnswer in
    let narrow = policy_of (g.O.Order.may_pick c.turns.order) (g.A.Answers.may_give c.turns.answers) (g.A.Answers.may_be_silent c.turns.answers c.turn.new.answers) in
    stopped_unanswered narrow c.turns.run.machine.names c.args.max_steps pause.state (omega arith) (ap (λ held. held.names) same ∙ ap (λ t. t.names) c.stands.ensures.shown.table)
    c.turns.invariant.drives (record { picks = λ n k e. e; gives = λ n t answer e. e }) (record { picks = c.turns.invariant.lasting_order; gives = c.turns.invariant.lasting }) (c.turns.invariant.lasting_silent c.turn.new.answers) c.in_default.ensures (same_pauses narrow (run_view c.turns.run) c.turns.run.machine.names (g.A.Answers.content c.turns.answers) (g.A.Answers.content c.turn.new.answers) (pauses.NoAnswer pause.state) _ _ same (rw pause.field-0-is at pause.ensures.pauses)) pause.ensures.stays

pub returns-in-None-clause-stops : goal.returns-in-None-clause-stops
returns-in-None-clause-stops g c =
    stopped_when_spent c.args.max_steps (omega arith) c.turns.invariant.drives c.in-None.ensures

pub returns-in-Err-OutOfMemory-clause-broken_off : goal.returns-in-Err-OutOfMemory-clause-broken_off
returns-in-Err-OutOfMemory-clause-broken_off g c =
    let same = c.turns.invariant.machine in
    let pause = c.in-Err-OutOfMemory in
    let narrow = policy_of (g.O.Order.may_pick c.turns.order) (g.A.Answers.may_give c.turns.answers) (g.A.Answers.may_be_silent c.turns.answers c.turn.new.answers) in
    broken_off_there (TurnIsUnanswered narrow (scope_of c.args.run.now) (run_view c.turns.run)) c.turns.run.machine.names c.args.max_steps pause.answer (omega arith)
    c.turns.invariant.drives (record { picks = λ n k e. e; gives = λ n t answer e. e }) c.in_default.ensures (same_pauses narrow (run_view c.turns.run) c.turns.run.machine.names (g.A.Answers.content c.turns.answers) (g.A.Answers.content c.turn.new.answers) (pauses.OutOfMemory pause.answer) _ _ same (rw pause.field-0-is at pause.ensures.pauses)) pause.ensures.stays
