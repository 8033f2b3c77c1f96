use Rattle.std.proofs.Common.{List, map, ◌++◌, ap, sym, ◌∙◌, subst}
use Rattle.asl_model.specs.Run.{activity_at}
use Rattle.asl_run.specs.Driving.{ComesNext, IsPicked, IsUnanswered, Pauses, Suits, policy_of, stage_of}
use Rattle.asl_run.specs.Entries.{entry_view, event_view}
use Rattle.asl_run.specs.Nodes.{shown_at}
use Rattle.asl_run.specs.Running.{Running, run_view, scope_of}
use Rattle.asl_machine_table.specs.Table.{scope_in}
use Rattle.asl_run.specs.Standing.{StandsIn}
use Rattle.asl_run.specs.declared.nodes.Node.{Node}
use Rattle.asl_run.proofs.Driven.{turn_taken}
use Rattle.asl_run.proofs.Stopping.{pauses_in_turn}
use Rattle.asl_run.proofs.Suited.{suited_steps}
use Rattle.asl_run.proofs.driving.turn.Goals as goal

pub returns-in-Ok-take-clause-goes_on : goal.returns-in-Ok-take-clause-goes_on
returns-in-Ok-take-clause-goes_on g c =
    let policy = policy_of (g.O.Order.may_pick c.args.order.now) (g.A.Answers.may_give c.args.answers.now) (g.A.Answers.may_be_silent c.args.answers.now c.next_event.new.answers) in
    let run = c.args.run.now in
    let event = event_view c.in-Ok-next_event.event in
    let before = stage_of (run_view run) (g.A.Answers.content c.args.answers.now) (map entry_view c.args.trace.now.items) in
    let after = stage_of (run_view c.take.new.run) (g.A.Answers.content c.next_event.new.answers) (map entry_view c.take.new.trace.items) in
    let next = subst (λ (r : Running). ComesNext policy.may_give (run_view r) before.answers event after.answers) c.run.view_is
    (subst (λ (l : List Node). ComesNext policy.may_give (shown_at c.run.inside.machine.now.names l 0) before.answers event after.answers) c.nodes.ensures c.in-Ok-next_event.ensures.next) in
    turn_taken policy (scope_of run) before after event
    (subst (IsPicked policy.may_pick (scope_of run) (run_view run)) (sym c.in-Ok-next_event.ensures.place) c.in-Ok.ensures.picked) next c.in-Ok-take.ensures.taken

pub returns-in-Err-take-clause-pauses : goal.returns-in-Err-take-clause-pauses
returns-in-Err-take-clause-pauses g c =
    c.in-Ok-next_event.ensures.next.answered ∙ ap (λ v. v ++ g.A.Answers.content c.next_event.new.answers) (sym c.in-Err-take.ensures.returned)

pub returns-in-Err-next_event-clause-pauses : goal.returns-in-Err-next_event-clause-pauses
returns-in-Err-next_event-clause-pauses g c =
    let policy = policy_of (g.O.Order.may_pick c.args.order.now) (g.A.Answers.may_give c.args.answers.now) (g.A.Answers.may_be_silent c.args.answers.now c.next_event.new.answers) in
    let run = c.args.run.now in
    let pause = c.in-Err-next_event.pause in
    let place = c.in-Ok.place.items in
    let given = g.A.Answers.content c.args.answers.now in
    let left = g.A.Answers.content c.next_event.new.answers in
    let paused = subst (λ (l : List Node). Pauses (IsUnanswered policy.may_be_silent place (shown_at c.run.inside.machine.now.names l 0)) c.run.inside.machine.now.names given left pause) c.nodes.ensures c.in-Err-next_event.ensures.pauses in
    pauses_in_turn policy (scope_of run) (run_view run) place run.machine.names given left pause c.in-Ok.ensures.picked
    (subst (λ (r : Running). Pauses (IsUnanswered policy.may_be_silent place (run_view r)) r.machine.names given left pause) c.run.view_is paused)

pub take-requires : goal.take-requires
take-requires g c = record {
  enabled =
      let MayPick = g.O.Order.may_pick c.args.order.now in
      let run = c.args.run.now in
      let event = event_view c.in-Ok-next_event.event in
      let stood = subst (λ (r : Running). StandsIn (run_view r) (scope_of r)) (sym c.run.view_is) c.stands.ensures.stands in
      let stands = subst (λ (l : List Node). StandsIn (shown_at c.run.inside.machine.now.names l 0) (scope_in c.run.inside.machine.now)) (sym c.nodes.ensures) stood in
      let suited = subst (λ (r : Running). Suits (activity_at event.place (run_view r)) event.action) c.run.view_is
      (subst (λ (l : List Node). Suits (activity_at event.place (shown_at c.run.inside.machine.now.names l 0)) event.action) c.nodes.ensures (c.in-Ok-next_event.ensures.suited stands)) in
      suited_steps MayPick (scope_of run) (run_view run) event c.stands.ensures.stands (subst (IsPicked MayPick (scope_of run) (run_view run)) (sym c.in-Ok-next_event.ensures.place) c.in-Ok.ensures.picked) suited;
}
