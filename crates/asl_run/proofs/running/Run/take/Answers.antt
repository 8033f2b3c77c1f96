use Rattle.std.proofs.Common.{refl, subst, option_map}
use Rattle.std.specs.Option.{unwrap_or}
use Rattle.asl_machine_table.specs.Table.{scope_in}
use Rattle.asl_model.specs.Run.{Move}
use Rattle.asl_run.specs.Entries.{answer_view, event_view}
use Rattle.asl_run.specs.Nodes.{shown_at}
use Rattle.asl_run.specs.Stepping.{Steps}
use Rattle.asl_run.proofs.StepsRun.{still_stands}
use Rattle.asl_run.proofs.running.Run.take.Goals as goal

pub invariant_of-self : goal.invariant_of-self
invariant_of-self c =
    let held = c.self.inside.machine.now in
    still_stands held (scope_in held) c.place.result.now (shown_at held.names c.self.inside.standing 0) (shown_at held.names c.take_step.new.standing 0) _ c.take_step.result c.is_shown.ensures.shown c.self.invariant c.take_step.ensures.whole

pub returns : goal.returns
returns c =
    let held = c.self.inside.machine.now in
    let before = shown_at held.names c.self.inside.standing 0 in
    let after = shown_at held.names c.take_step.new.standing 0 in
    let place = (event_view c.args.event.now).place in
    let given = unwrap_or (option_map (λ a. answer_view a.now) c.answer.result) Move in
    let placed = subst (λ p. Steps held p p before after given c.take_step.result) c.place.ensures c.take_step.ensures.whole in
    rw (← c.self.view_is) (record {
      machine = refl;
      steps = subst (λ action. Steps held place place before after action c.take_step.result) c.answer.ensures placed;
    })
