use Rattle.std.proofs.Common.{◌≡◌, Err, List, Some, ◌∙◌, ap, sym, subst, option_map, refl}
use Rattle.asl_run.specs.Acting.{action_of}
use Rattle.asl_run.specs.Nodes.{IsTable, number_from}
use Rattle.asl_run.specs.Stepping.{IsPlanned, StepsAt}
use Rattle.asl_run.specs.declared.nodes.Node.{Node}
use Rattle.asl_run.specs.declared.stepping.StepRefusal.TheVariants.{NoSuchPlace}
use Rattle.asl_run.proofs.StepsAlong.{no_such_place, no_memory_along, planned_can, taken_along, unplanned_along}
use Rattle.asl_run.proofs.stepping.take_step.Goals as goal

pub plan_at-requires : goal.plan_at-requires
plan_at-requires c = rw c.in-Some.is at c.number_at.ensures.within

pub change-requires-clause-at : goal.change-requires-clause-at
change-requires-clause-at c = subst (λ (l : List Node). number_from l 0 c.args.at.now ≡ Some c.in-Some.number.0) c.nodes-nodes.ensures (sym c.number_at.ensures.number ∙ ap (option_map (λ n. n.0)) c.in-Some.is)

pub change-requires-clause-rises : goal.change-requires-clause-rises
change-requires-clause-rises c =
    let planned = subst (λ (l : List Node). IsPlanned c.args.machine.now c.args.at.now (action_of c.args.answer) l c.in-Some.number.0 c.plan_at.result) c.nodes-nodes.ensures c.plan_at.ensures.planned in
    planned_can c.args.machine.now c.args.at.now (action_of c.args.answer) c.args.standing.now c.in-Some.number.0 c.plan_at.result c.in-Ok.plan c.in-Ok.is planned

pub returns-in_default : goal.returns-in_default
returns-in_default c =
    subst (λ (l : List Node). StepsAt c.args.machine.now c.args.at.now (action_of c.args.answer) l l (Err NoSuchPlace)) c.nodes-nodes.ensures
    (no_such_place c.args.machine.now c.args.at.now (action_of c.args.answer) c.nodes-nodes.result.now c.number_at.ensures.table (sym c.number_at.ensures.number ∙ ap (option_map (λ n. n.0)) c.in_default.is))

pub returns-in-Err : goal.returns-in-Err
returns-in-Err c =
    subst (λ (l : List Node). StepsAt c.args.machine.now c.args.at.now (action_of c.args.answer) l l (Err c.in-Err.refusal)) c.nodes-nodes.ensures
    (unplanned_along c.args.machine.now c.args.at.now (action_of c.args.answer) c.nodes-nodes.result.now c.number_at.ensures.table c.in-Some.number.0 (sym c.number_at.ensures.number ∙ ap (option_map (λ n. n.0)) c.in-Some.is) c.plan_at.result c.in-Err.refusal c.in-Err.is c.plan_at.ensures.planned)

pub returns-in-Ok-change : goal.returns-in-Ok-change
returns-in-Ok-change c =
    let table = subst IsTable c.nodes-nodes.ensures c.number_at.ensures.table in
    let at = subst (λ (l : List Node). number_from l 0 c.args.at.now ≡ Some c.in-Some.number.0) c.nodes-nodes.ensures (sym c.number_at.ensures.number ∙ ap (option_map (λ n. n.0)) c.in-Some.is) in
    let planned = subst (λ (l : List Node). IsPlanned c.args.machine.now c.args.at.now (action_of c.args.answer) l c.in-Some.number.0 c.plan_at.result) c.nodes-nodes.ensures c.plan_at.ensures.planned in
    taken_along c.args.machine.now c.args.at.now (action_of c.args.answer) c.args.standing.now c.change.new.self table c.in-Some.number.0 at c.plan_at.result c.in-Ok.plan c.in-Ok.is planned c.in-Ok-change.ensures.changed _ refl

pub returns : goal.returns
returns c =
    let table = subst IsTable c.nodes-nodes.ensures c.number_at.ensures.table in
    let at = subst (λ (l : List Node). number_from l 0 c.args.at.now ≡ Some c.in-Some.number.0) c.nodes-nodes.ensures (sym c.number_at.ensures.number ∙ ap (option_map (λ n. n.0)) c.in-Some.is) in
    let planned = subst (λ (l : List Node). IsPlanned c.args.machine.now c.args.at.now (action_of c.args.answer) l c.in-Some.number.0 c.plan_at.result) c.nodes-nodes.ensures c.plan_at.ensures.planned in
    no_memory_along c.args.machine.now c.args.at.now (action_of c.args.answer) c.args.standing.now c.change.new.self table c.in-Some.number.0 at c.plan_at.result c.in-Ok.plan c.in-Ok.is planned c.in-Err-change.ensures.unchanged
