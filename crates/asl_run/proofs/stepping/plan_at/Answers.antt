use Rattle.std.proofs.Common.{◌∙◌, ap, Ok, None, refl}
use Rattle.asl_run.specs.Acting.{action_of}
use Rattle.asl_run.specs.Standing.{children_of}
use Rattle.asl_run.proofs.Acted.{acted, acts_not}
use Rattle.asl_run.proofs.PlansAlong.{plan_made, plan_wanted, plan_missing, plan_refused, plan_unwanted}
use Rattle.asl_run.proofs.stepping.plan_at.Goals as goal

pub returns-then-not-is_wanted-clause-planned : goal.returns-then-not-is_wanted-clause-planned
returns-then-not-is_wanted-clause-planned c = plan_unwanted c.args.machine.now c.args.at.now (action_of c.args.answer) c.args.nodes.now c.args.number.0 c.node-node.result.now c.children-children.result.now c.node-node.ensures.node c.children-children.ensures c.is_wanted.result c.if-not-is_wanted.true c.is_wanted.ensures

pub returns-in_default-clause-planned : goal.returns-in_default-clause-planned
returns-in_default-clause-planned c =
    plan_missing {E = Unit {0}} c.args.machine.now c.args.at.now (action_of c.args.answer) c.args.nodes.now c.args.number.0 c.node-node.result.now c.children-children.result.now c.node-node.ensures.node c.children-children.ensures (Ok None) refl
    (λ below heads. acts_not c.args.machine.now c.args.at.now (action_of c.args.answer) (children_of below) c.node-node.result.now (c.find.ensures.missing c.in_default.is))

pub returns-in-Ok-Some-clause-planned : goal.returns-in-Ok-Some-clause-planned
returns-in-Ok-Some-clause-planned c =
    plan_made c.args.machine.now c.args.at.now (action_of c.args.answer) c.args.nodes.now c.args.number.0 c.node-node.result.now c.children-children.result.now c.node-node.ensures.node c.children-children.ensures c.in-Ok-Some.plan c.act.result (c.in-Ok-Some.is ∙ ap Ok c.in-Ok-Some.field-0-is)
    (acted c.args.machine.now c.args.at.now (action_of c.args.answer) c.node-node.result.now c.children-children.result.now c.in-Some.here c.act.result c.in-Some.ensures.machine c.in-Some.ensures.place c.in-Some.ensures.found c.act.ensures)

pub returns-in-Ok-None-clause-planned : goal.returns-in-Ok-None-clause-planned
returns-in-Ok-None-clause-planned c =
    plan_missing c.args.machine.now c.args.at.now (action_of c.args.answer) c.args.nodes.now c.args.number.0 c.node-node.result.now c.children-children.result.now c.node-node.ensures.node c.children-children.ensures c.act.result (c.in-Ok-None.is ∙ ap Ok c.in-Ok-None.field-0-is)
    (acted c.args.machine.now c.args.at.now (action_of c.args.answer) c.node-node.result.now c.children-children.result.now c.in-Some.here c.act.result c.in-Some.ensures.machine c.in-Some.ensures.place c.in-Some.ensures.found c.act.ensures)

pub returns-in-Err-clause-planned : goal.returns-in-Err-clause-planned
returns-in-Err-clause-planned c = plan_refused c.args.machine.now c.args.at.now (action_of c.args.answer) c.args.nodes.now c.args.number.0 c.node-node.result.now c.children-children.result.now c.node-node.ensures.node c.children-children.ensures c.is_wanted.result c.if-not-is_wanted.false c.is_wanted.ensures

pub returns-in-Ok-Some-clause-wanted : goal.returns-in-Ok-Some-clause-wanted
returns-in-Ok-Some-clause-wanted c = plan_wanted (action_of c.args.answer) c.args.nodes.now c.node-node.ensures.table c.args.number.0 c.node-node.result.now c.children-children.result.now c.node-node.ensures.node c.children-children.ensures c.is_wanted.result c.if-not-is_wanted.false c.is_wanted.ensures
