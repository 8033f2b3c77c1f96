use Rattle.asl_model.specs.Tree.{Null}
use Rattle.asl_numbered.specs.Outside.{steps_over}
use Rattle.asl_numbered.proofs.Stepping.{step_taken, step_within}
use Rattle.asl_numbered.proofs.outside.build_steps.Goals as goal

pub build_step-requires : goal.build_step-requires
build_step-requires c = (step_within c.args.table.now c.loop-step.steps.items c.pop.new.self.items c.in-Some.step c.in-Some.ensures.items c.loop-step.invariant.1).1

pub loop-step-preserved : goal.loop-step-preserved
loop-step-preserved c =
    let table = c.args.table.now in (
      step_taken table (steps_over table c.args.steps.items Null) c.loop-step.steps.items c.pop.new.self.items c.in-Some.step c.loop-step.tree c.in_ok-tree.tree c.loop-step.invariant.0 c.in-Some.ensures.items c.in_ok-tree.ensures,
      (step_within table c.loop-step.steps.items c.pop.new.self.items c.in-Some.step c.in-Some.ensures.items c.loop-step.invariant.1).0,
    )
