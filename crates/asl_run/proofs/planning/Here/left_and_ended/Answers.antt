use Rattle.asl_model.specs.Run as model
use Rattle.asl_tree.specs.View.{view}
use Rattle.asl_run.proofs.Planned as planned
use Rattle.asl_run.proofs.planning.Here.left_and_ended.Goals as goal

pub returns : goal.returns
returns c =
    let here = c.args.self.now in
    let output = view c.args.output.now.value in
    planned.left_and_ended here.at.now c.with_first-2.result c.ended_with.result c.left.result c.new.result.items c.in_ok-entries.entries.items (model.Ended (model.Output output)) (model.Left here.name.now output) c.new.ensures.items c.in_ok-entries.ensures c.ended_with.ensures c.with_first-2.ensures c.left.ensures
