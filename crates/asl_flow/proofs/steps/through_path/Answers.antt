use Rattle.std.proofs.Common.{length}
use Rattle.asl_model.specs.ShapeFlow as model
use Rattle.asl_numbered.specs.Expansion.{shape_at}
use Rattle.asl_flow.specs.declared.doubts.Cause.TheVariants.{MayBeMissing}
use Rattle.asl_flow.proofs.Leavings.{path_doubtful, stops_where}
use Rattle.asl_flow.proofs.steps.through_path.Goals as goal

pub returns-in-Err-clause-flows : goal.returns-in-Err-clause-flows
returns-in-Err-clause-flows c =
    let table = c.find_at.new.shapes in
    let field = c.args.field.now in
    let doubtful = c.in-Err.doubtful in
    let found = model.found c.in-Some.path (shape_at c.args.shapes.now c.args.number) in
    let is = rw c.in-Err.is at c.in_ok-part-in-Some.ensures.as_defined in
    let within = rw c.in-Err.is at c.in_ok-part-in-Some.ensures.within in
    rw c.in-Some.is (stops_where table (model.path_flow field found) field (MayBeMissing doubtful) c.stopped.result (path_doubtful table field found doubtful is) c.stopped.ensures.doubt (c.stopped.ensures.within (length table) within.below))
