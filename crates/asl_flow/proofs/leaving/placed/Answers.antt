use Rattle.std.proofs.Common.{Err, ap, codes, length}
use Rattle.asl_model.specs.ShapeFlow as model
use Rattle.asl_numbered.specs.Expansion.{shape_at}
use Rattle.asl_flow.specs.declared.doubts.Cause.TheVariants.{MayNotFit}
use Rattle.asl_flow.proofs.Leavings.{flow_there, stops_where}
use Rattle.asl_flow.proofs.leaving.placed.Goals as goal

pub returns-in-Ok-clause-flows : goal.returns-in-Ok-clause-flows
returns-in-Ok-clause-flows c =
    let table = c.put_at.new.shapes in
    rw c.in-Some.is (flow_there table _ c.in-Ok.number (ap (model.placing_flow (codes "ResultPath")) c.in-Ok.ensures.as_defined) (c.in-Ok.ensures.number.within))

pub returns-in-Err-MayNotFit-clause-flows : goal.returns-in-Err-MayNotFit-clause-flows
returns-in-Err-MayNotFit-clause-flows c =
    let table = c.args.shapes.now in
    let grown = c.put_at.new.shapes in
    let field = codes "ResultPath" in
    let misfit = c.in-Err-MayNotFit in
    let put = model.put c.in-Some.path (shape_at table c.args.work) (shape_at table c.args.raw) in
    let is = misfit.ensures.may_not_fit misfit.field-0-0 (ap Err misfit.field-0-is) in
    rw c.in-Some.is (stops_where grown (model.placing_flow field put) field MayNotFit c.stopped.result (ap (model.placing_flow field) is) c.stopped.ensures.doubt (c.stopped.ensures.within (length grown) tt))
