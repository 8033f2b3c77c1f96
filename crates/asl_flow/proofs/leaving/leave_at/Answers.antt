use Rattle.asl_model.specs.ShapeFlow as model
use Rattle.asl_numbered.specs.Expansion.{shape_at}
use Rattle.asl_states.specs.Machine.{settings_view, kind_view}
use Rattle.asl_flow.proofs.DoubtfulTemplates.{leave_refused}
use Rattle.asl_flow.proofs.Refusals.{way_cause}
use Rattle.asl_flow.proofs.leaving.leave_at.Goals as goal

pub fault_told-requires : goal.fault_told-requires
fault_told-requires c =
    let table = c.args.shapes.now in
    let settings = settings_view c.args.state.now.settings in
    let kind = kind_view c.args.state.now.kind in
    let raw = shape_at table c.args.raw in
    let work = shape_at table c.args.work in
    let stopped = rw c.in-Err.is at c.in_ok-number.ensures.as_defined in
    let within = rw c.in-Err.is at c.in_ok-number.ensures.within in
    record { cause = way_cause c.output_at.new.shapes (model.leave settings kind raw work) c.in-Err.doubts c.index.result.now stopped within c.index.ensures (leave_refused settings kind raw work) }
