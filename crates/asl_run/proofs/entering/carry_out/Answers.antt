use Rattle.asl_model.specs.Flow as flow
use Rattle.asl_model.specs.Run as model
use Rattle.asl_run.specs.Acting.{MayCome, by_settings, by_state}
use Rattle.asl_processing.specs.Faults.{fault_view}
use Rattle.asl_processing.specs.Data.{data_view}
use Rattle.asl_processing.specs.declared.working.Work.TheVariants as works
use Rattle.asl_run.proofs.Planned.{carried_off, with_premise}
use Rattle.asl_run.proofs.entering.carry_out.Goals as goal

pub returns-in-Finishes : goal.returns-in-Finishes
returns-in-Finishes c =
    let here = c.args.here.now in
    rw c.in-Finishes.is (with_premise here c.finish.result (MayCome here (works.Finishes c.in-Finishes.value)) (by_settings model.finishes here (data_view c.in-Finishes.value)) c.finish.ensures)

pub returns-in-Leaves : goal.returns-in-Leaves
returns-in-Leaves c =
    rw c.in-Leaves.is (carried_off c.args.here.now c.leave_with.result c.in-Leaves.next c.in-Leaves.input c.at_output_path-output.result (data_view c.in-Leaves.input) c.at_output_path-output.ensures c.leave_with.ensures)

pub returns-in-Fails : goal.returns-in-Fails
returns-in-Fails c =
    let here = c.args.here.now in
    rw c.in-Fails.is (with_premise here c.ends_failing.result (MayCome here (works.Fails c.in-Fails.error c.in-Fails.cause)) (model.ends_failing c.in-Fails.error.now c.in-Fails.cause.now) c.ends_failing.ensures)

pub returns-in-Asks : goal.returns-in-Asks
returns-in-Asks c =
    let here = c.args.here.now in
    rw c.in-Asks.is (with_premise here c.ask.result (MayCome here (works.Asks c.in-Asks.payload)) (by_state model.by_work here (flow.Asks (data_view c.in-Asks.payload))) c.ask.ensures)

pub returns-in-Splits : goal.returns-in-Splits
returns-in-Splits c = rw c.in-Splits.is (λ may. c.split.ensures may.leads)

pub returns-in-Raises : goal.returns-in-Raises
returns-in-Raises c =
    let here = c.args.here.now in
    rw c.in-Raises.is (with_premise here c.raise.result (MayCome here (works.Raises c.in-Raises.fault)) (by_settings model.faulted here (fault_view c.in-Raises.fault)) c.raise.ensures)
