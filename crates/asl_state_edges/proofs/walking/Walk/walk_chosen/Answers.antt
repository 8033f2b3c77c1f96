use Rattle.asl_states.specs.Machine.{target_name}
use Rattle.asl_model.specs.Edges.{to_next}
use Rattle.std.proofs.lemmas.Result.{on_ok_weaker}
use Rattle.asl_state_edges.proofs.Flows.{flow_doubted, flow_pushed}
use Rattle.asl_state_edges.proofs.walking.Walk.walk_chosen.Goals as goal

pub returns-in-Ok-clause-adds : goal.returns-in-Ok-clause-adds
returns-in-Ok-clause-adds c =
    let flow = c.in_ok-output in
    on_ok_weaker _ (flow_pushed _ _ flow.field-0 flow.ensures.as_defined flow.ensures.within _ _ (to_next c.args.field.now (target_name c.args.next.now)) _ c.in-Ok.is) c.push_next.ensures

pub returns-in-Err-clause-adds : goal.returns-in-Err-clause-adds
returns-in-Err-clause-adds c =
    let flow = c.in_ok-output in
    on_ok_weaker _ (flow_doubted _ _ flow.field-0 flow.ensures.as_defined flow.ensures.within _ _ (to_next c.args.field.now (target_name c.args.next.now)) c.in-Err.doubts c.in-Err.is) (rw c.deref.ensures.value at c.push_doubts.ensures)
