use Rattle.std.proofs.Common.{refl}
use Rattle.asl_model.specs.Edges.{to_child}
use Rattle.asl_states.specs.Machine.{started_at}
use Rattle.asl_state_edges.proofs.PushedSteps.{edge_pushed}
use Rattle.asl_state_edges.proofs.pushing.push_child.Goals as goal

pub returns : goal.returns
returns c = edge_pushed _ _ _ c.args.input (to_child c.args.field.now (started_at c.args.start.now)) c.in_ok-push.ensures.items refl (λ table. refl)
