use Rattle.std.proofs.Common.{refl}
use Rattle.asl_states.specs.Machine.{target_name}
use Rattle.asl_state_edges.specs.Walks.{caught_step}
use Rattle.asl_state_edges.proofs.PushedSteps.{edge_pushed}
use Rattle.asl_state_edges.proofs.pushing.push_caught.Goals as goal

pub returns : goal.returns
returns c = edge_pushed _ _ _ c.args.caught (caught_step (target_name c.args.next.now)) c.in_ok-push.ensures.items refl (λ table. refl)
