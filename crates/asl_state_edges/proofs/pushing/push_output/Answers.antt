use Rattle.std.proofs.Common.{refl}
use Rattle.asl_state_edges.specs.Walks.{output_step}
use Rattle.asl_state_edges.proofs.PushedSteps.{edge_pushed}
use Rattle.asl_state_edges.proofs.pushing.push_output.Goals as goal

pub returns : goal.returns
returns c = edge_pushed _ _ _ c.args.output output_step c.in_ok-push.ensures.items refl (λ table. refl)
