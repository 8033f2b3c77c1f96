use Rattle.std.proofs.Common.{[], ◌∷◌, refl}
use Rattle.asl_model.specs.Edges.{ToEnd, flows_to}
use Rattle.asl_model.specs.Finding.{ScopeOutput}
use Rattle.asl_state_edges.specs.Walks.{output_step}
use Rattle.asl_state_edges.proofs.PushedSteps.{then_pushed}
use Rattle.asl_state_edges.proofs.pushing.push_end.Goals as goal

pub returns : goal.returns
returns c =
    then_pushed _ _ _ _ c.args.output output_step (λ s. flows_to ToEnd c.args.field.now ScopeOutput s ∷ []) c.in_ok-push_output.ensures c.in_ok-push.ensures.items refl (λ table. refl)
