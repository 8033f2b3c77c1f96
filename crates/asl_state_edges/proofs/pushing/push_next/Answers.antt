use Rattle.std.proofs.Common.{[], ◌∷◌, refl}
use Rattle.asl_model.specs.Edges.{ToInput, flows_to}
use Rattle.asl_model.specs.Finding.{NextInput}
use Rattle.asl_states.specs.Machine.{target_name}
use Rattle.asl_state_edges.specs.Walks.{output_step}
use Rattle.asl_state_edges.proofs.PushedSteps.{then_pushed}
use Rattle.asl_state_edges.proofs.pushing.push_next.Goals as goal

pub returns : goal.returns
returns c =
    then_pushed _ _ _ _ c.args.output output_step (λ s. flows_to (ToInput (target_name c.args.next.now)) c.args.field.now NextInput s ∷ []) c.in_ok-push_output.ensures c.in_ok-push.ensures.items refl (λ table. refl)
