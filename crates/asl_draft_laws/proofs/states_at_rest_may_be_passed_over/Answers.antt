use Rattle.asl_draft_laws.proofs.PassedOver.{rests-kept, rests-walked}
use Rattle.asl_draft_laws.proofs.states_at_rest_may_be_passed_over.Goals as goal

pub returns : goal.returns
returns c = record {
  passed = rests-walked;
  kept = rests-kept;
}
