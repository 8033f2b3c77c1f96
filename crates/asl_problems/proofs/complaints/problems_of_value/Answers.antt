use Rattle.serde_json.specs.View.{view}
use Rattle.asl_model.specs.StandsFor.{complaints}
use Rattle.asl_fields.specs.View.{refusal_view}
use Rattle.asl_problems.specs.Told.{of_complaint}
use Rattle.asl_problems.proofs.Refusals.{complaints_told}
use Rattle.asl_problems.proofs.complaints.problems_of_value.Goals as goal

pub returns : goal.returns
returns c =
    complaints_told refusal_view of_complaint c.in_ok-refusals.refusals.items (complaints (view c.args.value.now)) c.in_ok-problems.problems.items c.in_ok-refusals.ensures c.in_ok-problems.ensures
