use Rattle.asl_model.specs.Records.{declared_complaints}
use Rattle.asl_records.specs.View.{complaint_view}
use Rattle.asl_problems.specs.Told.{of_record}
use Rattle.asl_problems.proofs.Refusals.{complaints_told}
use Rattle.asl_problems.proofs.complaints.problems_of_declared.Goals as goal

pub returns : goal.returns
returns c = record {
  each = λ v is.
      complaints_told complaint_view of_record c.in_ok-refusals.refusals.items (declared_complaints v) c.in_ok-problems.problems.items (c.in_ok-refusals.ensures.each v is) c.in_ok-problems.ensures;
}
