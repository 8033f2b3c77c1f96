use Rattle.asl_model.specs.Certificate.{Works}
use Rattle.asl_model.proofs.RunLaws.{keeps_data, kept_by}
use Rattle.asl_model.proofs.run_laws.working_keeps_activities_as_certified.Goals as goal

pub returns : goal.returns
returns c = record {
  data_fit = λ declared certificate machine closed. keeps_data declared certificate machine closed Works;
  activities_fit = λ declared certificate machine closed leads. kept_by declared certificate machine closed leads Works;
}
