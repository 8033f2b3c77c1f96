use Rattle.asl_model.proofs.RunLaws.{every_activitys_data, every_activity}
use Rattle.asl_model.proofs.run_laws.every_activity_is_as_certified.Goals as goal

pub returns : goal.returns
returns c = record { data_fit = every_activitys_data; activities_fit = every_activity }
