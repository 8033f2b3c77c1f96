use Rattle.asl_model.proofs.RunTemplates.{value_tells}
use Rattle.asl_model.proofs.run_laws.template_faults_are_those_of_the_least_place.Goals as goal

pub returns : goal.returns
returns c = value_tells
