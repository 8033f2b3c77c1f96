use Rattle.asl_model.proofs.TemplateGrammar.{template_exactly}
use Rattle.asl_model.proofs.reading_laws.templates_are_exactly_spelled.Goals as goal

pub returns : goal.returns
returns c = template_exactly
