use Rattle.asl_model.proofs.RuleGrammar.{rule_exactly}
use Rattle.asl_model.proofs.reading_laws.rules_are_exactly_spelled.Goals as goal

pub returns : goal.returns
returns c = rule_exactly
