use Rattle.asl_infer.proofs.Inferred.{told-stands}
use Rattle.asl_infer.proofs.inferring.told_findings_stand.Goals as goal

pub returns : goal.returns
returns c = told-stands c.a_broken_rule_of_a_state_stands.ensures.for_some c.findings_are_exactly_the_broken_rules.ensures.listed c.findings_are_exactly_the_broken_rules.ensures.shown
