use Rattle.std.proofs.Common.{codes}
use Rattle.asl_model.specs.Texts.{DefinitionText}
use Rattle.asl_problems.proofs.Refusals.{if_named}
use Rattle.asl_problems.proofs.problems.rule_of_no_json.Goals as goal

pub returns : goal.returns
returns c = if_named c.rule_of_text.result (codes "NotJson") (c.rule_of_text.ensures DefinitionText)
