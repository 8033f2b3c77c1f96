use Rattle.asl_model.proofs.ShapeRule.{rule-decided}
use Rattle.asl_model.proofs.shape_laws.rule_shape_means_decided.Goals as goal

pub returns : goal.returns
returns c = record { decided = λ test s r e v h. rule-decided test s r v e h }
