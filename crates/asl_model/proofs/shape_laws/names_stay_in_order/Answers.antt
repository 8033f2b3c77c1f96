use Rattle.asl_model.proofs.ShapeOrdered.{join-ordered, put-ordered}
use Rattle.asl_model.proofs.OrderedTemplates.{template-ordered}
use Rattle.asl_model.proofs.OrderedFlows.{rule-ordered, leave-ordered}
use Rattle.asl_model.proofs.shape_laws.names_stay_in_order.Goals as goal

pub returns : goal.returns
returns c = record { join = join-ordered; put = put-ordered; template = template-ordered; rule = rule-ordered; output = leave-ordered }
