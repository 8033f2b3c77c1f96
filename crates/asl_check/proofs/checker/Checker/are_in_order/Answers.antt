use Rattle.asl_check.proofs.InOrder.{certified}
use Rattle.asl_check.proofs.checker.Checker.are_in_order.Goals as goal

pub returns-clause-certified : goal.returns-clause-certified
returns-clause-certified c = certified c.args.shapes.now c.args.self.now c.are_proper.ensures.proper
