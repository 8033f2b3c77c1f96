use Rattle.asl_flow.proofs.Leavings.{own_flow}
use Rattle.asl_flow.proofs.entering.effective_at.Goals as goal

pub returns-clause-number : goal.returns-clause-number
returns-clause-number c = own_flow c.enter.new.shapes c.in_ok-flow.flow c.are_distinct.ensures.distinct c.in_ok-flow.ensures.flows.within
