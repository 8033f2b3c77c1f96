use Rattle.asl_flow.proofs.Leavings.{own_flow}
use Rattle.asl_flow.proofs.leaving.output_at.Goals as goal

pub returns-clause-number : goal.returns-clause-number
returns-clause-number c = own_flow c.output_by_kind.new.shapes c.in_ok-flow.flow c.are_distinct.ensures.distinct c.in_ok-flow.ensures.flows.within
