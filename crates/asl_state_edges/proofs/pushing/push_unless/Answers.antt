use Rattle.asl_state_edges.specs.View.{finding_fault_view}
use Rattle.asl_state_edges.proofs.PushedSteps.{unless_held}
use Rattle.asl_state_edges.proofs.pushing.push_unless.Goals as goal

pub returns-then-holds : goal.returns-then-holds
returns-then-holds c = unless_held _ c.args.holds c.args.field.now (finding_fault_view c.args.fault) c.if-holds.true
