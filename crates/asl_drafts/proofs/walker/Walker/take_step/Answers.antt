use Rattle.asl_state_edges.specs.View.{step_view}
use Rattle.asl_machine_table.specs.Table.{table_view}
use Rattle.asl_drafts.proofs.Underway.{nothing-taken}
use Rattle.asl_drafts.proofs.walker.Walker.take_step.Goals as goal

pub returns-in-Breaks-clause-walked : goal.returns-in-Breaks-clause-walked
returns-in-Breaks-clause-walked c = nothing-taken (table_view c.args.machine.now) c.args.origin (step_view c.args.self.now.draft.store c.args.step.now) c.args.self.now (λ known draft place. rw c.in-Breaks.is tt)
