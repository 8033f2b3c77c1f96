use Rattle.asl_state_edges.specs.View.{steps_of}
use Rattle.asl_machine_table.specs.Table.{table_view}
use Rattle.asl_drafts.proofs.Leading.{first_steps}
use Rattle.asl_drafts.proofs.Underway.{HasWalked}
use Rattle.asl_drafts.proofs.walker.Walker.take_steps.Given as goal

abbrev pub invariant-loop-place : goal.invariant-loop-place
invariant-loop-place l =
    HasWalked (table_view l.machine) l.number (steps_of l.initial.self.draft.store l.steps) (first_steps l.initial.self.draft.store l.steps l.place) l.initial.self l.changed l.self
