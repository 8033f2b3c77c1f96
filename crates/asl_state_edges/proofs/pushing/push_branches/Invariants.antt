use Rattle.std.proofs.Common.{◌<◌}
use Rattle.asl_states.specs.Machine.{branches_view}
use Rattle.asl_model.specs.Edges.{to_branches}
use Rattle.asl_numbered.specs.Expansion.{shape_at}
use Rattle.asl_state_edges.proofs.PushedSteps.{branches_left, AddsOn}
use Rattle.asl_state_edges.proofs.pushing.push_branches.Given as goal

-- the branches that are left
abbrev pub invariant-loop-start : goal.invariant-loop-start
invariant-loop-start l =
    AddsOn (λ bound. l.input < bound) l.initial.steps.items l.steps.items (λ table. to_branches (branches_view l.branches) (shape_at table l.input)) (branches_left l.input l.branches l.start-index)
