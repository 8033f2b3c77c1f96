use Rattle.std.proofs.Common.{drop}
use Rattle.asl_flow.specs.Doubts.{AreDoubtsBelow}
use Rattle.asl_state_edges.specs.Walks.{doubted_steps}
use Rattle.asl_state_edges.proofs.PushedSteps.{AddsOn}
use Rattle.asl_state_edges.proofs.pushing.push_doubts.Given as goal

-- the doubts that are left
abbrev pub invariant-loop-doubt : goal.invariant-loop-doubt
invariant-loop-doubt l =
    AddsOn (λ bound. AreDoubtsBelow bound l.doubts) l.initial.steps.items l.steps.items (λ table. doubted_steps table l.doubts) (λ table. doubted_steps table (drop l.doubt-index l.doubts))
