use Rattle.std.proofs.Common.{◌≡◌, ◌<◌, drop, length}
use Rattle.asl_model.specs.Finding.{error_output_shape}
use Rattle.asl_numbered.specs.Expansion.{shape_at}
use Rattle.asl_state_edges.specs.Steps.{catchers_steps}
use Rattle.asl_state_edges.proofs.Going.{GoesOn}
use Rattle.asl_state_edges.proofs.walking.Walk.walk_catchers.Given as goal

-- the catchers that are left, and the error output
abbrev pub invariant-loop-catcher : goal.invariant-loop-catcher
invariant-loop-catcher l =
    let old = l.fn.shapes in
    GoesOn old l.shapes l.fn.steps.items l.steps.items (catchers_steps old l.self l.catchers) (catchers_steps old l.self (drop l.catcher-index l.catchers))
    × (l.error < length l.shapes)
    × (shape_at l.shapes l.error ≡ error_output_shape)
