use Rattle.std.proofs.Common.{◌≡◌, ◌<◌, drop, length}
use Rattle.asl_model.specs.Shape.{Never}
use Rattle.asl_model.specs.ShapeOrder.{join, joined_with_each}
use Rattle.asl_numbered.specs.Expansion.{shape_at, shapes_at, Keeps}
use Rattle.asl_flow.proofs.elements.element_at.Given as goal

-- what is joined so far, with those that are left
abbrev pub invariant-loop-place : goal.invariant-loop-place
invariant-loop-place l =
    let old = l.fn.shapes in
    Keeps old l.shapes
    × (l.element < length l.shapes)
    × (joined_with_each join Never (shapes_at old l.elements.first.items)
    ≡ joined_with_each join (shape_at l.shapes l.element)
    (shapes_at old (drop l.place-index l.elements.first.items)))
