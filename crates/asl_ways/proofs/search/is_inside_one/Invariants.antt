use Rattle.std.proofs.Common.{◌≡◌, take, true}
use Rattle.asl_model.specs.Shape.{inhabited}
use Rattle.asl_numbered.specs.Expansion.{shape_at}
use Rattle.asl_ways.specs.Noted.{IsInsideNone}
use Rattle.asl_ways.proofs.search.is_inside_one.Given as goal

abbrev pub invariant-loop-number : goal.invariant-loop-number
invariant-loop-number l = record {
  unchanged : l.shapes ≡ l.initial.shapes;
  outside : inhabited (shape_at l.initial.shapes l.inner) ≡ true → IsInsideNone l.initial.shapes l.inner (take l.number-index l.outer);
}
