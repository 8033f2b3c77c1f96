use Rattle.std.proofs.Common.{◌≡◌, drop, map}
use Rattle.std.specs.List.{list_any}
use Rattle.asl_model.specs.Shape.{has_several}
use Rattle.asl_numbered.specs.Expansion.{shape_at}
use Rattle.asl_records.proofs.version.some_are.Given as goal

abbrev pub invariant-loop-number : goal.invariant-loop-number
invariant-loop-number l =
    list_any has_several (map (shape_at l.shapes) l.numbers) ≡ list_any has_several (map (shape_at l.shapes) (drop l.number-index l.numbers))
