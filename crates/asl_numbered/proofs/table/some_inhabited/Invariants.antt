use Rattle.std.proofs.Common.{◌≡◌, drop, map}
use Rattle.std.specs.List.{list_any}
use Rattle.asl_model.specs.Shape as model
use Rattle.asl_numbered.specs.Expansion.{shape_at}
use Rattle.asl_numbered.proofs.table.some_inhabited.Given as goal

abbrev pub invariant-loop-number : goal.invariant-loop-number
invariant-loop-number l =
    list_any model.inhabited (map (shape_at l.table) l.numbers)
    ≡ list_any model.inhabited (map (shape_at l.table) (drop l.number-index l.numbers))
