use Rattle.std.proofs.Common.{◌≡◌, drop, map}
use Rattle.std.specs.List.{list_all}
use Rattle.asl_numbered.specs.Expansion.{shape_at}
use Rattle.asl_numbered.specs.Kinds.{full}
use Rattle.asl_numbered.proofs.table.are_full.Given as goal

abbrev pub invariant-loop-number : goal.invariant-loop-number
invariant-loop-number l =
    list_all full (map (shape_at l.table) l.numbers)
    ≡ list_all full (map (shape_at l.table) (drop l.number-index l.numbers))
