use Rattle.std.proofs.Common.{◌↔◌, drop, map}
use Rattle.asl_numbered.specs.Expansion.{shape_at}
use Rattle.asl_numbered.specs.Kinds.{AscendFrom}
use Rattle.asl_numbered.proofs.table.ascend.Given as goal

abbrev pub invariant-loop-part : goal.invariant-loop-part
invariant-loop-part l =
    AscendFrom 0 (map (shape_at l.table) l.parts)
    ↔ AscendFrom l.place (map (shape_at l.table) (drop l.part-index l.parts))
