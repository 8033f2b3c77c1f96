use Rattle.std.proofs.Common.{◌≡◌, ◌++◌, List, map}
use Rattle.asl_model.specs.Numbering.{Standing}
use Rattle.asl_machine.specs.Numbered.{Holds}
use Rattle.asl_machine.specs.Built.{built_view}
use Rattle.asl_machine.proofs.numbering.number_all.Given as goal

abbrev pub invariant-loop-row : goal.invariant-loop-row
invariant-loop-row l = (done : List Standing) × (map built_view l.fn.rows.items ≡ done ++ map built_view l.row-iterator.rest.items) × Holds done l.numbered
