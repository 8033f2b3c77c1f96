use Rattle.std.proofs.Common.{◌≡◌, drop}
use Rattle.asl_model.specs.Shape as model
use Rattle.asl_numbered.specs.Expansion.{shapes_at}
use Rattle.asl_numbered.proofs.table.all_inhabited.Given as goal

abbrev pub invariant-loop-number : goal.invariant-loop-number
invariant-loop-number l =
    model.all_inhabited (shapes_at l.table l.numbers)
    ≡ model.all_inhabited (shapes_at l.table (drop l.number-index l.numbers))
