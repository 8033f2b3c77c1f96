use Rattle.std.proofs.Common.{◌≡◌, drop}
use Rattle.asl_numbered.specs.Expansion.{shapes_at}
use Rattle.asl_numbered.specs.Kinds.{tidy_places}
use Rattle.asl_numbered.proofs.table.are_places_tidy.Given as goal

abbrev pub invariant-loop-number : goal.invariant-loop-number
invariant-loop-number l =
    tidy_places (shapes_at l.table l.numbers)
    ≡ tidy_places (shapes_at l.table (drop l.number-index l.numbers))
