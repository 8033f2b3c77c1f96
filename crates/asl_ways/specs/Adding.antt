-- What is added to arrivals.
use Rattle.std.specs.Prelude.{◌≡◌, ◌<◌, ◌++◌, ℕ, List, length, map}
use Rattle.std.specs.List.{All}
use Rattle.asl_model.specs.Shape.{Shape}
use Rattle.asl_ways.specs.Coming.{Coming, coming}
use Rattle.asl_ways.specs.declared.arriving.Arrival.{Arrival}

-- their shapes are those of numbers below that bound
abbrev pub AreBelow : ℕ → List Arrival → Type 0
AreBelow bound arrivals = All (λ arrival. arrival.shape < bound) arrivals

-- What comes is added, with shapes of the table.
pub record Adds (table : List Shape) (before after : List Arrival) (all : List Coming) : Type 0 where
  pub added : List Arrival
  pub whole : after ≡ before ++ added
  pub below : AreBelow (length table) added
  pub seen : all ≡ map (coming table) added
