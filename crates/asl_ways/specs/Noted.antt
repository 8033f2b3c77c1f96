-- What a search notes of its visits.
use Rattle.std.specs.Prelude.{◌≡◌, ℕ, List, [], Option, Some, None, Contains, map, slice_get}
use Rattle.arrayvec.specs.ArrayVec.{ArrayVec}
use Rattle.asl_model.specs.Shape.{Shape, Inside}
use Rattle.asl_numbered.specs.Expansion.{shape_at}
use Rattle.asl_ways.specs.Visits.{first_of}
use Rattle.asl_ways.specs.declared.visiting.Visit.{Visit}

-- what is noted of a state: nothing, where there is no place for it
abbrev pub numbers_in : Option (ArrayVec ℕ) → List ℕ
numbers_in None = []
numbers_in (Some numbers) = numbers.items

-- Of each state the numbers of the shapes of its first visits are noted, in their order.
pub record AreNoted (visits : List Visit) (noted : List (ArrayVec ℕ)) : Type 0 where
  pub each : (state : ℕ) → numbers_in (slice_get noted state)
      ≡ map (λ visit. visit.arrival.shape) (first_of state visits)

-- a shape is inside one of those numbers
pub record IsInsideOne (table : List Shape) (inner : ℕ) (outer : List ℕ) : Type 0 where
  pub number : ℕ
  pub stands : Contains outer number
  pub inside : Inside (shape_at table inner) (shape_at table number)

-- it is inside none of them
abbrev pub IsInsideNone : List Shape → ℕ → List ℕ → Type 0
IsInsideNone table inner outer = (number : ℕ) → Contains outer number
    → ¬ Inside (shape_at table inner) (shape_at table number)
