-- What is said of shapes by their numbers in a table.
use Rattle.std.specs.Prelude.{ℕ, List, Result, Ok, Err}
use Rattle.asl_model.specs.Shape.{Shape}
use Rattle.asl_numbered.specs.Expansion.{shape_at}

-- the shape of a number, or the refusal
abbrev pub shown : {E : Type 0} → List Shape → Result ℕ E → Result Shape E
shown table (Ok n) = Ok (shape_at table n)
shown table (Err e) = Err e
