-- The numbers of segments that may name nothing, or where something may not fit.
use Rattle.std.specs.Prelude.{◌+◌, ℕ, Result, Ok, Err}
use Rattle.asl_model.specs.Shape.{Shape}

-- a refusal behind so many segments, counted with them
abbrev pub counted_on : ℕ → Result Shape ℕ → Result Shape ℕ
counted_on passed (Ok s) = Ok s
counted_on passed (Err at) = Err (passed + at)
