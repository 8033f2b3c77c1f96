-- What a look-up says that lends a shape: that shape, or the number of the segment that may name nothing.
use Rattle.std.specs.Prelude.{ℕ, Result, Ok, Err}
use Rattle.std.specs.Borrow.{Bor}
use Rattle.asl_model.specs.Shape as model
use Rattle.asl_shape.specs.View.{view}
use Rattle.asl_shape.specs.declared.shape.Shape.{Shape}

abbrev pub lent : Result (Bor Shape) ℕ → Result model.Shape ℕ
lent (Ok s) = Ok (view s.now)
lent (Err at) = Err at
