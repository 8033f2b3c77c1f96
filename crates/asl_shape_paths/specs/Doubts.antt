-- What a path that is doubtful in a shape stands for in the definitions.
use Rattle.std.specs.Prelude.{◌<◌, ℕ, List, Result, Ok, Err, IfOk, IfErr}
use Rattle.asl_model.specs.Shape.{Shape}
use Rattle.asl_model.specs.ShapeFlow as model
use Rattle.asl_numbered.specs.Expansion.{shape_at}
use Rattle.asl_shape_paths.specs.declared.doubts.DoubtfulPath.{DoubtfulPath}

-- the path, and the shape of the number
abbrev pub doubtful_view : List Shape → DoubtfulPath → model.DoubtfulPath
doubtful_view table d = record { path = d.path.now; segment = d.segment; shape = shape_at table d.shape }

-- the shape that is found, or the doubtful path
abbrev pub found_view : List Shape → Result ℕ DoubtfulPath → Result Shape model.DoubtfulPath
found_view table (Ok n) = Ok (shape_at table n)
found_view table (Err d) = Err (doubtful_view table d)

-- what is found in the table: a shape of it, or a path that is doubtful in one
pub record IsFoundIn (size : ℕ) (answer : Result ℕ DoubtfulPath) : Type 0 where
  pub within : IfOk answer (λ n. n < size)
  pub below : IfErr answer (λ d. d.shape < size)
