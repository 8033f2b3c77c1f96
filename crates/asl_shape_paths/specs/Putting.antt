-- What putting one shape into another answers.
use Rattle.std.specs.Prelude.{◌≡◌, ◌<◌, ℕ, List, length, Bool, Result, Ok, Err, IfOk, IfErr}
use Rattle.asl_model.specs.Shape as model
use Rattle.asl_shape_paths.specs.declared.putting.PutRefusal.{PutRefusal}
use Rattle.asl_shape_paths.specs.declared.putting.PutRefusal.TheVariants.{MayNotFit, OutOfMemory}
use Rattle.asl_numbered.specs.declared.node.NodeField.{NodeField}
use Rattle.asl_numbered.specs.Expansion.{shape_at}

-- the mention of a field: whether it is needed, and its shape
abbrev pub mentioned : List model.Shape → NodeField → Bool × model.Shape
mentioned table f = (f.needed, shape_at table f.shape)

-- the refusal is that one, unless memory was refused
abbrev pub IsRefusal : PutRefusal → Result model.Shape ℕ → Type 0
IsRefusal (MayNotFit at) r = r ≡ Err at
IsRefusal OutOfMemory r = Unit {0}

-- the answer is the number of that shape, or that refusal, unless memory was refused
pub record Answers (table : List model.Shape) (r : Result model.Shape ℕ) (answer : Result ℕ PutRefusal) : Type 0 where
  pub within : IfOk answer (λ n. n < length table)
  pub shape : IfOk answer (λ n. r ≡ Ok (shape_at table n))
  pub refusal : IfErr answer (λ refusal. IsRefusal refusal r)
