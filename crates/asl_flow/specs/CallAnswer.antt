-- What an answer says of the shape that a call, or its arguments, are defined to have.
use Rattle.std.specs.Prelude.{◌≡◌, ◌<◌, ℕ, List, length, Option, option_map, IfSome, Vec}
use Rattle.std.specs.declared.alloc.Global.{Global}
use Rattle.asl_model.specs.Shape.{Shape, Shapes}
use Rattle.asl_numbered.specs.Expansion.{shape_at, shapes_at, AreBelow}

-- the answer is a number of the shape, and there is none where there is no shape
pub record Answers (table : List Shape) (shape : Option Shape) (answer : Option ℕ) : Type 0 where
  pub same : shape ≡ option_map (shape_at table) answer
  pub within : IfSome answer (λ n. n < length table)

-- the same of several, in order
pub record AnswersAll (table : List Shape) (shapes : Option Shapes) (answer : Option (Vec ℕ Global)) : Type 0 where
  pub same : shapes ≡ option_map (λ v. shapes_at table v.items) answer
  pub within : IfSome answer (λ v. AreBelow (length table) v.items)
