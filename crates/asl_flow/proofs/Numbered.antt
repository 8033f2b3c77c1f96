-- The number of a shape is that of an equal one.
use Rattle.std.proofs.Common.{◌≡◌, ℕ, List, Result, IfOk}
use Rattle.asl_model.specs.Shape.{Shape}
use Rattle.asl_tree.specs.declared.OutOfMemory.{OutOfMemory}
use Rattle.asl_numbered.specs.Expansion.{IsNumberOf}

pub renumbered : (table : List Shape) (s t : Shape) (r : Result ℕ OutOfMemory) → s ≡ t → IfOk r (IsNumberOf table s) → IfOk r (IsNumberOf table t)
renumbered table s t r e h = rw (← e) h
