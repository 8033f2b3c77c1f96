use Rattle.std.proofs.Common.{arith}
use Rattle.asl_intrinsic.proofs.Answers.{one_is_taken}
use Rattle.asl_intrinsic.proofs.functions.array_length.Goals.{in_default-via-then-values-lt1, in_default-via-else-values-lt1+else-values-lt2}
use Rattle.asl_intrinsic.proofs.functions.array_length.Goals as goal

pub returns-in_default : goal.returns-in_default
returns-in_default c = elim c.in_default.branch [
  | in_default-via-then-values-lt1 w ↦ one_is_taken c.args.values.now (λ e. absurd (grind arith))
  | in_default-via-else-values-lt1+else-values-lt2 w ↦ one_is_taken c.args.values.now (λ e. absurd (grind arith))
]
