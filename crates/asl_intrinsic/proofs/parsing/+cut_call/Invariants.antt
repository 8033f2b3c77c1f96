use Rattle.std.proofs.Common.{◌+◌, ◌*◌, ◌-◌, length}
use denote.Shadow.{shadow}
use denote.Text.{Utf8}
use Rattle.asl_model.specs.CallSpelling.{cut_arguments, cut_call}
use Rattle.asl_intrinsic.specs.Meaning.{arguments_seen}
use Rattle.asl_intrinsic.proofs.Calls.{SoFar}
use Rattle.asl_intrinsic.proofs.parsing.+cut_call.Given as goal

abbrev pub decreases-cut_call : goal.decreases-cut_call
decreases-cut_call l = 5 * l.depth

abbrev pub decreases-cut_inside : goal.decreases-cut_inside
decreases-cut_inside l = 5 * l.depth + 4

abbrev pub decreases-cut_arguments : goal.decreases-cut_arguments
decreases-cut_arguments l = 5 * l.depth + 3

abbrev pub decreases-cut_argument : goal.decreases-cut_argument
decreases-cut_argument l = 5 * l.depth + 2

abbrev pub decreases-cut_word : goal.decreases-cut_word
decreases-cut_word l = 5 * l.depth + 1

abbrev pub invariant-cut_arguments-loop : goal.invariant-cut_arguments-loop
invariant-cut_arguments-loop l =
    shadow (Utf8 l.left)
    × SoFar l.item (cut_arguments (λ rest. cut_call l.depth rest) (length l.text) l.text) (cut_arguments (λ rest. cut_call l.depth rest) (length l.text - l.counter) l.left) (arguments_seen l.arguments)
