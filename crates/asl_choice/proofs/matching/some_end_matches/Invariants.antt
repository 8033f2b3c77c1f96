use Rattle.std.proofs.Common.{◌≡◌, ◌+◌, length}
use Rattle.asl_model.specs.Test.{is_cut_by, some_end}
use Rattle.asl_choice.specs.View.{pattern_view}
use Rattle.asl_choice.proofs.matching.some_end_matches.Given as goal

abbrev pub invariant-loop-behind : goal.invariant-loop-behind
invariant-loop-behind l =
    some_end (is_cut_by (pattern_view l.pattern)) l.text ≡ some_end (is_cut_by (pattern_view l.parts)) l.rest

abbrev pub decreases-loop-behind : goal.decreases-loop-behind
decreases-loop-behind l = length l.parts + length l.rest
