use Rattle.std.proofs.Common.{drop}
use Rattle.asl_choice.specs.View.{pattern_view}
use Rattle.asl_choice.specs.Walking.{StandsBehind}
use Rattle.asl_choice.proofs.matching.walk.Given as goal

abbrev pub invariant-loop-place : goal.invariant-loop-place
invariant-loop-place l = StandsBehind l.pattern l.text (pattern_view (drop l.place l.pattern)) l.rest
