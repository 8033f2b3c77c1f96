use Rattle.std.proofs.Common.{◌≡◌, ◌++◌, length, option_map}
use Rattle.asl_model.specs.RuleSpelling.{pattern_of}
use Rattle.asl_choice.specs.View.{pattern_view}
use Rattle.asl_choice.proofs.patterns.read_pattern.Given as goal

abbrev pub invariant-loop-first : goal.invariant-loop-first
invariant-loop-first l = pattern_of l.text ≡ option_map (λ further. pattern_view l.parts.items ++ further) (pattern_of l.rest)

abbrev pub decreases-loop-first : goal.decreases-loop-first
decreases-loop-first l = length l.rest
