use Rattle.std.proofs.Common.{sym, ◌∙◌}
use Rattle.asl_model.specs.Test.{is_cut_by}
use Rattle.asl_choice.specs.View.{pattern_view}
use Rattle.asl_choice.proofs.Walks.{end_at_star, passes_here}
use Rattle.asl_choice.proofs.matching.some_end_matches.Goals as goal

pub returns-in-Matched : goal.returns-in-Matched
returns-in-Matched c = sym (c.loop-behind.invariant ∙ passes_here (is_cut_by (pattern_view c.loop-behind.parts.now)) c.loop-behind.rest.now c.in-Matched.ensures)

pub loop-behind-preserved-in-AtStar : goal.loop-behind-preserved-in-AtStar
loop-behind-preserved-in-AtStar c =
    c.loop-behind.invariant ∙ end_at_star c.loop-behind.parts.now c.in-AtStar.behind.now c.loop-behind.rest.now c.in-AtStar.left.now c.in-AtStar.ensures
