use Rattle.std.proofs.Common.{sym, ◌∙◌}
use Rattle.asl_choice.proofs.Walks.{here_at_star}
use Rattle.asl_choice.proofs.matching.matches.Goals as goal

pub returns-in-AtStar : goal.returns-in-AtStar
returns-in-AtStar c =
    c.some_end_matches.ensures ∙ sym (here_at_star c.args.pattern.now c.in-AtStar.parts.now c.args.text.now c.in-AtStar.rest.now c.in-AtStar.ensures)
