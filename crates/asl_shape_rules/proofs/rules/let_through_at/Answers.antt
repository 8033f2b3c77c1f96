use Rattle.asl_shape_paths.proofs.FoundPaths.{found_own}
use Rattle.asl_shape_rules.proofs.rules.let_through_at.Goals as goal

pub returns-clause-number : goal.returns-clause-number
returns-clause-number c =
    found_own c.narrow_inhabited.new.shapes c.in_ok-answer.answer c.are_distinct.ensures.distinct c.in_ok-answer.ensures.within
