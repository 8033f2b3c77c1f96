use Rattle.asl_numbered.proofs.Comparisons.{right_kept}
use Rattle.asl_numbered.proofs.Joins.{joins_kept}
use Rattle.asl_numbered.proofs.Readings.{given_below}
use Rattle.asl_numbered.proofs.shapes.Shapes.read_spelled.Goals as goal

pub read-answer-requires : goal.read-answer-requires
read-answer-requires c = given_below _ c.args.given (rw c.self.view_is c.requires.given)

pub invariant_of-self : goal.invariant_of-self
invariant_of-self c = (
  right_kept _ _ c.self.inside.compared.entries c.read-answer.ensures.keeps c.self.invariant.0,
  joins_kept _ _ c.self.inside.joined.entries c.read-answer.ensures.keeps c.self.invariant.1,
)
