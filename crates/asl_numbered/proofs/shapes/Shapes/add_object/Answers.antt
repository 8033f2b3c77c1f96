use Rattle.asl_numbered.proofs.Comparisons.{right_kept}
use Rattle.asl_numbered.proofs.Joins.{joins_kept}
use Rattle.asl_numbered.proofs.shapes.Shapes.add_object.Goals as goal

pub invariant_of-self : goal.invariant_of-self
invariant_of-self c = (
  right_kept _ _ c.self.inside.compared.entries c.put_object.ensures.keeps c.self.invariant.0,
  joins_kept _ _ c.self.inside.joined.entries c.put_object.ensures.keeps c.self.invariant.1,
)
