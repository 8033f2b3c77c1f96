use Rattle.asl_numbered.specs.Expansion.{shape_at}
use Rattle.asl_numbered.proofs.Built.{example_told}
use Rattle.asl_numbered.proofs.shapes.Shapes.example.Goals as goal

pub returns-in_ok-example-clause-has : goal.returns-in_ok-example-clause-has
returns-in_ok-example-clause-has c =
    rw (← c.self.view_is) (example_told (shape_at c.self.inside.table c.args.number) _ c.is_inhabited.result c.in_ok-example.ensures.as_defined c.is_inhabited.ensures c.if-is_inhabited.true (c.are_proper.ensures.proper c.args.number) c.examples_have_their_shapes.ensures.has)
