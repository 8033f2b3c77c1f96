use Rattle.asl_numbered.proofs.ProperShapes.{all_proper}
use Rattle.asl_numbered.proofs.table.Table.are_proper.Goals as goal

pub returns : goal.returns
returns c = rw (← c.self.view_is) (record { proper = all_proper c.self.inside.nodes.entries c.self.invariant })
