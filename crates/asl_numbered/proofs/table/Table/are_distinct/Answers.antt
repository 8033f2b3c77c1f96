use Rattle.asl_numbered.proofs.table.Table.are_distinct.Goals as goal

pub returns : goal.returns
returns c = rw (← c.self.view_is) (record { distinct = c.self.invariant.distinct })
