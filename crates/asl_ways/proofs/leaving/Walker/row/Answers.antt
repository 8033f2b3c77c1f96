use Rattle.asl_ways.proofs.leaving.Walker.row.Goals as goal

pub returns-clause-below : goal.returns-clause-below
returns-clause-below c = c.in_ok-entry.ensures.below
