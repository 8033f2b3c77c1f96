use Rattle.asl_ways.proofs.leaving.Walker.start.Goals as goal

pub returns-in-Some-clause-below : goal.returns-in-Some-clause-below
returns-in-Some-clause-below c = c.in_ok-shape.ensures.number.within
