use Rattle.asl_state_edges.proofs.Adding.{added_below, added_seen}
use Rattle.asl_state_edges.proofs.found.edges_of.Goals as goal

pub returns-clause-walked : goal.returns-clause-walked
returns-clause-walked c = added_seen c.walk.new.shapes _ _ _ c.new-steps.ensures.items c.in_ok-walk.ensures.adds

pub returns-clause-below : goal.returns-clause-below
returns-clause-below c = added_below c.walk.new.shapes _ _ _ c.new-steps.ensures.items c.in_ok-walk.ensures.adds
