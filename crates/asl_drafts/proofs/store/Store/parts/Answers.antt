use Rattle.asl_drafts.proofs.Rebuilt.{parts_there, parts_below}
use Rattle.asl_drafts.proofs.store.Store.parts.Goals as goal

pub returns-in-Some-clause-parts : goal.returns-in-Some-clause-parts
returns-in-Some-clause-parts c =
    rw (← c.self.view_is) (parts_there c.self.inside.shapes c.args.number c.in-Some.kinds c.parts_in.result c.in-Some.ensures.shown c.parts_in.ensures)

pub returns-in-Some-clause-below : goal.returns-in-Some-clause-below
returns-in-Some-clause-below c =
    rw (← c.self.view_is) (parts_below c.self.inside.shapes c.args.number c.in-Some.kinds c.parts_in.result (rw (← c.self.view_is) at c.requires) c.in-Some.ensures.within c.parts_in.ensures)
