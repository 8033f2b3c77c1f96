use Rattle.asl_drafts.proofs.store.Store.edges.Goals as goal

pub returns-clause-walked : goal.returns-clause-walked
returns-clause-walked c = rw (← c.self.view_is) c.edges_of.ensures.walked
