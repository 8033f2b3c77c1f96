use Rattle.std.proofs.Common.{◌∙◌}
use Rattle.asl_drafts.proofs.Known.{cut_found}
use Rattle.asl_drafts.proofs.store.Store.known.Goals as goal

pub returns : goal.returns
returns c = rw (← c.self.view_is) (cut_found c.self.inside.shapes c.self.inside.cuts.entries c.args.cut c.copied.result c.self.invariant.1 (c.copied.ensures ∙ c.get.ensures.value))
