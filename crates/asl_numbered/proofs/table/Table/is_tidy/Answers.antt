use Rattle.std.proofs.Common.{◌≡◌, Some, slice_get, sym, ap}
use Rattle.asl_numbered.specs.declared.node.Node.{Node}
use Rattle.asl_numbered.specs.declared.table.Facts.{Facts}
use Rattle.asl_numbered.specs.Kinds.{tidy}
use Rattle.asl_numbered.proofs.Levels.{entry_past}
use Rattle.asl_numbered.proofs.table.Table.is_tidy.Goals as goal

pub returns-in-Some : goal.returns-in-Some
returns-in-Some c =
    let es = c.self.inside.nodes.entries in
    let e : Node × Facts = (c.in-Some.entry.0.now, c.in-Some.entry.1.now) in
    let at : slice_get es c.args.number ≡ Some e = sym c.in-Some.ensures.entry in
    rw (← c.self.view_is) (c.self.invariant.facts c.args.number e at).tidy

pub returns-in-None : goal.returns-in-None
returns-in-None c =
    rw (← c.self.view_is) (sym (ap tidy (entry_past c.self.inside.nodes.entries c.args.number c.in-None.ensures.entry)))
