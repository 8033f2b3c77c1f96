use Rattle.std.proofs.Common.{◌≡◌, Some, slice_get, sym}
use Rattle.asl_numbered.specs.declared.node.Node.{Node}
use Rattle.asl_numbered.specs.declared.table.Facts.{Facts}
use Rattle.asl_numbered.proofs.Tables.{shapes_length}
use Rattle.asl_numbered.proofs.table.Table.inhabited.Goals as goal

pub returns-in-Some : goal.returns-in-Some
returns-in-Some c =
    let es = c.self.inside.nodes.entries in
    let e : Node × Facts = (c.in-Some.entry.0.now, c.in-Some.entry.1.now) in
    let at : slice_get es c.args.number ≡ Some e = sym c.in-Some.ensures.entry in
    rw (← c.self.view_is) (record { there = rw (shapes_length es) c.in-Some.ensures.found; as_defined = (c.self.invariant.facts c.args.number e at).inhabited })

pub returns-in-None : goal.returns-in-None
returns-in-None c =
    rw (← c.self.view_is) (record { there = rw (shapes_length c.self.inside.nodes.entries) c.in-None.ensures.found; as_defined = tt })
