use Rattle.std.proofs.Common.{◌≡◌, ◌&&◌, Some, slice_get, sym, ap, ◌∙◌}
use Rattle.asl_model.specs.ShapeOrder.{takes_all}
use Rattle.asl_numbered.specs.declared.node.Node.{Node}
use Rattle.asl_numbered.specs.declared.table.Facts.{Facts}
use Rattle.asl_numbered.specs.Kinds.{of_every_kind}
use Rattle.asl_numbered.proofs.Levels.{entry_past, takes_all_at}
use Rattle.asl_numbered.proofs.table.Table.takes_all.Goals as goal

pub returns-then-entry : goal.returns-then-entry
returns-then-entry c =
    let es = c.self.inside.nodes.entries in
    let e : Node × Facts = (c.in-Some.entry.0.now, c.in-Some.entry.1.now) in
    let at : slice_get es c.args.number ≡ Some e = sym c.in-Some.ensures.entry in
    rw (← c.self.view_is) (c.has_every_kind.ensures ∙ sym (takes_all_at es c.args.number e c.self.invariant at ∙ ap (λ b. b && of_every_kind e.0) c.if-entry.true))

pub returns-in-None : goal.returns-in-None
returns-in-None c =
    rw (← c.self.view_is) (sym (ap takes_all (entry_past c.self.inside.nodes.entries c.args.number c.in-None.ensures.entry)))
