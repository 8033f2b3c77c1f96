use Rattle.std.proofs.Common.{◌∙◌, ap, Some}
use Rattle.asl_run.specs.declared.nodes.Node.TheVariants as variants
use Rattle.asl_run.proofs.NumbersAlong.{child_in_table, children_fit, number_of_child}
use Rattle.asl_run.proofs.nodes.Nodes.child.Goals as goal

pub nth-requires : goal.nth-requires
nth-requires c =
    children_fit c.args.self.now c.node.ensures.table c.node.ensures.few c.args.parent.0 c.in-Split.visit c.in-Split.children
    (c.node.ensures.node ∙ ap Some c.in-Split.is)

pub returns-in-Split-clause-within : goal.returns-in-Split-clause-within
returns-in-Split-clause-within c =
    child_in_table c.args.self.now c.node.ensures.table c.args.parent.0 c.args.number c.nth.result
    (number_of_child c.args.self.now c.args.parent.0 c.args.number (variants.Split c.in-Split.visit c.in-Split.children) c.nth.result (c.node.ensures.node ∙ ap Some c.in-Split.is) c.nth.ensures)
