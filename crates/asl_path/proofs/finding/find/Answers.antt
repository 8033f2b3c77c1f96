use Rattle.std.proofs.Common.{◌≡◌, ◌∙◌, Some, None, sym, arith}
use Rattle.asl_tree.specs.View.{view}
use Rattle.asl_path.proofs.Nodes.{names_found, found_named, no_further, named_at_end}
use Rattle.asl_path.proofs.finding.find.Goals as goal

pub returns-in_err-node-clause-nothing_named : goal.returns-in_err-node-clause-nothing_named
returns-in_err-node-clause-nothing_named c = λ h t n.
    let l = c.loop-segment in
    let none = no_further c.args.path.now (view c.args.tree.now) (view l.node.now) c.segments-segment-items.result.now l.segment-index c.segment-item.result c.child.result l.invariant (omega arith) c.segment-item.is c.child.ensures c.in_err-node.was in
    let differ : None ≡ Some t = sym none ∙ found_named c.args.path.now (view c.args.tree.now) t n in
    absurd (cc)

pub returns-clause-named : goal.returns-clause-named
returns-clause-named c =
    let l = c.loop-segment in
    names_found c.args.path.now (view c.args.tree.now) _ (named_at_end c.args.path.now (view c.args.tree.now) _ c.segments-segment-items.result.now l.segment-index l.invariant (omega arith))
