use Rattle.std.proofs.Common.{ap, arith}
use Rattle.asl_tree.specs.View.{view}
use Rattle.asl_processing.specs.Data.{datum_view}
use Rattle.asl_processing.proofs.Children.{all_begun, inputs_begun, none_begun, one_begun, start_begun}
use Rattle.asl_processing.proofs.items.start_branches.Goals as goal

pub loop-start-init : goal.loop-start-init
loop-start-init c = none_begun (datum_view c.args.input.now) c.args.branches.now _ c.in_ok-children.ensures.items

pub loop-start-preserved : goal.loop-start-preserved
loop-start-preserved c =
    let l = c.loop-start in
    one_begun c.args.branches.now l.start-index c.start-item.result c.args.input.now c.in_ok-clone.field-0 c.new.result l.children.items c.push.new.self.items (omega arith) c.start-item.is c.in_ok-push.ensures.items c.new.ensures.begins c.new.ensures.given (ap view c.in_ok-clone.ensures.cases) l.invariant

pub returns-clause-inputs : goal.returns-clause-inputs
returns-clause-inputs c =
    let l = c.loop-start in
    inputs_begun (datum_view c.args.input.now) c.args.branches.now l.children.items (all_begun (datum_view c.args.input.now) c.args.branches.now l.start-index l.children.items (omega arith) l.invariant)

pub returns-clause-starts : goal.returns-clause-starts
returns-clause-starts c = λ names leads.
    let l = c.loop-start in
    start_begun names (datum_view c.args.input.now) c.args.branches.now l.children.items (all_begun (datum_view c.args.input.now) c.args.branches.now l.start-index l.children.items (omega arith) l.invariant) leads
