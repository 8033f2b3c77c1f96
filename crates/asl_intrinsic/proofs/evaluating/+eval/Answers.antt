use Rattle.std.proofs.Common.{◌+◌, arith, rules}
use Rattle.asl_tree.specs.View as trees
use Rattle.asl_intrinsic.specs.View.{at_hand}
use Rattle.asl_intrinsic.proofs.Arguments.{argument_taken, values_gone_through, values_refused}
use Rattle.asl_intrinsic.proofs.evaluating.+eval.Goals as goal

pub argument_values-returns-in_err-argument_value-clause-values :
    goal.argument_values-returns-in_err-argument_value-clause-values
argument_values-returns-in_err-argument_value-clause-values t c =
    values_refused (trees.view c.args.input.now) (at_hand c.args.item) _ _ c.in_err-argument_value.field-0.0 c.argument_value.result c.args.arguments.now c.loop-argument.argument-index c.argument-item.result (search rules) (search rules) c.loop-argument-test.true c.argument-item.is c.argument_value.ensures.value

pub argument_values-loop-argument-preserved : goal.argument_values-loop-argument-preserved
argument_values-loop-argument-preserved t c =
    let l = c.loop-argument in
    argument_taken (trees.view c.args.input.now) (at_hand c.args.item) c.args.arguments.now l.argument-index (l.argument-index + 1) l.values.items c.push.new.self.items c.argument-item.result c.in_ok-argument_value.field-0 c.loop-argument-test.true (omega arith) c.argument-item.is l.invariant c.in_ok-argument_value.ensures.value.gives c.in_ok-argument_value.ensures.literal c.in_ok-push.ensures.items

pub argument_values-returns-clause-values : goal.argument_values-returns-clause-values
argument_values-returns-clause-values t c =
    record { gives = values_gone_through (trees.view c.args.input.now) (at_hand c.args.item) c.args.arguments.now c.loop-argument.argument-index c.loop-argument.values.items c.loop-argument-test.false c.loop-argument.invariant.0; fails = λ e. absurd (cc) }
