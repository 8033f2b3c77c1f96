use Rattle.std.proofs.Common.{◌∙◌, ap, arith}
use Rattle.asl_model.specs.Tree.{Array, trees_of}
use Rattle.asl_tree.proofs.Wholes.{view_list}
use Rattle.asl_numbered.proofs.Stepping.{below_len, between_built}
use Rattle.asl_numbered.proofs.outside.build_between.Goals as goal

pub push_examples-requires-clause-within : goal.push_examples-requires-clause-within
push_examples-requires-clause-within c = omega (arith, c.len.ensures)

pub push_examples-requires-clause-below : goal.push_examples-requires-clause-below
push_examples-requires-clause-below c = below_len c.args.table.now c.len.result c.args.before.now c.len.ensures c.requires.before

pub push_examples-requires-2-clause-within : goal.push_examples-requires-2-clause-within
push_examples-requires-2-clause-within c = omega (arith, c.len-2.ensures)

pub push_examples-requires-2-clause-below : goal.push_examples-requires-2-clause-below
push_examples-requires-2-clause-below c = below_len c.args.table.now c.len-2.result c.args.behind.now c.len-2.ensures c.requires.behind

pub returns : goal.returns
returns c =
    view_list c.push_examples-2.new.trees
    ∙ ap (λ ts. Array (trees_of ts)) (between_built c.args.table.now c.new-trees.result.items c.push_examples.new.trees.items c.push.new.self.items c.push_examples-2.new.trees.items c.args.inside c.args.before.now c.args.behind.now c.new-trees.ensures.items c.in_ok-push_examples.ensures.put c.in_ok-push.ensures.items c.in_ok-push_examples-2.ensures.put)
