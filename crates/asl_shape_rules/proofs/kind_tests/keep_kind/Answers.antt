use Rattle.asl_shape_rules.proofs.kind_tests.keep_kind.Goals as goal

pub put_node-requires-clause-proper : goal.put_node-requires-clause-proper
put_node-requires-clause-proper c = c.node_of.ensures.proper c.args.shapes.now
