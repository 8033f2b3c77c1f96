use Rattle.std.proofs.Common.{ap}
use Rattle.asl_run.specs.Nodes.{range_of}
use Rattle.asl_run.proofs.Parents.{passed_there}
use Rattle.asl_run.proofs.Parts.{read_there}
use Rattle.asl_run.proofs.standing.note_end.Goals as goal

pub further-requires-clause-range : goal.further-requires-clause-range
further-requires-clause-range c = record {
  table = c.node.ensures.table;
  few = c.node.ensures.few;
  within = (c.node.ensures.table.ranges c.in-Some.parent.0 c.node.result.now c.in-Split.children c.node.ensures.node (ap range_of c.in-Split.is)).within;
}

pub further-requires-clause-inside : goal.further-requires-clause-inside
further-requires-clause-inside c =
    let far = c.index-far.result.now in
    c.requires.inside c.in-Some.parent c.node.result.now c.in-Split.children far c.in-Some.is c.node.ensures.node (ap range_of c.in-Split.is)
    (read_there c.args.progress.now.items c.in-Some.parent.0 far (c.requires.noted c.in-Some.parent c.in-Some.is).1 c.index-far.ensures)

pub returns-in-Split : goal.returns-in-Split
returns-in-Split c =
    let far = c.index-far.result.now in
    passed_there c.args.nodes.now c.args.progress.now.items c.args.parent c.args.number.0 c.in-Some.parent c.node.result.now c.in-Split.children far c.further.result c.requires c.in-Some.is c.node.ensures.node (ap range_of c.in-Split.is)
    (read_there c.args.progress.now.items c.in-Some.parent.0 far (c.requires.noted c.in-Some.parent c.in-Some.is).1 c.index-far.ensures) c.further.ensures
