use Rattle.std.proofs.Common.{true}
use Rattle.asl_tree.specs.View.{view as tree_view}
use Rattle.asl_numbered.proofs.Plain.{as_spelled, spelled_alone, refused_alone}
use Rattle.asl_numbered.proofs.shapes.Shapes.read_with.Goals as goal

pub returns-clause-spelled_alone : goal.returns-clause-spelled_alone
returns-clause-spelled_alone c none =
    let spelled = spelled_alone true c.args.self.now c.read_spelled.new.self c.args.given (tree_view c.args.tree.now) c.read_spelled.result none c.read_spelled.ensures.spelled in
    as_spelled c.read_spelled.new.self (tree_view c.args.tree.now) c.read_spelled.result spelled

pub returns-clause-refused_alone : goal.returns-clause-refused_alone
returns-clause-refused_alone c none =
    refused_alone true c.args.self.now c.args.given (tree_view c.args.tree.now) c.read_spelled.result none c.read_spelled.ensures.refused
