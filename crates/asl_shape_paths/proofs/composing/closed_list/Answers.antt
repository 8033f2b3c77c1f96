use Rattle.asl_shape_paths.proofs.Shown.{closed_list_refers, closed_list_shape, shows_equal}
use Rattle.asl_shape_paths.proofs.composing.closed_list.Goals as goal

pub put_node-requires-2-clause-refers : goal.put_node-requires-2-clause-refers
put_node-requires-2-clause-refers c =
    closed_list_refers c.args.shapes.now c.put_node.new.shapes c.args.first c.in_ok-rest.rest c.requires.first c.in_ok-rest.ensures.keeps c.in_ok-rest.ensures.shown

pub returns-clause-shown : goal.returns-clause-shown
returns-clause-shown c = shows_equal c.put_node-2.new.shapes _ _ c.put_node-2.result (closed_list_shape c.args.shapes.now c.put_node.new.shapes c.args.first c.in_ok-rest.rest c.requires.first c.in_ok-rest.ensures.keeps c.in_ok-rest.ensures.shown) c.put_node-2.ensures.shown
