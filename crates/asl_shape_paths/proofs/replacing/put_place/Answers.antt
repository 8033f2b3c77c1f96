use Rattle.std.proofs.Common.{length}
use Rattle.asl_shape_paths.proofs.Replaced.{place_refers}
use Rattle.asl_shape_paths.proofs.replacing.put_place.Goals as goal

pub put_node-requires-clause-refers : goal.put_node-requires-clause-refers
put_node-requires-clause-refers c =
    let arrays = c.in-Some.arrays in
    place_refers (length c.args.shapes.now) c.args.place c.args.index arrays.first.now c.in_ok-first.first arrays.rest c.in-Some.ensures.within.first c.in-Some.ensures.within.rest c.requires.place c.in_ok-first.ensures
