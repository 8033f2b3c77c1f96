use Rattle.std.proofs.Common.{length}
use Rattle.asl_numbered.specs.Laws.{below-wider}
use Rattle.asl_drafts.specs.Parts.{numbers_in_kinds}
use Rattle.asl_drafts.proofs.Rebuilt.{kinds_below}
use Rattle.asl_drafts.proofs.depths.depth_from.Goals as goal

pub depth_over-requires : goal.depth_over-requires
depth_over-requires c =
    let kinds = c.in-Some.kinds in
    below-wider c.args.number (length c.args.depths.now) (numbers_in_kinds kinds) c.requires.known (kinds_below c.args.shapes.now c.args.number kinds c.in-Some.ensures.within)
