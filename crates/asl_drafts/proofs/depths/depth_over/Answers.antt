use Rattle.std.proofs.Common.{length}
use Rattle.asl_numbered.specs.Laws.{below-behind, below-front}
use Rattle.asl_drafts.specs.Parts.{numbers_in_arrays, numbers_in_objects}
use Rattle.asl_drafts.proofs.depths.depth_over.Goals as goal

pub deepest_element-requires : goal.deepest_element-requires
deepest_element-requires c = below-behind (length c.args.depths.now) (numbers_in_objects c.args.kinds.objects) (numbers_in_arrays c.args.kinds.arrays) c.requires

pub deepest_of_objects-requires : goal.deepest_of_objects-requires
deepest_of_objects-requires c = below-front (length c.args.depths.now) (numbers_in_objects c.args.kinds.objects) (numbers_in_arrays c.args.kinds.arrays) c.requires
