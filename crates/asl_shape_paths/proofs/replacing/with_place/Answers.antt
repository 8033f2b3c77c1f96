use Rattle.asl_shape_paths.proofs.Replaced.{copied_all, copy_set}
use Rattle.asl_shape_paths.proofs.replacing.with_place.Goals as goal

pub returns : goal.returns
returns c =
    let copied = copied_all c.in_ok-changed.changed.items c.extend_from_slice.new.self.items c.args.places.now c.in_ok-changed.ensures.items c.in_ok-extend_from_slice.ensures.items in
    copy_set c.args.places.now c.extend_from_slice.new.self.items c.set_place.new.places.items c.args.index c.args.number copied c.set_place.ensures
