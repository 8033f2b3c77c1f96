use Rattle.std.proofs.Common.{◌≡◌, ◌≤◌, length, take, drop, option_map}
use Rattle.std.specs.Slice.Iter.{iter_rest}
use Rattle.asl_model.specs.Examples.{elements_outside, outside}
use Rattle.asl_numbered.specs.Comparison.{AreRight}
use Rattle.asl_numbered.specs.Examples.{examples_at}
use Rattle.asl_numbered.specs.Expansion.{shape_at, shapes_at, AreBelow}
use Rattle.asl_numbered.specs.Outside.{first_shape, found_elements}
use Rattle.asl_numbered.proofs.Seeking.{lead}
use Rattle.asl_numbered.proofs.finding.find_place.Given as goal

abbrev pub invariant-loop-index : goal.invariant-loop-index
invariant-loop-index l =
    (found_elements l.table l.inner l.outer
    ≡ option_map (lead (examples_at l.table (take l.index l.inner.places.now))) (elements_outside (shapes_at l.table (drop l.index l.inner.places.now)) (first_shape l.table l.inner.further) (shapes_at l.table (iter_rest l.left)) (λ s. outside s (shape_at l.table l.outer.rest))))
    × AreBelow l.bound (iter_rest l.left)
    × (length (iter_rest l.left) ≤ length (drop l.index l.inner.places.now))
    × AreRight l.table l.compared.entries
