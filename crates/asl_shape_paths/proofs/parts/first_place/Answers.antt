use Rattle.std.proofs.Common.{ap, ◌∙◌, option_map}
use Rattle.asl_numbered.specs.Expansion.{shape_at}
use Rattle.asl_shape_paths.proofs.NumberedParts.{place_got, place_below}
use Rattle.asl_shape_paths.proofs.parts.first_place.Goals as goal

pub returns-clause-part : goal.returns-clause-part
returns-clause-part c =
    λ table. ap (option_map (shape_at table)) c.copied.ensures
    ∙ place_got table c.args.first.now c.args.index c.get.result c.get.ensures.lookup.0 c.get.ensures.lookup.1

pub returns-clause-within : goal.returns-clause-within
returns-clause-within c =
    λ bound below. rw c.copied.ensures (place_below bound c.args.first.now c.args.index c.get.result c.get.ensures.lookup.0 c.get.ensures.lookup.1 below)
