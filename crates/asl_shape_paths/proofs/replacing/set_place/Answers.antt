use Rattle.std.proofs.Common.{refl, arith}
use Rattle.asl_shape_paths.proofs.Replaced.{place_set, no_place}
use Rattle.asl_shape_paths.proofs.replacing.set_place.Goals as goal

pub returns-in-Some : goal.returns-in-Some
returns-in-Some c =
    place_set c.args.places.now.items _ c.args.index c.args.number (omega (arith, c.args.places.now.ok.0, c.in-Some.ensures.variant.0 refl)) refl

pub returns-in-None : goal.returns-in-None
returns-in-None c = no_place c.args.places.now.items _ c.args.index c.args.number c.in-None.ensures.item.3 refl
