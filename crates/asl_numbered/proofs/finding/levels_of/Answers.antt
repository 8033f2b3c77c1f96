use Rattle.std.proofs.Common.{true, refl, ap}
use Rattle.asl_model.specs.Shape.{Any, ArraysOf, ObjectsOf, NoShapes}
use Rattle.asl_numbered.specs.Expansion.{fields_at}
use Rattle.asl_numbered.specs.Outside.{first_shape}
use Rattle.asl_numbered.proofs.Seeking.{any_levels, kept_levels, same_places, same_mentions}
use Rattle.asl_numbered.proofs.finding.levels_of.Goals as goal

pub returns-in-None-clause-shown : goal.returns-in-None-clause-shown
returns-in-None-clause-shown c =
    λ b. any_levels (first_shape c.args.table.now c.args.first) (ArraysOf NoShapes Any) (ObjectsOf (fields_at c.args.table.now c.args.none.now.entries) true) b c.in-None.ensures.kept refl (ap (λ fs. ObjectsOf (fields_at c.args.table.now fs) true) c.requires.none)

pub returns-in-Some-clause-shown : goal.returns-in-Some-clause-shown
returns-in-Some-clause-shown c =
    let table = c.args.table.now in
    λ b. kept_levels table (first_shape table c.args.first) c.in-Some.kinds c.places_of.result c.mentions_of.result b c.in-Some.ensures.kept (same_places table c.in-Some.kinds.arrays c.places_of.result c.places_of.ensures) (same_mentions table c.in-Some.kinds.objects c.mentions_of.result c.mentions_of.ensures)
