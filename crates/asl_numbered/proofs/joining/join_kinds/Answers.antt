use Rattle.std.proofs.Common.{refl, subst}
use Rattle.asl_numbered.specs.Joins.{IsArrayJoin, IsObjectJoin}
use Rattle.asl_numbered.proofs.Parts.{kinds_joined, parts_enough}
use Rattle.asl_numbered.proofs.joining.join_kinds.Goals as goal

pub split_at-requires : goal.split_at-requires
split_at-requires c =
    parts_enough c.args.table.now c.args.pair c.args.parts.now c.requires.parts c.in-Some.first c.in-Some.second c.in-Some.ensures.both c.count_array_joins.result (c.count_array_joins.ensures.counted c.args.table.now)

pub returns-in_ok-join_objects-in-Some : goal.returns-in_ok-join_objects-in-Some
returns-in_ok-join_objects-in-Some c =
    let of_arrays = subst (λ numbers. IsArrayJoin c.in-Some.first.arrays c.in-Some.second.arrays numbers c.in_ok-join_arrays-in-Some.field-0) c.split_at.ensures.front c.in_ok-join_arrays-in-Some.ensures.joined in
    let of_objects = subst (λ numbers. IsObjectJoin c.in-Some.first.objects c.in-Some.second.objects numbers c.in_ok-join_objects-in-Some.field-0) c.split_at.ensures.back c.in_ok-join_objects-in-Some.ensures.joined in
    record {
      kinds = kinds_joined c.args.table.now c.args.pair c.args.parts.now c.requires.parts c.in-Some.first c.in-Some.second c.in-Some.ensures.both c.count_array_joins.result (c.count_array_joins.ensures.counted c.args.table.now) _ refl of_arrays of_objects;
    }
