use Rattle.std.proofs.Common.{refl, ◌∙◌}
use Rattle.asl_numbered.specs.Laws.{kept_shape, number_shows, told_shows}
use Rattle.asl_samples.proofs.Joined.{still-within}
use Rattle.asl_samples.proofs.sampling.joined_with.Goals as goal

pub unwrap-requires : goal.unwrap-requires
unwrap-requires c =
    let own = number_shows c.literal_shape_at.new.shapes _ c.in_ok-own.own c.in_ok-own.ensures.number in
    c.in_ok-joined.ensures.exactly.1 (still-within c.args.shapes.now c.literal_shape_at.new.shapes c.args.number c.in_ok-own.ensures.keeps c.requires, own.within)

pub returns : goal.returns
returns c =
    let own = number_shows c.literal_shape_at.new.shapes _ c.in_ok-own.own c.in_ok-own.ensures.number in
    let joined = told_shows c.join.new.self _ c.in_ok-joined.joined c.unwrap.result c.in_ok-joined.ensures.as_defined c.unwrap.ensures in
    let kept = kept_shape c.args.shapes.now c.literal_shape_at.new.shapes c.args.number c.in_ok-own.ensures.keeps c.requires in
    record { within = joined.within; same = joined.same ∙ rw (kept, own.same) refl }
