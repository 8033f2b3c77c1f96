use Rattle.std.proofs.Common.{refl}
use Rattle.asl_numbered.proofs.Parts.{objects_joined}
use Rattle.asl_numbered.proofs.joining.join_both_objects.Goals as goal

pub returns : goal.returns
returns c = record {
  joined = objects_joined c.args.objects c.args.others c.args.parts.now c.in_ok-joined.joined.entries c.add_others.new.joined _ c.in_ok-joined.ensures.joined c.in_ok-add_others.ensures.added refl;
}
