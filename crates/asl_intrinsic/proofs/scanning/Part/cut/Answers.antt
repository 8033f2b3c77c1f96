use Rattle.std.proofs.Common.{◌∙◌, ap}
use Rattle.asl_model.specs.PathSpelling.{front_length}
use Rattle.asl_intrinsic.specs.Parts.{may_stand_in}
use Rattle.asl_intrinsic.proofs.Scans.{part_ends}
use Rattle.asl_intrinsic.proofs.scanning.Part.cut.Goals as goal

pub split_at-requires : goal.split_at-requires
split_at-requires c = part_ends c.args.self c.args.text.now c.length_in.result c.utf8.text (c.length_in.ensures ∙ ap (front_length (may_stand_in c.args.self)) c.as_bytes.ensures.value)
