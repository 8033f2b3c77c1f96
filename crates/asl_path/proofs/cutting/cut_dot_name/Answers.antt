use Rattle.std.proofs.Common.{◌∙◌, ap}
use Rattle.asl_model.specs.PathSpelling.{front_length, in_dot_name}
use Rattle.asl_path.proofs.Bytes.{dot_name_ascii}
use Rattle.asl_path.proofs.Cuts.{boundary}
use Rattle.asl_path.proofs.cutting.cut_dot_name.Goals as goal

pub split_at-requires : goal.split_at-requires
split_at-requires c = boundary in_dot_name dot_name_ascii c.args.text.now c.length_in-length.result (c.length_in-length.ensures ∙ ap (front_length in_dot_name) c.as_bytes.ensures.value)
