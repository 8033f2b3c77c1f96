use Rattle.std.proofs.Common.{◌∙◌, ap}
use Rattle.asl_model.specs.CallSpelling.{path_length}
use Rattle.asl_intrinsic.proofs.Scans.{path_ends}
use Rattle.asl_intrinsic.proofs.scanning.cut_path.Goals as goal

pub split_at-requires : goal.split_at-requires
split_at-requires c = path_ends c.args.text.now c.path_length.result (c.path_length.ensures ∙ ap (path_length 0) c.as_bytes.ensures.value)
