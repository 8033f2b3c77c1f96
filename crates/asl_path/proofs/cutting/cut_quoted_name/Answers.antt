use Rattle.std.proofs.Common.{◌∙◌, ap}
use Rattle.asl_model.specs.PathSpelling.{front_length, in_quoted_name}
use Rattle.asl_path.proofs.Bytes.{quoted_name_ascii}
use Rattle.asl_path.proofs.Cuts.{boundary}
use Rattle.asl_path.proofs.cutting.cut_quoted_name.Goals as goal

pub split_at-requires : goal.split_at-requires
split_at-requires c = boundary (in_quoted_name c.args.quote) (λ b. quoted_name_ascii c.args.quote b c.requires) c.args.text.now c.length_in.result (c.length_in.ensures ∙ ap (front_length (in_quoted_name c.args.quote)) c.as_bytes.ensures.value)
