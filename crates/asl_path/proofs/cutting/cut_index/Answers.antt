use Rattle.std.proofs.Common.{◌≡◌, ◌∙◌, ap}
use Rattle.std.specs.Char.{is_ascii_digit}
use Rattle.asl_model.specs.PathSpelling.{front_length}
use Rattle.asl_path.proofs.Bytes.{front_whole}
use Rattle.asl_path.proofs.cutting.cut_index.Goals as goal

pub index_of-requires : goal.index_of-requires
index_of-requires c =
    let n : c.length_in-length.result ≡ front_length is_ascii_digit c.args.text.now = c.length_in-length.ensures ∙ ap (front_length is_ascii_digit) c.as_bytes.ensures.value in
    rw (c.split_at.ensures.front, n) (front_whole is_ascii_digit c.args.text.now)
