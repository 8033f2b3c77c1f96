use Rattle.std.proofs.Common.{◌≡◌, ◌∙◌, ap, sym, get_or, arith}
use Rattle.std.proofs.lemmas.Str.{IsCharBoundary-after_ascii}
use Rattle.asl_path.proofs.cutting.after.Goals as goal

pub split_at-requires : goal.split_at-requires
split_at-requires c =
    let first : get_or c.args.text.now 0 0 ≡ c.args.byte = ap (λ s. get_or s 0 0) (sym c.as_bytes.ensures.value) ∙ c.if-first-byte.true in
    IsCharBoundary-after_ascii c.args.text.now 0 c.utf8.text (omega arith) (omega arith)
