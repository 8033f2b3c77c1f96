use Rattle.std.proofs.Common.{◌⊎◌, ◌≢◌, ◌∙◌, ap, get_or, ◌≤◌, length, inl, inr, arith}
use Rattle.std.specs.List.{slice_index}
use Rattle.asl_path.proofs.Cuts.{index_parsed}
use Rattle.asl_path.proofs.cutting.index_of.Goals.{else-digits-gt1-via-then-digits-gt1+else-as_bytes-eq48, else-digits-gt1-via-else-digits-gt1}
use Rattle.asl_path.proofs.cutting.index_of.Goals as goal

pub returns : goal.returns
returns c =
    let zeros : (length c.args.digits.now ≤ 1) ⊎ (slice_index c.args.digits.now 0 ≢ 48) = elim c.else-digits-gt1.branch [ else-digits-gt1-via-then-digits-gt1+else-as_bytes-eq48 w ↦ inr (λ e. w.if-as_bytes-eq48.false (ap (λ s. get_or s 0 0) w.as_bytes.ensures.value ∙ e)) | else-digits-gt1-via-else-digits-gt1 w ↦ inl (omega (arith, w)) ] in
    index_parsed c.args.digits.now c.parse.result c.ok.result c.requires zeros c.parse.ensures.value.0 c.ok.ensures.value
