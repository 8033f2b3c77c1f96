use Rattle.std.proofs.Common.{◌≡◌, drop, pos, true, int_lt, FitsSigned, w64, to_z-of_z, sym, ap, ◌∙◌, subst, arith, take_all, length-drop}
use Rattle.fast_float.specs.Text.{scan}
use Rattle.asl_tree.proofs.Integers.{unsigned_there, negative_there, without_sign, behind_sign}
use Rattle.asl_tree.proofs.parsing.integer_of.Goals as goal

pub returns-then-not-has_minus : goal.returns-then-not-has_minus
returns-then-not-has_minus c =
    let s = c.args.bytes.now in
    rw (without_sign s (sym c.if-not-has_minus.ensures.value), ← c.scan.ensures.parts) (unsigned_there c.scan.result c.to_i64.result c.to_i64.ensures)

pub returns-then-n-lt0 : goal.returns-then-n-lt0
returns-then-n-lt0 c =
    let s = c.args.bytes.now in
    let n = c.in_ok-n.n in
    let is = c.in_ok-n.ensures in
    let fits : FitsSigned w64 n = subst (FitsSigned w64) (sym is.1) is.0.1 in
    let below : int_lt n (pos 0) ≡ true = subst (λ z. int_lt z (pos 0) ≡ true) (to_z-of_z fits) c.if-n-lt0.true in
    let parts : c.scan-2.result ≡ scan (drop 1 s) = c.scan-2.ensures.parts ∙ ap scan (take_all _ (drop 1 s) (omega (arith, length-drop 1 s))) in
    rw (to_z-of_z fits, behind_sign s (sym c.if-not-has_minus.ensures.value), ← parts) (negative_there c.scan-2.result n is.0.0 is.0.1 is.1 below)
