use Rattle.std.proofs.Common.{◌∙◌, sym}
use Rattle.asl_intrinsic.proofs.Numbers.{negative_refused}
use Rattle.asl_intrinsic.proofs.words.negated.Goals as goal

pub returns-in_err-ok : goal.returns-in_err-ok
returns-in_err-ok c = c.from_residual.ensures ∙ sym (negative_refused c.args.digits.now c.parse.result c.ok.result c.requires c.parse.ensures.value.0 c.ok.ensures.value c.in_err-ok.was)
