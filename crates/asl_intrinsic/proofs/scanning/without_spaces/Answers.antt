use Rattle.std.proofs.Common.{◌∙◌, sym}
use Rattle.asl_intrinsic.proofs.Scans.{spaces_cut}
use Rattle.asl_intrinsic.proofs.scanning.without_spaces.Goals as goal

pub returns : goal.returns
returns c = record { rest = c.cut.ensures.rest ∙ sym (spaces_cut c.args.text.now) }
