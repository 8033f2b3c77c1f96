use Rattle.std.proofs.Common.{sym}
use Rattle.asl_model.proofs.PathReading.{Spells-path_of}
use Rattle.asl_intrinsic.proofs.Meanings.{bad_segment, left_out}
use Rattle.asl_intrinsic.proofs.references.path_of.Goals as goal

pub returns-in-Ok : goal.returns-in-Ok
returns-in-Ok c = sym (Spells-path_of c.args.text.now _ c.in-Ok.ensures.path)

pub returns-in-Err-BadSegment : goal.returns-in-Err-BadSegment
returns-in-Err-BadSegment c = let r = c.in-Err-BadSegment in bad_segment c.args.text.now r.field-0 r.field-0-0 r.field-0-is r.ensures.refused

pub returns-in-Err-LeftOut : goal.returns-in-Err-LeftOut
returns-in-Err-LeftOut c = let r = c.in-Err-LeftOut in left_out c.args.text.now r.field-0 r.field-0-0 r.field-0-is r.ensures.refused
