use Rattle.asl_fields.proofs.Told.{tells_then}
use Rattle.asl_fields.proofs.field_telling.tell_fields.Goals as goal

pub returns : goal.returns
returns c = tells_then c.in_ok-tell_rows.ensures c.in_ok-tell_foreign.ensures
