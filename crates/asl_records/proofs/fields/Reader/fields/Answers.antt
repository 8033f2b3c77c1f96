use Rattle.std.proofs.Common.{refl}
use Rattle.asl_model.specs.Records.{NotObject}
use Rattle.asl_records.proofs.FieldParts.{no_object}
use Rattle.asl_records.proofs.fields.Reader.fields.Goals as goal

pub returns-in-Null-clause-refused : goal.returns-in-Null-clause-refused
returns-in-Null-clause-refused c = λ reading rows. rw (no_object c.args.tree.now c.in-Null.is) (c.refuse.ensures NotObject refl)
