use Rattle.std.proofs.Common.{refl}
use Rattle.asl_model.specs.Records.{WrongKind}
use Rattle.asl_records.proofs.FieldParts.{no_number}
use Rattle.asl_records.proofs.certificates.several_in.Goals as goal

pub returns-in-Null-clause-refused : goal.returns-in-Null-clause-refused
returns-in-Null-clause-refused c = λ reading. rw (no_number c.args.tree.now c.in-Null.is) (c.record.ensures WrongKind refl)
