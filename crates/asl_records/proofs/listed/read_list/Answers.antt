use Rattle.std.proofs.Common.{refl}
use Rattle.asl_model.specs.Records.{WrongKind}
use Rattle.asl_records.proofs.FieldParts.{no_array}
use Rattle.asl_records.proofs.listed.read_list.Goals as goal

pub returns-in-Null-clause-refused : goal.returns-in-Null-clause-refused
returns-in-Null-clause-refused c = rw (no_array c.args.tree.now c.in-Null.is) (c.record.ensures WrongKind refl)
