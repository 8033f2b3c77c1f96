use Rattle.std.proofs.Common.{refl}
use Rattle.asl_model.specs.Records.{BadVersion}
use Rattle.asl_records.proofs.Versions.{other_version}
use Rattle.asl_records.proofs.certificates.several_of.Goals as goal

pub returns-then-number-ne2-clause-refused : goal.returns-then-number-ne2-clause-refused
returns-then-number-ne2-clause-refused c = rw (other_version c.args.number.now c.if-number-ne1.true c.if-number-ne2.true) (c.record.ensures BadVersion refl)
