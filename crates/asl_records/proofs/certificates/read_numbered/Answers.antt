use Rattle.std.proofs.lemmas.Result.{IfErr-weaker}
use Rattle.asl_tree.specs.View.{view}
use Rattle.asl_records.specs.Numbered.{numbered_view}
use Rattle.asl_records.proofs.Standing.{certificate_answer, certificate_refused}
use Rattle.asl_records.proofs.certificates.read_numbered.Goals as goal

pub returns-clause-certificate : goal.returns-clause-certificate
returns-clause-certificate c = certificate_answer (view c.args.tree.now) numbered_view c.read_record.result c.read_record.ensures.right c.read_record.ensures.certificate

pub returns-clause-refused : goal.returns-clause-refused
returns-clause-refused c = IfErr-weaker c.read_record.result _ _ (certificate_refused (view c.args.tree.now)) c.read_record.ensures.refused
