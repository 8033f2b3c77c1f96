use Rattle.std.proofs.lemmas.Result.{IfErr-weaker}
use Rattle.asl_tree.specs.View.{view}
use Rattle.asl_records.specs.View.{declared_view}
use Rattle.asl_records.proofs.Standing.{declared_answer, declared_refused}
use Rattle.asl_records.proofs.declarations.read_declared.Goals as goal

pub returns-clause-declared : goal.returns-clause-declared
returns-clause-declared c = declared_answer (view c.args.tree.now) declared_view c.read_record.result c.read_record.ensures.right c.read_record.ensures.declared

pub returns-clause-refused : goal.returns-clause-refused
returns-clause-refused c = IfErr-weaker c.read_record.result _ _ (declared_refused (view c.args.tree.now)) c.read_record.ensures.refused
