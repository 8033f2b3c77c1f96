use Rattle.asl_streams.proofs.OutputShapes.{lent_numbers}
use Rattle.asl_streams.proofs.fields.Fields.reader.Goals as goal

pub returns-clause-listed : goal.returns-clause-listed
returns-clause-listed c = lent_numbers c.args.self.now.listed c.as_deref.result c.as_deref.ensures.cases
