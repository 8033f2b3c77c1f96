use Rattle.asl_model.proofs.ReadingTemplates.{read_in_order}
use Rattle.asl_model.proofs.reading_laws.templates_as_read_stand_in_order.Goals as goal

pub returns : goal.returns
returns c = read_in_order
