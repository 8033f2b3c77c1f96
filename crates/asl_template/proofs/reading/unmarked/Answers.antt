use Rattle.asl_template.proofs.Contexts.{mark_found}
use Rattle.asl_template.proofs.reading.unmarked.Goals as goal

pub returns : goal.returns
returns c = mark_found c.args.name.now c.strip_suffix.result c.strip_suffix.ensures.cases
