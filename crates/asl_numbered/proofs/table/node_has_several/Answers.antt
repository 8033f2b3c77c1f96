use Rattle.asl_numbered.proofs.Levels.{has_several}
use Rattle.asl_numbered.proofs.table.node_has_several.Goals as goal

pub returns-in-Several : goal.returns-in-Several
returns-in-Several c = has_several _ _ c.in-Several.field-0 c.in-Several.is c.requires.proper
