use Rattle.std.proofs.Common.{◌∙◌}
use Rattle.asl_numbered.proofs.Levels.{some_inhabited}
use Rattle.asl_numbered.proofs.table.node_inhabited.Goals as goal

pub returns-in-Several-clause-inhabited : goal.returns-in-Several-clause-inhabited
returns-in-Several-clause-inhabited c =
    c.some_inhabited.ensures ∙ some_inhabited _ _ c.in-Several.parts _ c.in-Several.is c.deref-in-Several.ensures.value c.requires.proper
