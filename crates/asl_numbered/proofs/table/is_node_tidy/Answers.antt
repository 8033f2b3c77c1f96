use Rattle.std.proofs.Common.{◌∙◌}
use Rattle.asl_numbered.proofs.Levels.{some_tidy}
use Rattle.asl_numbered.proofs.table.is_node_tidy.Goals as goal

pub returns-in-Several : goal.returns-in-Several
returns-in-Several c =
    c.are_tidy.ensures ∙ some_tidy _ _ c.in-Several.parts _ c.in-Several.is c.deref-in-Several.ensures.value c.requires.proper
