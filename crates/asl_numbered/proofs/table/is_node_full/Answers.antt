use Rattle.std.proofs.Common.{◌∙◌}
use Rattle.asl_numbered.proofs.Levels.{not_empty, some_full}
use Rattle.asl_numbered.proofs.table.is_node_full.Goals as goal

pub returns-else-is_empty : goal.returns-else-is_empty
returns-else-is_empty c =
    not_empty _ _ c.in-List.first c.in-List.rest c.is_empty.result c.in-List.is c.if-is_empty.false c.is_empty.ensures

pub returns-in-Several : goal.returns-in-Several
returns-in-Several c =
    c.are_full.ensures ∙ some_full _ _ c.in-Several.parts _ c.in-Several.is c.deref.ensures.value c.requires.proper
