use Rattle.asl_numbered.proofs.Ascending.{kind_found, kind_missing, kind_past}
use Rattle.asl_numbered.proofs.Tables.{none_past}
use Rattle.asl_numbered.proofs.table.kind_at.Goals as goal

pub returns-in-Some-clause-one : goal.returns-in-Some-clause-one
returns-in-Some-clause-one c = kind_found _ _ _ _ c.place_of.ensures c.in-Some.ensures.level

pub returns-in-Some-clause-none : goal.returns-in-Some-clause-none
returns-in-Some-clause-none c = kind_missing _ _ _ _ c.place_of.ensures c.in-Some.ensures.level c.in-Some.ensures.proper

pub returns-in-None-clause-none : goal.returns-in-None-clause-none
returns-in-None-clause-none c = λ none. kind_past _ (none_past c.args.table.now c.args.number c.node.result c.in-None.is c.node.ensures.there)
