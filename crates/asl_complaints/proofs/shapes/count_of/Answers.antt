use Rattle.std.proofs.Common.{◌∙◌}
use Rattle.asl_complaints.proofs.Keywords.{list_counted}
use Rattle.asl_complaints.proofs.shapes.count_of.Goals as goal

pub returns-in-List : goal.returns-in-List
returns-in-List c = list_counted c.args.list c.in-Some.tree c.in-List.elements c.len.result c.in-Some.is c.in-List.is (c.len.ensures ∙ c.in-List.elements.ok.0)
