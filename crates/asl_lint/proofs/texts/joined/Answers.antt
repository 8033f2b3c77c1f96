use Rattle.std.proofs.Common.{map, ap, ◌∙◌}
use Rattle.std.proofs.lemmas.List.{map-append}
use Rattle.asl_problems.specs.Told.{told_by}
use Rattle.asl_lint.proofs.texts.joined.Goals as goal

pub returns : goal.returns
returns c = ap (map told_by) c.in_ok-append.ensures.items ∙ map-append told_by c.args.problems.items c.args.others.items
