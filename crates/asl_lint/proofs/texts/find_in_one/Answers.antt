use Rattle.std.proofs.Common.{sym, map, subst}
use Rattle.asl_lint.specs.Reading.{IsDefinition}
use Rattle.asl_lint.specs.Tells.{TellsOfOne, alone_reads, alone_refused}
use Rattle.asl_problems.specs.Told.{told_by}
use Rattle.asl_lint.proofs.texts.find_in_one.Goals as goal

pub returns-in-Machine : goal.returns-in-Machine
returns-in-Machine c =
    let read = subst (IsDefinition c.args.definition.now) c.in-Machine.is c.in_ok-read.ensures in
    subst (λ ps. TellsOfOne c.args.definition.now (map told_by ps)) (sym c.new.ensures.items) (alone_reads read)

pub returns-in-Refused : goal.returns-in-Refused
returns-in-Refused c =
    let told = subst (IsDefinition c.args.definition.now) c.in-Refused.is c.in_ok-read.ensures in
    subst (λ ps. TellsOfOne c.args.definition.now (map told_by ps.items)) (sym c.refused.ensures) (alone_refused told)
