use Rattle.std.proofs.Common.{map, sym, subst}
use Rattle.asl_lint.specs.Reading.{IsDeclaration}
use Rattle.asl_lint.specs.Tells.{TellsOfBoth, declared_reads}
use Rattle.asl_problems.specs.Told.{told_by}
use Rattle.asl_lint.proofs.Found.{read_none}
use Rattle.asl_lint.proofs.texts.find_behind.Goals as goal

pub returns-in-Declared : goal.returns-in-Declared
returns-in-Declared c = λ rounds definition declared told d.
    let shapes = subst (IsDeclaration declared) c.in-Declared.is d in
    subst (λ ps. TellsOfBoth rounds definition declared (map told_by ps.items)) (sym c.refused.ensures) (declared_reads told shapes)

pub returns : goal.returns
returns c = λ rounds definition declared told d.
    let others = subst (IsDeclaration declared) c.in-Refused.is d in
    let all = c.in_ok-all-in-Refused.all.items in
    subst (λ ps. TellsOfBoth rounds definition declared (map told_by ps.items)) (sym c.refused-in-Refused.ensures)
    (read_none rounds definition declared (map told_by c.args.problems.items) (map told_by c.in-Refused.others.items) (map told_by all) told others c.in_ok-all-in-Refused.ensures)
