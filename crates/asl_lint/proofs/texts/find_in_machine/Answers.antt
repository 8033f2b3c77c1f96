use Rattle.std.proofs.Common.{map, subst}
use Rattle.std.proofs.lemmas.Result.{IfOk-weaker}
use Rattle.asl_lint.specs.Reading.{IsDeclaration}
use Rattle.asl_problems.specs.Told.{told_by}
use Rattle.asl_lint.proofs.Found.{read_both, read_one}
use Rattle.asl_lint.proofs.texts.find_in_machine.Goals as goal

pub returns-in-Declared : goal.returns-in-Declared
returns-in-Declared c =
    IfOk-weaker c.find_under.result _ _ (λ found told. λ definition declared read d.
    read_both c.args.max_rounds definition declared c.args.machine c.in-Declared.declared (map told_by found.problems.items) read (subst (IsDeclaration declared) c.in-Declared.is d) told)
    c.find_under.ensures

pub returns-in-Refused : goal.returns-in-Refused
returns-in-Refused c = λ definition declared read d.
    read_one c.args.max_rounds definition declared c.args.machine (map told_by c.in-Refused.problems.items) read (subst (IsDeclaration declared) c.in-Refused.is d)
