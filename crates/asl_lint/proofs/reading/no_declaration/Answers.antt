use Rattle.std.proofs.Common.{[], ◌∷◌, ◌++◌, map, sym, ap, ◌∙◌, subst}
use Rattle.asl_lint.specs.Tells.{TellsOfDeclared, declared_no_json}
use Rattle.asl_problems.specs.Told.{told_by}
use Rattle.asl_lint.proofs.reading.no_declaration.Goals as goal

pub returns : goal.returns
returns c = λ text none.
    let alone = c.in_ok-problems.ensures ∙ ap (λ ps. map told_by ps ++ told_by c.in_ok-problem.problem ∷ []) c.new.ensures.items in
    subst (TellsOfDeclared text) (sym (alone ∙ ap (λ t. t ∷ []) c.in_ok-problem.ensures)) (declared_no_json none)
