use Rattle.std.proofs.Common.{option_map, map, sym, ◌∙◌, subst}
use Rattle.asl_lint.specs.Tells.{TellsOfTexts}
use Rattle.asl_problems.specs.Told.{told_by}
use Rattle.asl_lint.proofs.AllErrors.{all_errors}
use Rattle.asl_lint.proofs.texts.problems_of_texts.Goals as goal

pub returns : goal.returns
returns c =
    let declared = option_map (λ text. text.now) c.args.declared in
    let told = map told_by c.in_ok-found.found.problems.items in
    subst (TellsOfTexts c.args.max_rounds c.args.definition.now declared) (sym (c.in_ok-all.ensures ∙ c.in_ok-problems.ensures ∙ all_errors c.args.max_rounds c.args.definition.now declared told c.in_ok-found.ensures)) c.in_ok-found.ensures
