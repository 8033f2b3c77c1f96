use Rattle.std.proofs.Common.{refl, sym, ap, ◌∙◌, subst, Err}
use Rattle.asl_texts.specs.Runs.{RefusesTree}
use Rattle.asl_texts.proofs.RefusedAnswers.{refused_tree}
use Rattle.asl_texts.proofs.reading.tree_text.Goals as goal

pub returns-in-Err-clause-refused : goal.returns-in-Err-clause-refused
returns-in-Err-clause-refused c =
    let read = c.read.ensures in
    (refl, subst (RefusesTree c.args.text.now) (sym c.tree_fault.ensures) (refused_tree c.args.text.now c.in-Err.refusal (λ e. read.no_value (c.in-Err.is ∙ ap Err e)) (λ e. read.no_tree (c.in-Err.is ∙ ap Err e))))
