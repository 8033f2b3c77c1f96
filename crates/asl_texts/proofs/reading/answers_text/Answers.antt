use Rattle.std.proofs.Common.{refl, subst, sym}
use Rattle.std.proofs.lemmas.Result.{err_from_is_err_and}
use Rattle.asl_tree.specs.View.{view}
use Rattle.asl_texts.specs.Runs.{RefusesAnswers}
use Rattle.asl_texts.specs.View.{text_fault_view}
use Rattle.asl_texts.proofs.RefusedAnswers.{no_tree, no_answers}
use Rattle.asl_texts.proofs.reading.answers_text.Goals as goal

pub returns-in_err-tree-clause-refused : goal.returns-in_err-tree-clause-refused
returns-in_err-tree-clause-refused c =
    let p = err_from_is_err_and c.from_residual.result c.from_residual.ensures.1 in
    let refused = c.in_err-tree.ensures.refused in
    rw (p.1, p.2) (refused.0, no_tree c.args.text.now (text_fault_view c.in_err-tree.field-0.0.fault) refused.1)

pub returns-in-Ok-clause-answers : goal.returns-in-Ok-clause-answers
returns-in-Ok-clause-answers c =
    let tree = c.in_ok-tree.ensures.tree in
    record { value = tree.0; reads = tree.1; tree = view c.in_ok-tree.tree; whole = tree.2; none_wrong = c.in-Ok.ensures.right; same = sym c.in-Ok.ensures.answers }

pub returns-in-Err-clause-refused : goal.returns-in-Err-clause-refused
returns-in-Err-clause-refused c =
    let tree = c.in_ok-tree.ensures.tree in
    (refl, subst (RefusesAnswers c.args.text.now) (sym c.answers_fault.ensures) (no_answers c.args.text.now tree.0 (view c.in_ok-tree.tree) c.in-Err.refusal tree.1 tree.2 c.in-Err.ensures.refused))
