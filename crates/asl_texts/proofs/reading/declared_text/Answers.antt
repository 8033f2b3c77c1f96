use Rattle.std.proofs.Common.{refl, sym, subst}
use Rattle.std.proofs.lemmas.Result.{err_from_is_err_and}
use Rattle.asl_texts.specs.View.{text_fault_view}
use Rattle.asl_texts.specs.Verifying.{RefusesDeclared}
use Rattle.asl_texts.proofs.RefusedTexts.{no_tree-declared, refused-declared}
use Rattle.asl_texts.proofs.reading.declared_text.Goals as goal

pub returns-in_err-tree-clause-refused : goal.returns-in_err-tree-clause-refused
returns-in_err-tree-clause-refused c =
    let p = err_from_is_err_and c.from_residual-in_err-tree.result c.from_residual-in_err-tree.ensures.1 in
    let refused = c.in_err-tree.ensures.refused in
    rw (p.1, p.2) (refused.0, no_tree-declared c.args.text.now (text_fault_view c.in_err-tree.field-0.0.fault) refused.1)

pub returns-in-Ok-clause-declared : goal.returns-in-Ok-clause-declared
returns-in-Ok-clause-declared c =
    let tree = c.in_ok-tree.ensures.tree in
    record { value = tree.0; reads = tree.1; stands = c.in-Ok.ensures.declared.each tree.0 tree.2 }

pub returns-clause-refused : goal.returns-clause-refused
returns-clause-refused c =
    let tree = c.in_ok-tree.ensures.tree in
    (refl, subst (RefusesDeclared c.args.text.now) (sym c.record_fault.ensures) (refused-declared c.args.text.now tree.0 c.in-Err.fault tree.1 (c.in-Err.ensures.refused.each tree.0 tree.2)))
