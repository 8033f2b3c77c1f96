use Rattle.std.proofs.lemmas.Result.{err_from_is_err_and}
use Rattle.asl_tree.specs.Values.{tree_in}
use Rattle.asl_choice.specs.View.{comparison_view}
use Rattle.asl_choice.proofs.Telling.{operand_path_told, pattern_told}
use Rattle.asl_choice.proofs.variables.read_operand.Goals as goal

pub returns-in_err-read_path-in-WithPath-clause-refused : goal.returns-in_err-read_path-in-WithPath-clause-refused
returns-in_err-read_path-in-WithPath-clause-refused c =
    let text = c.in_ok-read_text-in-WithPath in
    let failed = c.in_err-read_path-in-WithPath in
    let p = err_from_is_err_and c.from_residual-in_err-read_path-in-WithPath.result c.from_residual-in_err-read_path-in-WithPath.ensures.1 in
    rw (p.1, p.2, c.in-WithPath.is) (operand_path_told failed.field-0.0 c.args.variable (comparison_view c.in-WithPath.comparison) (tree_in c.args.operand.now) text.field-0.now text.ensures.text failed.ensures.refused)

pub returns-in_err-pattern-in-Matching-clause-refused : goal.returns-in_err-pattern-in-Matching-clause-refused
returns-in_err-pattern-in-Matching-clause-refused c =
    let text = c.in_ok-read_text-in-Matching in
    let failed = c.in_err-pattern-in-Matching in
    let p = err_from_is_err_and c.from_residual-in_err-pattern-in-Matching.result c.from_residual-in_err-pattern-in-Matching.ensures.1 in
    rw (p.1, p.2, c.in-Matching.is) (pattern_told failed.field-0.0 c.args.variable (tree_in c.args.operand.now) text.field-0.now c.as_bytes.result.now text.ensures.text c.as_bytes.ensures.value failed.ensures.refused)
