use Rattle.std.proofs.Common.{sym}
use Rattle.std.proofs.lemmas.Result.{err_from_is_err_and}
use Rattle.asl_shape.specs.Spelled as trees
use Rattle.asl_shape.specs.Spelled.{entries_view}
use Rattle.asl_shape.proofs.Wholes.{kinds_over, type_told}
use Rattle.asl_shape.proofs.levels.keyword_level.Goals as goal

pub returns-in_err-names-in-Some-clause-refused : goal.returns-in_err-names-in-Some-clause-refused
returns-in_err-names-in-Some-clause-refused c =
    let p = err_from_is_err_and c.from_residual.result c.from_residual.ensures.1 in
    rw (p.1, p.2) (type_told c.args.several c.in_err-names-in-Some.field-0.0 (entries_view c.args.keywords.now.entries) (trees.view c.in-Some.tree.now) (sym c.in-Some.ensures) c.in_err-names-in-Some.ensures.refused)

pub returns-in_ok-names-in-Some-clause-level : goal.returns-in_ok-names-in-Some-clause-level
returns-in_ok-names-in-Some-clause-level c =
    let named = c.in_ok-names-in-Some.ensures in
    kinds_over c.args.several (entries_view c.args.keywords.now.entries) (trees.view c.in-Some.tree.now) _ c.typed_level.result (sym c.in-Some.ensures) named.names named.right c.typed_level.ensures.level c.typed_level.ensures.right
