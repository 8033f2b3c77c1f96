use Rattle.std.proofs.Common.{codes, length}
use Rattle.std.proofs.lemmas.Result.{err_from_is_err_and}
use Rattle.asl_shape.specs.Spelled.{entries_view, member_named}
use Rattle.asl_shape.proofs.Wholes.{as_many, count_told, list_right}
use Rattle.asl_shape.proofs.levels.list_level.Goals as goal

pub returns-in_err-check_min_items-clause-refused :
    goal.returns-in_err-check_min_items-clause-refused
returns-in_err-check_min_items-clause-refused c =
    let fs = entries_view c.args.keywords.now.entries in
    let es = c.in_ok-first.first.now in
    let count = as_many (member_named (codes "prefixItems") c.args.keywords.now.entries) es c.in_ok-first.ensures.elements in
    let p = err_from_is_err_and c.from_residual-in_err-check_min_items.result c.from_residual-in_err-check_min_items.ensures.1 in
    rw (p.1, p.2) (count_told c.in_err-check_min_items.field-0.0 fs (length es) count c.in_err-check_min_items.ensures.refused)

pub returns-clause-right : goal.returns-clause-right
returns-clause-right c =
    let fs = entries_view c.args.keywords.now.entries in
    let es = c.in_ok-first.first.now in
    let count = as_many (member_named (codes "prefixItems") c.args.keywords.now.entries) es c.in_ok-first.ensures.elements in
    list_right fs (length es) count c.in_ok-first.ensures.right c.in_ok-check_min_items.ensures.right
