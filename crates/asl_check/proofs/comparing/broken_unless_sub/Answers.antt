use Rattle.std.proofs.Common.{sym, ◌∙◌}
use Rattle.asl_state_edges.specs.View.{finding_fault_view}
use Rattle.asl_numbered.specs.Expansion.{shape_at}
use Rattle.asl_check.proofs.Compared.{inside_told, outside_told}
use Rattle.asl_check.proofs.comparing.broken_unless_sub.Goals as goal

pub returns-then-branch-clause-told : goal.returns-then-branch-clause-told
returns-then-branch-clause-told c =
    let table = c.args.shapes.now in
    rw c.in-Some.is (inside_told c.args.field.now (finding_fault_view c.args.fault) (shape_at table c.args.number) (shape_at table c.in-Some.outer) (sym c.in_ok-is_inside.ensures.inside ∙ c.if-branch.true))

pub returns-clause-told : goal.returns-clause-told
returns-clause-told c =
    let table = c.args.shapes.now in
    rw c.in-Some.is (outside_told c.args.field.now (finding_fault_view c.args.fault) (shape_at table c.args.number) (shape_at table c.in-Some.outer) (sym c.in_ok-is_inside.ensures.inside ∙ c.if-branch.false))
