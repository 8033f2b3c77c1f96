use Rattle.asl_machine.proofs.Checks.{handed_on, told_first, told_next}
use Rattle.asl_machine.proofs.state_checking.check_map.Goals as goal

pub returns-in_err-check_one_of : goal.returns-in_err-check_one_of
returns-in_err-check_one_of c =
    handed_on _ c.from_residual-in_err-check_one_of.result c.in_err-check_one_of.field-0.0 c.from_residual-in_err-check_one_of.ensures.1 (told_next _ _ _ c.in_ok-check_next.ensures (told_first _ _ c.in_err-check_one_of.field-0.0 c.in_err-check_one_of.ensures))

pub returns : goal.returns
returns c =
    let last = c.check_selector.result in
    told_next _ _ last c.in_ok-check_next.ensures (told_next _ _ last c.in_ok-check_one_of.ensures c.check_selector.ensures)

pub returns-in_err-check_next : goal.returns-in_err-check_next
returns-in_err-check_next c =
    handed_on _ c.from_residual.result c.in_err-check_next.field-0.0 c.from_residual.ensures.1 (told_first _ _ c.in_err-check_next.field-0.0 c.in_err-check_next.ensures)
