use Rattle.asl_machine.proofs.Checks.{handed_on, told_first, told_next}
use Rattle.asl_machine.proofs.state_checking.check_wait.Goals as goal

pub returns : goal.returns
returns c = told_next _ _ c.check_one_of.result c.in_ok-check_next.ensures c.check_one_of.ensures

pub returns-in_err-check_next : goal.returns-in_err-check_next
returns-in_err-check_next c =
    handed_on _ c.from_residual.result c.in_err-check_next.field-0.0 c.from_residual.ensures.1 (told_first _ _ c.in_err-check_next.field-0.0 c.in_err-check_next.ensures)
