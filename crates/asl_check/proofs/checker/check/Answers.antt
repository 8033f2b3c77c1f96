use Rattle.std.proofs.Common.{IfOk, subst}
use Rattle.asl_model.specs.Certificate.{Certificate}
use Rattle.asl_machine_table.specs.Table.{scope_in, table_view}
use Rattle.asl_model.specs.Verdict.{IsRight}
use Rattle.asl_records.specs.View.{declared_view}
use Rattle.asl_check.specs.Told.{listed, TellsFirst}
use Rattle.asl_check.specs.View.{verdict_view}
use Rattle.asl_check.proofs.checker.check.Goals as goal

pub returns-clause-first : goal.returns-clause-first
returns-clause-first c =
    subst (λ (certificate : Certificate). IfOk c.check_numbered.result (λ verdict. TellsFirst (listed (table_view c.args.machine.now) (declared_view c.args.declared.now) certificate) (verdict_view verdict))) c.in_ok-numbered.ensures.same c.check_numbered.ensures.first

pub returns-clause-verdict : goal.returns-clause-verdict
returns-clause-verdict c =
    subst (λ (certificate : Certificate). IfOk c.check_numbered.result (λ verdict. IsRight (scope_in c.args.machine.now) (declared_view c.args.declared.now) certificate (verdict_view verdict))) c.in_ok-numbered.ensures.same c.check_numbered.ensures.verdict
