use Rattle.std.proofs.Common.{IfOk, refl, subst}
use Rattle.asl_model.specs.Certificate.{Certificate}
use Rattle.asl_model.specs.Verdict.{IsRight}
use Rattle.asl_numbered.specs.Laws.{keeps_trans}
use Rattle.asl_machine_table.specs.Table.{scope_in, table_view}
use Rattle.asl_records.specs.Laws.{certificate_shown, certificate_within}
use Rattle.asl_records.specs.View.{declared_view}
use Rattle.asl_check.specs.Told.{listed, TellsFirst}
use Rattle.asl_check.specs.View.{verdict_view}
use Rattle.asl_check.proofs.Grown.{checked_within, in_table}
use Rattle.asl_check.proofs.checker.check_numbered.Goals as goal

pub returns-in_err-never-clause-same : goal.returns-in_err-never-clause-same
returns-in_err-never-clause-same c = certificate_shown c.args.certificate.now (in_table c.args.certificate.now c.add.new.self) c.add.ensures.keeps refl refl c.requires.within

pub returns-in_err-never-clause-within : goal.returns-in_err-never-clause-within
returns-in_err-never-clause-within c = certificate_within c.args.certificate.now (in_table c.args.certificate.now c.add.new.self) c.add.ensures.keeps refl refl c.requires.within

pub verdict-requires : goal.verdict-requires
verdict-requires c = record { within = checked_within c.args.certificate.now c.add.new.self _ c.add.ensures.keeps refl refl c.requires.within c.in_ok-never.ensures.number }

pub returns-clause-verdict : goal.returns-clause-verdict
returns-clause-verdict c =
    let old = c.args.certificate.now in
    let same = certificate_shown old (in_table old c.add.new.self) c.add.ensures.keeps refl refl c.requires.within in
    subst (λ (certificate : Certificate). IfOk c.verdict.result (λ verdict. IsRight (scope_in c.args.machine.now) (declared_view c.args.declared.now) certificate (verdict_view verdict))) same c.verdict.ensures.verdict

pub returns-clause-same : goal.returns-clause-same
returns-clause-same c = certificate_shown c.args.certificate.now (in_table c.args.certificate.now c.verdict.new.shapes) (keeps_trans _ _ _ c.add.ensures.keeps c.verdict.ensures.keeps) refl refl c.requires.within

pub returns-clause-within : goal.returns-clause-within
returns-clause-within c = certificate_within c.args.certificate.now (in_table c.args.certificate.now c.verdict.new.shapes) (keeps_trans _ _ _ c.add.ensures.keeps c.verdict.ensures.keeps) refl refl c.requires.within

pub returns-clause-keeps : goal.returns-clause-keeps
returns-clause-keeps c = keeps_trans _ _ _ c.add.ensures.keeps c.verdict.ensures.keeps

pub returns-clause-first : goal.returns-clause-first
returns-clause-first c =
    let old = c.args.certificate.now in
    let same = certificate_shown old (in_table old c.add.new.self) c.add.ensures.keeps refl refl c.requires.within in
    subst (λ (certificate : Certificate). IfOk c.verdict.result (λ verdict. TellsFirst (listed (table_view c.args.machine.now) (declared_view c.args.declared.now) certificate) (verdict_view verdict))) same c.verdict.ensures.first
