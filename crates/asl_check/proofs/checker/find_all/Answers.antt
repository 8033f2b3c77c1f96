use Rattle.std.proofs.Common.{◌≡◌, IfOk, refl, subst}
use Rattle.asl_model.specs.Certificate.{Certificate}
use Rattle.asl_numbered.specs.Laws.{keeps_trans}
use Rattle.asl_machine_table.specs.Table.{table_view}
use Rattle.asl_records.specs.Laws.{certificate_shown, certificate_within}
use Rattle.asl_records.specs.View.{declared_view}
use Rattle.asl_check.specs.Told.{listed}
use Rattle.asl_check.specs.View.{findings_of}
use Rattle.asl_check.proofs.Grown.{checked_within, in_table}
use Rattle.asl_check.proofs.checker.find_all.Goals as goal

pub returns-in_err-never-clause-same : goal.returns-in_err-never-clause-same
returns-in_err-never-clause-same c = certificate_shown c.args.certificate.now (in_table c.args.certificate.now c.add.new.self) c.add.ensures.keeps refl refl c.requires.within

pub returns-in_err-never-clause-within : goal.returns-in_err-never-clause-within
returns-in_err-never-clause-within c = certificate_within c.args.certificate.now (in_table c.args.certificate.now c.add.new.self) c.add.ensures.keeps refl refl c.requires.within

pub findings-requires : goal.findings-requires
findings-requires c = record { within = checked_within c.args.certificate.now c.add.new.self _ c.add.ensures.keeps refl refl c.requires.within c.in_ok-never.ensures.number }

pub returns-clause-listed : goal.returns-clause-listed
returns-clause-listed c =
    let old = c.args.certificate.now in
    let same = certificate_shown old (in_table old c.add.new.self) c.add.ensures.keeps refl refl c.requires.within in
    subst (λ (certificate : Certificate). IfOk c.findings.result (λ all. findings_of all.items ≡ listed (table_view c.args.machine.now) (declared_view c.args.declared.now) certificate)) same c.findings.ensures.listed

pub returns-clause-same : goal.returns-clause-same
returns-clause-same c = certificate_shown c.args.certificate.now (in_table c.args.certificate.now c.findings.new.shapes) (keeps_trans _ _ _ c.add.ensures.keeps c.findings.ensures.keeps) refl refl c.requires.within

pub returns-clause-within : goal.returns-clause-within
returns-clause-within c = certificate_within c.args.certificate.now (in_table c.args.certificate.now c.findings.new.shapes) (keeps_trans _ _ _ c.add.ensures.keeps c.findings.ensures.keeps) refl refl c.requires.within

pub returns-clause-keeps : goal.returns-clause-keeps
returns-clause-keeps c = keeps_trans _ _ _ c.add.ensures.keeps c.findings.ensures.keeps
