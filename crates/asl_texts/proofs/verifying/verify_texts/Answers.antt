use Rattle.std.proofs.Common.{subst}
use Rattle.std.proofs.lemmas.Result.{err_from_is_err_and}
use Rattle.asl_machine_table.specs.Table.{scope_in}
use Rattle.asl_model.specs.Numbering.{Table}
use Rattle.asl_records.specs.Numbered.{numbered_view}
use Rattle.asl_records.specs.View.{declared_view}
use Rattle.asl_check.specs.Told.{listed, TellsFirst}
use Rattle.asl_check.specs.View.{verdict_view}
use Rattle.asl_model.specs.Texts.{DefinitionText, DeclaredText, CertificateText}
use Rattle.asl_texts.specs.Verifying.{IsRefused, RefusesDefinition, RefusesDeclared, RefusesCertificate}
use Rattle.asl_texts.proofs.Promises.{closed, headline, rejected}
use Rattle.asl_texts.proofs.RefusedTexts.{as_told, definition-first, declared-first, certificate-first, no_memory_to_check}
use Rattle.asl_texts.proofs.verifying.verify_texts.Goals as goal

pub returns-in_err-machine-clause-refused : goal.returns-in_err-machine-clause-refused
returns-in_err-machine-clause-refused c =
    let p = err_from_is_err_and c.from_residual.result c.from_residual.ensures.1 in
    let refused = IsRefused c.args.definition.now c.args.declared.now c.args.certificate.now in
    rw (p.1, p.2) (as_told refused DefinitionText (RefusesDefinition c.args.definition.now) c.in_err-machine.field-0.0 (definition-first c.args.definition.now c.args.declared.now c.args.certificate.now) c.in_err-machine.ensures.refused)

pub returns-in_err-declared-clause-refused : goal.returns-in_err-declared-clause-refused
returns-in_err-declared-clause-refused c =
    let p = err_from_is_err_and c.from_residual-in_err-declared.result c.from_residual-in_err-declared.ensures.1 in
    let refused = IsRefused c.args.definition.now c.args.declared.now c.args.certificate.now in
    let machine = c.in_ok-machine.ensures.machine in
    rw (p.1, p.2) (as_told refused DeclaredText (RefusesDeclared c.args.declared.now) c.in_err-declared.field-0.0 (λ f. declared-first c.args.definition.now c.args.declared.now c.args.certificate.now (scope_in c.in_ok-machine.machine) f machine) c.in_err-declared.ensures.refused)

pub returns-in_err-certificate-clause-refused : goal.returns-in_err-certificate-clause-refused
returns-in_err-certificate-clause-refused c =
    let p = err_from_is_err_and c.from_residual-in_err-certificate.result c.from_residual-in_err-certificate.ensures.1 in
    let refused = IsRefused c.args.definition.now c.args.declared.now c.args.certificate.now in
    let machine = c.in_ok-machine.ensures.machine in
    rw (p.1, p.2) (as_told refused CertificateText (RefusesCertificate c.args.certificate.now) c.in_err-certificate.field-0.0 (λ f. certificate-first c.args.definition.now c.args.declared.now c.args.certificate.now (scope_in c.in_ok-machine.machine) (declared_view c.in_ok-declared.declared) f machine c.in_ok-declared.ensures.declared) c.in_err-certificate.ensures.refused)

pub returns-in-Ok-clause-verdict : goal.returns-in-Ok-clause-verdict
returns-in-Ok-clause-verdict c = record {
  machine = scope_in c.in_ok-machine.machine;
  shapes = declared_view c.in_ok-declared.declared;
  certified = numbered_view c.in_ok-certificate.certificate;
  read = record { as_machine = c.in_ok-machine.ensures.machine; as_declared = c.in_ok-declared.ensures.declared; as_certificate = c.in_ok-certificate.ensures.certificate };
  right = c.in-Ok.ensures.verdict;
}

pub returns-in-Ok-clause-first : goal.returns-in-Ok-clause-first
returns-in-Ok-clause-first c =
    let shapes = declared_view c.in_ok-declared.declared in
    let certified = numbered_view c.in_ok-certificate.certificate in
    record {
      machine = scope_in c.in_ok-machine.machine;
      shapes = shapes;
      certified = certified;
      read = record { as_machine = c.in_ok-machine.ensures.machine; as_declared = c.in_ok-declared.ensures.declared; as_certificate = c.in_ok-certificate.ensures.certificate };
      first = subst (λ (table : Table). TellsFirst (listed table shapes certified) (verdict_view c.in-Ok.verdict)) c.is_shown.ensures.shown.table c.in-Ok.ensures.first;
    }

pub returns-in-Ok-clause-yes : goal.returns-in-Ok-clause-yes
returns-in-Ok-clause-yes c =
    closed c.args.definition.now c.args.declared.now c.args.certificate.now (verdict_view c.in-Ok.verdict) c.no_broken_rule_means_closed.ensures.closed
    (returns-in-Ok-clause-verdict c)

pub returns-in-Ok-clause-headline : goal.returns-in-Ok-clause-headline
returns-in-Ok-clause-headline c =
    headline c.args.definition.now c.args.declared.now c.args.certificate.now (verdict_view c.in-Ok.verdict) c.closed_runs_tell_no_fault.ensures c.closed_runs_never_fault.ensures
    (returns-in-Ok-clause-yes c)

pub returns-in-Ok-clause-no : goal.returns-in-Ok-clause-no
returns-in-Ok-clause-no c =
    rejected c.args.definition.now c.args.declared.now c.args.certificate.now (verdict_view c.in-Ok.verdict) (returns-in-Ok-clause-verdict c)

pub returns-clause-refused : goal.returns-clause-refused
returns-clause-refused c =
    no_memory_to_check c.args.definition.now c.args.declared.now c.args.certificate.now (scope_in c.in_ok-machine.machine) (declared_view c.in_ok-declared.declared)
    c.in_ok-machine.ensures.machine c.in_ok-declared.ensures.declared
