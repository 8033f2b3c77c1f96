use Rattle.std.proofs.Common.{ap, ◌∙◌, sym, subst}
use Rattle.asl_draft_laws.specs.Drafts.{certificate_of}
use Rattle.asl_machine_table.specs.Table.{table_view}
use Rattle.asl_drafts.specs.Certified.{AreCertified}
use Rattle.asl_records.specs.declared.records.NumberedCertificate.{NumberedCertificate}
use Rattle.asl_drafts.proofs.Certified.{certificate-same, certificate-shallow, certificate-within}
use Rattle.asl_drafts.proofs.draft.Draft.certificate.Goals as goal

pub returns-clause-same : goal.returns-clause-same
returns-clause-same c = λ distinct.
    let table = table_view c.args.machine.now in
    let draft = c.never.new.self in
    let made = c.with_states.ensures in
    let are = subst (λ (x : NumberedCertificate). AreCertified table draft 0 x.states.entries) (sym made) c.in_ok-states.ensures in
    certificate-same table draft c.with_states.result (ap (λ (x : NumberedCertificate). x.shapes) made) (ap (λ (x : NumberedCertificate). x.output) made) are distinct ∙ ap (certificate_of table) c.in_ok-never.ensures.same

pub returns-clause-within : goal.returns-clause-within
returns-clause-within c =
    let table = table_view c.args.machine.now in
    let draft = c.never.new.self in
    let made = c.with_states.ensures in
    let are = subst (λ (x : NumberedCertificate). AreCertified table draft 0 x.states.entries) (sym made) c.in_ok-states.ensures in
    certificate-within table draft c.with_states.result (ap (λ (x : NumberedCertificate). x.shapes) made) (ap (λ (x : NumberedCertificate). x.output) made) are

pub returns-clause-shallow : goal.returns-clause-shallow
returns-clause-shallow c =
    let table = table_view c.args.machine.now in
    let draft = c.never.new.self in
    let made = c.with_states.ensures in
    let are = subst (λ (x : NumberedCertificate). AreCertified table draft 0 x.states.entries) (sym made) c.in_ok-states.ensures in
    certificate-shallow table draft c.with_states.result (ap (λ (x : NumberedCertificate). x.shapes) made) (ap (λ (x : NumberedCertificate). x.output) made) are
