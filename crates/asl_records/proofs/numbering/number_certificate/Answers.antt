use Rattle.asl_records.specs.declared.records.NumberedCertificate.{NumberedCertificate}
use Rattle.asl_records.proofs.Numberings.{certificate_numbered}
use Rattle.asl_records.proofs.numbering.number_certificate.Goals as goal

pub returns-clause-within : goal.returns-clause-within
returns-clause-within c =
    let numbered : NumberedCertificate = record { shapes = c.number_states.new.shapes; output = c.in_ok-output.output; states = c.in_ok-states.states } in
    certificate_numbered c.add.new.self numbered _ _ c.in_ok-output.ensures.number c.in_ok-states.ensures.keeps c.in_ok-states.ensures.numbered
