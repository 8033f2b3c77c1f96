use Rattle.std.proofs.Common.{codes, ◌++◌, [], true, ap₂}
use Rattle.serde_json.specs.Find.{get_member}
use Rattle.asl_records.specs.Parts.{field_complaints, shape_row, states_complaints}
use Rattle.asl_records.specs.declared.records.NumberedCertificate.{NumberedCertificate}
use Rattle.asl_records.proofs.Certified.{numbered_for}
use Rattle.asl_records.proofs.Entries.{members}
use Rattle.asl_records.proofs.Meant.{still_meant, still_there}
use Rattle.asl_records.proofs.Numberings.{certificate_numbered}
use Rattle.asl_records.proofs.Telling.{told_left, told_right, handed_on}
use Rattle.asl_records.proofs.certificates.read_parts.Goals as goal

pub read_states-requires : goal.read_states-requires
read_states-requires c = record { listed = still_there c.args.shapes c.required_number.new.shapes c.in_ok-output.ensures.keeps c.args.reader.listed c.requires.listed }

pub returns-in_err-output-clause-refused : goal.returns-in_err-output-clause-refused
returns-in_err-output-clause-refused c =
    let ms = members c.args.fields.now.entries in
    let f = c.in_err-output.field-0.0 in
    handed_on c.from_residual.result f _ c.from_residual.ensures.1
    (record { each = λ reading means. told_left f (field_complaints reading [] (shape_row (codes "output") true) (get_member (codes "output") ms)) (states_complaints reading (get_member (codes "states") ms)) (c.in_err-output.ensures.refused.each reading means) })

pub returns-in_err-states-clause-refused : goal.returns-in_err-states-clause-refused
returns-in_err-states-clause-refused c =
    let ms = members c.args.fields.now.entries in
    let f = c.in_err-states.field-0.0 in
    handed_on c.from_residual-in_err-states.result f _ c.from_residual-in_err-states.ensures.1
    (record {
      each = λ reading means.
          let then = still_meant c.args.shapes c.required_number.new.shapes c.in_ok-output.ensures.keeps c.args.reader.listed reading c.requires.listed means in
          told_right f (field_complaints reading [] (shape_row (codes "output") true) (get_member (codes "output") ms)) (states_complaints reading (get_member (codes "states") ms)) (c.in_err-states.ensures.refused.each reading then);
    })

pub returns-clause-right : goal.returns-clause-right
returns-clause-right c = record {
  each = λ reading means.
      let then = still_meant c.args.shapes c.required_number.new.shapes c.in_ok-output.ensures.keeps c.args.reader.listed reading c.requires.listed means in
      ap₂ (λ xs ys. xs ++ ys) (c.in_ok-output.ensures.right.each reading means) (c.in_ok-states.ensures.right.each reading then);
}

pub returns-clause-certificate : goal.returns-clause-certificate
returns-clause-certificate c =
    let numbered : NumberedCertificate = record { shapes = c.read_states.new.shapes; output = c.in_ok-output.output; states = c.in_ok-states.states } in
    record {
      each = λ reading means.
          let then = still_meant c.args.shapes c.required_number.new.shapes c.in_ok-output.ensures.keeps c.args.reader.listed reading c.requires.listed means in
          numbered_for reading.listed c.required_number.new.shapes numbered (members c.args.fields.now.entries) (c.in_ok-output.ensures.number.each reading means) c.in_ok-states.ensures.keeps (c.in_ok-states.ensures.states.each reading then);
    }

pub returns-clause-within : goal.returns-clause-within
returns-clause-within c =
    let numbered : NumberedCertificate = record { shapes = c.read_states.new.shapes; output = c.in_ok-output.output; states = c.in_ok-states.states } in
    record {
      each = λ reading means.
          let then = still_meant c.args.shapes c.required_number.new.shapes c.in_ok-output.ensures.keeps c.args.reader.listed reading c.requires.listed means in
          certificate_numbered c.required_number.new.shapes numbered _ _ (c.in_ok-output.ensures.number.each reading means) c.in_ok-states.ensures.keeps (c.in_ok-states.ensures.states.each reading then);
    }
