use Rattle.std.proofs.Common.{◌≡◌, map}
use Rattle.asl_records.specs.Parts.{foreign_complaints}
use Rattle.asl_records.proofs.Entries.{members}
use Rattle.asl_records.proofs.fields.Reader.check_fields.Given as goal

abbrev pub invariant-loop-field : goal.invariant-loop-field
invariant-loop-field l =
    foreign_complaints l.self.name.now (map (λ field. field.now) l.known) (members l.fields.entries)
    ≡ foreign_complaints l.self.name.now (map (λ field. field.now) l.known) (members l.field-iterator)
