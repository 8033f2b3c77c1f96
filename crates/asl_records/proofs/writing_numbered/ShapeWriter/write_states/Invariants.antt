use Rattle.std.proofs.Common.{length}
use Rattle.asl_model.specs.Certificate.{StateShapes}
use Rattle.asl_model.specs.Written.{written_state}
use Rattle.asl_records.specs.Numbered.{numbers_view, AreEntriesBelow}
use Rattle.asl_records.specs.WritingNumbered.{referred, table_of}
use Rattle.asl_records.proofs.Writings.{Writes}
use Rattle.asl_records.proofs.writing_numbered.ShapeWriter.write_states.Given as goal
use Rattle.std.specs.String.{string_bytes}

abbrev pub invariant-loop-name : goal.invariant-loop-name
invariant-loop-name l = record {
  writes : Writes string_bytes (numbers_view (table_of l.self)) (written_state (referred l.self)) (λ (_ : StateShapes). Unit {0}) l.states.entries l.name-iterator l.entries.entries;
  below : AreEntriesBelow (length l.self.shapes.now) l.name-iterator;
}
