use Rattle.std.proofs.Common.{length}
use Rattle.asl_model.specs.Shape.{Shape}
use Rattle.asl_numbered.specs.Expansion.{shape_at, numbers_in, AreBelow}
use Rattle.asl_records.specs.WritingNumbered.{referred, table_of}
use Rattle.asl_records.proofs.Writings.{Writes}
use Rattle.asl_records.proofs.writing_numbered.ShapeWriter.refer_fields.Given as goal
use Rattle.std.specs.Rc.{rc_str_bytes}

abbrev pub invariant-loop-name : goal.invariant-loop-name
invariant-loop-name l = record {
  writes : Writes rc_str_bytes (λ f. shape_at (table_of l.self) f.shape) (referred l.self) (λ (_ : Shape). Unit {0}) l.fields.entries l.name-iterator l.properties.entries;
  below : AreBelow (length l.self.shapes.now) (numbers_in l.name-iterator);
}
