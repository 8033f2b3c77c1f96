use Rattle.asl_model.specs.RecordShapes.{HoldsForState}
use Rattle.asl_model.specs.Written.{written_shape, written_state}
use Rattle.asl_records.specs.View.{entry_view}
use Rattle.asl_records.specs.Writing.{IsSpelled}
use Rattle.asl_records.proofs.Writings.{Writes}
use Rattle.asl_records.proofs.writing.write_states.Given as goal
use Rattle.std.specs.String.{string_bytes}

abbrev pub invariant-loop-name : goal.invariant-loop-name
invariant-loop-name l = Writes string_bytes entry_view (written_state written_shape) (HoldsForState IsSpelled) l.states.entries l.name-iterator l.entries.entries
