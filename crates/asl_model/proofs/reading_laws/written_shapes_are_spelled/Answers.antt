use Rattle.asl_model.proofs.SpellingWritten.{written_spells, written_spells_v1}
use Rattle.asl_model.proofs.reading_laws.written_shapes_are_spelled.Goals as goal

pub returns : goal.returns
returns c = record { spelled = written_spells; first_version = written_spells_v1 }
