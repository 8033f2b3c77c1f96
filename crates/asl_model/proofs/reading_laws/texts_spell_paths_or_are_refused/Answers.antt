use Rattle.asl_model.proofs.PathReading.{spelled_or_refused, one_refusal, path_of-is-Spells}
use Rattle.asl_model.proofs.reading_laws.texts_spell_paths_or_are_refused.Goals as goal

pub returns : goal.returns
returns c = record { either = spelled_or_refused; one_refusal = one_refusal; read = path_of-is-Spells }
