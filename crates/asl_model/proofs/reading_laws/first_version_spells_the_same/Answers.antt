use Rattle.asl_model.proofs.SpellingVersions.{spells_in_both}
use Rattle.asl_model.proofs.reading_laws.first_version_spells_the_same.Goals as goal

pub returns : goal.returns
returns c = spells_in_both
