use Rattle.asl_model.proofs.ReadingCharacters.{characters_counted}
use Rattle.asl_model.proofs.reading_laws.characters_are_counted.Goals as goal

pub returns : goal.returns
returns c = characters_counted
