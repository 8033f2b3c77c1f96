use Rattle.asl_model.proofs.PathReading.{Spells-path_of}
use Rattle.asl_choice.proofs.Telling.{path_told}
use Rattle.asl_choice.proofs.variables.read_path.Goals as goal

pub returns-in-Ok-clause-path : goal.returns-in-Ok-clause-path
returns-in-Ok-clause-path c = Spells-path_of c.args.text.now c.in-Ok.path c.in-Ok.ensures.path

pub returns-in_default : goal.returns-in_default
returns-in_default c = record { path = tt; of_text = λ h. absurd (cc); refused = path_told c.args.text.now (λ p s. c.in_default.not-OutOfMemory (c.in-Err.ensures.every_path p s)) }
