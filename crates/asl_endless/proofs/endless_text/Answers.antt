use Rattle.asl_endless.proofs.Reading.{not_read}
use Rattle.asl_endless.proofs.endless_text.Goals as goal

pub returns : goal.returns
returns c = not_read 97 c.read_text.result c.read_text.ensures.endless
