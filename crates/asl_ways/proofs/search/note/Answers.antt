use Rattle.std.proofs.Common.{sym}
use Rattle.std.proofs.lemmas.Bool.{eqb-true}
use Rattle.asl_ways.proofs.Noted.{full_stays}
use Rattle.asl_ways.proofs.search.note.Goals as goal

pub returns-else-not-is_full : goal.returns-else-not-is_full
returns-else-not-is_full c = full_stays c.args.numbers.now.items c.args.shape (eqb-true _ _ (sym c.if-not-is_full.ensures.value))
