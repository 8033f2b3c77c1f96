use Rattle.asl_model.proofs.RunTrouble.{counted_higher, others_as_counted}
use Rattle.asl_model.proofs.run_laws.each_retrier_counts_its_own_attempts.Goals as goal

pub returns : goal.returns
returns c = record { own = counted_higher; others = others_as_counted }
