use Rattle.std.proofs.Common.{codes}
use Rattle.asl_model.specs.StandsFor.{place_of_state}
use Rattle.asl_machine.proofs.Single.{single_one_of}
use Rattle.asl_machine.proofs.Told.{tells_then}
use Rattle.asl_machine.proofs.state_telling.tell_wait.Goals as goal

pub returns : goal.returns
returns c = tells_then c.in_ok-tell_next.ensures (c.in_ok-tell_found.ensures _ c.check_one_of.ensures (single_one_of (place_of_state c.args.name.now) (codes "Seconds") _))
