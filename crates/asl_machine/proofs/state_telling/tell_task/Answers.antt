use Rattle.asl_machine.proofs.Single.{single_if}
use Rattle.asl_machine.proofs.Told.{tells_then}
use Rattle.asl_machine.proofs.state_telling.tell_task.Goals as goal

pub returns : goal.returns
returns c = tells_then c.in_ok-tell_next.ensures (tells_then (c.in_ok-tell_found.ensures _ c.check_heartbeat.ensures (single_if _ _)) c.in_ok-tell_trouble.ensures)
