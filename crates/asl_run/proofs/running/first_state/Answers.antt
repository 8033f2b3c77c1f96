use Rattle.std.proofs.Common.{sym}
use Rattle.asl_states.specs.Machine.{scope_view}
use Rattle.asl_machine_table.specs.Table.{scope_in}
use Rattle.asl_run.proofs.Started.{start_found, start_missing}
use Rattle.asl_run.proofs.running.first_state.Goals as goal

pub returns-in-Some : goal.returns-in-Some
returns-in-Some c = start_found c.args.machine.now (scope_in c.args.machine.now) c.is_shown.ensures.shown (scope_view c.in-Some.scope.now) (sym c.in-Some.ensures.scope)

pub returns-in-None : goal.returns-in-None
returns-in-None c = start_missing c.args.machine.now (scope_in c.args.machine.now) c.is_shown.ensures.shown (sym c.in-None.ensures.scope)
