use Rattle.std.proofs.Common.{◌≡◌, length}
use Rattle.asl_machine_table.specs.Table.{states_in}
use Rattle.asl_warnings.proofs.LedStates.{AreLed}
use Rattle.asl_warnings.proofs.leading.mark_led.Given as goal

abbrev pub invariant-loop-place : goal.invariant-loop-place
invariant-loop-place l = record {
  count : l.count ≡ length (states_in l.machine);
  led : AreLed l.machine l.marks l.place;
}
