-- What the checker's helpers see of a machine.
use Rattle.asl_states.specs.Machine.{state_view, scope_view}
use Rattle.asl_check.specs.declared.lookups.Row.{Row}
use Rattle.asl_check.specs.Rules as rules

-- a row of a machine
abbrev pub row_view : Row → rules.Row
row_view row = record { name = row.name.now; state = state_view row.state.now; placement = scope_view row.scope.now }
