use Rattle.std.proofs.Common.{◌≡◌, map, string_bytes, ℕ, ◌<◌, slice_index_or}
use Rattle.asl_states.specs.Machine.{state_view}
use Rattle.asl_states.specs.Numbered.{AreNumbered}
use Rattle.asl_states.specs.declared.states.State.{State}
use Rattle.asl_states.proofs.finding.find_all.Given as goal

abbrev pub invariant-loop-state : goal.invariant-loop-state
invariant-loop-state l = record {
  same : map state_view l.state-items ≡ map state_view l.fn.states.items;
  numbered : (k : ℕ) (d : State) → k < l.state-index → AreNumbered (map string_bytes l.names.keys) (slice_index_or l.state-items k d);
}
