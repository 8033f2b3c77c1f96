use Rattle.std.proofs.Common.{◌≡◌, map, string_bytes, ℕ, ◌<◌, slice_index_or}
use Rattle.asl_states.specs.Machine.{target_name}
use Rattle.asl_states.specs.Numbered.{IsNumbered}
use Rattle.asl_states.specs.declared.target.Target.{Target}
use Rattle.asl_states.proofs.finding.find_in_branches.Given as goal

abbrev pub invariant-loop-start : goal.invariant-loop-start
invariant-loop-start l = record {
  same : map target_name l.start-items ≡ map target_name l.fn.branches.items;
  numbered : (k : ℕ) (d : Target) → k < l.start-index → IsNumbered (map string_bytes l.names.keys) (slice_index_or l.start-items k d);
}
