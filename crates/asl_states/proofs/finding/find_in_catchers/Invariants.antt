use Rattle.std.proofs.Common.{◌≡◌, map, string_bytes, ℕ, ◌<◌, slice_index_or}
use Rattle.asl_states.specs.Machine.{catcher_view}
use Rattle.asl_states.specs.Numbered.{IsNumbered}
use Rattle.asl_states.specs.declared.states.Catcher.{Catcher}
use Rattle.asl_states.proofs.finding.find_in_catchers.Given as goal

abbrev pub invariant-loop-catcher : goal.invariant-loop-catcher
invariant-loop-catcher l = record {
  same : map catcher_view l.catcher-items ≡ map catcher_view l.fn.catchers.items;
  numbered : (k : ℕ) (d : Catcher) → k < l.catcher-index → IsNumbered (map string_bytes l.names.keys) (slice_index_or l.catcher-items k d).next;
}
