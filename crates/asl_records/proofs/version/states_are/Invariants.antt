use Rattle.std.proofs.Common.{◌≡◌}
use Rattle.std.specs.List.{list_any}
use Rattle.asl_model.specs.Written.{state_has_several}
use Rattle.asl_records.specs.Numbered.{numbered_entries}
use Rattle.asl_records.proofs.version.states_are.Given as goal

abbrev pub invariant-loop-state : goal.invariant-loop-state
invariant-loop-state l =
    list_any (λ entry. state_has_several entry.1) (numbered_entries l.shapes l.states.entries) ≡ list_any (λ entry. state_has_several entry.1) (numbered_entries l.shapes l.state-iterator)
