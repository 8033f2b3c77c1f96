use Rattle.std.proofs.Common.{◌≡◌, map, take}
use Rattle.serde_json.specs.View.{view}
use Rattle.asl_model.specs.Machine.{start_of}
use Rattle.asl_model.specs.StandsFor.{scope_of}
use Rattle.asl_states.specs.Machine.{target_name}
use Rattle.asl_machine.proofs.scopes.build_starts.Given as goal

abbrev pub invariant-loop-scope : goal.invariant-loop-scope
invariant-loop-scope l =
    map target_name l.starts.items ≡ map (λ v. start_of (scope_of (view v))) (take l.scope-index l.scopes)
