use Rattle.std.proofs.Common.{◌≡◌, take, map, string_bytes}
use Rattle.asl_states.specs.Machine.{scope_view}
use Rattle.asl_machine.specs.Numbered.{home_view, placed_in}
use Rattle.asl_machine.proofs.numbering.place_all.Given as goal

abbrev pub invariant-loop-home : goal.invariant-loop-home
invariant-loop-home l = map scope_view l.scopes.items ≡ map (λ h. placed_in (map string_bytes l.names.keys) (home_view h)) (take l.home-index l.homes)
