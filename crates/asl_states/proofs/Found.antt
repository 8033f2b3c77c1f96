-- The numbers that are found by names, one after another.
use Rattle.std.proofs.Common.{◌≡◌, ℕ, List, map, position, bytes_eq, string_bytes, Option, Some, None, String, Global, sym, ap, ◌∙◌}
use Rattle.asl_model.proofs.RunOptions.{some_inj, none_some}
use Rattle.asl_states.proofs.Positions.{position-map}
use Rattle.asl_states.specs.Numbered.{IsNumbered}
use Rattle.asl_states.specs.declared.target.Target.{Target}

-- where the name has a number among them
pub is_found : (keys : List (String Global)) (name : List ℕ) (target : Target) (found : Option ℕ) → name ≡ string_bytes target.name → found ≡ position (λ k. bytes_eq name (string_bytes k)) keys → found ≡ Some target.number → IsNumbered (map string_bytes keys) target
is_found keys name target found named is some = record {
  found = λ number at. some_inj (sym some ∙ is ∙ sym (position-map (bytes_eq name) string_bytes keys) ∙ ap (λ n. position (bytes_eq n) (map string_bytes keys)) named ∙ at);
}

-- where it has none
pub is_none : (keys : List (String Global)) (name : List ℕ) (target : Target) (found : Option ℕ) → name ≡ string_bytes target.name → found ≡ position (λ k. bytes_eq name (string_bytes k)) keys → found ≡ None → IsNumbered (map string_bytes keys) target
is_none keys name target found named is none = record {
  found = λ number at. none_some (sym none ∙ is ∙ sym (position-map (bytes_eq name) string_bytes keys) ∙ ap (λ n. position (bytes_eq n) (map string_bytes keys)) named ∙ at);
}
