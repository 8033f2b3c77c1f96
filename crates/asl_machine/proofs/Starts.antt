-- The names of start states, as scopes without their states.
use Rattle.std.proofs.Common.{◌≡◌, ℕ, ◌≤◌, List, [], ◌∷◌, length, map, take, refl, ap, ◌∙◌}
use Rattle.std.proofs.lemmas.List.{take_all}
use Rattle.serde_json.specs.View.{view, items_view}
use Rattle.serde_json.specs.declared.value.Value.{Value}
use Rattle.asl_model.specs.Machine.{AndScope, ScopeOf, NoStates, start_of}
use Rattle.asl_model.specs.Numbering.{scopes_outline}
use Rattle.asl_model.specs.StandsFor.{scope_of, each_scope}
use Rattle.asl_states.proofs.Branches.{outlines, viewed}
use Rattle.asl_states.specs.Machine.{branches_view, target_name}
use Rattle.asl_states.specs.declared.target.Target.{Target}

outlined : (vs : List Value) → outlines (map (λ v. start_of (scope_of (view v))) vs) ≡ scopes_outline (each_scope (items_view vs))
outlined [] = refl
outlined (v ∷ vs) = ap (AndScope (ScopeOf (start_of (scope_of (view v))) NoStates)) (outlined vs)

-- the starts of the scopes that are gone through, to the end
pub starts_all : (starts : List Target) (vs : List Value) (i : ℕ) → length vs ≤ i → map target_name starts ≡ map (λ v. start_of (scope_of (view v))) (take i vs)
    → branches_view starts ≡ scopes_outline (each_scope (items_view vs))
starts_all starts vs i end e =
    viewed starts ∙ ap outlines (e ∙ ap (map (λ v. start_of (scope_of (view v)))) (take_all i vs end)) ∙ outlined vs
