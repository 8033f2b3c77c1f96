-- The scopes of branches, by their starts.
use Rattle.std.proofs.Common.{◌≡◌, ℕ, suc, List, [], ◌∷◌, length, map, refl, sym, ap, ◌∙◌}
use Rattle.asl_model.specs.Machine.{Scopes, NoScopes, AndScope, ScopeOf, NoStates, how_many}
use Rattle.asl_states.specs.Machine.{branches_view, target_name}
use Rattle.asl_states.specs.declared.target.Target.{Target}

-- as many branches as starts
pub one_each : (starts : List Target) → how_many (branches_view starts) ≡ length starts
one_each [] = refl
one_each (start ∷ starts) = ap suc (one_each starts)

-- the scopes with those starts
abbrev pub outlines : List (List ℕ) → Scopes
outlines [] = NoScopes
outlines (start ∷ starts) = AndScope (ScopeOf start NoStates) (outlines starts)

pub viewed : (starts : List Target) → branches_view starts ≡ outlines (map target_name starts)
viewed [] = refl
viewed (start ∷ starts) = ap (AndScope (ScopeOf (target_name start) NoStates)) (viewed starts)

-- starts of the same names
pub same_named : (starts others : List Target) → map target_name starts ≡ map target_name others → branches_view starts ≡ branches_view others
same_named starts others same = viewed starts ∙ ap outlines same ∙ sym (viewed others)
