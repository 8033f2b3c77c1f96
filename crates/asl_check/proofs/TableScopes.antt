-- What is found in the scopes of a machine is what is found of the states that stand in it, each with the end of its
-- scope.
use Rattle.std.proofs.Common.{◌≡◌, refl, sym, ap, ◌∙◌, ℕ, suc, List, [], ◌∷◌, ◌++◌, Option, Some, inl, inr}
use Rattle.std.proofs.lemmas.List.{append_assoc}
use Rattle.asl_model.specs.Machine.{Scope, ScopeOf, States, NoStates, AndState, State, StateOf, Kind, Pass, Task, Choice, Wait, Succeed, Fail, Parallel, Map, Scopes, NoScopes, AndScope, settings_of, kind_of}
use Rattle.asl_model.specs.Shape.{Shape}
use Rattle.asl_model.specs.Certificate.{Declared, Certificate, certified, child_end, branch_end}
use Rattle.asl_model.specs.Finding.{Finding, found_at, state_breaches, scope_findings, states_findings, state_findings, children_findings, branches_findings}
use Rattle.asl_model.specs.Numbering.{Standing, standing_in, standing_among, standing_inside, standing_by, standing_each}
use Rattle.asl_model.proofs.NumberedScopes.{IsListed, listed_left, listed_right}
use Rattle.asl_check.proofs.TableRows.{found_of_each}

-- the ends of scopes, by the states that they belong to
abbrev pub Ends : Type 0
Ends = Option (List ℕ × ℕ) → Option Shape

-- what is found of a state, where the scopes have those ends
abbrev pub found_of_state : Scope → Declared → Certificate → Ends → Standing → List Finding
found_of_state machine declared certificate ends s = found_at s.name (state_breaches machine declared certificate (ends s.owner) s.name (settings_of s.state) (kind_of s.state))

-- those are the ends of the scopes of these states
abbrev pub AreEnds : Certificate → Ends → List Standing → Type 0
AreEnds certificate ends states = (s : Standing) → IsListed states s → (i : ℕ) → ends (Some (s.name, i)) ≡ child_end (kind_of s.state) (certified certificate s.name) i

-- two lists of states, one behind the other
each-of-both : (found : Standing → List Finding) (xs ys : List Standing) → found_of_each found (xs ++ ys) ≡ found_of_each found xs ++ found_of_each found ys
each-of-both found [] ys = refl
each-of-both found (x ∷ xs) ys = ap (λ rest. found x ++ rest) (each-of-both found xs ys) ∙ sym (append_assoc (found x) (found_of_each found xs) (found_of_each found ys))

-- what is found of a state and inside it, and what is found of the others
one-and-others : (found : Standing → List Finding) (s : Standing) (inside others : List Standing) (here rest : List Finding) → here ≡ found s ++ found_of_each found inside → rest ≡ found_of_each found others → here ++ rest ≡ found_of_each found (s ∷ (inside ++ others))
one-and-others found s inside others here rest e f =
    ap (λ first. first ++ rest) e
    ∙ (append_assoc (found s) (found_of_each found inside) rest
    ∙ ap (λ further. found s ++ further) (ap (λ r. found_of_each found inside ++ r) f ∙ sym (each-of-both found inside others)))

-- what is found of a branch, and of the branches behind it
branch-and-others : (found : Standing → List Finding) (inside others : List Standing) (here rest : List Finding) → here ≡ found_of_each found inside → rest ≡ found_of_each found others → here ++ rest ≡ found_of_each found (inside ++ others)
branch-and-others found inside others here rest e f = ap (λ first. first ++ rest) e ∙ (ap (λ r. found_of_each found inside ++ r) f ∙ sym (each-of-both found inside others))

module _ (machine : Scope) (declared : Declared) (certificate : Certificate) (ends : Ends) where
  abbrev found : Standing → List Finding
  found = found_of_state machine declared certificate ends

  mutual
    pub of-scope : (owner : Option (List ℕ × ℕ)) (scope : Scope) → AreEnds certificate ends (standing_in owner scope) → scope_findings scope machine declared certificate (ends owner) ≡ found_of_each (found_of_state machine declared certificate ends) (standing_in owner scope)
    of-scope owner (ScopeOf start held) are = of-states start owner held are

    of-states : (start : List ℕ) (owner : Option (List ℕ × ℕ)) (held : States) → AreEnds certificate ends (standing_among start owner held) → states_findings held machine declared certificate (ends owner) ≡ found_of_each found (standing_among start owner held)
    of-states start owner NoStates are = refl
    of-states start owner (AndState n state others) are =
        one-and-others found (record { name = n; state = state; start = start; owner = owner }) (standing_inside n state) (standing_among start owner others) (state_findings state machine declared certificate (ends owner) n) (states_findings others machine declared certificate (ends owner))
        (of-state start owner n state (are (record { name = n; state = state; start = start; owner = owner }) (inl refl)) (λ s h. are s (inr (listed_left (standing_inside n state) (standing_among start owner others) s h))))
        (of-states start owner others (λ s h. are s (inr (listed_right (standing_inside n state) (standing_among start owner others) s h))))

    of-state : (start : List ℕ) (owner : Option (List ℕ × ℕ)) (n : List ℕ) (state : State) → ((i : ℕ) → ends (Some (n, i)) ≡ child_end (kind_of state) (certified certificate n) i) → AreEnds certificate ends (standing_inside n state)
        → state_findings state machine declared certificate (ends owner) n ≡ found (record { name = n; state = state; start = start; owner = owner }) ++ found_of_each found (standing_inside n state)
    of-state start owner n (StateOf settings kind) own are = ap (λ rest. found_at n (state_breaches machine declared certificate (ends owner) n settings kind) ++ rest) (of-children n kind own are)

    of-children : (n : List ℕ) (kind : Kind) → ((i : ℕ) → ends (Some (n, i)) ≡ child_end kind (certified certificate n) i) → AreEnds certificate ends (standing_by n kind) → children_findings kind machine declared certificate n ≡ found_of_each found (standing_by n kind)
    of-children n (Pass result) own are = refl
    of-children n (Task resource) own are = refl
    of-children n (Choice rules default) own are = refl
    of-children n (Wait delay) own are = refl
    of-children n Succeed own are = refl
    of-children n (Fail error cause) own are = refl
    of-children n (Parallel branches) own are = of-branches n 0 branches own are
    of-children n (Map items selector processor) own are = ap (scope_findings processor machine declared certificate) (sym (own 0)) ∙ of-scope (Some (n, 0)) processor are

    of-branches : (n : List ℕ) (i : ℕ) (branches : Scopes) → ((j : ℕ) → ends (Some (n, j)) ≡ branch_end j (certified certificate n)) → AreEnds certificate ends (standing_each n i branches) → branches_findings branches machine declared certificate n i ≡ found_of_each found (standing_each n i branches)
    of-branches n i NoScopes own are = refl
    of-branches n i (AndScope scope others) own are =
        branch-and-others found (standing_in (Some (n, i)) scope) (standing_each n (suc i) others) (scope_findings scope machine declared certificate (branch_end i (certified certificate n))) (branches_findings others machine declared certificate n (suc i))
        (ap (scope_findings scope machine declared certificate) (sym (own i)) ∙ of-scope (Some (n, i)) scope (λ s h. are s (listed_left (standing_in (Some (n, i)) scope) (standing_each n (suc i) others) s h)))
        (of-branches n (suc i) others own (λ s h. are s (listed_right (standing_in (Some (n, i)) scope) (standing_each n (suc i) others) s h)))
