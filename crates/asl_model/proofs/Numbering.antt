-- The names of the states of a machine, in the order of their numbers.
use Rattle.std.proofs.Common.{◌≡◌, refl, ap, ◌∙◌, ℕ, suc, List, [], ◌∷◌, ◌++◌, map, Option, Some}
use Rattle.std.proofs.lemmas.List.{map-append}
use Rattle.asl_model.specs.Machine.{Scope, ScopeOf, States, NoStates, AndState, State, StateOf, Kind, Pass, Task, Choice, Wait, Succeed, Fail, Parallel, Map, Scopes, NoScopes, AndScope}
use Rattle.asl_model.specs.StandsFor.{all_names, names_among, names_within, nested_names, names_of_scopes}
use Rattle.asl_model.specs.Numbering.{Standing, standing_in, standing_among, standing_inside, standing_by, standing_each, outlined}

-- a state's name
abbrev name_of : Standing → List ℕ
name_of s = s.name

-- the names of two lists of states, one behind the other
both_names : (xs ys : List Standing) (ns ms : List (List ℕ)) → map name_of xs ≡ ns → map name_of ys ≡ ms → map name_of (xs ++ ys) ≡ ns ++ ms
both_names xs ys ns ms e f = map-append name_of xs ys ∙ (ap (λ l. l ++ map name_of ys) e ∙ ap (λ l. ns ++ l) f)

mutual
  pub names_of_standing : (owner : Option (List ℕ × ℕ)) (scope : Scope) → map (λ s. s.name) (standing_in owner scope) ≡ all_names scope
  names_of_standing owner (ScopeOf start held) = names_standing_among start owner held

  names_standing_among : (start : List ℕ) (owner : Option (List ℕ × ℕ)) (held : States) → map name_of (standing_among start owner held) ≡ names_among held
  names_standing_among start owner NoStates = refl
  names_standing_among start owner (AndState n state others) = ap (λ ns. n ∷ ns) (both_names (standing_inside n state) (standing_among start owner others) (names_within state) (names_among others) (names_standing_inside n state) (names_standing_among start owner others))

  names_standing_inside : (n : List ℕ) (state : State) → map name_of (standing_inside n state) ≡ names_within state
  names_standing_inside n (StateOf settings kind) = names_standing_by n kind

  names_standing_by : (n : List ℕ) (kind : Kind) → map name_of (standing_by n kind) ≡ nested_names kind
  names_standing_by n (Pass result) = refl
  names_standing_by n (Task resource) = refl
  names_standing_by n (Choice rules default) = refl
  names_standing_by n (Wait delay) = refl
  names_standing_by n Succeed = refl
  names_standing_by n (Fail error cause) = refl
  names_standing_by n (Parallel branches) = names_standing_each n 0 branches
  names_standing_by n (Map items selector processor) = names_of_standing (Some (n, 0)) processor

  names_standing_each : (n : List ℕ) (i : ℕ) (branches : Scopes) → map name_of (standing_each n i branches) ≡ names_of_scopes branches
  names_standing_each n i NoScopes = refl
  names_standing_each n i (AndScope scope others) = both_names (standing_in (Some (n, i)) scope) (standing_each n (suc i) others) (all_names scope) (names_of_scopes others) (names_of_standing (Some (n, i)) scope) (names_standing_each n (suc i) others)

-- what is left out of a state leaves its name
pub outlined_names : (states : List Standing) → map (λ s. s.name) (map outlined states) ≡ map (λ s. s.name) states
outlined_names [] = refl
outlined_names (s ∷ states) = ap (λ ns. s.name ∷ ns) (outlined_names states)
