-- Each state of each scope of a machine stands in the list of all its states.
use Rattle.std.proofs.Common.{◌≡◌, refl, sym, ap, ◌∙◌, subst, ℕ, zero, suc, List, [], ◌∷◌, ◌++◌, Bool, true, false, if◌then◌else◌, bytes_eq, Option, Some, None, ◌⊎◌, inl, inr}
use Rattle.std.proofs.lemmas.Slice.Eq.{bytes_eq-Decides}
use Rattle.asl_model.specs.Machine.{Scope, ScopeOf, States, NoStates, AndState, State, StateOf, Kind, Pass, Task, Choice, Wait, Succeed, Fail, Parallel, Map, Scopes, NoScopes, AndScope, kind_of, start_of, state_among, state_named, scope_at, child_scope}
use Rattle.asl_model.specs.Numbering.{Standing, standing, standing_in, standing_among, standing_inside, standing_by, standing_each, IsScopeOf, own_scope, scope_of_child}
use Rattle.asl_model.proofs.RunOptions.{some_inj, none_some}

-- the state stands in the list
abbrev pub IsListed : List Standing → Standing → Type 0
IsListed [] s = ⊥
IsListed (x ∷ xs) s = (x ≡ s) ⊎ IsListed xs s

-- what is in one of two lists is in both together
pub listed_left : (xs ys : List Standing) (s : Standing) → IsListed xs s → IsListed (xs ++ ys) s
listed_left [] ys s h = absurd h
listed_left (x ∷ xs) ys s (inl e) = inl e
listed_left (x ∷ xs) ys s (inr h) = inr (listed_left xs ys s h)

pub listed_right : (xs ys : List Standing) (s : Standing) → IsListed ys s → IsListed (xs ++ ys) s
listed_right [] ys s h = h
listed_right (x ∷ xs) ys s h = inr (listed_right xs ys s h)

-- and what is in both together is in one of them
pub listed_either : (xs ys : List Standing) (s : Standing) → IsListed (xs ++ ys) s → IsListed xs s ⊎ IsListed ys s
listed_either [] ys s h = inr h
listed_either (x ∷ xs) ys s (inl e) = inl (inl e)
listed_either (x ∷ xs) ys s (inr h) = elim (listed_either xs ys s h) [ inl a ↦ inl (inr a) | inr b ↦ inr b ]

-- the states in the scopes of a state
abbrev inside : Standing → List Standing
inside s = standing_inside s.name s.state

-- with each state of the list those in its scopes stand there too
abbrev HoldsInner : List Standing → Type 0
HoldsInner states = (s t : Standing) → IsListed states s → IsListed (inside s) t → IsListed states t

-- two such lists together are one
both_hold : (xs ys : List Standing) → HoldsInner xs → HoldsInner ys → HoldsInner (xs ++ ys)
both_hold xs ys f g s t h k = elim (listed_either xs ys s h) [ inl a ↦ listed_left xs ys t (f s t a k) | inr b ↦ listed_right xs ys t (g s t b k) ]

-- a state in front of those in its scopes
front_holds : (s : Standing) → HoldsInner (inside s) → HoldsInner (s ∷ inside s)
front_holds s f u t (inl e) k = inr (subst (λ (v : Standing). IsListed (inside v) t) (sym e) k)
front_holds s f u t (inr h) k = inr (f u t h k)

none_hold : HoldsInner []
none_hold s t h k = absurd h

mutual
  pub scope_holds : (owner : Option (List ℕ × ℕ)) (scope : Scope) → HoldsInner (standing_in owner scope)
  scope_holds owner (ScopeOf start held) = states_hold start owner held

  states_hold : (start : List ℕ) (owner : Option (List ℕ × ℕ)) (held : States) → HoldsInner (standing_among start owner held)
  states_hold start owner NoStates = none_hold
  states_hold start owner (AndState n state others) = both_hold (record { name = n; state = state; start = start; owner = owner } ∷ standing_inside n state) (standing_among start owner others) (front_holds (record { name = n; state = state; start = start; owner = owner }) (state_holds n state)) (states_hold start owner others)

  state_holds : (n : List ℕ) (state : State) → HoldsInner (standing_inside n state)
  state_holds n (StateOf settings kind) = kind_holds n kind

  kind_holds : (n : List ℕ) (kind : Kind) → HoldsInner (standing_by n kind)
  kind_holds n (Pass result) = none_hold
  kind_holds n (Task resource) = none_hold
  kind_holds n (Choice rules default) = none_hold
  kind_holds n (Wait delay) = none_hold
  kind_holds n Succeed = none_hold
  kind_holds n (Fail error cause) = none_hold
  kind_holds n (Parallel branches) = branches_hold n 0 branches
  kind_holds n (Map items selector processor) = scope_holds (Some (n, 0)) processor

  branches_hold : (n : List ℕ) (i : ℕ) (branches : Scopes) → HoldsInner (standing_each n i branches)
  branches_hold n i NoScopes = none_hold
  branches_hold n i (AndScope scope others) = both_hold (standing_in (Some (n, i)) scope) (standing_each n (suc i) others) (scope_holds (Some (n, i)) scope) (branches_hold n (suc i) others)

-- a state of a scope, as it stands in a list: under its name, with its scope's start
pub record StandsAs (states : List Standing) (scope : Scope) (n : List ℕ) (state : State) : Type 0 where
  pub owner : Option (List ℕ × ℕ)
  pub listed : IsListed states (record { name = n; state = state; start = start_of scope; owner = owner })

-- a state among those of a scope is the first of that name
found_among : (start : List ℕ) (owner : Option (List ℕ × ℕ)) (held : States) (n : List ℕ) (state : State) → state_among n held ≡ Some state → IsListed (standing_among start owner held) (record { name = n; state = state; start = start; owner = owner })
found_among start owner NoStates n state e = none_some e
found_among start owner (AndState m other others) n state e = by (bytes_eq m n) refl e (found_among start owner others n state)
  where
    by : (same : Bool) → bytes_eq m n ≡ same → (if same then Some other else state_among n others) ≡ Some state → (state_among n others ≡ Some state → IsListed (standing_among start owner others) (record { name = n; state = state; start = start; owner = owner })) → IsListed (standing_among start owner (AndState m other others)) (record { name = n; state = state; start = start; owner = owner })
    by true f g further = inl (ap (λ (k : List ℕ). record { name = k; state = other; start = start; owner = owner }) ((bytes_eq-Decides m n).0 f) ∙ ap (λ (s : State). record { name = n; state = s; start = start; owner = owner }) (some_inj g))
    by false f g further = inr (listed_right (standing_inside m other) (standing_among start owner others) (record { name = n; state = state; start = start; owner = owner }) (further g))

found_in : (owner : Option (List ℕ × ℕ)) (scope : Scope) (n : List ℕ) (state : State) → state_named n scope ≡ Some state → StandsAs (standing_in owner scope) scope n state
found_in owner (ScopeOf start held) n state e = record { owner = owner; listed = found_among start owner held n state e }

-- a list that holds more
more_listed : (xs ys : List Standing) (scope : Scope) (n : List ℕ) (state : State) → ((s : Standing) → IsListed xs s → IsListed ys s) → StandsAs xs scope n state → StandsAs ys scope n state
more_listed xs ys scope n state f h = record { owner = h.owner; listed = f (record { name = n; state = state; start = start_of scope; owner = h.owner }) h.listed }

-- a state of a branch stands among those of all branches
found_branch : (m : List ℕ) (j : ℕ) (branches : Scopes) (i : ℕ) (n : List ℕ) (state : State) → state_named n (scope_at i branches) ≡ Some state → StandsAs (standing_each m j branches) (scope_at i branches) n state
found_branch m j NoScopes i n state e = none_some e
found_branch m j (AndScope scope others) zero n state e = more_listed (standing_in (Some (m, j)) scope) (standing_each m j (AndScope scope others)) scope n state (listed_left (standing_in (Some (m, j)) scope) (standing_each m (suc j) others)) (found_in (Some (m, j)) scope n state e)
found_branch m j (AndScope scope others) (suc i) n state e = more_listed (standing_each m (suc j) others) (standing_each m j (AndScope scope others)) (scope_at i others) n state (listed_right (standing_in (Some (m, j)) scope) (standing_each m (suc j) others)) (found_branch m (suc j) others i n state e)

-- a state of a child's scope stands among those in the scopes of its state
found_child : (m : List ℕ) (kind : Kind) (i : ℕ) (n : List ℕ) (state : State) → state_named n (child_scope kind i) ≡ Some state → StandsAs (standing_by m kind) (child_scope kind i) n state
found_child m (Pass result) i n state e = none_some e
found_child m (Task resource) i n state e = none_some e
found_child m (Choice rules default) i n state e = none_some e
found_child m (Wait delay) i n state e = none_some e
found_child m Succeed i n state e = none_some e
found_child m (Fail error cause) i n state e = none_some e
found_child m (Parallel branches) i n state e = found_branch m 0 branches i n state e
found_child m (Map items selector processor) i n state e = found_in (Some (m, 0)) processor n state e

found_under : (m : List ℕ) (parent : State) (i : ℕ) (n : List ℕ) (state : State) → state_named n (child_scope (kind_of parent) i) ≡ Some state → StandsAs (standing_inside m parent) (child_scope (kind_of parent) i) n state
found_under m (StateOf settings kind) i n state e = found_child m kind i n state e

-- each state of each scope of a machine stands in the list of all its states
pub all_stand : (machine scope : Scope) → IsScopeOf machine scope → (n : List ℕ) (state : State) → state_named n scope ≡ Some state → StandsAs (standing machine) scope n state
all_stand machine _ own_scope n state e = found_in None machine n state e
all_stand machine _ (scope_of_child {scope} m parent i is_scope named) n state e =
    let above : StandsAs (standing machine) scope m parent = all_stand machine scope is_scope m parent named in
    let below : StandsAs (standing_inside m parent) (child_scope (kind_of parent) i) n state = found_under m parent i n state e in
    record { owner = below.owner; listed = scope_holds None machine (record { name = m; state = parent; start = start_of scope; owner = above.owner }) (record { name = n; state = state; start = start_of (child_scope (kind_of parent) i); owner = below.owner }) above.listed below.listed }
