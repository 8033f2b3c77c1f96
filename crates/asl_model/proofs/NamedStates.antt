-- The states of a machine whose names stand once: each is found by its name, in a scope of the machine.
use Rattle.std.proofs.Common.{◌≡◌, refl, sym, ap, ◌∙◌, subst, ℕ, ◌<◌, List, [], ◌∷◌, map, Contains, Bool, true, false, IsTrue, if◌then◌else◌, bytes_eq, slice_get, Option, Some, None, is_some, ◌⊎◌, inl, inr, arith}
use Rattle.std.proofs.lemmas.Bool.{true≢false}
use Rattle.std.proofs.lemmas.Slice.Eq.{bytes_eq-Decides}
use Rattle.asl_model.specs.Machine.{Settings, Scope, States, NoStates, AndState, State, StateOf, Kind, Parallel, Map, Scopes, start_of, state_among, state_named, scope_at, how_many}
use Rattle.asl_model.specs.Shape.{Shape}
use Rattle.asl_model.specs.ShapeSpelling.{are_distinct}
use Rattle.asl_model.specs.Certificate.{Certificate, under}
use Rattle.asl_model.specs.FindingRules.{IsAmong, state_is_first, state_is_later, IsBranch, branch_is_first, branch_is_later, HasScope, has_itself, has_branch, has_processor, HasState}
use Rattle.asl_model.specs.Numbering.{Standing, standing, IsScopeOf, own_scope, scope_of_child, IsWellNamed}
use Rattle.asl_model.proofs.Listed.{none_in, first_or_later}
use Rattle.asl_model.proofs.NumberedScopes.{StandsAs, all_stand}
use Rattle.asl_model.proofs.NumberedStates.{StandsAt, stands_at, number_found}
use Rattle.asl_model.proofs.Numbering.{names_of_standing}
use Rattle.asl_model.proofs.RunOptions.{some_inj}
use Rattle.asl_model.proofs.StandingStates.{state_stands}

-- ---- names in scopes

-- a state among those of a scope has a name that finds one
pub named_among : {n : List ℕ} {state : State} {held : States} → IsAmong n state held → (other : State) × (state_among n held ≡ Some other)
named_among {n} {state} (state_is_first {others = others}) = (state, ap (λ b. if b then Some state else state_among n others) ((bytes_eq-Decides n n).1 refl))
named_among {n} (state_is_later {m = m} {other = other} {others = others} a) = go (bytes_eq m n) (named_among a)
  where
    go : (b : Bool) → (further : State) × (state_among n others ≡ Some further) → (found : State) × ((if b then Some other else state_among n others) ≡ Some found)
    go true w = (other, refl)
    go false w = w

-- what a name finds is among the states
pub found_among : (n : List ℕ) (held : States) (state : State) → state_among n held ≡ Some state → IsAmong n state held
found_among n (AndState m other others) state e = go (bytes_eq m n) refl e (found_among n others state)
  where
    go : (b : Bool) → bytes_eq m n ≡ b → (if b then Some other else state_among n others) ≡ Some state → (state_among n others ≡ Some state → IsAmong n state others) → IsAmong n state (AndState m other others)
    go true f g further = subst (λ k. IsAmong n state (AndState k other others)) (sym ((bytes_eq-Decides m n).0 f)) (subst (λ s. IsAmong n state (AndState n s others)) (sym (some_inj g)) state_is_first)
    go false f g further = state_is_later (further g)
found_among n NoStates state e = absurd (cc)

-- the branch of a number
pub branch_at : {branch : Scope} {i : ℕ} {branches : Scopes} → IsBranch branch i branches → (i < how_many branches) × (scope_at i branches ≡ branch)
branch_at branch_is_first = (omega arith, refl)
branch_at (branch_is_later b) = let w = branch_at b in (omega (arith, w.0), w.1)

-- something stands under the name of an entry
pub entry_there : {A : Type 0} (entries : List (List ℕ × A)) (entry : List ℕ × A) → Contains entries entry → IsTrue (is_some (under entry.0 entries))
entry_there [] entry c = none_in entry c
entry_there (first ∷ entries) entry c = go (bytes_eq first.0 entry.0) refl (first_or_later first entry entries c) (entry_there entries entry)
  where
    go : (b : Bool) → bytes_eq first.0 entry.0 ≡ b → (first ≡ entry) ⊎ Contains entries entry → (Contains entries entry → IsTrue (is_some (under entry.0 entries))) → IsTrue (is_some (if b then Some first.1 else under entry.0 entries))
    go true f w further = refl
    go false f (inl e) further = absurd (true≢false (sym ((bytes_eq-Decides first.0 entry.0).1 (ap (λ x. x.0) e)) ∙ f))
    go false f (inr d) further = further d

-- ---- the machine

module _ (machine : Scope) (certificate : Certificate) (well : IsWellNamed machine) where
  -- no name stands twice
  distinct : are_distinct (map (λ (s : Standing). s.name) (standing machine)) ≡ true
  distinct = ap are_distinct (names_of_standing None machine) ∙ well.distinct

  -- so two states of one name are one
  same_state : (scope : Scope) (n : List ℕ) (a b : State) → StandsAs (standing machine) scope n a → StandsAs (standing machine) scope n b → a ≡ b
  same_state scope n a b first second =
      let s : Standing = record { name = n; state = a; start = start_of scope; owner = first.owner } in
      let t : Standing = record { name = n; state = b; start = start_of scope; owner = second.owner } in
      let h : StandsAt (standing machine) s = stands_at (standing machine) s distinct first.listed in
      let k : StandsAt (standing machine) t = stands_at (standing machine) t distinct second.listed in
      let number : h.number ≡ k.number = some_inj (sym (number_found (standing machine) s h) ∙ number_found (standing machine) t k) in
      ap (λ (u : Standing). u.state) (some_inj (sym h.here ∙ (ap (slice_get (standing machine)) number ∙ k.here)))

  -- a state of a scope of the machine is found by its name
  is_found : {n : List ℕ} {settings : Settings} {kind : Kind} {end : Option Shape} (state : HasState machine certificate n settings kind end) → IsScopeOf machine state.scope → state_named n state.scope ≡ Some (StateOf settings kind)
  is_found {n} {settings} {kind} state is_scope =
      let w = named_among state.among in
      w.1 ∙ ap Some (same_state state.scope n w.0 (StateOf settings kind) (all_stand machine state.scope is_scope n w.0 w.1) (state_stands state))

  -- and its scope is one of the machine's
  pub scope_is : {scope : Scope} {end : Option Shape} → HasScope machine certificate scope end → IsScopeOf machine scope
  scope_is has_itself = own_scope
  scope_is (has_branch {scope = scope} {n = n} {settings = settings} {branches = branches} {i = i} s a b) = subst (IsScopeOf machine) (branch_at b).1 (scope_of_child n (StateOf settings (Parallel branches)) i (scope_is s) (is_found (record { scope = scope; has_scope = s; among = a }) (scope_is s)))
  scope_is (has_processor {scope = scope} {processor = processor} {n = n} {settings = settings} {items = items} {selector = selector} s a) = scope_of_child n (StateOf settings (Map items selector processor)) 0 (scope_is s) (is_found (record { scope = scope; has_scope = s; among = a }) (scope_is s))

  -- so each state is found by its name
  pub state_found : {n : List ℕ} {settings : Settings} {kind : Kind} {end : Option Shape} (state : HasState machine certificate n settings kind end) → state_named n state.scope ≡ Some (StateOf settings kind)
  state_found state = is_found state (scope_is state.has_scope)
