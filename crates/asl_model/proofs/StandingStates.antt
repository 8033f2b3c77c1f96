-- The states of a machine are those that stand in the list of all its states, and so those of its table.
use Rattle.std.proofs.Common.{◌≡◌, refl, sym, ap, ◌∙◌, subst, ℕ, zero, suc, List, [], ◌∷◌, map, slice_get, Option, Some, None, option_map, ◌⊎◌, inl, inr}
use Rattle.std.proofs.lemmas.Option.{slice_get-map}
use Rattle.asl_model.specs.Machine.{Settings, Scope, ScopeOf, States, NoStates, AndState, State, StateOf, Kind, Pass, Task, Choice, Wait, Succeed, Fail, Parallel, Map, Scopes, NoScopes, AndScope, settings_of, kind_of, start_of, states_of}
use Rattle.asl_model.specs.Shape.{Shape}
use Rattle.asl_model.specs.Certificate.{Certificate}
use Rattle.asl_model.specs.FindingRules.{IsAmong, state_is_first, state_is_later, IsBranch, branch_is_first, branch_is_later, HasScope, has_itself, has_branch, has_processor, HasState}
use Rattle.asl_model.specs.Numbering.{Standing, standing, standing_in, standing_among, standing_inside, standing_by, standing_each, outline, outlined, table_of}
use Rattle.asl_model.proofs.NumberedScopes.{IsListed, listed_left, listed_right, listed_either, StandsAs}
use Rattle.asl_model.proofs.RunOptions.{some_inj, none_some}

-- ---- a state of the machine stands in the list

-- a state among those of a scope stands there
here_listed : (start : List ℕ) (owner : Option (List ℕ × ℕ)) {n : List ℕ} {state : State} {held : States} → IsAmong n state held → IsListed (standing_among start owner held) (record { name = n; state = state; start = start; owner = owner })
here_listed start owner state_is_first = inl refl
here_listed start owner {n} {state} (state_is_later {m = m} {other = other} {others = others} a) = inr (listed_right (standing_inside m other) (standing_among start owner others) (record { name = n; state = state; start = start; owner = owner }) (here_listed start owner a))

-- so do the states in its scopes
inside_listed : (start : List ℕ) (owner : Option (List ℕ × ℕ)) {n : List ℕ} {state : State} {held : States} → IsAmong n state held → (s : Standing) → IsListed (standing_inside n state) s → IsListed (standing_among start owner held) s
inside_listed start owner {n} {state} (state_is_first {others = others}) s h = inr (listed_left (standing_inside n state) (standing_among start owner others) s h)
inside_listed start owner (state_is_later {m = m} {other = other} {others = others} a) s h = inr (listed_right (standing_inside m other) (standing_among start owner others) s (inside_listed start owner a s h))

-- the states of a scope stand in that list
record ScopeStands (states : List Standing) (scope : Scope) : Type 0 where
  owner : Option (List ℕ × ℕ)
  holds : (s : Standing) → IsListed (standing_in owner scope) s → IsListed states s

-- those of a branch stand among those of all branches
branch_stands : (n : List ℕ) {branch : Scope} {i : ℕ} {branches : Scopes} (k : ℕ) → IsBranch branch i branches → ScopeStands (standing_each n k branches) branch
branch_stands n {branch} k (branch_is_first {others = others}) = record { owner = Some (n, k); holds = λ s h. listed_left (standing_in (Some (n, k)) branch) (standing_each n (suc k) others) s h }
branch_stands n k (branch_is_later {other = other} {others = others} b) = let w = branch_stands n (suc k) b in record { owner = w.owner; holds = λ s h. listed_right (standing_in (Some (n, k)) other) (standing_each n (suc k) others) s (w.holds s h) }

among_stands : (owner : Option (List ℕ × ℕ)) (scope : Scope) {n : List ℕ} {state : State} → IsAmong n state (states_of scope) → IsListed (standing_in owner scope) (record { name = n; state = state; start = start_of scope; owner = owner })
among_stands owner (ScopeOf start held) a = here_listed start owner a

inside_stands : (owner : Option (List ℕ × ℕ)) (scope : Scope) {n : List ℕ} {state : State} → IsAmong n state (states_of scope) → (s : Standing) → IsListed (standing_inside n state) s → IsListed (standing_in owner scope) s
inside_stands owner (ScopeOf start held) a s h = inside_listed start owner a s h

-- those of each scope stand in the machine's list
scope_stands : {machine : Scope} {certificate : Certificate} {scope : Scope} {end : Option Shape} → HasScope machine certificate scope end → ScopeStands (standing machine) scope
scope_stands has_itself = record { owner = None; holds = λ s h. h }
scope_stands (has_branch {scope = scope} {n = n} s a b) =
    let above = scope_stands s in
    let below = branch_stands n 0 b in
    record { owner = below.owner; holds = λ t h. above.holds t (inside_stands above.owner scope a t (below.holds t h)) }
scope_stands (has_processor {scope = scope} {n = n} s a) =
    let above = scope_stands s in
    record { owner = Some (n, 0); holds = λ t h. above.holds t (inside_stands above.owner scope a t h) }

pub state_stands : {machine : Scope} {certificate : Certificate} {n : List ℕ} {settings : Settings} {kind : Kind} {end : Option Shape} (state : HasState machine certificate n settings kind end) → StandsAs (standing machine) state.scope n (StateOf settings kind)
state_stands {n = n} {settings = settings} {kind = kind} state =
    let above = scope_stands state.has_scope in
    record { owner = above.owner; listed = above.holds (record { name = n; state = StateOf settings kind; start = start_of state.scope; owner = above.owner }) (among_stands above.owner state.scope state.among) }

-- ---- what stands in the list is a state of the machine

module _ (machine : Scope) (certificate : Certificate) where
  -- a state of the machine, in a scope with some end
  abbrev pub IsState : Standing → Type 0
  IsState s = (end : Option Shape) × HasState machine certificate s.name (settings_of s.state) (kind_of s.state) end

  mutual
    scope_states : (owner : Option (List ℕ × ℕ)) (scope : Scope) (end : Option Shape) → HasScope machine certificate scope end → (s : Standing) → IsListed (standing_in owner scope) s → IsState s
    scope_states owner (ScopeOf start held) end h s l = among_states start owner held (ScopeOf start held) end h (λ n state a. a) s l

    among_states : (start : List ℕ) (owner : Option (List ℕ × ℕ)) (held : States) (scope : Scope) (end : Option Shape) → HasScope machine certificate scope end → ((n : List ℕ) (state : State) → IsAmong n state held → IsAmong n state (states_of scope)) → (s : Standing) → IsListed (standing_among start owner held) s → IsState s
    among_states start owner NoStates scope end h among s l = absurd l
    among_states start owner (AndState n state others) scope end h among s (inl e) = subst IsState e (one_state start owner n state scope end h (among n state state_is_first))
    among_states start owner (AndState n state others) scope end h among s (inr l) =
        go (listed_either (standing_inside n state) (standing_among start owner others) s l) (inside_states n state scope end h (among n state state_is_first) s) (among_states start owner others scope end h (λ m other a. among m other (state_is_later a)) s)
      where
        go : IsListed (standing_inside n state) s ⊎ IsListed (standing_among start owner others) s → (IsListed (standing_inside n state) s → IsState s) → (IsListed (standing_among start owner others) s → IsState s) → IsState s
        go (inl i) inside later = inside i
        go (inr i) inside later = later i

    one_state : (start : List ℕ) (owner : Option (List ℕ × ℕ)) (n : List ℕ) (state : State) (scope : Scope) (end : Option Shape) → HasScope machine certificate scope end → IsAmong n state (states_of scope) → IsState (record { name = n; state = state; start = start; owner = owner })
    one_state start owner n (StateOf settings kind) scope end h a = (end, record { scope = scope; has_scope = h; among = a })

    inside_states : (n : List ℕ) (state : State) (scope : Scope) (end : Option Shape) → HasScope machine certificate scope end → IsAmong n state (states_of scope) → (s : Standing) → IsListed (standing_inside n state) s → IsState s
    inside_states n (StateOf settings kind) scope end h a s l = kind_states n kind settings scope end h a s l

    kind_states : (n : List ℕ) (kind : Kind) (settings : Settings) (scope : Scope) (end : Option Shape) → HasScope machine certificate scope end → IsAmong n (StateOf settings kind) (states_of scope) → (s : Standing) → IsListed (standing_by n kind) s → IsState s
    kind_states n (Pass result) settings scope end h a s l = absurd l
    kind_states n (Task resource) settings scope end h a s l = absurd l
    kind_states n (Choice rules default) settings scope end h a s l = absurd l
    kind_states n (Wait delay) settings scope end h a s l = absurd l
    kind_states n Succeed settings scope end h a s l = absurd l
    kind_states n (Fail error cause) settings scope end h a s l = absurd l
    kind_states n (Parallel branches) settings scope end h a s l = branch_states n 0 branches (λ branch i b. (_, has_branch h a b)) s l
    kind_states n (Map items selector processor) settings scope end h a s l = scope_states (Some (n, 0)) processor _ (has_processor h a) s l

    branch_states : (n : List ℕ) (k : ℕ) (branches : Scopes) → ((branch : Scope) (i : ℕ) → IsBranch branch i branches → (end : Option Shape) × HasScope machine certificate branch end) → (s : Standing) → IsListed (standing_each n k branches) s → IsState s
    branch_states n k NoScopes all s l = absurd l
    branch_states n k (AndScope scope others) all s l =
        go (listed_either (standing_in (Some (n, k)) scope) (standing_each n (suc k) others) s l) (scope_states (Some (n, k)) scope (all scope zero branch_is_first).0 (all scope zero branch_is_first).1 s) (branch_states n (suc k) others (λ branch i b. all branch (suc i) (branch_is_later b)) s)
      where
        go : IsListed (standing_in (Some (n, k)) scope) s ⊎ IsListed (standing_each n (suc k) others) s → (IsListed (standing_in (Some (n, k)) scope) s → IsState s) → (IsListed (standing_each n (suc k) others) s → IsState s) → IsState s
        go (inl i) this later = this i
        go (inr i) this later = later i

-- ---- rows of the table

-- what stands at a position is listed
listed_at : (states : List Standing) (i : ℕ) (s : Standing) → slice_get states i ≡ Some s → IsListed states s
listed_at [] i s e = none_some e
listed_at (x ∷ xs) zero s e = inl (some_inj e)
listed_at (x ∷ xs) (suc i) s e = inr (listed_at xs i s e)

-- and what is listed has a position
position_of : (states : List Standing) (s : Standing) → IsListed states s → (i : ℕ) × (slice_get states i ≡ Some s)
position_of [] s l = absurd l
position_of (x ∷ xs) s (inl e) = (0, ap Some e)
position_of (x ∷ xs) s (inr l) = let w = position_of xs s l in (suc w.0, w.1)

-- a column of the table, by what stands at each number
column : {A : Type 0} (f : Standing → A) (machine : Scope) (i : ℕ) → slice_get (map f (map outlined (standing machine))) i ≡ option_map f (option_map outlined (slice_get (standing machine) i))
column f machine i = slice_get-map f (map outlined (standing machine)) i ∙ ap (option_map f) (slice_get-map outlined (standing machine) i)

-- a state of the machine has a row
pub record HasNumber (machine : Scope) (n : List ℕ) (state : State) : Type 0 where
  pub number : ℕ
  pub named : slice_get (table_of machine).names number ≡ Some n
  pub shown : slice_get (table_of machine).states number ≡ Some (outline state)

pub state_numbered : {machine : Scope} {certificate : Certificate} {n : List ℕ} {settings : Settings} {kind : Kind} {end : Option Shape} → HasState machine certificate n settings kind end → HasNumber machine n (StateOf settings kind)
state_numbered {machine} {n = n} {settings = settings} {kind = kind} state =
    let stands = state_stands state in
    let s : Standing = record { name = n; state = StateOf settings kind; start = start_of state.scope; owner = stands.owner } in
    let w = position_of (standing machine) s stands.listed in
    record {
      number = w.0;
      named = column (λ t. t.name) machine w.0 ∙ ap (λ o. option_map (λ (t : Standing). t.name) (option_map outlined o)) w.1;
      shown = column (λ t. t.state) machine w.0 ∙ ap (λ o. option_map (λ (t : Standing). t.state) (option_map outlined o)) w.1;
    }

-- a row's name is that of a state of the machine, which stands at its number
pub record IsNamed (machine : Scope) (certificate : Certificate) (i : ℕ) (n : List ℕ) : Type 0 where
  pub shown : State
  pub here : slice_get (table_of machine).states i ≡ Some (outline shown)
  pub end : Option Shape
  pub stands : HasState machine certificate n (settings_of shown) (kind_of shown) end

pub is_named : (machine : Scope) (certificate : Certificate) (i : ℕ) (n : List ℕ) → slice_get (table_of machine).names i ≡ Some n → IsNamed machine certificate i n
is_named machine certificate i n e = go (slice_get (standing machine) i) refl (sym (column (λ t. t.name) machine i) ∙ e)
  where
    go : (o : Option Standing) → slice_get (standing machine) i ≡ o → option_map (λ (t : Standing). t.name) (option_map outlined o) ≡ Some n → IsNamed machine certificate i n
    go None is f = none_some f
    go (Some s) is f =
        let w : IsState machine certificate s = scope_states machine certificate None machine (Some certificate.output) has_itself s (listed_at (standing machine) i s is) in
        record {
          shown = s.state;
          here = column (λ t. t.state) machine i ∙ ap (λ o. option_map (λ (t : Standing). t.state) (option_map outlined o)) is;
          end = w.0;
          stands = subst (λ m. HasState machine certificate m (settings_of s.state) (kind_of s.state) w.0) (some_inj f) w.1;
        }

-- the state of a row is that state, without the states of its scopes
pub is_shown : (machine : Scope) (certificate : Certificate) (i : ℕ) (n : List ℕ) (state : State) → slice_get (table_of machine).states i ≡ Some state → (named : IsNamed machine certificate i n) → outline named.shown ≡ state
is_shown machine certificate i n state e named = some_inj (sym named.here ∙ e)
