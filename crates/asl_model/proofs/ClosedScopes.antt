-- A certificate is closed where it is closed at each state of the machine, found by going through the nested scopes.
use Rattle.std.proofs.Common.{◌≡◌, ◌↔◌, refl, subst, ℕ, zero, suc, List, Bool, true, false, if◌then◌else◌, bytes_eq, Option, Some, is_some, IsTrue}
use Rattle.asl_model.specs.Shape.{Shape, Inside}
use Rattle.asl_model.specs.Machine.{Scope, ScopeOf, States, NoStates, AndState, State, StateOf, Kind, Pass, Task, Choice, Wait, Succeed, Fail, Parallel, Map, Scopes, NoScopes, AndScope, kind_of, start_of, state_among, state_named, scope_at, child_scope, names_state, names_task, IsScopeOf, own_scope, scope_of_child}
use Rattle.asl_model.specs.Certificate.{Declared, Certificate, StateShapes, under, certified, certified_input, or_never, branch_end, item_end, child_end, IsClosedAt, IsClosed}
use Rattle.std.proofs.lemmas.Slice.Eq.{bytes_eq-Decides}
use Rattle.asl_model.proofs.RunOptions.{some_inj, none_some}

abbrev mutual
  -- the certificate is closed at each state of the scope, and of the scopes in those
  pub ScopeIsClosed : Declared → Certificate → Scope → Shape → Type 0
  ScopeIsClosed declared certificate (ScopeOf start held) end = StatesAreClosed declared certificate held end

  pub StatesAreClosed : Declared → Certificate → States → Shape → Type 0
  StatesAreClosed declared certificate NoStates end = Unit {0}
  StatesAreClosed declared certificate (AndState n state others) end = IsClosedAt declared certificate end n state × InsideIsClosed declared certificate state n × StatesAreClosed declared certificate others end

  pub InsideIsClosed : Declared → Certificate → State → List ℕ → Type 0
  InsideIsClosed declared certificate (StateOf settings kind) n = ChildrenAreClosed declared certificate kind (certified certificate n)

  pub ChildrenAreClosed : Declared → Certificate → Kind → Option StateShapes → Type 0
  ChildrenAreClosed declared certificate (Pass result) entry = Unit {0}
  ChildrenAreClosed declared certificate (Task resource) entry = Unit {0}
  ChildrenAreClosed declared certificate (Choice rules default) entry = Unit {0}
  ChildrenAreClosed declared certificate (Wait delay) entry = Unit {0}
  ChildrenAreClosed declared certificate Succeed entry = Unit {0}
  ChildrenAreClosed declared certificate (Fail error cause) entry = Unit {0}
  ChildrenAreClosed declared certificate (Parallel branches) entry = BranchesAreClosed declared certificate branches (λ i. or_never (branch_end i entry))
  ChildrenAreClosed declared certificate (Map items selector processor) entry = ScopeIsClosed declared certificate processor (or_never (item_end entry))

  pub BranchesAreClosed : Declared → Certificate → Scopes → (ℕ → Shape) → Type 0
  BranchesAreClosed declared certificate NoScopes ends = Unit {0}
  BranchesAreClosed declared certificate (AndScope branch others) ends = ScopeIsClosed declared certificate branch (ends 0) × BranchesAreClosed declared certificate others (λ i. ends (suc i))

module _ (declared : Declared) (certificate : Certificate) where
  branch_closed : (i : ℕ) (branches : Scopes) (ends : ℕ → Shape) → BranchesAreClosed declared certificate branches ends → ScopeIsClosed declared certificate (scope_at i branches) (ends i)
  branch_closed i NoScopes ends h = tt
  branch_closed zero (AndScope branch others) ends h = h.0
  branch_closed (suc i) (AndScope branch others) ends h = branch_closed i others (λ k. ends (suc k)) h.1

  child_closed : (kind : Kind) (entry : Option StateShapes) (i : ℕ) → ChildrenAreClosed declared certificate kind entry → ScopeIsClosed declared certificate (child_scope kind i) (or_never (child_end kind entry i))
  child_closed (Pass result) entry i h = tt
  child_closed (Task resource) entry i h = tt
  child_closed (Choice rules default) entry i h = tt
  child_closed (Wait delay) entry i h = tt
  child_closed Succeed entry i h = tt
  child_closed (Fail error cause) entry i h = tt
  child_closed (Parallel branches) entry i h = branch_closed i branches (λ k. or_never (branch_end k entry)) h
  child_closed (Map items selector processor) entry i h = h

  -- what is known of a state that is found
  abbrev Fine : Shape → List ℕ → State → Type 0
  Fine end n state = IsClosedAt declared certificate end n state × ChildrenAreClosed declared certificate (kind_of state) (certified certificate n)

  state_closed : (held : States) (end : Shape) (n : List ℕ) (state : State) → StatesAreClosed declared certificate held end → state_among n held ≡ Some state → Fine end n state
  state_closed NoStates end n state h e = none_some e
  state_closed (AndState m (StateOf settings kind) others) end n state h e = go (bytes_eq m n) refl e (λ f. state_closed others end n state h.2 f)
    where
      go : (same : Bool) → bytes_eq m n ≡ same → (if same then Some (StateOf settings kind) else state_among n others) ≡ Some state → (state_among n others ≡ Some state → Fine end n state) → Fine end n state
      go true f g further = subst (λ (k : List ℕ). Fine end k state) ((bytes_eq-Decides m n).0 f) (subst (Fine end m) (some_inj g) (h.0, h.1))
      go false f g further = further g

  found_closed : (scope : Scope) (end : Shape) (n : List ℕ) (state : State) → ScopeIsClosed declared certificate scope end → state_named n scope ≡ Some state → Fine end n state
  found_closed (ScopeOf start held) end n state h e = state_closed held end n state h e

  -- each scope is closed, with some end
  scope_closed : (machine : Scope) → ScopeIsClosed declared certificate machine certificate.output → {scope : Scope} → IsScopeOf machine scope → (end : Shape) × ScopeIsClosed declared certificate scope end
  scope_closed machine closed own_scope = (certificate.output, closed)
  scope_closed machine closed (scope_of_child {scope = scope} n state i is_scope e) =
      let outer = scope_closed machine closed is_scope in
      (or_never (child_end (kind_of state) (certified certificate n) i), child_closed (kind_of state) (certified certificate n) i (found_closed scope outer.0 n state outer.1 e).1)

  -- a child's with the one that is certified
  below_closed : (machine : Scope) → ScopeIsClosed declared certificate machine certificate.output → (scope : Scope) → IsScopeOf machine scope → (n : List ℕ) (state : State) → state_named n scope ≡ Some state → (i : ℕ) → ScopeIsClosed declared certificate (child_scope (kind_of state) i) (or_never (child_end (kind_of state) (certified certificate n) i))
  below_closed machine closed scope is_scope n state e i =
      let outer = scope_closed machine closed is_scope in
      child_closed (kind_of state) (certified certificate n) i (found_closed scope outer.0 n state outer.1 e).1

  -- closed at each state, so closed
  pub closed_at_each : (machine : Scope) → ((n : List ℕ) → IsTrue (is_some (certified certificate n)) → IsTrue (names_state machine n)) → ((n : List ℕ) → IsTrue (is_some (under n declared.tasks)) ↔ IsTrue (names_task machine n)) → Inside declared.input (certified_input certificate (start_of machine)) → ScopeIsClosed declared certificate machine certificate.output → IsClosed declared certificate machine
  closed_at_each machine no_other tasks start closed = record {
    no_other_entry = no_other;
    tasks = tasks;
    start = start;
    own = λ n state e. (found_closed machine certificate.output n state closed e).0;
    children = λ scope is_scope n state e i m inner there. (found_closed (child_scope (kind_of state) i) (or_never (child_end (kind_of state) (certified certificate n) i)) m inner (below_closed machine closed scope is_scope n state e i) there).0;
  }
