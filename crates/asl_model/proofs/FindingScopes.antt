-- Where no rule is broken in a machine, none is at any state of any of its scopes, and each has its entry.
use Rattle.std.proofs.Common.{◌≡◌, ℕ, zero, suc, ◌+◌, List, [], ◌∷◌, ◌++◌, map, length, Bool, true, false, ◌&&◌, ◌||◌, not, eqb, Option, Some, None, refl, arith}
use Rattle.std.specs.Prelude.{IsTrue, bytes_eq, is_some, is_none, codes, if◌then◌else◌}
use Rattle.std.proofs.lemmas.Bool.{and_parts, or_cases, eqb-true, false≢true}
use Rattle.std.proofs.lemmas.Slice.Eq.{bytes_eq-Decides}
use Rattle.std.proofs.Common.{⊎_elim}
use Rattle.asl_model.specs.Machine.{Settings, Scope, ScopeOf, States, NoStates, AndState, State, StateOf, Kind, Pass, Task, Choice, Wait, Succeed, Fail, Parallel, Map, Scopes, NoScopes, AndScope, settings_of, kind_of, state_named, state_among, scope_at, child_scope, empty_scope, how_many, is_task, names_state, names_task, some_state, some_of_states, some_inside, some_in_kind, some_in_scopes, IsScopeOf, own_scope, scope_of_child}
use Rattle.asl_model.specs.Shape.{Shape}
use Rattle.asl_model.specs.Certificate.{TaskShapes, Declared, StateShapes, Certificate, under, certified, branch_end, item_end, child_end, branch_shape, or_never, branches_in, is_map, HasEntry}
use Rattle.asl_model.specs.Finding.{FindingFault, Breach, found_at, breach_unless, is_certified, entry_breaches, input_to_compare, surrounded_by, flow_breaches, where_certified, state_breaches, scope_findings, states_findings, state_findings, children_findings, branches_findings, unknown_entries, unknown_tasks, NotCertified, NotAState, TaskUndeclared, TaskUnknown}

-- Lists without an element

pub append-none : {A : Type 0} (xs ys : List A) → xs ++ ys ≡ [] → (xs ≡ []) × (ys ≡ [])
append-none [] ys e = (refl, e)
append-none (x ∷ xs) ys e = absurd (cc)

pub map-none : {A B : Type 0} (f : A → B) (xs : List A) → map f xs ≡ [] → xs ≡ []
map-none f [] e = refl
map-none f (x ∷ xs) e = absurd (cc)

pub none-unless : (b : Bool) (field : List ℕ) (fault : FindingFault) → breach_unless b field fault ≡ [] → IsTrue b
none-unless true field fault e = refl
none-unless false field fault e = absurd (cc)

pub found-none : (n : List ℕ) (breaches : List Breach) → found_at n breaches ≡ [] → breaches ≡ []
found-none n [] e = refl
found-none n (b ∷ bs) e = absurd (cc)

-- Entries

-- an entry's name that no state has is told
pub entry-known : (machine : Scope) (entries : List (List ℕ × StateShapes)) (n : List ℕ) → unknown_entries machine entries ≡ [] → IsTrue (is_some (under n entries)) → IsTrue (names_state machine n)
entry-known machine [] n e there = absurd (false≢true there)
entry-known machine (entry ∷ entries) n e there = go (bytes_eq entry.0 n) refl (entry-known machine entries n parts.1)
  where
    parts : (found_at entry.0 (breach_unless (names_state machine entry.0) (codes "states") NotAState) ≡ []) × (unknown_entries machine entries ≡ [])
    parts = append-none (found_at entry.0 (breach_unless (names_state machine entry.0) (codes "states") NotAState)) (unknown_entries machine entries) e

    go : (b : Bool) → bytes_eq entry.0 n ≡ b → (IsTrue (is_some (under n entries)) → IsTrue (names_state machine n)) → IsTrue (names_state machine n)
    go true same below =
        let named : entry.0 ≡ n = (bytes_eq-Decides entry.0 n).0 same in
        rw (← named) (none-unless (names_state machine entry.0) (codes "states") NotAState (found-none entry.0 (breach_unless (names_state machine entry.0) (codes "states") NotAState) parts.0))
    go false other below = below (rw other at there)

-- so for the declared tasks
pub task-known : (machine : Scope) (tasks : List (List ℕ × TaskShapes)) (n : List ℕ) → unknown_tasks machine tasks ≡ [] → IsTrue (is_some (under n tasks)) → IsTrue (names_task machine n)
task-known machine [] n e there = absurd (false≢true there)
task-known machine (task ∷ tasks) n e there = go (bytes_eq task.0 n) refl (task-known machine tasks n parts.1)
  where
    parts : (found_at task.0 (breach_unless (names_task machine task.0) (codes "tasks") TaskUnknown) ≡ []) × (unknown_tasks machine tasks ≡ [])
    parts = append-none (found_at task.0 (breach_unless (names_task machine task.0) (codes "tasks") TaskUnknown)) (unknown_tasks machine tasks) e

    go : (b : Bool) → bytes_eq task.0 n ≡ b → (IsTrue (is_some (under n tasks)) → IsTrue (names_task machine n)) → IsTrue (names_task machine n)
    go true same below =
        let named : task.0 ≡ n = (bytes_eq-Decides task.0 n).0 same in
        rw (← named) (none-unless (names_task machine task.0) (codes "tasks") TaskUnknown (found-none task.0 (breach_unless (names_task machine task.0) (codes "tasks") TaskUnknown) parts.0))
    go false other below = below (rw other at there)

-- States of all scopes

-- what holds of each state that a test picks and at which no rule is broken holds where some state is picked
abbrev FromState : Scope → Declared → Certificate → (List ℕ → State → Bool) → Type 0 → Type 0
FromState machine declared certificate test G = (end : Option Shape) (n : List ℕ) (state : State) → IsTrue (test n state) → state_breaches machine declared certificate end n (settings_of state) (kind_of state) ≡ [] → G

module _ (machine : Scope) (declared : Declared) (certificate : Certificate) (test : List ℕ → State → Bool) (G : Type 0) (tells : FromState machine declared certificate test G) where
  own-tells : (end : Option Shape) (n : List ℕ) (state : State) → IsTrue (test n state) → state_findings state machine declared certificate end n ≡ [] → G
  own-tells end n (StateOf settings kind) picked e = tells end n (StateOf settings kind) picked (found-none n (state_breaches machine declared certificate end n settings kind) (append-none (found_at n (state_breaches machine declared certificate end n settings kind)) (children_findings kind machine declared certificate n) e).0)

  mutual
    scope-tells : (scope : Scope) (end : Option Shape) → IsTrue (some_state test scope) → scope_findings scope machine declared certificate end ≡ [] → G
    scope-tells (ScopeOf start held) end picked e = states-tell held end picked e

    states-tell : (held : States) (end : Option Shape) → IsTrue (some_of_states test held) → states_findings held machine declared certificate end ≡ [] → G
    states-tell NoStates end picked e = absurd (false≢true picked)
    states-tell (AndState n state others) end picked e =
        let parts = append-none (state_findings state machine declared certificate end n) (states_findings others machine declared certificate end) e in
        ⊎_elim (λ here. own-tells end n state here parts.0) (λ there. ⊎_elim (λ inner. inside-tells state end n inner parts.0) (λ further. states-tell others end further parts.1) (or_cases (some_inside test state) (some_of_states test others) there)) (or_cases (test n state) (some_inside test state || some_of_states test others) picked)

    inside-tells : (state : State) (end : Option Shape) (n : List ℕ) → IsTrue (some_inside test state) → state_findings state machine declared certificate end n ≡ [] → G
    inside-tells (StateOf settings kind) end n picked e = kind-tells kind n picked (append-none (found_at n (state_breaches machine declared certificate end n settings kind)) (children_findings kind machine declared certificate n) e).1

    kind-tells : (kind : Kind) (n : List ℕ) → IsTrue (some_in_kind test kind) → children_findings kind machine declared certificate n ≡ [] → G
    kind-tells (Pass result) n picked e = absurd (false≢true picked)
    kind-tells (Task resource) n picked e = absurd (false≢true picked)
    kind-tells (Choice rules default) n picked e = absurd (false≢true picked)
    kind-tells (Wait delay) n picked e = absurd (false≢true picked)
    kind-tells Succeed n picked e = absurd (false≢true picked)
    kind-tells (Fail error cause) n picked e = absurd (false≢true picked)
    kind-tells (Parallel branches) n picked e = branches-tell branches n 0 picked e
    kind-tells (Map items selector processor) n picked e = scope-tells processor (item_end (certified certificate n)) picked e

    branches-tell : (branches : Scopes) (n : List ℕ) (i : ℕ) → IsTrue (some_in_scopes test branches) → branches_findings branches machine declared certificate n i ≡ [] → G
    branches-tell NoScopes n i picked e = absurd (false≢true picked)
    branches-tell (AndScope scope others) n i picked e =
        let parts = append-none (scope_findings scope machine declared certificate (branch_end i (certified certificate n))) (branches_findings others machine declared certificate n (suc i)) e in
        ⊎_elim (λ here. scope-tells scope (branch_end i (certified certificate n)) here parts.0) (λ there. branches-tell others n (suc i) there parts.1) (or_cases (some_state test scope) (some_in_scopes test others) picked)

-- the breaches of a state's entry, and those of its data flow
entry-parts : (machine : Scope) (declared : Declared) (certificate : Certificate) (end : Option Shape) (n : List ℕ) (settings : Settings) (kind : Kind) → state_breaches machine declared certificate end n settings kind ≡ [] → IsTrue (is_certified kind (certified certificate n)) × IsTrue (not (is_task kind) || is_some (under n declared.tasks)) × (where_certified (λ own. flow_breaches (surrounded_by declared (input_to_compare machine certificate) end n own) settings kind) (certified certificate n) ≡ [])
entry-parts machine declared certificate end n settings kind e =
    let parts = append-none (entry_breaches kind (certified certificate n) (under n declared.tasks)) (where_certified (λ own. flow_breaches (surrounded_by declared (input_to_compare machine certificate) end n own) settings kind) (certified certificate n)) e in
    let entry = append-none (breach_unless (is_certified kind (certified certificate n)) (codes "states") NotCertified) (breach_unless (not (is_task kind) || is_some (under n declared.tasks)) (codes "Resource") TaskUndeclared) parts.0 in
    (none-unless (is_certified kind (certified certificate n)) (codes "states") NotCertified entry.0, none-unless (not (is_task kind) || is_some (under n declared.tasks)) (codes "Resource") TaskUndeclared entry.1, parts.1)

pub flow-none : (machine : Scope) (declared : Declared) (certificate : Certificate) (end : Option Shape) (n : List ℕ) (settings : Settings) (kind : Kind) → state_breaches machine declared certificate end n settings kind ≡ [] → where_certified (λ own. flow_breaches (surrounded_by declared (input_to_compare machine certificate) end n own) settings kind) (certified certificate n) ≡ []
flow-none machine declared certificate end n settings kind e = (entry-parts machine declared certificate end n settings kind e).2

is-there : (kind : Kind) (entry : Option StateShapes) → IsTrue (is_certified kind entry) → IsTrue (is_some entry)
is-there kind None h = absurd (false≢true h)
is-there kind (Some entry) h = refl

-- each state has an entry
pub state-certified : (machine : Scope) (declared : Declared) (certificate : Certificate) (n : List ℕ) → scope_findings machine machine declared certificate (Some certificate.output) ≡ [] → IsTrue (names_state machine n) → IsTrue (is_some (certified certificate n))
state-certified machine declared certificate n e named = scope-tells machine declared certificate (λ m state. bytes_eq m n) (IsTrue (is_some (certified certificate n))) tells machine (Some certificate.output) named e
  where
    tells : FromState machine declared certificate (λ m state. bytes_eq m n) (IsTrue (is_some (certified certificate n)))
    tells end m state same none =
        let is : m ≡ n = (bytes_eq-Decides m n).0 same in
        rw (← is) (is-there (kind_of state) (certified certificate m) (entry-parts machine declared certificate end m (settings_of state) (kind_of state) none).0)

declared-task : (is_task some : Bool) → IsTrue is_task → IsTrue (not is_task || some) → IsTrue some
declared-task true some h e = e
declared-task false some h e = absurd (false≢true h)

-- each Task is declared
pub task-declared : (machine : Scope) (declared : Declared) (certificate : Certificate) (n : List ℕ) → scope_findings machine machine declared certificate (Some certificate.output) ≡ [] → IsTrue (names_task machine n) → IsTrue (is_some (under n declared.tasks))
task-declared machine declared certificate n e named = scope-tells machine declared certificate (λ m state. bytes_eq m n && is_task (kind_of state)) (IsTrue (is_some (under n declared.tasks))) tells machine (Some certificate.output) named e
  where
    tells : FromState machine declared certificate (λ m state. bytes_eq m n && is_task (kind_of state)) (IsTrue (is_some (under n declared.tasks)))
    tells end m state picked none =
        let both = and_parts (bytes_eq m n) (is_task (kind_of state)) picked in
        let is : m ≡ n = (bytes_eq-Decides m n).0 both.0 in
        rw (← is) (declared-task (is_task (kind_of state)) (is_some (under m declared.tasks)) both.1 (entry-parts machine declared certificate end m (settings_of state) (kind_of state) none).1)

is_map-item : (map : Bool) (item : Option Shape) → IsTrue (if map then is_some item else is_none item) → is_some item ≡ map
is_map-item true (Some item) h = refl
is_map-item true None h = absurd (false≢true h)
is_map-item false (Some item) h = absurd (false≢true h)
is_map-item false None h = refl

-- the state has an entry of the right form
pub has-entry : (machine : Scope) (declared : Declared) (certificate : Certificate) (end : Option Shape) (n : List ℕ) (settings : Settings) (kind : Kind) → state_breaches machine declared certificate end n settings kind ≡ [] → HasEntry certificate n kind
has-entry machine declared certificate end n settings kind e = go (certified certificate n) refl (entry-parts machine declared certificate end n settings kind e).0
  where
    go : (entry : Option StateShapes) → certified certificate n ≡ entry → IsTrue (is_certified kind entry) → HasEntry certificate n kind
    go None at h = absurd (false≢true h)
    go (Some entry) at h =
        let both = and_parts (eqb (length entry.branches) (branches_in kind)) (if is_map kind then is_some entry.item else is_none entry.item) h in
        record { shapes = entry; stands = at; branches = eqb-true (length entry.branches) (branches_in kind) both.0; item = is_map-item (is_map kind) entry.item both.1 }

-- Scopes of a machine

-- the first state of a name is one of the states
named-none : (machine : Scope) (declared : Declared) (certificate : Certificate) (end : Option Shape) (n : List ℕ) (held : States) (state : State) → states_findings held machine declared certificate end ≡ [] → state_among n held ≡ Some state → state_findings state machine declared certificate end n ≡ []
named-none machine declared certificate end n NoStates state e named = absurd (cc)
named-none machine declared certificate end n (AndState m first others) state e named = go (bytes_eq m n) refl (λ below. named-none machine declared certificate end n others state parts.1 below)
  where
    parts : (state_findings first machine declared certificate end m ≡ []) × (states_findings others machine declared certificate end ≡ [])
    parts = append-none (state_findings first machine declared certificate end m) (states_findings others machine declared certificate end) e

    go : (b : Bool) → bytes_eq m n ≡ b → (state_among n others ≡ Some state → state_findings state machine declared certificate end n ≡ []) → state_findings state machine declared certificate end n ≡ []
    go true same below =
        let is : m ≡ n = (bytes_eq-Decides m n).0 same in
        let found : Some first ≡ Some state = rw same at named in
        let that : first ≡ state = cc in
        rw (← is, ← that) parts.0
    go false other below = below (rw other at named)

pub state-none : (machine : Scope) (declared : Declared) (certificate : Certificate) (end : Option Shape) (n : List ℕ) (scope : Scope) (state : State) → scope_findings scope machine declared certificate end ≡ [] → state_named n scope ≡ Some state → state_findings state machine declared certificate end n ≡ []
state-none machine declared certificate end n (ScopeOf start held) state e named = named-none machine declared certificate end n held state e named

branch-none : (machine : Scope) (declared : Declared) (certificate : Certificate) (n : List ℕ) (branches : Scopes) (i k j : ℕ) → j ≡ i + k → branches_findings branches machine declared certificate n k ≡ [] → scope_findings (scope_at i branches) machine declared certificate (branch_end j (certified certificate n)) ≡ []
branch-none machine declared certificate n NoScopes i k j at e = refl
branch-none machine declared certificate n (AndScope scope others) zero k j at e =
    let is : j ≡ k = omega arith in
    rw is (append-none (scope_findings scope machine declared certificate (branch_end k (certified certificate n))) (branches_findings others machine declared certificate n (suc k)) e).0
branch-none machine declared certificate n (AndScope scope others) (suc i) k j at e = branch-none machine declared certificate n others i (suc k) j (omega arith) (append-none (scope_findings scope machine declared certificate (branch_end k (certified certificate n))) (branches_findings others machine declared certificate n (suc k)) e).1

-- a branch without a shape isn't there
past-branches : (shapes : List Shape) (branches : Scopes) (i : ℕ) → length shapes ≡ how_many branches → branch_shape i shapes ≡ None → scope_at i branches ≡ empty_scope
past-branches shapes NoScopes i same none = refl
past-branches [] (AndScope scope others) i same none = absurd (omega arith)
past-branches (s ∷ shapes) (AndScope scope others) zero same none = absurd (cc)
past-branches (s ∷ shapes) (AndScope scope others) (suc i) same none = past-branches shapes others i (omega arith) none

-- with the end of a scope that has one, or of one without a state
with-end : (machine : Scope) (declared : Declared) (certificate : Certificate) (scope : Scope) (end : Option Shape) → (end ≡ None → scope ≡ empty_scope) → scope_findings scope machine declared certificate end ≡ [] → scope_findings scope machine declared certificate (Some (or_never end)) ≡ []
with-end machine declared certificate scope (Some end) none e = e
with-end machine declared certificate scope None none e = rw (none refl) refl

-- no rule is broken in a child's scope, which has the end that the state's entry certifies
child-none : (machine : Scope) (declared : Declared) (certificate : Certificate) (n : List ℕ) (kind : Kind) (i : ℕ) → HasEntry certificate n kind → children_findings kind machine declared certificate n ≡ [] → scope_findings (child_scope kind i) machine declared certificate (Some (or_never (child_end kind (certified certificate n) i))) ≡ []
child-none machine declared certificate n (Pass result) i entry e = refl
child-none machine declared certificate n (Task resource) i entry e = refl
child-none machine declared certificate n (Choice rules default) i entry e = refl
child-none machine declared certificate n (Wait delay) i entry e = refl
child-none machine declared certificate n Succeed i entry e = refl
child-none machine declared certificate n (Fail error cause) i entry e = refl
child-none machine declared certificate n (Parallel branches) i entry e = with-end machine declared certificate (scope_at i branches) (branch_end i (certified certificate n)) past (branch-none machine declared certificate n branches i 0 i (omega arith) e)
  where
    past : branch_end i (certified certificate n) ≡ None → scope_at i branches ≡ empty_scope
    past none = past-branches entry.shapes.branches branches i entry.branches (rw entry.stands at none)
child-none machine declared certificate n (Map items selector processor) i entry e = with-end machine declared certificate processor (item_end (certified certificate n)) past e
  where
    absent : (item : Option Shape) → item ≡ None → is_some item ≡ true → ⊥
    absent None none some = false≢true some
    absent (Some item) none some = absurd (cc)

    past : item_end (certified certificate n) ≡ None → processor ≡ empty_scope
    past none = absurd (absent entry.shapes.item (rw entry.stands at none) entry.item)

children-none : (machine : Scope) (declared : Declared) (certificate : Certificate) (end : Option Shape) (n : List ℕ) (state : State) (i : ℕ) → state_findings state machine declared certificate end n ≡ [] → scope_findings (child_scope (kind_of state) i) machine declared certificate (Some (or_never (child_end (kind_of state) (certified certificate n) i))) ≡ []
children-none machine declared certificate end n (StateOf settings kind) i e =
    let parts = append-none (found_at n (state_breaches machine declared certificate end n settings kind)) (children_findings kind machine declared certificate n) e in
    child-none machine declared certificate n kind i (has-entry machine declared certificate end n settings kind (found-none n (state_breaches machine declared certificate end n settings kind) parts.0)) parts.1

-- no rule is broken in any scope, with some end
scopes-none : (machine : Scope) (declared : Declared) (certificate : Certificate) (scope : Scope) → IsScopeOf machine scope → scope_findings machine machine declared certificate (Some certificate.output) ≡ [] → (end : Option Shape) × (scope_findings scope machine declared certificate end ≡ [])
scopes-none machine declared certificate scope own_scope e = (Some certificate.output, e)
scopes-none machine declared certificate scope (scope_of_child {scope = outer} n state i inside named) e =
    let w = scopes-none machine declared certificate outer inside e in
    (Some (or_never (child_end (kind_of state) (certified certificate n) i)), children-none machine declared certificate w.0 n state i (state-none machine declared certificate w.0 n outer state w.1 named))

-- nor in a child's scope with the end that is certified
pub below-none : (machine : Scope) (declared : Declared) (certificate : Certificate) (scope : Scope) → IsScopeOf machine scope → (n : List ℕ) (state : State) → state_named n scope ≡ Some state → (i : ℕ) → scope_findings machine machine declared certificate (Some certificate.output) ≡ [] → scope_findings (child_scope (kind_of state) i) machine declared certificate (Some (or_never (child_end (kind_of state) (certified certificate n) i))) ≡ []
below-none machine declared certificate scope inside n state named i e =
    let w = scopes-none machine declared certificate scope inside e in
    children-none machine declared certificate w.0 n state i (state-none machine declared certificate w.0 n scope state w.1 named)
