-- The states of a machine are those that its names find, and what flows to one is compared with what the list compares.
use Rattle.std.proofs.Common.{◌≡◌, ℕ, zero, suc, List, Bool, true, false, ◌&&◌, ◌||◌, Option, Some, None, bytes_eq, refl, sym, ap, ap₂, subst, ◌∙◌, ◌⊎◌, inl, inr}
use mathlib.Core.Path.{fun_ext}
use Rattle.std.proofs.lemmas.Bool.{and_parts, and_from, or_cases, or_left, or_right, false≢true, true≢false, false_from_ne_true}
use Rattle.std.proofs.lemmas.Option.{none-some, same_Some}
use Rattle.std.proofs.lemmas.Slice.Eq.{bytes_eq-Decides}
use Rattle.asl_model.specs.Machine.{Settings, Scope, ScopeOf, States, NoStates, AndState, State, StateOf, Kind, Pass, Task, Choice, Wait, Succeed, Fail, Parallel, Map, Scopes, NoScopes, AndScope, kind_of, states_of, is_task, some_state, some_of_states, some_inside, some_in_kind, some_in_scopes, names_state, names_task}
use Rattle.asl_model.specs.Shape.{Shape, Never}
use Rattle.asl_model.specs.Certificate.{Declared, StateShapes, Certificate, certified}
use Rattle.asl_model.specs.Finding.{Surroundings, surrounded_by, input_of_entry, input_to_compare}
use Rattle.asl_model.specs.FindingRules.{IsAmong, state_is_first, state_is_later, IsBranch, branch_is_first, branch_is_later, HasScope, has_itself, has_branch, has_processor, HasState, IsSurrounded, IsCompared, compared_with_entry, compared_with_never}

-- ---- a state that passes a test is found

-- one of these states passes
among_passes : (test : List ℕ → State → Bool) {n : List ℕ} {state : State} {held : States} → IsAmong n state held → test n state ≡ true → some_of_states test held ≡ true
among_passes test {n} {state} (state_is_first {others = others}) h = or_left (test n state) (some_inside test state || some_of_states test others) h
among_passes test (state_is_later {m = m} {other = other} {others = others} a) h = or_right (test m other) (some_inside test other || some_of_states test others) (or_right (some_inside test other) (some_of_states test others) (among_passes test a h))

-- one inside it passes
inside_passes : (test : List ℕ → State → Bool) {n : List ℕ} {state : State} {held : States} → IsAmong n state held → some_inside test state ≡ true → some_of_states test held ≡ true
inside_passes test {n} {state} (state_is_first {others = others}) h = or_right (test n state) (some_inside test state || some_of_states test others) (or_left (some_inside test state) (some_of_states test others) h)
inside_passes test (state_is_later {m = m} {other = other} {others = others} a) h = or_right (test m other) (some_inside test other || some_of_states test others) (or_right (some_inside test other) (some_of_states test others) (inside_passes test a h))

-- one in a branch passes
branch_passes : (test : List ℕ → State → Bool) {branch : Scope} {i : ℕ} {held : Scopes} → IsBranch branch i held → some_state test branch ≡ true → some_in_scopes test held ≡ true
branch_passes test {branch} (branch_is_first {others = others}) h = or_left (some_state test branch) (some_in_scopes test others) h
branch_passes test (branch_is_later {other = other} {others = others} b) h = or_right (some_state test other) (some_in_scopes test others) (branch_passes test b h)

-- one in a scope passes
scope_passes : (test : List ℕ → State → Bool) (scope : Scope) → some_of_states test (states_of scope) ≡ true → some_state test scope ≡ true
scope_passes test (ScopeOf start held) h = h

-- what passes in a scope of a machine passes in the machine
machine_passes : (test : List ℕ → State → Bool) {machine : Scope} {certificate : Certificate} {scope : Scope} {end : Option Shape} → HasScope machine certificate scope end → some_of_states test (states_of scope) ≡ true → some_state test machine ≡ true
machine_passes test {machine} has_itself h = scope_passes test machine h
machine_passes test (has_branch {branch = branch} s a b) h = machine_passes test s (inside_passes test a (branch_passes test b (scope_passes test branch h)))
machine_passes test (has_processor {processor = processor} s a) h = machine_passes test s (inside_passes test a (scope_passes test processor h))

-- ---- and the other way round

module _ (test : List ℕ → State → Bool) (machine : Scope) (certificate : Certificate) where
  -- a state of the machine passes the test
  record Passing : Type 0 where
    n : List ℕ
    settings : Settings
    kind : Kind
    end : Option Shape
    state : HasState machine certificate n settings kind end
    passes : test n (StateOf settings kind) ≡ true

  -- a state that passes itself
  passing_here : (scope : Scope) (end : Option Shape) → HasScope machine certificate scope end → (n : List ℕ) (state : State) → IsAmong n state (states_of scope) → test n state ≡ true → Passing
  passing_here scope end s n (StateOf settings kind) a h = record { n = n; settings = settings; kind = kind; end = end; state = record { scope = scope; has_scope = s; among = a }; passes = h }

  mutual
    passing_scope : (scope : Scope) (end : Option Shape) → HasScope machine certificate scope end → some_state test scope ≡ true → Passing
    passing_scope (ScopeOf start held) end s h = passing_states held (ScopeOf start held) end s (λ n state a. a) h

    passing_states : (held : States) (scope : Scope) (end : Option Shape) → HasScope machine certificate scope end → ((n : List ℕ) (state : State) → IsAmong n state held → IsAmong n state (states_of scope)) → some_of_states test held ≡ true → Passing
    passing_states NoStates scope end s among h = absurd (false≢true h)
    passing_states (AndState n state others) scope end s among h =
        go (or_cases (test n state) (some_inside test state || some_of_states test others) h) (passing_state state n scope end s (among n state state_is_first)) (passing_states others scope end s (λ m other a. among m other (state_is_later a)))
      where
        go : (test n state ≡ true) ⊎ ((some_inside test state || some_of_states test others) ≡ true) → (some_inside test state ≡ true → Passing) → (some_of_states test others ≡ true → Passing) → Passing
        go (inl here) inside later = passing_here scope end s n state (among n state state_is_first) here
        go (inr more) inside later = on (or_cases (some_inside test state) (some_of_states test others) more)
          where
            on : (some_inside test state ≡ true) ⊎ (some_of_states test others ≡ true) → Passing
            on (inl i) = inside i
            on (inr l) = later l

    passing_state : (state : State) (n : List ℕ) (scope : Scope) (end : Option Shape) → HasScope machine certificate scope end → IsAmong n state (states_of scope) → some_inside test state ≡ true → Passing
    passing_state (StateOf settings kind) n scope end s a h = passing_kind kind settings n scope end s a h

    passing_kind : (kind : Kind) (settings : Settings) (n : List ℕ) (scope : Scope) (end : Option Shape) → HasScope machine certificate scope end → IsAmong n (StateOf settings kind) (states_of scope) → some_in_kind test kind ≡ true → Passing
    passing_kind (Pass result) settings n scope end s a h = absurd (false≢true h)
    passing_kind (Task resource) settings n scope end s a h = absurd (false≢true h)
    passing_kind (Choice rules default) settings n scope end s a h = absurd (false≢true h)
    passing_kind (Wait delay) settings n scope end s a h = absurd (false≢true h)
    passing_kind Succeed settings n scope end s a h = absurd (false≢true h)
    passing_kind (Fail error cause) settings n scope end s a h = absurd (false≢true h)
    passing_kind (Parallel branches) settings n scope end s a h = passing_branches branches (λ branch i b. (_, has_branch s a b)) h
    passing_kind (Map items selector processor) settings n scope end s a h = passing_scope processor _ (has_processor s a) h

    passing_branches : (held : Scopes) → ((branch : Scope) (i : ℕ) → IsBranch branch i held → (end : Option Shape) × HasScope machine certificate branch end) → some_in_scopes test held ≡ true → Passing
    passing_branches NoScopes all h = absurd (false≢true h)
    passing_branches (AndScope scope others) all h = go (or_cases (some_state test scope) (some_in_scopes test others) h) (passing_scope scope (all scope zero branch_is_first).0 (all scope zero branch_is_first).1) (passing_branches others (λ branch i b. all branch (suc i) (branch_is_later b)))
      where
        go : (some_state test scope ≡ true) ⊎ (some_in_scopes test others ≡ true) → (some_state test scope ≡ true → Passing) → (some_in_scopes test others ≡ true → Passing) → Passing
        go (inl here) this later = this here
        go (inr there) this later = later there

-- ---- names

-- the name of a state is found
pub state_is_named : {machine : Scope} {certificate : Certificate} {n : List ℕ} {settings : Settings} {kind : Kind} {end : Option Shape} → HasState machine certificate n settings kind end → names_state machine n ≡ true
state_is_named {n = n} state = machine_passes (λ m other. bytes_eq m n) state.has_scope (among_passes (λ m other. bytes_eq m n) state.among ((bytes_eq-Decides n n).1 refl))

-- a name that is found is a state's
pub named_state : (machine : Scope) (certificate : Certificate) (n : List ℕ) → names_state machine n ≡ true → (settings : Settings) × (kind : Kind) × (end : Option Shape) × HasState machine certificate n settings kind end
named_state machine certificate n h =
    let p = passing_scope (λ m other. bytes_eq m n) machine certificate machine (Some certificate.output) has_itself h in
    (p.settings, p.kind, p.end, subst (λ m. HasState machine certificate m p.settings p.kind p.end) ((bytes_eq-Decides p.n n).0 p.passes) p.state)

-- the name of a Task is found
pub task_is_named : {machine : Scope} {certificate : Certificate} {n resource : List ℕ} {settings : Settings} {end : Option Shape} → HasState machine certificate n settings (Task resource) end → names_task machine n ≡ true
task_is_named {n = n} state = machine_passes (λ m other. bytes_eq m n && is_task (kind_of other)) state.has_scope (among_passes (λ m other. bytes_eq m n && is_task (kind_of other)) state.among (and_from (bytes_eq n n) true ((bytes_eq-Decides n n).1 refl) refl))

-- a Task by the test
pub is_a_task : (kind : Kind) → is_task kind ≡ true → (resource : List ℕ) × (kind ≡ Task resource)
is_a_task (Task resource) h = (resource, refl)
is_a_task kind h = absurd (false≢true h)

-- a name that is found so is a Task's
pub named_task : (machine : Scope) (certificate : Certificate) (n : List ℕ) → names_task machine n ≡ true → (settings : Settings) × (resource : List ℕ) × (end : Option Shape) × HasState machine certificate n settings (Task resource) end
named_task machine certificate n h =
    let p = passing_scope (λ m other. bytes_eq m n && is_task (kind_of other)) machine certificate machine (Some certificate.output) has_itself h in
    let both = and_parts (bytes_eq p.n n) (is_task p.kind) p.passes in
    let task = is_a_task p.kind both.1 in
    (p.settings, task.0, p.end, subst (λ kind. HasState machine certificate n p.settings kind p.end) task.1 (subst (λ m. HasState machine certificate m p.settings p.kind p.end) ((bytes_eq-Decides p.n n).0 both.0) p.state))

-- ---- comparisons

-- what is compared is found
pub compared_found : {machine : Scope} {certificate : Certificate} {n : List ℕ} {expected : Shape} → IsCompared machine certificate n expected → input_to_compare machine certificate n ≡ Some expected
compared_found {machine} {certificate} {n} (compared_with_entry e) = ap (input_of_entry (names_state machine n)) e
compared_found {machine} {certificate} {n} (compared_with_never e none) =
    ap (input_of_entry (names_state machine n)) e
    ∙ ap (λ is_state. input_of_entry is_state None) (false_from_ne_true (names_state machine n) (λ h. let w = named_state machine certificate n h in none w.0 w.1 w.2 w.3))

-- what is found is compared
pub found_compared : (machine : Scope) (certificate : Certificate) (n : List ℕ) (expected : Shape) → input_to_compare machine certificate n ≡ Some expected → IsCompared machine certificate n expected
found_compared machine certificate n expected h = go (certified certificate n) refl h
  where
    nameless : (t : Bool) → names_state machine n ≡ t → certified certificate n ≡ None → input_of_entry t None ≡ Some expected → IsCompared machine certificate n expected
    nameless true e f k = absurd (none-some expected k)
    nameless false e f k = subst (IsCompared machine certificate n) (same_Some Never expected k) (compared_with_never f (λ settings kind end state. true≢false (sym (state_is_named state) ∙ e)))

    go : (o : Option StateShapes) → certified certificate n ≡ o → input_of_entry (names_state machine n) o ≡ Some expected → IsCompared machine certificate n expected
    go None e k = nameless (names_state machine n) refl e k
    go (Some entry) e k = subst (IsCompared machine certificate n) (same_Some entry.input expected k) (compared_with_entry e)

-- ---- surroundings

-- two options that hold the same
same_option : (a b : Option Shape) → ((s : Shape) → a ≡ Some s → b ≡ Some s) → ((s : Shape) → b ≡ Some s → a ≡ Some s) → a ≡ b
same_option None None there back = refl
same_option None (Some s) there back = back s refl
same_option (Some s) b there back = sym (there s refl)

-- what a state with an entry is told to stand in are its surroundings
pub is_surrounded : (machine : Scope) (declared : Declared) (certificate : Certificate) {n : List ℕ} {settings : Settings} {kind : Kind} {end : Option Shape} {entry : StateShapes} → HasState machine certificate n settings kind end → certified certificate n ≡ Some entry → IsSurrounded machine declared certificate settings kind (surrounded_by declared (input_to_compare machine certificate) end n entry)
is_surrounded machine declared certificate state e = record { state = state; entry = e; tasks = refl; inputs = λ n expected. (found_compared machine certificate n expected, compared_found) }

-- and there are no others
pub same_surroundings : (machine : Scope) (declared : Declared) (certificate : Certificate) (settings : Settings) (kind : Kind) (around : Surroundings) → IsSurrounded machine declared certificate settings kind around → around ≡ surrounded_by declared (input_to_compare machine certificate) around.end around.name around.entry
same_surroundings machine declared certificate settings kind around is =
    ap₂ (λ known compared. surrounded_by known compared around.end around.name around.entry) is.tasks
    (fun_ext (λ n. same_option (around.inputs n) (input_to_compare machine certificate n) (λ s e. compared_found ((is.inputs n s).0 e)) (λ s e. (is.inputs n s).1 (found_compared machine certificate n s e))))
