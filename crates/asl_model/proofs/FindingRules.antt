-- The list of findings has a finding exactly where it is told.
use Rattle.std.proofs.Common.{◌≡◌, ◌↔◌, ◌+◌, ℕ, zero, suc, List, [], ◌∷◌, ◌++◌, length, Contains, Bool, true, false, ◌||◌, not, ◌==◌, is_some, is_none, IsFalse, if◌then◌else◌, Option, Some, None, codes, refl, sym, ap, subst, ◌∙◌, ◌⊎◌, inl, inr, arith}
use Rattle.std.proofs.lemmas.Bool.{and_from, or_parts, not-false, eq-eqb, eqb-true, and_parts, false_from_ne_true, false≢true, true≢false}
use Rattle.std.proofs.lemmas.List.Elements.{Contains-append_left, Contains-append_right, Contains-append_cases}
use Rattle.asl_model.specs.Machine.{Settings, Scope, ScopeOf, States, NoStates, AndState, State, StateOf, Kind, Pass, Task, Choice, Wait, Succeed, Fail, Parallel, Map, Scopes, NoScopes, AndScope, start_of, states_of, is_task, names_state, names_task}
use Rattle.asl_model.specs.Shape.{Shape}
use Rattle.asl_model.specs.Tree.{Tree}
use Rattle.asl_model.specs.Examples.{outside}
use Rattle.asl_model.specs.Certificate.{TaskShapes, Declared, StateShapes, Certificate, HasEntry, under, certified, branches_in, is_map, branch_end, item_end}
use Rattle.asl_model.specs.Finding.{FindingFault, NotCertified, NotAState, TaskUndeclared, TaskUnknown, StartInput, Breach, Finding, found_at, plain_breach, breach_unless, breach_shown, breach_unless_sub, has_form, is_certified, entry_breaches, input_to_compare, Surroundings, surrounded_by, flow_breaches, where_certified, state_breaches, scope_findings, states_findings, state_findings, children_findings, branches_findings, unknown_entries, unknown_tasks, start_findings, findings, Stands}
use Rattle.asl_model.specs.FindingRules.{IsAmong, state_is_first, state_is_later, IsBranch, branch_is_first, branch_is_later, HasScope, has_itself, has_branch, has_processor, HasState}
use Rattle.asl_model.proofs.FindingShown.{IsTold, told_uncertified, told_no_state, told_undeclared, told_unknown, told_start, told_flow}
use Rattle.asl_model.proofs.Listed.{none_in, first_in, later_in, first_or_later, map_in, in_map}
use Rattle.asl_model.proofs.FindingNames.{state_is_named, named_state, task_is_named, named_task, is_a_task, compared_found, found_compared, is_surrounded, same_surroundings}
use Rattle.asl_model.proofs.FindingTold.{flow_tells}
use Rattle.asl_model.proofs.FindingListed.{unless_in, shown_breach, sub_in, told_listed}

-- ---- single breaches

-- a breach that is told is that of the test, which fails
in_unless : (test : Bool) (field : List ℕ) (fault : FindingFault) (b : Breach) → Contains (breach_unless test field fault) b → IsFalse test × (plain_breach field fault ≡ b)
in_unless true field fault b c = none_in b c
in_unless false field fault b c = go (first_or_later (plain_breach field fault) b [] c)
  where
    go : (plain_breach field fault ≡ b) ⊎ Contains [] b → (false ≡ false) × (plain_breach field fault ≡ b)
    go (inl e) = (refl, e)
    go (inr c) = none_in b c

-- so of a tree that shows it
in_shown : (field : List ℕ) (fault : FindingFault) (o : Option Tree) (b : Breach) → Contains (breach_shown field fault o) b → (t : Tree) × (o ≡ Some t) × (shown_breach field fault t ≡ b)
in_shown field fault None b c = none_in b c
in_shown field fault (Some t) b c = go (first_or_later (shown_breach field fault t) b [] c)
  where
    go : (shown_breach field fault t ≡ b) ⊎ Contains [] b → (u : Tree) × (Some t ≡ Some u) × (shown_breach field fault u ≡ b)
    go (inl e) = (t, refl, e)
    go (inr c) = none_in b c

-- so for a comparison
in_sub : (field : List ℕ) (fault : FindingFault) (s : Shape) (o : Option Shape) (b : Breach) → Contains (breach_unless_sub field fault s o) b → (expected : Shape) × (t : Tree) × (o ≡ Some expected) × (outside s expected ≡ Some t) × (shown_breach field fault t ≡ b)
in_sub field fault s None b c = none_in b c
in_sub field fault s (Some expected) b c = let w = in_shown field fault (outside s expected) b c in (expected, w.0, refl, w.1, w.2)

-- a breach as a finding of a state
abbrev finding_of : List ℕ → Breach → Finding
finding_of n b = record { state = n; field = b.field; fault = b.fault; example = b.example }

-- ---- entries

-- an entry of the right form
entry_has_form : (kind : Kind) (entry : StateShapes) → length entry.branches ≡ branches_in kind → is_some entry.item ≡ is_map kind → has_form kind entry ≡ true
entry_has_form kind entry branches item = and_from (length entry.branches == branches_in kind) (if is_map kind then is_some entry.item else is_none entry.item) (eq-eqb (length entry.branches) (branches_in kind) branches) (go entry.item (is_map kind) item)
  where
    go : (o : Option Shape) (t : Bool) → is_some o ≡ t → (if t then is_some o else is_none o) ≡ true
    go None true e = e
    go None false e = refl
    go (Some s) true e = refl
    go (Some s) false e = absurd (true≢false e)

-- and what its form says
form_of_entry : (kind : Kind) (entry : StateShapes) → has_form kind entry ≡ true → (length entry.branches ≡ branches_in kind) × (is_some entry.item ≡ is_map kind)
form_of_entry kind entry h =
    let both = and_parts (length entry.branches == branches_in kind) (if is_map kind then is_some entry.item else is_none entry.item) h in
    (eqb-true (length entry.branches) (branches_in kind) both.0, go entry.item (is_map kind) both.1)
  where
    go : (o : Option Shape) (t : Bool) → (if t then is_some o else is_none o) ≡ true → is_some o ≡ t
    go None true e = e
    go None false e = refl
    go (Some s) true e = refl
    go (Some s) false e = absurd (false≢true e)

-- where the test fails there is no such entry
has_no_entry : (certificate : Certificate) (n : List ℕ) (kind : Kind) → is_certified kind (certified certificate n) ≡ false → HasEntry certificate n kind → ⊥
has_no_entry certificate n kind h entry = true≢false (sym (entry_has_form kind entry.shapes entry.branches entry.item) ∙ (sym (ap (is_certified kind) entry.stands) ∙ h))

-- where there is none the test fails
no_entry_told : (certificate : Certificate) (n : List ℕ) (kind : Kind) → (HasEntry certificate n kind → ⊥) → is_certified kind (certified certificate n) ≡ false
no_entry_told certificate n kind none = go (certified certificate n) refl
  where
    form : (entry : StateShapes) → certified certificate n ≡ Some entry → (t : Bool) → has_form kind entry ≡ t → has_form kind entry ≡ false
    form entry e true h = let w = form_of_entry kind entry h in absurd (none (record { shapes = entry; stands = e; branches = w.0; item = w.1 }))
    form entry e false h = h

    go : (o : Option StateShapes) → certified certificate n ≡ o → is_certified kind o ≡ false
    go None e = refl
    go (Some entry) e = form entry e (has_form kind entry) refl

-- an option that holds nothing
holds_none : {A : Type 0} (o : Option A) → is_some o ≡ false → o ≡ None
holds_none None h = refl
holds_none (Some a) h = absurd (true≢false h)

module _ (machine : Scope) (declared : Declared) (certificate : Certificate) where
  -- the finding is told
  abbrev Told : Finding → Type 0
  Told f = IsTold machine declared certificate f

  -- ---- what is listed is told

  -- the breaches of an entry
  entry_told : (n : List ℕ) (settings : Settings) (kind : Kind) (end : Option Shape) → HasState machine certificate n settings kind end → (b : Breach) → Contains (entry_breaches kind (certified certificate n) (under n declared.tasks)) b → Told (finding_of n b)
  entry_told n settings kind end state b c = go (Contains-append_cases (breach_unless (is_certified kind (certified certificate n)) (codes "states") NotCertified) (breach_unless (not (is_task kind) || is_some (under n declared.tasks)) (codes "Resource") TaskUndeclared) b c)
    where
      undeclared : IsFalse (not (is_task kind) || is_some (under n declared.tasks)) → Told (finding_of n (plain_breach (codes "Resource") TaskUndeclared))
      undeclared h =
          let both = or_parts (not (is_task kind)) (is_some (under n declared.tasks)) h in
          let task = is_a_task kind (not-false (is_task kind) both.0) in
          told_undeclared (subst (λ k. HasState machine certificate n settings k end) task.1 state) (holds_none (under n declared.tasks) both.1)

      go : Contains (breach_unless (is_certified kind (certified certificate n)) (codes "states") NotCertified) b ⊎ Contains (breach_unless (not (is_task kind) || is_some (under n declared.tasks)) (codes "Resource") TaskUndeclared) b → Told (finding_of n b)
      go (inl c) = let w = in_unless (is_certified kind (certified certificate n)) (codes "states") NotCertified b c in subst (λ x. Told (finding_of n x)) w.1 (told_uncertified state (has_no_entry certificate n kind w.0))
      go (inr c) = let w = in_unless (not (is_task kind) || is_some (under n declared.tasks)) (codes "Resource") TaskUndeclared b c in subst (λ x. Told (finding_of n x)) w.1 (undeclared w.0)

  -- those of what flows
  flow_told : (n : List ℕ) (settings : Settings) (kind : Kind) (end : Option Shape) → HasState machine certificate n settings kind end → (b : Breach) → (o : Option StateShapes) → certified certificate n ≡ o → Contains (where_certified (λ own. flow_breaches (surrounded_by declared (input_to_compare machine certificate) end n own) settings kind) o) b → Told (finding_of n b)
  flow_told n settings kind end state b None e c = none_in b c
  flow_told n settings kind end state b (Some entry) e c = let w = flow_tells (surrounded_by declared (input_to_compare machine certificate) end n entry) settings kind b c in told_flow (is_surrounded machine declared certificate state e) w.0 w.1

  -- those of a state
  state_told : (n : List ℕ) (settings : Settings) (kind : Kind) (end : Option Shape) → HasState machine certificate n settings kind end → (f : Finding) → Contains (found_at n (state_breaches machine declared certificate end n settings kind)) f → Told f
  state_told n settings kind end state f c = subst Told w.2 (go (Contains-append_cases (entry_breaches kind (certified certificate n) (under n declared.tasks)) (where_certified (λ own. flow_breaches (surrounded_by declared (input_to_compare machine certificate) end n own) settings kind) (certified certificate n)) w.0 w.1))
    where
      w : (b : Breach) × Contains (state_breaches machine declared certificate end n settings kind) b × (finding_of n b ≡ f)
      w = in_map (finding_of n) (state_breaches machine declared certificate end n settings kind) f c

      go : Contains (entry_breaches kind (certified certificate n) (under n declared.tasks)) w.0 ⊎ Contains (where_certified (λ own. flow_breaches (surrounded_by declared (input_to_compare machine certificate) end n own) settings kind) (certified certificate n)) w.0 → Told (finding_of n w.0)
      go (inl d) = entry_told n settings kind end state w.0 d
      go (inr d) = flow_told n settings kind end state w.0 (certified certificate n) refl d

  mutual
    scope_told : (scope : Scope) (end : Option Shape) → HasScope machine certificate scope end → (f : Finding) → Contains (scope_findings scope machine declared certificate end) f → Told f
    scope_told (ScopeOf start held) end s f c = states_told held (ScopeOf start held) end s (λ n state a. a) f c

    states_told : (held : States) (scope : Scope) (end : Option Shape) → HasScope machine certificate scope end → ((n : List ℕ) (state : State) → IsAmong n state held → IsAmong n state (states_of scope)) → (f : Finding) → Contains (states_findings held machine declared certificate end) f → Told f
    states_told NoStates scope end s among f c = none_in f c
    states_told (AndState n state others) scope end s among f c =
        go (Contains-append_cases (state_findings state machine declared certificate end n) (states_findings others machine declared certificate end) f c) (one_told state n scope end s (among n state state_is_first) f) (states_told others scope end s (λ m other a. among m other (state_is_later a)) f)
      where
        go : Contains (state_findings state machine declared certificate end n) f ⊎ Contains (states_findings others machine declared certificate end) f → (Contains (state_findings state machine declared certificate end n) f → Told f) → (Contains (states_findings others machine declared certificate end) f → Told f) → Told f
        go (inl d) here later = here d
        go (inr d) here later = later d

    one_told : (state : State) (n : List ℕ) (scope : Scope) (end : Option Shape) → HasScope machine certificate scope end → IsAmong n state (states_of scope) → (f : Finding) → Contains (state_findings state machine declared certificate end n) f → Told f
    one_told (StateOf settings kind) n scope end s a f c =
        go (Contains-append_cases (found_at n (state_breaches machine declared certificate end n settings kind)) (children_findings kind machine declared certificate n) f c) (kind_told kind settings n scope end s a f)
      where
        go : Contains (found_at n (state_breaches machine declared certificate end n settings kind)) f ⊎ Contains (children_findings kind machine declared certificate n) f → (Contains (children_findings kind machine declared certificate n) f → Told f) → Told f
        go (inl d) inside = state_told n settings kind end (record { scope = scope; has_scope = s; among = a }) f d
        go (inr d) inside = inside d

    kind_told : (kind : Kind) (settings : Settings) (n : List ℕ) (scope : Scope) (end : Option Shape) → HasScope machine certificate scope end → IsAmong n (StateOf settings kind) (states_of scope) → (f : Finding) → Contains (children_findings kind machine declared certificate n) f → Told f
    kind_told (Pass result) settings n scope end s a f c = none_in f c
    kind_told (Task resource) settings n scope end s a f c = none_in f c
    kind_told (Choice rules default) settings n scope end s a f c = none_in f c
    kind_told (Wait delay) settings n scope end s a f c = none_in f c
    kind_told Succeed settings n scope end s a f c = none_in f c
    kind_told (Fail error cause) settings n scope end s a f c = none_in f c
    kind_told (Parallel branches) settings n scope end s a f c = branches_told branches n 0 (λ branch k b. subst (λ i. HasScope machine certificate branch (branch_end i (certified certificate n))) (omega arith) (has_branch s a b)) f c
    kind_told (Map items selector processor) settings n scope end s a f c = scope_told processor (item_end (certified certificate n)) (has_processor s a) f c

    branches_told : (held : Scopes) (n : List ℕ) (i : ℕ) → ((branch : Scope) (k : ℕ) → IsBranch branch k held → HasScope machine certificate branch (branch_end (i + k) (certified certificate n))) → (f : Finding) → Contains (branches_findings held machine declared certificate n i) f → Told f
    branches_told NoScopes n i all f c = none_in f c
    branches_told (AndScope scope others) n i all f c =
        go (Contains-append_cases (scope_findings scope machine declared certificate (branch_end i (certified certificate n))) (branches_findings others machine declared certificate n (suc i)) f c)
        (scope_told scope (branch_end i (certified certificate n)) (subst (λ j. HasScope machine certificate scope (branch_end j (certified certificate n))) (omega arith) (all scope zero branch_is_first)) f)
        (branches_told others n (suc i) (λ branch k b. subst (λ j. HasScope machine certificate branch (branch_end j (certified certificate n))) (omega arith) (all branch (suc k) (branch_is_later b))) f)
      where
        go : Contains (scope_findings scope machine declared certificate (branch_end i (certified certificate n))) f ⊎ Contains (branches_findings others machine declared certificate n (suc i)) f → (Contains (scope_findings scope machine declared certificate (branch_end i (certified certificate n))) f → Told f) → (Contains (branches_findings others machine declared certificate n (suc i)) f → Told f) → Told f
        go (inl d) here later = here d
        go (inr d) here later = later d

  -- the entries that name no state
  entries_told : (entries : List (List ℕ × StateShapes)) → ((entry : List ℕ × StateShapes) → Contains entries entry → Contains certificate.states entry) → (f : Finding) → Contains (unknown_entries machine entries) f → Told f
  entries_told [] among f c = none_in f c
  entries_told (entry ∷ entries) among f c =
      go (Contains-append_cases (found_at entry.0 (breach_unless (names_state machine entry.0) (codes "states") NotAState)) (unknown_entries machine entries) f c) (entries_told entries (λ other d. among other (later_in entry other entries d)) f)
    where
      go : Contains (found_at entry.0 (breach_unless (names_state machine entry.0) (codes "states") NotAState)) f ⊎ Contains (unknown_entries machine entries) f → (Contains (unknown_entries machine entries) f → Told f) → Told f
      go (inl d) later =
          let w = in_map (finding_of entry.0) (breach_unless (names_state machine entry.0) (codes "states") NotAState) f d in
          let u = in_unless (names_state machine entry.0) (codes "states") NotAState w.0 w.1 in
          subst Told (ap (finding_of entry.0) u.1 ∙ w.2) (told_no_state (among entry (first_in entry entries)) (λ settings kind end state. true≢false (sym (state_is_named state) ∙ u.0)))
      go (inr d) later = later d

  -- the tasks that name no Task
  tasks_told : (tasks : List (List ℕ × TaskShapes)) → ((task : List ℕ × TaskShapes) → Contains tasks task → Contains declared.tasks task) → (f : Finding) → Contains (unknown_tasks machine tasks) f → Told f
  tasks_told [] among f c = none_in f c
  tasks_told (task ∷ tasks) among f c =
      go (Contains-append_cases (found_at task.0 (breach_unless (names_task machine task.0) (codes "tasks") TaskUnknown)) (unknown_tasks machine tasks) f c) (tasks_told tasks (λ other d. among other (later_in task other tasks d)) f)
    where
      go : Contains (found_at task.0 (breach_unless (names_task machine task.0) (codes "tasks") TaskUnknown)) f ⊎ Contains (unknown_tasks machine tasks) f → (Contains (unknown_tasks machine tasks) f → Told f) → Told f
      go (inl d) later =
          let w = in_map (finding_of task.0) (breach_unless (names_task machine task.0) (codes "tasks") TaskUnknown) f d in
          let u = in_unless (names_task machine task.0) (codes "tasks") TaskUnknown w.0 w.1 in
          subst Told (ap (finding_of task.0) u.1 ∙ w.2) (told_unknown (among task (first_in task tasks)) (λ settings resource end state. true≢false (sym (task_is_named state) ∙ u.0)))
      go (inr d) later = later d

  -- the start
  start_told : (f : Finding) → Contains (start_findings machine declared certificate) f → Told f
  start_told f c =
      let breaches = breach_unless_sub (codes "StartAt") StartInput declared.input (input_to_compare machine certificate (start_of machine)) in
      let w = in_map (finding_of (start_of machine)) breaches f c in
      let u = in_sub (codes "StartAt") StartInput declared.input (input_to_compare machine certificate (start_of machine)) w.0 w.1 in
      subst Told (ap (finding_of (start_of machine)) u.4 ∙ w.2) (told_start (found_compared machine certificate (start_of machine) u.0 u.2) u.3)

  -- ---- the parts of the list

  -- what entries tell
  abbrev of_entries : List Finding
  of_entries = unknown_entries machine certificate.states

  -- what declared tasks tell
  abbrev of_tasks : List Finding
  of_tasks = unknown_tasks machine declared.tasks

  -- what the start tells
  abbrev of_start : List Finding
  of_start = start_findings machine declared certificate

  -- what the states tell
  abbrev of_states : List Finding
  of_states = scope_findings machine machine declared certificate (Some certificate.output)

  -- what is listed is told
  listed_told : (f : Finding) → Contains (findings machine declared certificate) f → Told f
  listed_told f c = entries (Contains-append_cases of_entries (of_tasks ++ (of_start ++ of_states)) f c)
    where
      start : Contains of_start f ⊎ Contains of_states f → Told f
      start (inl d) = start_told f d
      start (inr d) = scope_told machine (Some certificate.output) has_itself f d

      tasks : Contains of_tasks f ⊎ Contains (of_start ++ of_states) f → Told f
      tasks (inl d) = tasks_told declared.tasks (λ task e. e) f d
      tasks (inr d) = start (Contains-append_cases of_start of_states f d)

      entries : Contains of_entries f ⊎ Contains (of_tasks ++ (of_start ++ of_states)) f → Told f
      entries (inl d) = entries_told certificate.states (λ entry e. e) f d
      entries (inr d) = tasks (Contains-append_cases of_tasks (of_start ++ of_states) f d)

  -- ---- what is told is listed

  -- what the states tell is told
  in_states : (f : Finding) → Contains of_states f → Contains (findings machine declared certificate) f
  in_states f c = Contains-append_right of_entries (of_tasks ++ (of_start ++ of_states)) f (Contains-append_right of_tasks (of_start ++ of_states) f (Contains-append_right of_start of_states f c))

  -- a finding of a state stands among those of its scope
  among_listed : {n : List ℕ} {state : State} {held : States} (end : Option Shape) (f : Finding) → IsAmong n state held → Contains (state_findings state machine declared certificate end n) f → Contains (states_findings held machine declared certificate end) f
  among_listed {n} {state} end f (state_is_first {others = others}) c = Contains-append_left (state_findings state machine declared certificate end n) (states_findings others machine declared certificate end) f c
  among_listed end f (state_is_later {m = m} {other = other} {others = others} a) c = Contains-append_right (state_findings other machine declared certificate end m) (states_findings others machine declared certificate end) f (among_listed end f a c)

  -- so does one of its own scopes
  inside_listed : (n : List ℕ) (settings : Settings) (kind : Kind) (end : Option Shape) (f : Finding) → Contains (children_findings kind machine declared certificate n) f → Contains (state_findings (StateOf settings kind) machine declared certificate end n) f
  inside_listed n settings kind end f c = Contains-append_right (found_at n (state_breaches machine declared certificate end n settings kind)) (children_findings kind machine declared certificate n) f c

  -- so does one of a branch
  branch_listed : (n : List ℕ) (f : Finding) {branch : Scope} {k : ℕ} {held : Scopes} → IsBranch branch k held → (i : ℕ) → Contains (scope_findings branch machine declared certificate (branch_end (i + k) (certified certificate n))) f → Contains (branches_findings held machine declared certificate n i) f
  branch_listed n f {branch} (branch_is_first {others = others}) i c = Contains-append_left (scope_findings branch machine declared certificate (branch_end i (certified certificate n))) (branches_findings others machine declared certificate n (suc i)) f (subst (λ j. Contains (scope_findings branch machine declared certificate (branch_end j (certified certificate n))) f) (omega arith) c)
  branch_listed n f {branch} (branch_is_later {other = other} {others = others} b) i c = Contains-append_right (scope_findings other machine declared certificate (branch_end i (certified certificate n))) (branches_findings others machine declared certificate n (suc i)) f (branch_listed n f b (suc i) (subst (λ j. Contains (scope_findings branch machine declared certificate (branch_end j (certified certificate n))) f) (omega arith) c))

  -- the findings of a scope are those of its states
  whole_scope : (scope : Scope) (end : Option Shape) (f : Finding) → Contains (states_findings (states_of scope) machine declared certificate end) f → Contains (scope_findings scope machine declared certificate end) f
  whole_scope (ScopeOf start held) end f c = c

  -- a finding of a scope stands among those of the machine
  scope_listed : {scope : Scope} {end : Option Shape} (f : Finding) → HasScope machine certificate scope end → Contains (states_findings (states_of scope) machine declared certificate end) f → Contains of_states f
  scope_listed f has_itself c = whole_scope machine (Some certificate.output) f c
  scope_listed f (has_branch {branch = branch} {end = end} {n = n} {settings = settings} {branches = branches} {i = i} s a b) c =
      scope_listed f s (among_listed end f a (inside_listed n settings (Parallel branches) end f (branch_listed n f b 0 (subst (λ j. Contains (scope_findings branch machine declared certificate (branch_end j (certified certificate n))) f) (omega arith) (whole_scope branch (branch_end i (certified certificate n)) f c)))))
  scope_listed f (has_processor {processor = processor} {end = end} {n = n} {settings = settings} {items = items} {selector = selector} s a) c =
      scope_listed f s (among_listed end f a (inside_listed n settings (Map items selector processor) end f (whole_scope processor (item_end (certified certificate n)) f c)))

  -- a breach of a state is told
  state_listed : {n : List ℕ} {settings : Settings} {kind : Kind} {end : Option Shape} (b : Breach) → HasState machine certificate n settings kind end → Contains (state_breaches machine declared certificate end n settings kind) b → Contains (findings machine declared certificate) (finding_of n b)
  state_listed {n} {settings} {kind} {end} b state c =
      in_states (finding_of n b)
      (scope_listed (finding_of n b) state.has_scope (among_listed end (finding_of n b) state.among
      (Contains-append_left (found_at n (state_breaches machine declared certificate end n settings kind)) (children_findings kind machine declared certificate n) (finding_of n b) (map_in (finding_of n) (state_breaches machine declared certificate end n settings kind) b c))))

  -- an entry that names no state is told
  entries_listed : (entries : List (List ℕ × StateShapes)) (entry : List ℕ × StateShapes) → Contains entries entry → names_state machine entry.0 ≡ false → Contains (unknown_entries machine entries) (finding_of entry.0 (plain_breach (codes "states") NotAState))
  entries_listed [] entry c h = none_in entry c
  entries_listed (first ∷ entries) entry c h = go (first_or_later first entry entries c) (λ d. entries_listed entries entry d h)
    where
      at : List ℕ × StateShapes → List Finding
      at e = found_at e.0 (breach_unless (names_state machine e.0) (codes "states") NotAState)

      go : (first ≡ entry) ⊎ Contains entries entry → (Contains entries entry → Contains (unknown_entries machine entries) (finding_of entry.0 (plain_breach (codes "states") NotAState))) → Contains (at first ++ unknown_entries machine entries) (finding_of entry.0 (plain_breach (codes "states") NotAState))
      go (inl e) later = Contains-append_left (at first) (unknown_entries machine entries) (finding_of entry.0 (plain_breach (codes "states") NotAState)) (subst (λ x. Contains (at x) (finding_of entry.0 (plain_breach (codes "states") NotAState))) (sym e) (map_in (finding_of entry.0) (breach_unless (names_state machine entry.0) (codes "states") NotAState) (plain_breach (codes "states") NotAState) (unless_in (names_state machine entry.0) (codes "states") NotAState h)))
      go (inr d) later = Contains-append_right (at first) (unknown_entries machine entries) (finding_of entry.0 (plain_breach (codes "states") NotAState)) (later d)

  -- a task that names no Task is told
  tasks_listed : (tasks : List (List ℕ × TaskShapes)) (task : List ℕ × TaskShapes) → Contains tasks task → names_task machine task.0 ≡ false → Contains (unknown_tasks machine tasks) (finding_of task.0 (plain_breach (codes "tasks") TaskUnknown))
  tasks_listed [] task c h = none_in task c
  tasks_listed (first ∷ tasks) task c h = go (first_or_later first task tasks c) (λ d. tasks_listed tasks task d h)
    where
      at : List ℕ × TaskShapes → List Finding
      at e = found_at e.0 (breach_unless (names_task machine e.0) (codes "tasks") TaskUnknown)

      go : (first ≡ task) ⊎ Contains tasks task → (Contains tasks task → Contains (unknown_tasks machine tasks) (finding_of task.0 (plain_breach (codes "tasks") TaskUnknown))) → Contains (at first ++ unknown_tasks machine tasks) (finding_of task.0 (plain_breach (codes "tasks") TaskUnknown))
      go (inl e) later = Contains-append_left (at first) (unknown_tasks machine tasks) (finding_of task.0 (plain_breach (codes "tasks") TaskUnknown)) (subst (λ x. Contains (at x) (finding_of task.0 (plain_breach (codes "tasks") TaskUnknown))) (sym e) (map_in (finding_of task.0) (breach_unless (names_task machine task.0) (codes "tasks") TaskUnknown) (plain_breach (codes "tasks") TaskUnknown) (unless_in (names_task machine task.0) (codes "tasks") TaskUnknown h)))
      go (inr d) later = Contains-append_right (at first) (unknown_tasks machine tasks) (finding_of task.0 (plain_breach (codes "tasks") TaskUnknown)) (later d)

  -- what is told is listed
  told_in : {f : Finding} → Told f → Contains (findings machine declared certificate) f
  told_in (told_uncertified {n = n} {settings = settings} {kind = kind} {end = end} state none) =
      state_listed (plain_breach (codes "states") NotCertified) state
      (Contains-append_left (entry_breaches kind (certified certificate n) (under n declared.tasks)) (where_certified (λ own. flow_breaches (surrounded_by declared (input_to_compare machine certificate) end n own) settings kind) (certified certificate n)) (plain_breach (codes "states") NotCertified)
      (Contains-append_left (breach_unless (is_certified kind (certified certificate n)) (codes "states") NotCertified) (breach_unless (not (is_task kind) || is_some (under n declared.tasks)) (codes "Resource") TaskUndeclared) (plain_breach (codes "states") NotCertified)
      (unless_in (is_certified kind (certified certificate n)) (codes "states") NotCertified (no_entry_told certificate n kind none))))
  told_in (told_no_state {entry = entry} among none) =
      Contains-append_left of_entries (of_tasks ++ (of_start ++ of_states)) (finding_of entry.0 (plain_breach (codes "states") NotAState))
      (entries_listed certificate.states entry among (false_from_ne_true (names_state machine entry.0) (λ h. let w = named_state machine certificate entry.0 h in none w.0 w.1 w.2 w.3)))
  told_in (told_undeclared {n = n} {resource = resource} {settings = settings} {end = end} state none) =
      state_listed (plain_breach (codes "Resource") TaskUndeclared) state
      (Contains-append_left (entry_breaches (Task resource) (certified certificate n) (under n declared.tasks)) (where_certified (λ own. flow_breaches (surrounded_by declared (input_to_compare machine certificate) end n own) settings (Task resource)) (certified certificate n)) (plain_breach (codes "Resource") TaskUndeclared)
      (Contains-append_right (breach_unless (is_certified (Task resource) (certified certificate n)) (codes "states") NotCertified) (breach_unless (is_some (under n declared.tasks)) (codes "Resource") TaskUndeclared) (plain_breach (codes "Resource") TaskUndeclared)
      (unless_in (is_some (under n declared.tasks)) (codes "Resource") TaskUndeclared (ap is_some none))))
  told_in (told_unknown {task = task} among none) =
      Contains-append_right of_entries (of_tasks ++ (of_start ++ of_states)) (finding_of task.0 (plain_breach (codes "tasks") TaskUnknown))
      (Contains-append_left of_tasks (of_start ++ of_states) (finding_of task.0 (plain_breach (codes "tasks") TaskUnknown))
      (tasks_listed declared.tasks task among (false_from_ne_true (names_task machine task.0) (λ h. let w = named_task machine certificate task.0 h in none w.0 w.1 w.2 w.3))))
  told_in (told_start {expected = expected} {t = t} compared h) =
      Contains-append_right of_entries (of_tasks ++ (of_start ++ of_states)) (finding_of (start_of machine) (shown_breach (codes "StartAt") StartInput t))
      (Contains-append_right of_tasks (of_start ++ of_states) (finding_of (start_of machine) (shown_breach (codes "StartAt") StartInput t))
      (Contains-append_left of_start of_states (finding_of (start_of machine) (shown_breach (codes "StartAt") StartInput t))
      (map_in (finding_of (start_of machine)) (breach_unless_sub (codes "StartAt") StartInput declared.input (input_to_compare machine certificate (start_of machine))) (shown_breach (codes "StartAt") StartInput t)
      (sub_in (codes "StartAt") StartInput declared.input (input_to_compare machine certificate (start_of machine)) expected t (compared_found compared) h))))
  told_in (told_flow {around = around} {settings = settings} {kind = kind} {field = field} {fault = fault} {example = example} is live breaks) =
      state_listed (record { field = field; fault = fault; example = example }) is.state
      (Contains-append_right (entry_breaches kind (certified certificate around.name) (under around.name declared.tasks)) (of_flow around settings kind (certified certificate around.name)) (record { field = field; fault = fault; example = example })
      (subst (λ o. Contains (of_flow around settings kind o) (record { field = field; fault = fault; example = example })) (sym is.entry)
      (subst (λ own. Contains (flow_breaches own settings kind) (record { field = field; fault = fault; example = example })) (same_surroundings machine declared certificate settings kind around is) (told_listed around settings live kind breaks))))
    where
      of_flow : Surroundings → Settings → Kind → Option StateShapes → List Breach
      of_flow around settings kind o = where_certified (λ own. flow_breaches (surrounded_by declared (input_to_compare machine certificate) around.end around.name own) settings kind) o

-- both ways
pub told_exactly : (machine : Scope) (declared : Declared) (certificate : Certificate) (f : Finding) → IsTold machine declared certificate f ↔ Stands machine declared certificate f
told_exactly machine declared certificate f = (told_in machine declared certificate, listed_told machine declared certificate f)
