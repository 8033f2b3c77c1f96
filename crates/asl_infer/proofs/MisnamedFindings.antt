-- What is wrong with the names of declared tasks stands for some certificate.
use Rattle.std.proofs.Common.{◌≡◌, ℕ, List, [], ◌∷◌, ◌++◌, codes, Bool, true, false, not, ◌||◌, Option, Some, None, is_some, refl, sym, ap, ◌∙◌, subst, ◌⊎◌, inl, inr}
use Rattle.std.proofs.lemmas.List.Elements.{Contains-append_left, Contains-append_right}
use Rattle.std.specs.List.{Contains}
use Rattle.asl_model.specs.Certificate as model
use Rattle.asl_model.specs.Certificate.{Declared, TaskShapes, under}
use Rattle.asl_model.specs.Finding.{Finding, FindingFault, Stands, TaskUndeclared, TaskUnknown, breach_unless, found_at, scope_findings, start_findings, has_example, unknown_entries, unknown_tasks}
use Rattle.asl_model.specs.FindingRules.{HasState, IsBroken, is_undeclared}
use Rattle.asl_model.specs.Machine.{Kind, Pass, Task, Choice, Wait, Succeed, Fail, Parallel, Map, Scope, State, StateOf, is_task, kind_of, names_task, settings_of}
use Rattle.asl_model.specs.Numbering.{kind_outline, outline, table_of}
use Rattle.asl_model.specs.Shape.{Never}
use Rattle.asl_model.specs.Tree.{Tree}
use Rattle.asl_model.proofs.Listed.{first_in, first_or_later, none_in}
use Rattle.asl_model.proofs.StandingStates.{IsNamed, is_named, is_shown}
use Rattle.asl_draft_laws.specs.Drafts.{Row, misnamed, rows_of, undeclared, unknown}
use Rattle.asl_draft_laws.proofs.CertifiedRows.{Among, ordered-only, row-known}
use Rattle.asl_draft_laws.proofs.SettledClosed.{have_task}
use Rattle.asl_infer.proofs.FirstNames.{state_in}
use Rattle.asl_infer.proofs.Listing.{either-in}
use Rattle.asl_infer.specs.Inferring.{IsOfMachine}

-- each broken rule stands with some example
abbrev pub BrokenStands : Type 0
BrokenStands = (machine : Scope) (declared : Declared) (certificate : model.Certificate) (found : Finding) → IsBroken machine declared certificate found → (example : Option Tree) × Stands machine declared certificate (record found { example = example })

-- one that stands has an example exactly where its fault has one
abbrev pub ExamplesStand : Type 0
ExamplesStand = (machine : Scope) (declared : Declared) (certificate : model.Certificate) (found : Finding) → Stands machine declared certificate found → is_some found.example ≡ has_example found.fault

-- a certificate of nothing
abbrev nothing_certified : model.Certificate
nothing_certified = record { output = Never; states = [] }

-- what is told of a test that fails
told-at : (n field : List ℕ) (fault : FindingFault) (holds : Bool) (found : Finding) → Contains (found_at n (breach_unless holds field fault)) found → (holds ≡ false) × (record { state = n; field = field; fault = fault; example = None } ≡ found)
told-at n field fault true found h = none_in found h
told-at n field fault false found h = go (first_or_later (record { state = n; field = field; fault = fault; example = None }) found [] h)
  where
    go : (record { state = n; field = field; fault = fault; example = None } ≡ found) ⊎ Contains [] found → (false ≡ false) × (record { state = n; field = field; fault = fault; example = None } ≡ found)
    go (inl e) = (refl, e)
    go (inr c) = none_in found c

-- ---- a Task that isn't declared

-- of which row it is told
record IsUndeclared (declared : Declared) (rows : List Row) (found : Finding) : Type 0 where
  pub row : Row
  pub among : Among rows row
  pub task : is_task (kind_of row.state) ≡ true
  pub missing : under row.name declared.tasks ≡ None
  pub told : record { state = row.name; field = codes "Resource"; fault = TaskUndeclared; example = None } ≡ found

both-fail : (a b : Bool) → not a || b ≡ false → (a ≡ true) × (b ≡ false)
both-fail true b h = (refl, h)
both-fail false b h = absurd (cc)

none-there : {A : Type 0} (o : Option A) → is_some o ≡ false → o ≡ None
none-there None h = refl
none-there (Some a) h = absurd (cc)

undeclared-in : (declared : Declared) (rows : List Row) (found : Finding) → Contains (undeclared declared rows) found → IsUndeclared declared rows found
undeclared-in declared [] found h = none_in found h
undeclared-in declared (row ∷ rows) found h = go (either-in own (undeclared declared rows) found h) (undeclared-in declared rows found)
  where
    holds : Bool
    holds = not (is_task (kind_of row.state)) || is_some (under row.name declared.tasks)

    own : List Finding
    own = found_at row.name (breach_unless holds (codes "Resource") TaskUndeclared)

    go : Contains own found ⊎ Contains (undeclared declared rows) found → (Contains (undeclared declared rows) found → IsUndeclared declared rows found) → IsUndeclared declared (row ∷ rows) found
    go (inl c) further =
        let told = told-at row.name (codes "Resource") TaskUndeclared holds found c in
        let both = both-fail (is_task (kind_of row.state)) (is_some (under row.name declared.tasks)) told.0 in
        record { row = row; among = inl refl; task = both.0; missing = none-there (under row.name declared.tasks) both.1; told = told.1 }
    go (inr c) further =
        let below = further c in
        record { row = below.row; among = inr below.among; task = below.task; missing = below.missing; told = below.told }

-- a Task is one without the states of its scopes too
task-behind : (kind : Kind) → is_task (kind_outline kind) ≡ true → (resource : List ℕ) × (kind ≡ Task resource)
task-behind (Pass result) h = absurd (cc)
task-behind (Task resource) h = (resource, refl)
task-behind (Choice rules default) h = absurd (cc)
task-behind (Wait delay) h = absurd (cc)
task-behind Succeed h = absurd (cc)
task-behind (Fail error cause) h = absurd (cc)
task-behind (Parallel branches) h = absurd (cc)
task-behind (Map items selector processor) h = absurd (cc)

kind-behind : (state : State) → is_task (kind_of (outline state)) ≡ true → (resource : List ℕ) × (kind_of state ≡ Task resource)
kind-behind (StateOf settings kind) h = task-behind kind h

undeclared-stands : BrokenStands → ExamplesStand → (machine : Scope) (declared : Declared) (found : Finding) → IsUndeclared declared (rows_of (table_of machine)) found → IsOfMachine machine declared found
undeclared-stands law shown machine declared found is =
    let r = is.row in
    let known = row-known (table_of machine) r is.among in
    let row : IsNamed machine nothing_certified r.number r.name = is_named machine nothing_certified r.number r.name known.0 in
    let same : outline row.shown ≡ r.state = is_shown machine nothing_certified r.number r.name r.state known.1 row in
    let task = kind-behind row.shown (ap (λ s. is_task (kind_of s)) same ∙ is.task) in
    let has : HasState machine nothing_certified r.name (settings_of row.shown) (Task task.0) row.end = subst (λ kind. HasState machine nothing_certified r.name (settings_of row.shown) kind row.end) task.1 row.stands in
    let there = law machine declared nothing_certified (record { state = r.name; field = codes "Resource"; fault = TaskUndeclared; example = None }) (is_undeclared has is.missing) in
    let none = none-there there.0 (shown machine declared nothing_certified (record { state = r.name; field = codes "Resource"; fault = TaskUndeclared; example = there.0 }) there.1) in
    subst (IsOfMachine machine declared) is.told (record {
      fault = refl;
      stands = (nothing_certified, subst (λ example. Stands machine declared nothing_certified (record { state = r.name; field = codes "Resource"; fault = TaskUndeclared; example = example })) none there.1);
    })

-- ---- a declared task that names no Task

-- of which task it is told
record IsUnknown (rows : List Row) (tasks : List (List ℕ × TaskShapes)) (found : Finding) : Type 0 where
  pub task : List ℕ × TaskShapes
  pub among : Contains tasks task
  pub none : have_task task.0 rows ≡ false
  pub told : record { state = task.0; field = codes "tasks"; fault = TaskUnknown; example = None } ≡ found

unknown-in : (rows : List Row) (tasks : List (List ℕ × TaskShapes)) (found : Finding) → Contains (unknown rows tasks) found → IsUnknown rows tasks found
unknown-in rows [] found h = none_in found h
unknown-in rows (task ∷ tasks) found h = go (either-in own (unknown rows tasks) found h) (unknown-in rows tasks found)
  where
    own : List Finding
    own = found_at task.0 (breach_unless (have_task task.0 rows) (codes "tasks") TaskUnknown)

    go : Contains own found ⊎ Contains (unknown rows tasks) found → (Contains (unknown rows tasks) found → IsUnknown rows tasks found) → IsUnknown rows (task ∷ tasks) found
    go (inl c) further =
        let told = told-at task.0 (codes "tasks") TaskUnknown (have_task task.0 rows) found c in
        record { task = task; among = first_in task tasks; none = told.0; told = told.1 }
    go (inr c) further =
        let below = further c in
        record { task = below.task; among = Rattle.asl_model.proofs.Listed.later_in task below.task tasks below.among; none = below.none; told = below.told }

-- it is listed
unknown-listed : (machine : Scope) (tasks : List (List ℕ × TaskShapes)) (task : List ℕ × TaskShapes) → Contains tasks task → names_task machine task.0 ≡ false → Contains (unknown_tasks machine tasks) (record { state = task.0; field = codes "tasks"; fault = TaskUnknown; example = None })
unknown-listed machine [] task among none = none_in task among
unknown-listed machine (first ∷ tasks) task among none = by (first_or_later first task tasks among) (λ later. unknown-listed machine tasks task later none)
  where
    by : (first ≡ task) ⊎ Contains tasks task → (Contains tasks task → Contains (unknown_tasks machine tasks) (record { state = task.0; field = codes "tasks"; fault = TaskUnknown; example = None })) → Contains (unknown_tasks machine (first ∷ tasks)) (record { state = task.0; field = codes "tasks"; fault = TaskUnknown; example = None })
    by (inl is) later = rw is (rw none (first_in (record { state = task.0; field = codes "tasks"; fault = TaskUnknown; example = None }) (unknown_tasks machine tasks)))
    by (inr there) later = Contains-append_right (found_at first.0 (breach_unless (names_task machine first.0) (codes "tasks") TaskUnknown)) (unknown_tasks machine tasks) (record { state = task.0; field = codes "tasks"; fault = TaskUnknown; example = None }) (later there)

unknown-stands : (machine : Scope) (declared : Declared) (found : Finding) → ((n : List ℕ) → have_task n (rows_of (table_of machine)) ≡ names_task machine n) → IsUnknown (rows_of (table_of machine)) declared.tasks found → IsOfMachine machine declared found
unknown-stands machine declared found same is =
    let told : Finding = record { state = is.task.0; field = codes "tasks"; fault = TaskUnknown; example = None } in
    let listed : Contains (unknown_tasks machine declared.tasks) told = unknown-listed machine declared.tasks is.task is.among (sym (same is.task.0) ∙ is.none) in
    let behind = start_findings machine declared nothing_certified ++ scope_findings machine machine declared nothing_certified (Some nothing_certified.output) in
    let all : Contains (unknown_tasks machine declared.tasks ++ behind) told = Contains-append_left (unknown_tasks machine declared.tasks) behind told listed in
    subst (IsOfMachine machine declared) is.told (record {
      fault = refl;
      stands = (nothing_certified, Contains-append_right (unknown_entries machine nothing_certified.states) (unknown_tasks machine declared.tasks ++ behind) told all);
    })

-- ---- both

-- what is among the elements is contained
among-in : {A : Type 0} (xs : List A) (x : A) → Among xs x → Contains xs x
among-in [] x h = absurd h
among-in (y ∷ ys) x (inl e) = subst (λ z. Contains (y ∷ ys) z) e (first_in y ys)
among-in (y ∷ ys) x (inr h) = Rattle.asl_model.proofs.Listed.later_in y x ys (among-in ys x h)

pub misnamed-stands : BrokenStands → ExamplesStand → (machine : Scope) (declared : Declared) (found : Finding) → ((n : List ℕ) → have_task n (rows_of (table_of machine)) ≡ names_task machine n) → Among (misnamed (table_of machine) declared) found → IsOfMachine machine declared found
misnamed-stands law shown machine declared found same h = go (either-in (undeclared declared (rows_of (table_of machine))) (unknown (rows_of (table_of machine)) declared.tasks) found (among-in (undeclared declared (rows_of (table_of machine)) ++ unknown (rows_of (table_of machine)) declared.tasks) found (ordered-only state_in (undeclared declared (rows_of (table_of machine)) ++ unknown (rows_of (table_of machine)) declared.tasks) found h)))
  where
    go : Contains (undeclared declared (rows_of (table_of machine))) found ⊎ Contains (unknown (rows_of (table_of machine)) declared.tasks) found → IsOfMachine machine declared found
    go (inl c) = undeclared-stands law shown machine declared found (undeclared-in declared (rows_of (table_of machine)) found c)
    go (inr c) = unknown-stands machine declared found same (unknown-in (rows_of (table_of machine)) declared.tasks found c)
