-- Worked certificates that are closed, and worked inputs and events that obey: no premise of the law is empty.
use Rattle.std.proofs.Common.{◌≡◌, ◌∙◌, refl, subst, sym, arith, ℕ, zero, suc, All, List, [], ◌∷◌, map, Bool, true, false, ◌&&◌, ◌||◌, if◌then◌else◌, bytes_eq, IsTrue, Option, Some, None, is_some, codes}
use Rattle.asl_model.specs.Tree.{Tree, Null, Boolean, Integer, Text, Array, Object, Trees, NoTrees, AndTree, count, NoFields, trees_of}
use Rattle.asl_model.specs.Path.{Name, Index}
use Rattle.asl_model.specs.Shape.{Shape, Any, Never, IntegerShape, StringShape, ArrayShape, ObjectShape, NoShapes, AndShape, NoFieldShapes, AndFieldShape, Has, has}
use Rattle.asl_model.specs.Flow.{Asks, Splits, first_move}
use Rattle.asl_model.specs.Machine.{Scope, ScopeOf, AndState, NoStates, StateOf, Pass, Task, Choice, Wait, SecondsPath, Succeed, Fail, Parallel, Map, AndScope, NoScopes, states_of, LeadsInside, own_scope}
use Rattle.asl_model.specs.Run.{Ready, Waiting, Split, Done, NoActivities, AndActivity, Event, run_of, Move, Gives, Entered, Asked, Left, Ended, Output}
use Rattle.asl_model.specs.Certificate.{TaskShapes, Declared, StateShapes, Certificate, under, or_never, branch_shape, EachHas, WorkFits, IsClosedAt, IsClosed, Obeys, NoTurnRaises, TurnsAreAsCertified, RunIsAsCertified, HasSplit, ActivityFits, ActivitiesAreAsCertified, MovesOn, Works, Nests, group_of}
use Rattle.asl_model.proofs.RunOptions.{false_true, none_some}
use Rattle.asl_model.proofs.ClosedScopes.{closed_at_each}
use Rattle.asl_model.proofs.RunLaws.{never_fault, every_activity}
use Rattle.asl_model.proofs.NamesLead.{IsNamed, ScopeLeads, leads_inside}
use Rattle.asl_model.proofs.ExamplesRuns.{ends, whole, one, at, passing, placing, one_task, retrying_with, retrier, three_failures, retried_and_caught, told}

-- what is certified of a state that has no children
abbrev pub plain : Shape → Shape → StateShapes
plain input output = record { input = input; output = output; branches = []; item = None }

-- a Pass of integers
abbrev pub integers_in : Declared
integers_in = record { input = IntegerShape; tasks = [] }

abbrev pub integers_out : Certificate
integers_out = record { output = IntegerShape; states = (codes "A", plain IntegerShape IntegerShape) ∷ [] }

integers_at : IsClosedAt integers_in integers_out IntegerShape (codes "A") (StateOf ends (Pass None))
integers_at = record { entry = record { shapes = plain IntegerShape IntegerShape; stands = refl; branches = refl; item = refl }; work = λ v h. (h, h); catchers = λ v h. tt }

pub integers_closed : IsClosed integers_in integers_out passing
integers_closed = closed_at_each integers_in integers_out passing (λ n. entry (bytes_eq (codes "A") n)) (λ n. (λ h. false_true h, task (bytes_eq (codes "A") n))) (λ t h. h) (integers_at, tt, tt)
  where
    entry : (a : Bool) → IsTrue (is_some (if a then Some (plain IntegerShape IntegerShape) else None)) → IsTrue (a || (false || false))
    entry true h = refl
    entry false h = false_true h

    task : (a : Bool) → IsTrue ((a && false) || (false || false)) → IsTrue (is_some (under {A = TaskShapes} [] []))
    task true h = false_true h
    task false h = false_true h

-- a Parallel of two Tasks that goes on to a Pass, which takes the second output
abbrev pub second_of_two : Scope
second_of_two = ScopeOf (codes "P") (AndState (codes "N") (StateOf (record ends { input_path = Some (Index 1 ∷ []) }) (Pass None)) (AndState (codes "P") (StateOf (record ends { next = Some (codes "N") }) (Parallel (AndScope (one_task (codes "T0")) (AndScope (one_task (codes "T1")) NoScopes)))) NoStates))

-- the shape of a list of an integer and a text
abbrev pub integer_and_text : Shape
integer_and_text = ArrayShape (AndShape IntegerShape (AndShape StringShape NoShapes)) Never

abbrev pub task_gives : Shape → TaskShapes
task_gives gives = record { takes = Any; gives = gives }

abbrev pub two_tasks : Declared
two_tasks = record { input = IntegerShape; tasks = (codes "T0", task_gives IntegerShape) ∷ (codes "T1", task_gives StringShape) ∷ [] }

abbrev pub of_parallel : StateShapes
of_parallel = record { input = IntegerShape; output = integer_and_text; branches = IntegerShape ∷ StringShape ∷ []; item = None }

abbrev pub second_certified : Certificate
second_certified = record {
  output = StringShape;
  states = (codes "N", plain integer_and_text StringShape) ∷ (codes "P", of_parallel) ∷ (codes "T0", plain IntegerShape IntegerShape) ∷ (codes "T1", plain IntegerShape StringShape) ∷ [];
}

both : (a b : Bool) → IsTrue (a && b) → IsTrue a × IsTrue b
both true b h = (refl, h)
both false b h = false_true h

-- the fit of an output that is what a path names
second_fits : (v : Tree) → Has integer_and_text v → WorkFits two_tasks second_certified StringShape (codes "N") (StateOf (record ends { input_path = Some (Index 1 ∷ []) }) (Pass None)) v (first_move (StateOf (record ends { input_path = Some (Index 1 ∷ []) }) (Pass None)) v)
second_fits Null h = false_true h
second_fits (Boolean b) h = false_true h
second_fits (Integer n) h = false_true h
second_fits (Text t) h = false_true h
second_fits (Array NoTrees) h = false_true h
second_fits (Array (AndTree t NoTrees)) h = false_true (both (has IntegerShape t) false h).1
second_fits (Array (AndTree t (AndTree u ts))) h = let text = (both (has StringShape u) (has (ArrayShape NoShapes Never) (Array ts)) (both (has IntegerShape t) (has StringShape u && has (ArrayShape NoShapes Never) (Array ts)) h).1).0 in (text, text)
second_fits (Object fs) h = false_true h

second_at : IsClosedAt two_tasks second_certified StringShape (codes "N") (StateOf (record ends { input_path = Some (Index 1 ∷ []) }) (Pass None))
second_at = record { entry = record { shapes = plain integer_and_text StringShape; stands = refl; branches = refl; item = refl }; work = second_fits; catchers = λ v h. tt }

-- two outputs of the branches' shapes are a list of the shape
two_fit : (outputs : Trees) → count outputs ≡ 2 → EachHas (λ i. or_never (branch_shape i (IntegerShape ∷ StringShape ∷ []))) outputs → Has integer_and_text (Array outputs)
two_fit NoTrees e h = absurd (cc)
two_fit (AndTree t NoTrees) e h = absurd (cc)
two_fit (AndTree t (AndTree u NoTrees)) e h = pass (has IntegerShape t) (has StringShape u) h.0 h.1.0
  where
    pass : (a b : Bool) → IsTrue a → IsTrue b → IsTrue (a && (b && true))
    pass true true g k = refl
    pass true false g k = false_true k
    pass false b g k = false_true g
two_fit (AndTree t (AndTree u (AndTree w ts))) e h = let many : suc (suc (suc (count ts))) ≡ 2 = e in absurd (omega arith)

parallel_at : IsClosedAt two_tasks second_certified StringShape (codes "P") (StateOf (record ends { next = Some (codes "N") }) (Parallel (AndScope (one_task (codes "T0")) (AndScope (one_task (codes "T1")) NoScopes))))
parallel_at = record {
  entry = record { shapes = of_parallel; stands = refl; branches = refl; item = refl };
  work = λ v h. ((h, (h, tt)), λ outputs e each. (two_fit outputs e each, two_fit outputs e each));
  catchers = λ v h. tt;
}

first_task_at : IsClosedAt two_tasks second_certified IntegerShape (codes "T0") (StateOf ends (Task (codes "r")))
first_task_at = record { entry = record { shapes = plain IntegerShape IntegerShape; stands = refl; branches = refl; item = refl }; work = λ v h. (refl, λ answer g. (g, g)); catchers = λ v h. tt }

second_task_at : IsClosedAt two_tasks second_certified StringShape (codes "T1") (StateOf ends (Task (codes "r")))
second_task_at = record { entry = record { shapes = plain IntegerShape StringShape; stands = refl; branches = refl; item = refl }; work = λ v h. (refl, λ answer g. (g, g)); catchers = λ v h. tt }

-- which names are those of states, of Tasks, and of declared tasks
abbrev named : Bool → Bool → Bool → Bool → Bool
named n p t u = n || (false || (p || ((((t || (false || false)) || ((u || (false || false)) || false))) || false)))

abbrev a_task : Bool → Bool → Bool
a_task t u = (((t && true) || (false || false)) || (((u && true) || (false || false)) || false)) || false

abbrev task_named : Bool → Bool → Bool → Bool → Bool
task_named n p t u = (n && false) || (false || ((p && false) || a_task t u))

abbrev is_declared : Bool → Bool → Option TaskShapes
is_declared t u = if t then Some (task_gives IntegerShape) else (if u then Some (task_gives StringShape) else None)

no_task : (x further : Bool) → ((x && false) || further) ≡ further
no_task true further = refl
no_task false further = refl

pub second_closed : IsClosed two_tasks second_certified second_of_two
second_closed = closed_at_each two_tasks second_certified second_of_two
    (λ n. entry (bytes_eq (codes "N") n) (bytes_eq (codes "P") n) (bytes_eq (codes "T0") n) (bytes_eq (codes "T1") n))
    (λ n. (declared (bytes_eq (codes "N") n) (bytes_eq (codes "P") n) (bytes_eq (codes "T0") n) (bytes_eq (codes "T1") n), task (bytes_eq (codes "N") n) (bytes_eq (codes "P") n) (bytes_eq (codes "T0") n) (bytes_eq (codes "T1") n)))
    (λ t h. h)
    (second_at, tt, (parallel_at, ((first_task_at, tt, tt), ((second_task_at, tt, tt), tt)), tt))
  where
    entry : (n p t u : Bool) → IsTrue (is_some (if n then Some (plain integer_and_text StringShape) else (if p then Some of_parallel else (if t then Some (plain IntegerShape IntegerShape) else (if u then Some (plain IntegerShape StringShape) else None))))) → IsTrue (named n p t u)
    entry true p t u h = refl
    entry false true t u h = refl
    entry false false true u h = refl
    entry false false false true h = refl
    entry false false false false h = false_true h

    there : (t u : Bool) → IsTrue (is_some (is_declared t u)) → IsTrue (a_task t u)
    there true u h = refl
    there false true h = refl
    there false false h = false_true h

    back : (t u : Bool) → IsTrue (a_task t u) → IsTrue (is_some (is_declared t u))
    back true u h = refl
    back false true h = refl
    back false false h = false_true h

    declared : (n p t u : Bool) → IsTrue (is_some (is_declared t u)) → IsTrue (task_named n p t u)
    declared n p t u h = subst IsTrue (sym (no_task n ((p && false) || a_task t u) ∙ no_task p (a_task t u))) (there t u h)

    task : (n p t u : Bool) → IsTrue (task_named n p t u) → IsTrue (is_some (is_declared t u))
    task n p t u h = back t u (subst IsTrue (no_task n ((p && false) || a_task t u) ∙ no_task p (a_task t u)) h)

-- an input and events that obey: the second branch answers first
abbrev pub out_of_order : List Event
out_of_order = at [] Move ∷ at (0 ∷ []) Move ∷ at (1 ∷ []) Move ∷ at (1 ∷ []) (Gives (Text (codes "a"))) ∷ at (0 ∷ []) (Gives (whole 1)) ∷ at [] Move ∷ at [] Move ∷ []

pub out_of_order_obeys : Obeys two_tasks second_of_two (whole 5) out_of_order
out_of_order_obeys = record { has_input = refl; answers = (tt, (tt, (tt, (refl, (refl, (tt, (tt, tt))))))) }

abbrev pub one_and_a : Tree
one_and_a = Array (trees_of (whole 1 ∷ Text (codes "a") ∷ []))

out_of_order_told : told second_of_two (whole 5) out_of_order
    ≡ ([], Entered (codes "P") (whole 5)) ∷ (0 ∷ [], Entered (codes "T0") (whole 5)) ∷ (0 ∷ [], Asked (codes "T0") (whole 5)) ∷ (1 ∷ [], Entered (codes "T1") (whole 5)) ∷ (1 ∷ [], Asked (codes "T1") (whole 5))
    ∷ (1 ∷ [], Left (codes "T1") (Text (codes "a"))) ∷ (1 ∷ [], Ended (Output (Text (codes "a")))) ∷ (0 ∷ [], Left (codes "T0") (whole 1)) ∷ (0 ∷ [], Ended (Output (whole 1)))
    ∷ ([], Left (codes "P") one_and_a) ∷ ([], Entered (codes "N") one_and_a) ∷ ([], Left (codes "N") (Text (codes "a"))) ∷ ([], Ended (Output (Text (codes "a")))) ∷ []
out_of_order_told = refl

-- so the law speaks of this run
out_of_order_is_certified : RunIsAsCertified two_tasks second_certified second_of_two (whole 5) out_of_order
out_of_order_is_certified = never_fault two_tasks second_certified second_of_two second_closed (whole 5) out_of_order out_of_order_obeys

-- an input and events that obey: the task fails three times, is retried by two retriers, and then caught
abbrev pub any_object : Declared
any_object = record { input = ObjectShape NoFieldShapes true; tasks = (codes "T", task_gives IntegerShape) ∷ [] }

abbrev pub two_retriers : Scope
two_retriers = retrying_with (retrier (codes "A") ∷ retrier (codes "B") ∷ [])

pub failures_obey : Obeys any_object two_retriers (Object NoFields) three_failures
failures_obey = record { has_input = refl; answers = (tt, (tt, (tt, (tt, (tt, (tt, (tt, tt))))))) }

failures_told : told two_retriers (Object NoFields) three_failures ≡ retried_and_caught
failures_told = refl

-- what isn't promised: a run that raises, an input, a payload, an output and an end that lack their shapes, and an
-- answer that lacks what is declared
raising_is_seen : NoTurnRaises (run_of placing (one (codes "a") (Text (codes "x"))) (at [] Move ∷ [])) → ⊥
raising_is_seen h = h.0.1.0

other_input : TurnsAreAsCertified integers_in integers_out passing (run_of passing Null (at [] Move ∷ [])) → ⊥
other_input h = false_true h.0.0

abbrev pub all_certified : Shape → Shape → Certificate
all_certified output end = record { output = end; states = (codes "A", plain Any output) ∷ [] }

abbrev pub takes_integers : Declared
takes_integers = record { input = Any; tasks = (codes "A", record { takes = IntegerShape; gives = IntegerShape }) ∷ [] }

other_payload : TurnsAreAsCertified takes_integers (all_certified Any Any) (one_task (codes "A")) (run_of (one_task (codes "A")) Null (at [] Move ∷ [])) → ⊥
other_payload h = false_true h.0.1.0

other_output : TurnsAreAsCertified takes_integers (all_certified IntegerShape Any) passing (run_of passing Null (at [] Move ∷ [])) → ⊥
other_output h = false_true h.0.1.0

other_end : TurnsAreAsCertified takes_integers (all_certified Any IntegerShape) passing (run_of passing Null (at [] Move ∷ [])) → ⊥
other_end h = false_true h.0.1.1.0

other_answer : Obeys takes_integers (one_task (codes "A")) Null (at [] Move ∷ at [] (Gives Null) ∷ []) → ⊥
other_answer h = false_true h.answers.1.0

-- activities that aren't as certified: a raw input that its state doesn't take, an output that isn't the scope's, a
-- payload that its task doesn't take or its state doesn't ask with, a child too few, a child that isn't as certified, a
-- state of another scope, in the machine's own and in a child's
other_ready : ActivityFits integers_in integers_out (Ready (codes "A") Null []) passing IntegerShape → ⊥
other_ready h = false_true h.fits

other_done : ActivityFits integers_in integers_out (Done Null) passing IntegerShape → ⊥
other_done h = false_true h.fits

other_waiting : ActivityFits takes_integers (all_certified Any Any) (Waiting (codes "A") Null [] Null) (one_task (codes "A")) Any → ⊥
other_waiting h = false_true h.fits.1

other_asking : ActivityFits takes_integers (all_certified Any Any) (Waiting (codes "A") (whole 1) [] (whole 2)) (one_task (codes "A")) Any → ⊥
other_asking h = let asks : Some (Asks (whole 1)) ≡ Some (Asks (whole 2)) = h.fits.2 in absurd (cc)

child_too_few : ActivityFits two_tasks second_certified (Split (codes "P") (whole 5) [] (AndActivity (Ready (codes "T0") (whole 5) []) NoActivities)) second_of_two StringShape → ⊥
child_too_few h = few h.fits.1
  where
    few : HasSplit second_of_two (codes "P") (whole 5) (AndActivity (Ready (codes "T0") (whole 5) []) NoActivities) → ⊥
    few split = let splits : Some (Splits (trees_of (whole 5 ∷ whole 5 ∷ []))) ≡ Some (Splits split.inputs) = split.split in let counted : 1 ≡ count split.inputs = split.one_each in absurd (cc)

other_child : ActivityFits two_tasks second_certified (Split (codes "P") (whole 5) [] (AndActivity (Ready (codes "T0") Null []) (AndActivity (Ready (codes "T1") (whole 5) []) NoActivities))) second_of_two StringShape → ⊥
other_child h = false_true h.fits.2.0

-- the raw input is of the certified input of T0, which is a state of the first branch
state_of_a_branch : ActivityFits two_tasks second_certified (Ready (codes "T0") (whole 5) []) second_of_two StringShape → ⊥
state_of_a_branch h = false_true h.stands

state_of_the_other_branch : ActivityFits two_tasks second_certified (Split (codes "P") (whole 5) [] (AndActivity (Ready (codes "T1") (whole 5) []) (AndActivity (Ready (codes "T1") (whole 5) []) NoActivities))) second_of_two StringShape → ⊥
state_of_the_other_branch h = false_true h.stands.1.0

state_in_its_branch : ActivityFits two_tasks second_certified (Split (codes "P") (whole 5) [] (AndActivity (Ready (codes "T0") (whole 5) []) (AndActivity (Ready (codes "T1") (whole 5) []) NoActivities))) second_of_two StringShape
state_in_its_branch = record { stands = (refl, (refl, (refl, tt))); fits = (refl, record { inputs = trees_of (whole 5 ∷ whole 5 ∷ []); split = refl; one_each = refl }, (refl, (refl, tt))) }

-- the names of that machine lead inside its scopes, so every activity of that run is as certified
all_of_none : (P : List ℕ → Type 0) → All P []
all_of_none P k d h = absurd (omega arith)

all_of_one : (P : List ℕ → Type 0) (n : List ℕ) → P n → All P (n ∷ [])
all_of_one P n p zero d h = p
all_of_one P n p (suc k) d h = absurd (omega arith)

task_leads : (n : List ℕ) → IsNamed (states_of (one_task n)) n → ScopeLeads (one_task n)
task_leads n named = (named, ((all_of_none (IsNamed (states_of (one_task n))), tt), tt))

second_leads : LeadsInside second_of_two
second_leads =
    let named : List ℕ → Type 0 = IsNamed (states_of second_of_two) in
    leads_inside second_of_two (refl, ((all_of_none named, tt), ((all_of_one named (codes "N") refl, (task_leads (codes "T0") refl, (task_leads (codes "T1") refl, tt))), tt)))

out_of_order_activities : ActivitiesAreAsCertified two_tasks second_certified second_of_two (whole 5) out_of_order
out_of_order_activities = every_activity two_tasks second_certified second_of_two second_closed second_leads (whole 5) out_of_order out_of_order_obeys

-- a Pass whose next state is one of a branch leads out of its scope
abbrev pub into_a_branch : Scope
into_a_branch = ScopeOf (codes "P") (AndState (codes "P") (StateOf (record ends { next = Some (codes "T0") }) (Parallel (AndScope (one_task (codes "T0")) NoScopes))) NoStates)

leads_into_a_branch : LeadsInside into_a_branch → ⊥
leads_into_a_branch leads = false_true (leads.targets into_a_branch own_scope (codes "P") (StateOf (record ends { next = Some (codes "T0") }) (Parallel (AndScope (one_task (codes "T0")) NoScopes))) refl (codes "T0") (0, omega arith, refl))

-- the groups of the types
groups : map group_of (Pass None ∷ Task (codes "r") ∷ Choice [] None ∷ Wait (SecondsPath []) ∷ Succeed ∷ Fail (codes "e") (codes "c") ∷ Parallel NoScopes ∷ Map [] None passing ∷ []) ≡ MovesOn ∷ Works ∷ Works ∷ Works ∷ MovesOn ∷ MovesOn ∷ Nests ∷ Nests ∷ []
groups = refl

-- certificates that aren't closed: a result that misfits, a state without an entry, a task that isn't declared
abbrev pub of_texts : Shape
of_texts = ObjectShape (AndFieldShape (codes "a") true StringShape NoFieldShapes) false

result_may_not_fit : IsClosed (record { input = of_texts; tasks = [] }) (record { output = Any; states = (codes "A", plain of_texts Any) ∷ [] }) placing → ⊥
result_may_not_fit closed = (closed.own (codes "A") (StateOf (record ends { result_path = Some (Name (codes "a") ∷ Name (codes "b") ∷ []) }) (Pass (Some (whole 7)))) refl).work (one (codes "a") (Text (codes "x"))) refl

no_entry : IsClosed integers_in (record { output = Any; states = [] }) passing → ⊥
no_entry closed = none_some (closed.own (codes "A") (StateOf ends (Pass None)) refl).entry.stands

undeclared_task : IsClosed integers_in (all_certified Any Any) (one_task (codes "A")) → ⊥
undeclared_task closed = false_true ((closed.tasks (codes "A")).1 refl)

start_not_inside : IsClosed (record { input = Any; tasks = [] }) integers_out passing → ⊥
start_not_inside closed = false_true (closed.start Null refl)

-- a task that isn't declared may answer what it likes, and takes every payload
undeclared_answer_obeys : Obeys (record { input = Any; tasks = [] }) (one_task (codes "A")) Null (at [] Move ∷ at [] (Gives (whole 7)) ∷ [])
undeclared_answer_obeys = record { has_input = refl; answers = (tt, (refl, tt)) }
