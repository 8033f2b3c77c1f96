-- A step leaves states that stand in their scopes.
use Rattle.std.proofs.Common.{◌≡◌, ◌<◌, refl, sym, ap, ◌∙◌, subst, arith, ℕ, zero, suc, List, [], ◌∷◌, ◌++◌, map, Bool, true, false, if◌then◌else◌, Option, Some, None, option_and_then, is_some, IsTrue, Result, Ok, Err}
use Rattle.std.specs.Prelude.{Contains, option_to_list}
use Rattle.std.proofs.lemmas.List.Elements.{Contains-append_left, Contains-append_right}
use Rattle.asl_model.specs.Tree.{Tree, Trees, NoTrees, AndTree, Array}
use Rattle.asl_model.specs.Path.{Segment}
use Rattle.asl_model.specs.Template.{Template}
use Rattle.asl_model.specs.Test.{Rule, truth}
use Rattle.asl_model.specs.Faults.{Fault, error_name, and_then}
use Rattle.asl_model.specs.Machine.{Scope, Scopes, NoScopes, AndScope, State, StateOf, Settings, Catcher, Kind, Pass, Task, Choice, Wait, Succeed, Fail, Parallel, Map, settings_of, kind_of, start_of, state_named, scope_at, child_scope, how_many, IsScopeOf, scope_of_child, HasNamed, targets_by, targets_of, LeadsInside}
use Rattle.asl_model.specs.Flow.{Work, Finishes, Leaves, FailsWith, Asks, Splits, Raises, works_on, by_truth, chosen, delay_in, branch_inputs, item_inputs, map_items, effective_input, at_output_path, output_of, work_of, first_move}
use Rattle.asl_model.specs.Run.{Activity, Ready, Waiting, Split, Done, Failed, Activities, NoActivities, AndActivity, Action, Move, Gives, FailsTask, Step, Trouble, Retries, Catches, Misfits, Escapes, Joining, AllDone, OneFailed, StillRunning, caught_input, caught_as, caught_by, catching, takes_error, retrying, unless_retrying, trouble_of, by_trouble, troubled, leaves_with, started, by_work, joining, join_error, joins, moves_ready, moves_waiting, moves_split, acts, scope_under, scope_below, child_at, set_child, step_at, start, StandsIn, EachStandsIn}
use Rattle.asl_model.proofs.RunOptions.{some_inj, none_some, same_ok, ok_or_err}
use Rattle.asl_model.proofs.RunApart.{step_below}

-- where one follows, it is a state of the scope
abbrev Follows : Scope → Option (List ℕ) → Type 0
Follows scope None = Unit {0}
Follows scope (Some next) = HasNamed scope next

-- ---- one state of a scope

-- the names that may follow it are there, and the scopes of its children start in them
record IsPlaced (scope : Scope) (n : List ℕ) (state : State) : Type 0 where
  here : HasNamed scope n
  targets : (m : List ℕ) → Contains (targets_of state) m → HasNamed scope m
  branch : (settings : Settings) (branches : Scopes) → state ≡ StateOf settings (Parallel branches) → (i : ℕ) → i < how_many branches → HasNamed (scope_at i branches) (start_of (scope_at i branches))
  processor : (settings : Settings) (items : List Segment) (selector : Option Template) (inner : Scope) → state ≡ StateOf settings (Map items selector inner) → HasNamed inner (start_of inner)

is_placed : (machine : Scope) → LeadsInside machine → (scope : Scope) → IsScopeOf machine scope → (n : List ℕ) (state : State) → state_named n scope ≡ Some state → IsPlaced scope n state
is_placed machine leads scope inside n state e = record {
  here = ap is_some e;
  targets = λ m h. leads.targets scope inside n state e m h;
  branch = λ settings branches is i h. leads.branch_starts scope inside n settings branches (e ∙ ap Some is) i h;
  processor = λ settings items selector inner is. leads.processor_starts scope inside n settings items selector inner (e ∙ ap Some is);
}

to_next : (scope : Scope) (n : List ℕ) (state : State) → IsPlaced scope n state → Follows scope (settings_of state).next
to_next scope n (StateOf settings kind) h = go settings.next (λ m c. h.targets m (Contains-append_left (option_to_list settings.next) (map (λ (catcher : Catcher). catcher.next) settings.catchers ++ targets_by kind) m c))
  where
    go : (next : Option (List ℕ)) → ((m : List ℕ) → Contains (option_to_list next) m → HasNamed scope m) → Follows scope next
    go None all = tt
    go (Some next) all = all next (0, omega arith, refl)

to_caught : (scope : Scope) (n : List ℕ) (state : State) → IsPlaced scope n state → (m : List ℕ) → Contains (map (λ (catcher : Catcher). catcher.next) (settings_of state).catchers) m → HasNamed scope m
to_caught scope n (StateOf settings kind) h m c = h.targets m (Contains-append_right (option_to_list settings.next) (map (λ (catcher : Catcher). catcher.next) settings.catchers ++ targets_by kind) m (Contains-append_left (map (λ (catcher : Catcher). catcher.next) settings.catchers) (targets_by kind) m c))

to_chosen : (scope : Scope) (n : List ℕ) (settings : Settings) (kind : Kind) → IsPlaced scope n (StateOf settings kind) → (m : List ℕ) → Contains (targets_by kind) m → HasNamed scope m
to_chosen scope n settings kind h m c = h.targets m (Contains-append_right (option_to_list settings.next) (map (λ (catcher : Catcher). catcher.next) settings.catchers ++ targets_by kind) m (Contains-append_right (map (λ (catcher : Catcher). catcher.next) settings.catchers) (targets_by kind) m c))

-- ---- what comes of an error

abbrev TroubleStands : Scope → Trouble → Type 0
TroubleStands scope (Retries i) = Unit {0}
TroubleStands scope (Catches i next input) = HasNamed scope next
TroubleStands scope Misfits = Unit {0}
TroubleStands scope Escapes = Unit {0}

caught_stands : (scope : Scope) (i : ℕ) (next : List ℕ) (found : Option Tree) → HasNamed scope next → TroubleStands scope (caught_as i next found)
caught_stands scope i next None h = tt
caught_stands scope i next (Some input) h = h

catching_stands : (scope : Scope) (raw : Tree) (error cause : List ℕ) (i : ℕ) (catchers : List Catcher) → ((m : List ℕ) → Contains (map (λ (catcher : Catcher). catcher.next) catchers) m → HasNamed scope m) → TroubleStands scope (caught_by (catching i catchers error) raw error cause)
catching_stands scope raw error cause i [] all = tt
catching_stands scope raw error cause i (catcher ∷ others) all =
    either (takes_error error catcher.error_equals) (caught_stands scope i catcher.next (caught_input catcher raw error cause) (all catcher.next (0, omega arith, refl)))
    (catching_stands scope raw error cause (suc i) others (λ m c. all m (Contains-append_right (catcher.next ∷ []) (map (λ (catcher : Catcher). catcher.next) others) m c)))
  where
    either : (taken : Bool) → TroubleStands scope (caught_by (Some (i, catcher)) raw error cause) → TroubleStands scope (caught_by (catching (suc i) others error) raw error cause) → TroubleStands scope (caught_by (if taken then Some (i, catcher) else catching (suc i) others error) raw error cause)
    either true this further = this
    either false this further = further

by_trouble_stands : (scope : Scope) (n : List ℕ) (raw : Tree) (counts error cause : List ℕ) (trouble : Trouble) → HasNamed scope n → TroubleStands scope trouble → StandsIn (by_trouble n raw counts error cause trouble).after scope
by_trouble_stands scope n raw counts error cause (Retries i) here h = here
by_trouble_stands scope n raw counts error cause (Catches i next input) here h = h
by_trouble_stands scope n raw counts error cause Misfits here h = tt
by_trouble_stands scope n raw counts error cause Escapes here h = tt

troubled_stands : (scope : Scope) (n : List ℕ) (state : State) (raw : Tree) (counts error cause : List ℕ) → IsPlaced scope n state → StandsIn (troubled n (settings_of state) raw counts error cause).after scope
troubled_stands scope n state raw counts error cause h =
    by_trouble_stands scope n raw counts error cause (trouble_of (settings_of state) raw counts error cause) h.here (go (retrying 0 (settings_of state).retriers counts error))
  where
    go : (retried : Option ℕ) → TroubleStands scope (unless_retrying retried (caught_by (catching 0 (settings_of state).catchers error) raw error cause))
    go None = catching_stands scope raw error cause 0 (settings_of state).catchers (to_caught scope n state h)
    go (Some i) = tt

-- ---- leaving

leaves_with_stands : (scope : Scope) (n : List ℕ) (state : State) (raw : Tree) (counts : List ℕ) (next : Option (List ℕ)) (output : Result Tree Fault) → IsPlaced scope n state → Follows scope next → StandsIn (leaves_with n (settings_of state) raw counts next output).after scope
leaves_with_stands scope n state raw counts None (Ok output) h follows = tt
leaves_with_stands scope n state raw counts (Some next) (Ok output) h follows = follows
leaves_with_stands scope n state raw counts next (Err fault) h follows = troubled_stands scope n state raw counts (error_name fault.error) fault.field h

-- ---- a first move

abbrev WorkStands : Scope → State → Work → Type 0
WorkStands scope state (Finishes result) = Unit {0}
WorkStands scope state (Leaves next v) = Follows scope next
WorkStands scope state (FailsWith error cause) = Unit {0}
WorkStands scope state (Asks payload) = Unit {0}
WorkStands scope state (Splits inputs) = EachStandsIn (started (child_scope (kind_of state)) inputs) (child_scope (kind_of state))
WorkStands scope state (Raises fault) = Unit {0}

works_on_stands : {A : Type 0} (scope : Scope) (state : State) (work : A → Work) (r : Result A Fault) → ((a : A) → r ≡ Ok a → WorkStands scope state (work a)) → WorkStands scope state (works_on work r)
works_on_stands scope state work (Ok a) h = h a refl
works_on_stands scope state work (Err fault) h = tt

branches_stand : (branches : Scopes) (v : Tree) → ((i : ℕ) → i < how_many branches → HasNamed (scope_at i branches) (start_of (scope_at i branches))) → EachStandsIn (started (λ i. scope_at i branches) (branch_inputs branches v)) (λ i. scope_at i branches)
branches_stand NoScopes v all = tt
branches_stand (AndScope branch others) v all = (all 0 (omega arith), branches_stand others v (λ i h. all (suc i) (omega arith)))

items_stand : (processor : Scope) (inputs : Trees) → HasNamed processor (start_of processor) → EachStandsIn (started (λ i. processor) inputs) (λ i. processor)
items_stand processor NoTrees h = tt
items_stand processor (AndTree input inputs) h = (h, items_stand processor inputs h)

-- what a Choice chooses is one of its targets
chosen_among : (rules : List Rule) (default : Option (List ℕ)) (v : Tree) (n : List ℕ) → chosen rules default v ≡ Ok n → Contains (map (λ (rule : Rule). rule.next) rules ++ option_to_list default) n
chosen_among [] None v n e = ok_or_err (sym e)
chosen_among [] (Some next) v n e = (0, omega arith, same_ok e)
chosen_among (rule ∷ rules) default v n e = go (truth rule.test v) e (λ f. chosen_among rules default v n f)
  where
    rest : List (List ℕ)
    rest = map (λ (r : Rule). r.next) rules ++ option_to_list default

    go : (t : Option Bool) → by_truth t rule.next (chosen rules default v) ≡ Ok n → (chosen rules default v ≡ Ok n → Contains rest n) → Contains (rule.next ∷ rest) n
    go None f further = ok_or_err (sym f)
    go (Some true) f further = (0, omega arith, same_ok f)
    go (Some false) f further = Contains-append_right (rule.next ∷ []) rest n (further f)

move_stands : (scope : Scope) (n : List ℕ) (settings : Settings) (kind : Kind) (raw : Tree) → IsPlaced scope n (StateOf settings kind) → WorkStands scope (StateOf settings kind) (work_of kind settings raw)
move_stands scope n settings (Pass result) raw h = works_on_stands scope (StateOf settings (Pass result)) _ (effective_input settings raw) (λ v e. tt)
move_stands scope n settings (Task resource) raw h = works_on_stands scope (StateOf settings (Task resource)) Asks (effective_input settings raw) (λ v e. tt)
move_stands scope n settings (Choice rules default) raw h =
    works_on_stands scope (StateOf settings (Choice rules default)) (λ v. works_on (λ next. Leaves (Some next) v) (chosen rules default v)) (effective_input settings raw)
    (λ v e. works_on_stands scope (StateOf settings (Choice rules default)) (λ next. Leaves (Some next) v) (chosen rules default v) (λ next f. to_chosen scope n settings (Choice rules default) h next (chosen_among rules default v next f)))
move_stands scope n settings (Wait delay) raw h =
    works_on_stands scope (StateOf settings (Wait delay)) (λ v. works_on (λ u. Leaves settings.next v) (delay_in delay v)) (effective_input settings raw)
    (λ v e. works_on_stands scope (StateOf settings (Wait delay)) (λ u. Leaves settings.next v) (delay_in delay v) (λ u f. to_next scope n (StateOf settings (Wait delay)) h))
move_stands scope n settings Succeed raw h = works_on_stands scope (StateOf settings Succeed) (Leaves None) (effective_input settings raw) (λ v e. tt)
move_stands scope n settings (Fail error cause) raw h = tt
move_stands scope n settings (Parallel branches) raw h =
    works_on_stands scope (StateOf settings (Parallel branches)) (λ v. Splits (branch_inputs branches v)) (effective_input settings raw) (λ v e. branches_stand branches v (h.branch settings branches refl))
move_stands scope n settings (Map items selector processor) raw h =
    works_on_stands scope (StateOf settings (Map items selector processor)) (λ v. works_on Splits (and_then (item_inputs selector v 0) (map_items items v))) (effective_input settings raw)
    (λ v e. works_on_stands scope (StateOf settings (Map items selector processor)) Splits (and_then (item_inputs selector v 0) (map_items items v)) (λ inputs f. items_stand processor inputs (h.processor settings items selector processor refl)))

first_move_stands : (scope : Scope) (n : List ℕ) (state : State) (raw : Tree) → IsPlaced scope n state → WorkStands scope state (first_move state raw)
first_move_stands scope n (StateOf settings kind) raw h = move_stands scope n settings kind raw h

by_work_stands : (scope : Scope) (n : List ℕ) (state : State) (raw : Tree) (counts : List ℕ) (work : Work) → state_named n scope ≡ Some state → IsPlaced scope n state → WorkStands scope state work → StandsIn (by_work n state raw counts work).after scope
by_work_stands scope n state raw counts (Finishes result) e h stands = leaves_with_stands scope n state raw counts (settings_of state).next (output_of (settings_of state) raw result) h (to_next scope n state h)
by_work_stands scope n state raw counts (Leaves next v) e h stands = leaves_with_stands scope n state raw counts next (at_output_path (settings_of state) v) h stands
by_work_stands scope n state raw counts (FailsWith error cause) e h stands = tt
by_work_stands scope n state raw counts (Asks payload) e h stands = h.here
by_work_stands scope n state raw counts (Splits inputs) e h stands =
    let Below : Option State → Type 0 = λ found. EachStandsIn (started (child_scope (kind_of state)) inputs) (scope_under found) in
    (h.here, subst Below (sym e) stands)
by_work_stands scope n state raw counts (Raises fault) e h stands = troubled_stands scope n state raw counts (error_name fault.error) fault.field h

-- ---- the activity itself

joins_stand : (scope : Scope) (n : List ℕ) (state : State) (raw : Tree) (counts : List ℕ) (joined : Joining) (s : Step) → IsPlaced scope n state → joins n state raw counts joined ≡ Some s → StandsIn s.after scope
joins_stand scope n state raw counts (AllDone outputs) s h e =
    subst (λ (t : Step). StandsIn t.after scope) (some_inj e) (leaves_with_stands scope n state raw counts (settings_of state).next (output_of (settings_of state) raw (Array outputs)) h (to_next scope n state h))
joins_stand scope n state raw counts (OneFailed i error cause) s h e =
    subst (λ (t : Step). StandsIn t.after scope) (some_inj e) (troubled_stands scope n state raw counts (join_error (kind_of state) error) cause h)
joins_stand scope n state raw counts StillRunning s h e = none_some e

ready_stands : (scope : Scope) (n : List ℕ) (raw : Tree) (counts : List ℕ) (action : Action) (state : State) (s : Step) → state_named n scope ≡ Some state → IsPlaced scope n state → moves_ready n raw counts action state ≡ Some s → StandsIn s.after scope
ready_stands scope n raw counts Move state s e h m =
    subst (λ (t : Step). StandsIn t.after scope) (some_inj m) (by_work_stands scope n state raw counts (first_move state raw) e h (first_move_stands scope n state raw h))
ready_stands scope n raw counts (Gives answer) state s e h m = none_some m
ready_stands scope n raw counts (FailsTask error cause) state s e h m = none_some m

waiting_stands : (scope : Scope) (n : List ℕ) (raw : Tree) (counts : List ℕ) (action : Action) (state : State) (s : Step) → IsPlaced scope n state → moves_waiting n raw counts action state ≡ Some s → StandsIn s.after scope
waiting_stands scope n raw counts Move state s h m = none_some m
waiting_stands scope n raw counts (Gives answer) state s h m =
    subst (λ (t : Step). StandsIn t.after scope) (some_inj m) (leaves_with_stands scope n state raw counts (settings_of state).next (output_of (settings_of state) raw answer) h (to_next scope n state h))
waiting_stands scope n raw counts (FailsTask error cause) state s h m =
    subst (λ (t : Step). StandsIn t.after scope) (some_inj m) (troubled_stands scope n state raw counts error cause h)

split_stands : (scope : Scope) (n : List ℕ) (raw : Tree) (counts : List ℕ) (children : Activities) (action : Action) (state : State) (s : Step) → IsPlaced scope n state → moves_split n raw counts children action state ≡ Some s → StandsIn s.after scope
split_stands scope n raw counts children Move state s h m = joins_stand scope n state raw counts (joining 0 children) s h m
split_stands scope n raw counts children (Gives answer) state s h m = none_some m
split_stands scope n raw counts children (FailsTask error cause) state s h m = none_some m

module _ (machine : Scope) (leads : LeadsInside machine) where
  acts_stands : (scope : Scope) → IsScopeOf machine scope → (a : Activity) (action : Action) (s : Step) → acts scope a action ≡ Some s → StandsIn s.after scope
  acts_stands scope inside (Ready n raw counts) action s e = go (state_named n scope) refl e
    where
      go : (found : Option State) → state_named n scope ≡ found → option_and_then (moves_ready n raw counts action) found ≡ Some s → StandsIn s.after scope
      go None f g = none_some g
      go (Some state) f g = ready_stands scope n raw counts action state s f (is_placed machine leads scope inside n state f) g
  acts_stands scope inside (Waiting n raw counts payload) action s e = go (state_named n scope) refl e
    where
      go : (found : Option State) → state_named n scope ≡ found → option_and_then (moves_waiting n raw counts action) found ≡ Some s → StandsIn s.after scope
      go None f g = none_some g
      go (Some state) f g = waiting_stands scope n raw counts action state s (is_placed machine leads scope inside n state f) g
  acts_stands scope inside (Split n raw counts children) action s e = go (state_named n scope) refl e
    where
      go : (found : Option State) → state_named n scope ≡ found → option_and_then (moves_split n raw counts children action) found ≡ Some s → StandsIn s.after scope
      go None f g = none_some g
      go (Some state) f g = split_stands scope n raw counts children action state s (is_placed machine leads scope inside n state f) g
  acts_stands scope inside (Done output) action s e = none_some e
  acts_stands scope inside (Failed error cause) action s e = none_some e

-- ---- at a place

-- a child stands in the scope of its number
pub child_stands : (i : ℕ) (children : Activities) (scopes : ℕ → Scope) (child : Activity) → child_at i children ≡ Some child → EachStandsIn children scopes → StandsIn child (scopes i)
child_stands i NoActivities scopes child e h = none_some e
child_stands zero (AndActivity first others) scopes child e h = subst (λ a. StandsIn a (scopes 0)) (some_inj e) h.0
child_stands (suc i) (AndActivity first others) scopes child e h = child_stands i others (λ j. scopes (suc j)) child e h.1

-- replacing it leaves the others in theirs
pub set_stands : (i : ℕ) (a : Activity) (children : Activities) (scopes : ℕ → Scope) → StandsIn a (scopes i) → EachStandsIn children scopes → EachStandsIn (set_child i a children) scopes
set_stands i a NoActivities scopes new h = tt
set_stands zero a (AndActivity first others) scopes new h = (new, h.1)
set_stands (suc i) a (AndActivity first others) scopes new h = (h.0, set_stands i a others (λ j. scopes (suc j)) new h.1)

-- the scopes of a state that is there are scopes of the machine
pub scope_inside : (machine scope : Scope) → IsScopeOf machine scope → (n : List ℕ) → HasNamed scope n → (i : ℕ) → IsScopeOf machine (scope_below scope n i)
scope_inside machine scope inside n h i = go (state_named n scope) refl h
  where
    go : (found : Option State) → state_named n scope ≡ found → IsTrue (is_some found) → IsScopeOf machine (scope_under found i)
    go None e some = absurd (cc)
    go (Some state) e some = scope_of_child n state i inside e

-- a step at a place leaves states that stand in their scopes
pub step_stands : (machine : Scope) → LeadsInside machine → (p : List ℕ) (scope : Scope) → IsScopeOf machine scope → (a : Activity) (action : Action) (s : Step) → StandsIn a scope → step_at p scope a action ≡ Some s → StandsIn s.after scope
step_stands machine leads [] scope inside a action s h e = acts_stands machine leads scope inside a action s e
step_stands machine leads (i ∷ p) scope inside (Ready n raw counts) action s h e = none_some e
step_stands machine leads (i ∷ p) scope inside (Waiting n raw counts payload) action s h e = none_some e
step_stands machine leads (i ∷ p) scope inside (Split n raw counts children) action s h e =
    let b = step_below i p scope n raw counts children action s e in
    let child = child_stands i children (scope_below scope n) b.child b.stands h.1 in
    let inner = step_stands machine leads p (scope_below scope n i) (scope_inside machine scope inside n h.0 i) b.child action b.inner child b.steps in
    subst (λ (t : Step). StandsIn t.after scope) b.whole (h.0, set_stands i b.inner.after children (scope_below scope n) inner h.1)
step_stands machine leads (i ∷ p) scope inside (Done output) action s h e = none_some e
step_stands machine leads (i ∷ p) scope inside (Failed error cause) action s h e = none_some e

-- the start stands in the machine's own scope
pub start_stands : (machine : Scope) → LeadsInside machine → (input : Tree) → StandsIn (start machine input) machine
start_stands machine leads input = leads.start
