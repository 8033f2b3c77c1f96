-- A step makes at most four entries.
use Rattle.std.proofs.Common.{◌≡◌, ℕ, suc, ◌≤◌, List, [], ◌∷◌, length, Option, Some, None, option_map, option_and_then, Result, Ok, Err, subst, arith}
use Rattle.asl_model.specs.Tree.{Tree, Array}
use Rattle.asl_model.specs.Faults.{Fault, error_name}
use Rattle.asl_model.specs.Machine.{Scope, State, Settings, settings_of, kind_of, state_named}
use Rattle.asl_model.specs.Flow.{Work, Finishes, Leaves, FailsWith, Asks, Splits, Raises, at_output_path, output_of, first_move}
use Rattle.asl_model.specs.Run.{Activity, Ready, Waiting, Split, Done, Failed, Activities, Action, Move, Gives, FailsTask, Event, Entry, Step, Trouble, Retries, Catches, Misfits, Escapes, trouble_of, by_trouble, troubled, faulted, leaves_for, leaves_with, by_work, Joining, AllDone, OneFailed, StillRunning, joining, join_error, joins, moves_ready, moves_waiting, moves_split, acts, scope_below, child_at, within, step_at, step}

-- the list has at most that many elements
record IsShort (most : ℕ) (entries : List Entry) : Type 0 where
  few : length entries ≤ most

more : {most : ℕ} {entries : List Entry} (entry : Entry) → IsShort most entries → IsShort (suc most) (entry ∷ entries)
more entry h = let few = h.few in record { few = omega arith }

wider : {less most : ℕ} {entries : List Entry} → less ≤ most → IsShort less entries → IsShort most entries
wider le h = let few = h.few in record { few = omega arith }

in_trouble : (n : List ℕ) (raw : Tree) (counts error cause : List ℕ) (t : Trouble) → IsShort 2 (by_trouble n raw counts error cause t).entries
in_trouble n raw counts error cause (Retries i) = record { few = omega arith }
in_trouble n raw counts error cause (Catches i next input) = record { few = omega arith }
in_trouble n raw counts error cause Misfits = record { few = omega arith }
in_trouble n raw counts error cause Escapes = record { few = omega arith }

with_error : (n : List ℕ) (settings : Settings) (raw : Tree) (counts error cause : List ℕ) → IsShort 2 (troubled n settings raw counts error cause).entries
with_error n settings raw counts error cause = in_trouble n raw counts error cause (trouble_of settings raw counts error cause)

with_fault : (n : List ℕ) (settings : Settings) (raw : Tree) (counts : List ℕ) (fault : Fault) → IsShort 3 (faulted n settings raw counts fault).entries
with_fault n settings raw counts fault = more _ (with_error n settings raw counts (error_name fault.error) fault.field)

leaving_for : (n : List ℕ) (next : Option (List ℕ)) (output : Tree) → IsShort 2 (leaves_for n next output).entries
leaving_for n None output = record { few = omega arith }
leaving_for n (Some next) output = record { few = omega arith }

leaving : (n : List ℕ) (settings : Settings) (raw : Tree) (counts : List ℕ) (next : Option (List ℕ)) (output : Result Tree Fault) → IsShort 3 (leaves_with n settings raw counts next output).entries
leaving n settings raw counts next (Ok output) = wider (omega arith) (leaving_for n next output)
leaving n settings raw counts next (Err fault) = with_fault n settings raw counts fault

working : (n : List ℕ) (state : State) (raw : Tree) (counts : List ℕ) (work : Work) → IsShort 3 (by_work n state raw counts work).entries
working n state raw counts (Finishes result) = leaving n (settings_of state) raw counts (settings_of state).next (output_of (settings_of state) raw result)
working n state raw counts (Leaves next v) = leaving n (settings_of state) raw counts next (at_output_path (settings_of state) v)
working n state raw counts (FailsWith error cause) = record { few = omega arith }
working n state raw counts (Asks payload) = record { few = omega arith }
working n state raw counts (Splits inputs) = record { few = omega arith }
working n state raw counts (Raises fault) = with_fault n (settings_of state) raw counts fault

-- the step, where there is one, makes few entries
abbrev HasFew : Option Step → Type 0
HasFew None = Unit {0}
HasFew (Some s) = IsShort 4 s.entries

when_joining : (n : List ℕ) (state : State) (raw : Tree) (counts : List ℕ) (j : Joining) → HasFew (joins n state raw counts j)
when_joining n state raw counts (AllDone outputs) = wider (omega arith) (leaving n (settings_of state) raw counts (settings_of state).next (output_of (settings_of state) raw (Array outputs)))
when_joining n state raw counts (OneFailed i error cause) = wider (omega arith) (more _ (with_error n (settings_of state) raw counts (join_error (kind_of state) error) cause))
when_joining n state raw counts StillRunning = tt

when_ready : (n : List ℕ) (raw : Tree) (counts : List ℕ) (action : Action) (state : Option State) → HasFew (option_and_then (moves_ready n raw counts action) state)
when_ready n raw counts action None = tt
when_ready n raw counts Move (Some state) = more _ (working n state raw counts (first_move state raw))
when_ready n raw counts (Gives answer) (Some state) = tt
when_ready n raw counts (FailsTask error cause) (Some state) = tt

when_waiting : (n : List ℕ) (raw : Tree) (counts : List ℕ) (action : Action) (state : Option State) → HasFew (option_and_then (moves_waiting n raw counts action) state)
when_waiting n raw counts action None = tt
when_waiting n raw counts Move (Some state) = tt
when_waiting n raw counts (Gives answer) (Some state) = wider (omega arith) (leaving n (settings_of state) raw counts (settings_of state).next (output_of (settings_of state) raw answer))
when_waiting n raw counts (FailsTask error cause) (Some state) = wider (omega arith) (more _ (with_error n (settings_of state) raw counts error cause))

when_split : (n : List ℕ) (raw : Tree) (counts : List ℕ) (children : Activities) (action : Action) (state : Option State) → HasFew (option_and_then (moves_split n raw counts children action) state)
when_split n raw counts children action None = tt
when_split n raw counts children Move (Some state) = when_joining n state raw counts (joining 0 children)
when_split n raw counts children (Gives answer) (Some state) = tt
when_split n raw counts children (FailsTask error cause) (Some state) = tt

when_acting : (scope : Scope) (a : Activity) (action : Action) → HasFew (acts scope a action)
when_acting scope (Ready n raw counts) action = when_ready n raw counts action (state_named n scope)
when_acting scope (Waiting n raw counts payload) action = when_waiting n raw counts action (state_named n scope)
when_acting scope (Split n raw counts children) action = when_split n raw counts children action (state_named n scope)
when_acting scope (Done output) action = tt
when_acting scope (Failed error cause) action = tt

-- the same of a step of a child, as one of the whole
as_whole : (n : List ℕ) (raw : Tree) (counts : List ℕ) (children : Activities) (i : ℕ) (s : Option Step) → HasFew s → HasFew (option_map (within n raw counts children i) s)
as_whole n raw counts children i None h = tt
as_whole n raw counts children i (Some s) h = h

of_child : (f : Activity → Option Step) (child : Option Activity) → ((a : Activity) → HasFew (f a)) → HasFew (option_and_then f child)
of_child f None h = tt
of_child f (Some child) h = h child

when_stepping : (p : List ℕ) (scope : Scope) (a : Activity) (action : Action) → HasFew (step_at p scope a action)
when_stepping [] scope a action = when_acting scope a action
when_stepping (i ∷ p) scope (Ready n raw counts) action = tt
when_stepping (i ∷ p) scope (Waiting n raw counts payload) action = tt
when_stepping (i ∷ p) scope (Split n raw counts children) action =
    as_whole n raw counts children i (option_and_then (λ child. step_at p (scope_below scope n i) child action) (child_at i children))
    (of_child (λ child. step_at p (scope_below scope n i) child action) (child_at i children) (λ child. when_stepping p (scope_below scope n i) child action))
when_stepping (i ∷ p) scope (Done output) action = tt
when_stepping (i ∷ p) scope (Failed error cause) action = tt

-- a step makes at most four entries
pub few_entries : (machine : Scope) (a : Activity) (event : Event) (s : Step) → step machine a event ≡ Some s → length s.entries ≤ 4
few_entries machine a event s e =
    let h : IsShort 4 s.entries = subst HasFew e (when_stepping event.place machine a event.action) in
    h.few
