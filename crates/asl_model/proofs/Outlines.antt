-- A state moves in the same way without the states of its scopes: it needs their starts alone.
use Rattle.std.proofs.Common.{◌≡◌, refl, ap, ◌∙◌, ℕ, zero, suc, List, [], Some, Result, Ok, Err}
use Rattle.asl_model.specs.Faults.{Fault}
use Rattle.asl_model.specs.Flow.{Work, Finishes, Leaves, FailsWith, Asks, Splits, Raises, works_on, branch_inputs, work_of, first_move}
use Rattle.asl_model.specs.Machine.{Settings, Scope, State, StateOf, Kind, Pass, Task, Choice, Wait, Succeed, Fail, Parallel, Map, Scopes, NoScopes, AndScope, kind_of, start_of, scope_at, child_scope}
use Rattle.asl_model.specs.Numbering.{scopes_outline, kind_outline, outline}
use Rattle.asl_model.specs.Run.{Activities, AndActivity, Ready, Split, Action, Move, Gives, FailsTask, Entered, BranchFailed, entry_then, troubled, started, by_work, enters, Joining, AllDone, OneFailed, StillRunning, joining, join_error, joins, moves_ready, moves_waiting, moves_split}
use Rattle.asl_model.specs.Tree.{Tree, Trees, NoTrees, AndTree}

-- one input for each branch
inputs_outlined : (branches : Scopes) (v : Tree) → branch_inputs (scopes_outline branches) v ≡ branch_inputs branches v
inputs_outlined NoScopes v = refl
inputs_outlined (AndScope branch others) v = ap (AndTree v) (inputs_outlined others v)

splits_outlined : (branches : Scopes) (input : Result Tree Fault) → works_on (λ v. Splits (branch_inputs (scopes_outline branches) v)) input ≡ works_on (λ v. Splits (branch_inputs branches v)) input
splits_outlined branches (Ok v) = ap Splits (inputs_outlined branches v)
splits_outlined branches (Err fault) = refl

work_outlined : (kind : Kind) (settings : Settings) (raw : Tree) → work_of (kind_outline kind) settings raw ≡ work_of kind settings raw
work_outlined (Pass result) settings raw = refl
work_outlined (Task resource) settings raw = refl
work_outlined (Choice rules default) settings raw = refl
work_outlined (Wait delay) settings raw = refl
work_outlined Succeed settings raw = refl
work_outlined (Fail error cause) settings raw = refl
work_outlined (Parallel branches) settings raw = splits_outlined branches _
work_outlined (Map items selector processor) settings raw = refl

-- what its first move comes to
pub first_move_outlined : (state : State) (raw : Tree) → first_move (outline state) raw ≡ first_move state raw
first_move_outlined (StateOf settings kind) raw = work_outlined kind settings raw

-- ---- the children of a Split

start_outlined : (i : ℕ) (branches : Scopes) → start_of (scope_at i (scopes_outline branches)) ≡ start_of (scope_at i branches)
start_outlined i NoScopes = refl
start_outlined zero (AndScope scope others) = refl
start_outlined (suc i) (AndScope scope others) = start_outlined i others

child_start_outlined : (kind : Kind) (i : ℕ) → start_of (child_scope (kind_outline kind) i) ≡ start_of (child_scope kind i)
child_start_outlined (Pass result) i = refl
child_start_outlined (Task resource) i = refl
child_start_outlined (Choice rules default) i = refl
child_start_outlined (Wait delay) i = refl
child_start_outlined Succeed i = refl
child_start_outlined (Fail error cause) i = refl
child_start_outlined (Parallel branches) i = start_outlined i branches
child_start_outlined (Map items selector processor) i = refl

-- children start alike where their scopes have the same starts
pub started_alike : (f g : ℕ → Scope) → ((i : ℕ) → start_of (f i) ≡ start_of (g i)) → (inputs : Trees) → started f inputs ≡ started g inputs
started_alike f g same NoTrees = refl
started_alike f g same (AndTree input inputs) =
    ap (λ start. AndActivity (Ready start input []) (started (λ i. f (suc i)) inputs)) (same 0)
    ∙ ap (AndActivity (Ready (start_of (g 0)) input [])) (started_alike (λ i. f (suc i)) (λ i. g (suc i)) (λ i. same (suc i)) inputs)

-- the children that it starts
pub started_outlined : (state : State) (inputs : Trees) → started (child_scope (kind_of (outline state))) inputs ≡ started (child_scope (kind_of state)) inputs
started_outlined (StateOf settings kind) inputs = started_alike (child_scope (kind_outline kind)) (child_scope kind) (child_start_outlined kind) inputs

-- ---- its steps

by_work_outlined : (n : List ℕ) (state : State) (raw : Tree) (counts : List ℕ) (work : Work) → by_work n (outline state) raw counts work ≡ by_work n state raw counts work
by_work_outlined n (StateOf settings kind) raw counts (Finishes result) = refl
by_work_outlined n (StateOf settings kind) raw counts (Leaves next v) = refl
by_work_outlined n (StateOf settings kind) raw counts (FailsWith error cause) = refl
by_work_outlined n (StateOf settings kind) raw counts (Asks payload) = refl
by_work_outlined n (StateOf settings kind) raw counts (Splits inputs) =
    ap (λ (children : Activities). record { entries = []; after = Split n raw counts children }) (started_outlined (StateOf settings kind) inputs)
by_work_outlined n (StateOf settings kind) raw counts (Raises fault) = refl

-- entering it
pub enters_outlined : (n : List ℕ) (state : State) (raw : Tree) (counts : List ℕ) → enters n (outline state) raw counts ≡ enters n state raw counts
enters_outlined n state raw counts =
    ap (entry_then (Entered n raw)) (by_work_outlined n state raw counts (first_move (outline state) raw) ∙ ap (by_work n state raw counts) (first_move_outlined state raw))

-- what it does when it is Ready
pub moves_ready_outlined : (n : List ℕ) (raw : Tree) (counts : List ℕ) (action : Action) (state : State) → moves_ready n raw counts action (outline state) ≡ moves_ready n raw counts action state
moves_ready_outlined n raw counts Move state = ap Some (enters_outlined n state raw counts)
moves_ready_outlined n raw counts (Gives answer) state = refl
moves_ready_outlined n raw counts (FailsTask error cause) state = refl

-- when it is Waiting
pub moves_waiting_outlined : (n : List ℕ) (raw : Tree) (counts : List ℕ) (action : Action) (state : State) → moves_waiting n raw counts action (outline state) ≡ moves_waiting n raw counts action state
moves_waiting_outlined n raw counts Move (StateOf settings kind) = refl
moves_waiting_outlined n raw counts (Gives answer) (StateOf settings kind) = refl
moves_waiting_outlined n raw counts (FailsTask error cause) (StateOf settings kind) = refl

join_error_outlined : (kind : Kind) (error : List ℕ) → join_error (kind_outline kind) error ≡ join_error kind error
join_error_outlined (Pass result) error = refl
join_error_outlined (Task resource) error = refl
join_error_outlined (Choice rules default) error = refl
join_error_outlined (Wait delay) error = refl
join_error_outlined Succeed error = refl
join_error_outlined (Fail e c) error = refl
join_error_outlined (Parallel branches) error = refl
join_error_outlined (Map items selector processor) error = refl

joins_outlined : (n : List ℕ) (state : State) (raw : Tree) (counts : List ℕ) (far : Joining) → joins n (outline state) raw counts far ≡ joins n state raw counts far
joins_outlined n (StateOf settings kind) raw counts (AllDone outputs) = refl
joins_outlined n (StateOf settings kind) raw counts (OneFailed i error cause) =
    ap (λ e. Some (entry_then (BranchFailed n i error cause) (troubled n settings raw counts e cause))) (join_error_outlined kind error)
joins_outlined n (StateOf settings kind) raw counts StillRunning = refl

-- when it is Split
pub moves_split_outlined : (n : List ℕ) (raw : Tree) (counts : List ℕ) (children : Activities) (action : Action) (state : State) → moves_split n raw counts children action (outline state) ≡ moves_split n raw counts children action state
moves_split_outlined n raw counts children Move state = joins_outlined n state raw counts (joining 0 children)
moves_split_outlined n raw counts children (Gives answer) state = refl
moves_split_outlined n raw counts children (FailsTask error cause) state = refl
