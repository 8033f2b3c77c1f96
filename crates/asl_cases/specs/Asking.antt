-- Which answers a task that waits is asked for.
use Rattle.std.specs.Prelude.{◌≡◌, ◌-◌, ℕ, List, [], ◌∷◌, Bool, true, false, ◌&&◌, if◌then◌else◌, reverse}
use Rattle.std.specs.Prelude.{bytes_eq, count_by, nat_eq}
use Rattle.std.specs.Prelude.{Option, Some, None, option_and_then, option_map, slice_get}
use Rattle.std.specs.Option.{option_eq, option_or}
use Rattle.asl_model.specs.Machine.{State, StateOf, Kind, Pass, Task, Choice, Wait, Succeed, Fail, Parallel, Map}
use Rattle.asl_model.specs.Machine.{Scope, state_named}
use Rattle.asl_model.specs.Numbering.{Table}
use Rattle.asl_model.specs.Run.{Activity, Ready, Waiting, Split, Done, Failed, child_at, scope_below}
use Rattle.asl_model.specs.Run.{Entry, Entered, Asked, Left, Raised, TaskFailed, BranchFailed, Retried, Caught, Ended}
use Rattle.asl_suites.specs.Scripts.{StateScripts, ByAttempt, ByItem}

-- the last of a list
abbrev pub last_of : {A : Type 0} → List A → Option A
last_of [] = None
last_of (x ∷ []) = Some x
last_of (x ∷ y ∷ ys) = last_of (y ∷ ys)

-- a Map
abbrev pub is_map_kind : Kind → Bool
is_map_kind (Pass result) = false
is_map_kind (Task resource) = false
is_map_kind (Choice rules default) = false
is_map_kind (Wait delay) = false
is_map_kind Succeed = false
is_map_kind (Fail error cause) = false
is_map_kind (Parallel branches) = false
is_map_kind (Map items selector processor) = true

-- a state that is there, and a Map
abbrev pub is_map : Option State → Bool
is_map None = false
is_map (Some (StateOf settings kind)) = is_map_kind kind

-- The item of a place in an activity that stands in a scope: the number of the child of the innermost Map on the way
-- there. None where no Map is on the way.
abbrev pub item_of : Scope → List ℕ → Activity → Option ℕ
item_of scope [] a = None
item_of scope (i ∷ place) (Ready n raw counts) = None
item_of scope (i ∷ place) (Waiting n raw counts payload) = None
item_of scope (i ∷ place) (Split n raw counts children) =
    option_or (option_and_then (item_of (scope_below scope n i) place) (child_at i children))
    (if is_map (state_named n scope) then Some i else None)
item_of scope (i ∷ place) (Done output) = None
item_of scope (i ∷ place) (Failed error cause) = None

-- ---- by the numbers of states

-- the number of the state to whose scopes that one's belongs; none where it stands in the machine's own
abbrev pub owner_in : Table → ℕ → Option ℕ
owner_in table number =
    option_map (λ owner. owner.0) (option_and_then (λ placement. placement.owner) (slice_get table.placements number))

-- the number of the child where that owner is a Map, else what is further out
abbrev pub item_under : Table → Option ℕ → ℕ → (ℕ → Option ℕ) → Option ℕ
item_under table None child further = None
item_under table (Some owner) child further =
    if is_map (slice_get table.states owner) then Some child else further owner

-- so for the numbers of the children on the way to a state, from the innermost on
abbrev pub item_behind : Table → ℕ → List ℕ → Option ℕ
item_behind table number [] = None
item_behind table number (child ∷ further) =
    item_under table (owner_in table number) child (λ owner. item_behind table owner further)

-- the item of a state that stands at a place
abbrev pub item_at : Table → ℕ → List ℕ → Option ℕ
item_at table number place = item_behind table number (reverse place)

-- ---- what is told of a task that waits

-- the answers of a state are by item
abbrev pub are_by_item : Option StateScripts → Bool
are_by_item None = false
are_by_item (Some (ByAttempt script)) = false
are_by_item (Some (ByItem scripts)) = true

-- an item is the one that is meant, where one is
abbrev pub is_item : Option ℕ → Option ℕ → Bool
is_item None item = true
is_item (Some meant) item = option_eq nat_eq item (Some meant)

-- an entry tells that the task of that state was asked, in that item, where one is meant
abbrev pub is_attempt : Table → ℕ → List ℕ → Option ℕ → List ℕ × Entry → Bool
is_attempt table number name item (place, Entered n input) = false
is_attempt table number name item (place, Asked n payload) =
    bytes_eq n name && is_item item (item_at table number place)
is_attempt table number name item (place, Left n output) = false
is_attempt table number name item (place, Raised n fault) = false
is_attempt table number name item (place, TaskFailed n error cause) = false
is_attempt table number name item (place, BranchFailed n child error cause) = false
is_attempt table number name item (place, Retried n retrier) = false
is_attempt table number name item (place, Caught n catcher next) = false
is_attempt table number name item (place, Ended outcome) = false

-- The attempt of the state's task that was asked last, counted from 0; where the answers of the state are by item, the
-- item is told, and only its attempts count.
pub record IsTurnOf (table : Table) (number : ℕ) (name : List ℕ) (own : Option StateScripts) (item : Option ℕ)
    (told : List (List ℕ × Entry)) (attempt : ℕ) (told_item : Option ℕ) : Type 0 where
  pub of_item : told_item ≡ (if are_by_item own then item else None)
  pub counted : attempt ≡ count_by (is_attempt table number name told_item) told - 1
