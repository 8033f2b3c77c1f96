-- The machine of a table, built of the table's rows in the order of their numbers. Each row says by numbers in which scope
-- its state stands, and a state is followed by those of its own scopes: so a scope ends at a row that belongs to none of
-- its states.
use Rattle.std.specs.Prelude.{◌==◌, ℕ, zero, suc, List, [], ◌∷◌, length, map, zip, get_or}
use Rattle.std.specs.Prelude.{Bool, true, false, ◌&&◌, Option, Some, None}
use Rattle.asl_model.specs.Names.{StateName}
use Rattle.asl_model.specs.Machine.{Scope, ScopeOf, States, NoStates, AndState, State, StateOf}
use Rattle.asl_model.specs.Machine.{Kind, Parallel, Map}
use Rattle.asl_model.specs.Machine.{Scopes, NoScopes, AndScope, start_of}
use Rattle.asl_model.specs.Numbering.{Table, Placement}

-- A row of a table: a state's name, the state without the states of its scopes, and its owner, which is the number of the
-- state that its scope belongs to with the number of the branch (0 for a Map's processor); None: the machine's own scope.
pub record Row : Type 0 where
  pub name : StateName
  pub state : State
  pub owner : Option (ℕ × ℕ)

-- the rows of a table, by their numbers
abbrev pub rows_of : Table → List Row
rows_of table =
    map (λ (column : StateName × (State × Placement)). record { name = column.0; state = column.1.0; owner = column.1.1.owner })
    (zip table.names (zip table.states table.placements))

-- the two are one owner
abbrev pub same_owner : Option (ℕ × ℕ) → Option (ℕ × ℕ) → Bool
same_owner None None = true
same_owner None (Some w) = false
same_owner (Some v) None = false
same_owner (Some v) (Some w) = (v.0 == w.0) && (v.1 == w.1)

-- what is made of the first rows, with the number of the next row and the rows that are left
pub record Made (A : Type 0) : Type 0 where
  pub made : A
  pub next : ℕ
  pub left : List Row

-- what further is made of that and of the rows that are left
abbrev pub made_then : {A B : Type 0} → Made A → (A → ℕ → List Row → Made B) → Made B
made_then first further = further first.made first.next first.left

-- what is made of that alone, with the same rows left
abbrev pub made_into : {A B : Type 0} → (A → B) → Made A → Made B
made_into f first = record { made = f first.made; next = first.next; left = first.left }

-- a way to make the states of the scope of an owner, of the rows from the one of a number on
abbrev pub Maker : Type 0
Maker = Option (ℕ × ℕ) → ℕ → List Row → Made States

-- the scope of that owner and with that outline, where its states are made that way
abbrev pub scope_with : Maker → Option (ℕ × ℕ) → Scope → ℕ → List Row → Made Scope
scope_with make owner scope k rows = made_into (λ held. ScopeOf (start_of scope) held) (make owner k rows)

-- the branches with those outlines of the state of number n, which are numbered from i on
abbrev pub scopes_with : Maker → ℕ → ℕ → Scopes → ℕ → List Row → Made Scopes
scopes_with make n i NoScopes k rows = record { made = NoScopes; next = k; left = rows }
scopes_with make n i (AndScope scope others) k rows =
    made_then (scope_with make (Some (n, i)) scope k rows)
    (λ first next left. made_into (λ further. AndScope first further) (scopes_with make n (suc i) others next left))

-- the type of the state of number n, with the states of its scopes
abbrev pub kind_with : Maker → ℕ → Kind → ℕ → List Row → Made Kind
kind_with make n (Parallel branches) k rows =
    made_into (λ made. Parallel made) (scopes_with make n 0 branches k rows)
kind_with make n (Map items selector processor) k rows =
    made_into (λ made. Map items selector made) (scope_with make (Some (n, 0)) processor k rows)
kind_with make n kind k rows = record { made = kind; next = k; left = rows }

-- the state of number n, with the states of its scopes
abbrev pub state_with : Maker → ℕ → State → ℕ → List Row → Made State
state_with make n (StateOf settings kind) k rows =
    made_into (λ made. StateOf settings made) (kind_with make n kind k rows)

-- The states of the scope of that owner, of the rows from number k on: where the first row has the owner it is a state of
-- the scope, its own scopes are made of the rows behind it, and the further states of what they leave. The scope ends at a
-- row with another owner, behind the last row, and where no fuel is left.
abbrev pub states_from : ℕ → Option (ℕ × ℕ) → ℕ → List Row → Made States
states_from zero owner k rows = record { made = NoStates; next = k; left = rows }
states_from (suc fuel) owner k [] = record { made = NoStates; next = k; left = [] }
states_from (suc fuel) owner k (row ∷ rows) =
    elim (same_owner row.owner owner) [
      | true ↦ made_then (state_with (states_from fuel) k row.state (suc k) rows)
          (λ state next left. made_into (λ others. AndState row.name state others) (states_from fuel owner next left))
      | false ↦ record { made = NoStates; next = k; left = row ∷ rows }
    ]

-- the name of the start of the scope in which the first row stands, which is the machine's own; [] where there is no row
abbrev pub first_start : List StateName → List Placement → StateName
first_start names [] = []
first_start names (placement ∷ placements) = get_or names placement.start []

-- the machine of which that is the table
abbrev pub machine_of : Table → Scope
machine_of table =
    ScopeOf (first_start table.names table.placements)
    (states_from (length (rows_of table)) None 0 (rows_of table)).made
