-- The rules of a certificate, by a machine's table: what they look up in it, and what they find in its rows.
use Rattle.std.specs.Prelude.{ℕ, zero, suc, List, [], ◌∷◌, ◌++◌, length, map, Bool, false, Option, Some, None, codes, is_some, position, bytes_eq, slice_get}
use Rattle.asl_model.specs.Shape.{Shape}
use Rattle.asl_model.specs.Machine.{State, settings_of, kind_of, is_task}
use Rattle.asl_model.specs.Certificate.{Declared, Certificate, certified, under, child_end}
use Rattle.asl_model.specs.Names.{StateName}
use Rattle.asl_model.specs.Finding.{Breach, Finding, NotAState, TaskUnknown, StartInput, breach_unless, breach_unless_sub, found_at, input_of_entry, entry_breaches, flow_breaches, surrounded_by, where_certified}
use Rattle.asl_model.specs.Numbering.{Table, Placement}

-- ---- names

-- a state of the table has that name
abbrev pub names_state_in : Table → List ℕ → Bool
names_state_in table n = is_some (position (bytes_eq n) table.names)

-- a state, if there is one, is a Task
abbrev pub is_task_state : Option State → Bool
is_task_state None = false
is_task_state (Some state) = is_task (kind_of state)

-- the state of that number, if there is one, is a Task
abbrev pub is_task_at : List State → Option ℕ → Bool
is_task_at states None = false
is_task_at states (Some i) = is_task_state (slice_get states i)

-- a Task of the table has that name
abbrev pub names_task_in : Table → List ℕ → Bool
names_task_in table n = is_task_at table.states (position (bytes_eq n) table.names)

-- what is compared with the certified input of the state of that name
abbrev pub inputs_in : Table → Certificate → List ℕ → Option Shape
inputs_in table certificate n = input_of_entry (names_state_in table n) (certified certificate n)

-- the rule that an entry names a state
abbrev pub state_rule : Table → StateName → List Breach
state_rule table n = breach_unless (names_state_in table n) (codes "states") NotAState

-- the rule that a declared task names a Task
abbrev pub task_rule : Table → StateName → List Breach
task_rule table n = breach_unless (names_task_in table n) (codes "tasks") TaskUnknown

-- what is found by a rule, of each of those names
abbrev pub found_by : (StateName → List Breach) → List StateName → List Finding
found_by rule [] = []
found_by rule (n ∷ ns) = found_at n (rule n) ++ found_by rule ns

-- the names under which something stands
abbrev pub names_of : {A : Type 0} → List (StateName × A) → List StateName
names_of entries = map (λ entry. entry.0) entries

-- ---- the start

-- the name of the start state of a scope in which a state stands
abbrev pub start_by : Table → Option Placement → Option (List ℕ)
start_by table None = None
start_by table (Some placement) = slice_get table.names placement.start

-- the name of the machine's start state: that of the scope in which the first state stands
abbrev pub start_in : Table → Option (List ℕ)
start_in table = start_by table (slice_get table.placements 0)

-- what is found of the start state, if there is one
abbrev pub found_of_start : Table → Declared → Certificate → Option (List ℕ) → List Finding
found_of_start table declared certificate None = []
found_of_start table declared certificate (Some n) =
    found_at n (breach_unless_sub (codes "StartAt") StartInput declared.input (inputs_in table certificate n))

-- what is found of the machine's start state
abbrev pub found_at_start : Table → Declared → Certificate → List Finding
found_at_start table declared certificate = found_of_start table declared certificate (start_in table)

-- ---- ends

-- the shape certified for the end of the child of that number, of a state with its name; none where there is no state
abbrev pub end_of_child : Certificate → Option (List ℕ) → Option State → ℕ → Option Shape
end_of_child certificate (Some n) (Some state) i = child_end (kind_of state) (certified certificate n) i
end_of_child certificate (Some n) None i = None
end_of_child certificate None state i = None

-- the shape certified for the end of the scope that belongs to a state of the table, or to none
abbrev pub end_by_owner : Table → Certificate → Option (ℕ × ℕ) → Option Shape
end_by_owner table certificate None = Some certificate.output
end_by_owner table certificate (Some owner) =
    end_of_child certificate (slice_get table.names owner.0) (slice_get table.states owner.0) owner.1

-- the shape certified for the end of the scope in which a state stands
abbrev pub end_in : Table → Certificate → Placement → Option Shape
end_in table certificate placement = end_by_owner table certificate placement.owner

-- ---- rows

-- a state of the table
pub record Row : Type 0 where
  pub name : List ℕ
  pub state : State
  pub placement : Placement

-- the row of these three, where all are there
abbrev pub row_of : Option (List ℕ) → Option State → Option Placement → Option Row
row_of (Some n) (Some state) (Some placement) = Some (record { name = n; state = state; placement = placement })
row_of (Some n) (Some state) None = None
row_of (Some n) None placement = None
row_of None state placement = None

-- the row of that number
abbrev pub row_at : Table → ℕ → Option Row
row_at table i = row_of (slice_get table.names i) (slice_get table.states i) (slice_get table.placements i)

-- the rules on the entry of a row's state
abbrev pub entry_rules : Declared → Certificate → Row → List Breach
entry_rules declared certificate row =
    entry_breaches (kind_of row.state) (certified certificate row.name) (under row.name declared.tasks)

-- the rules on what flows through it
abbrev pub flow_rules : Table → Declared → Certificate → Row → List Breach
flow_rules table declared certificate row =
    where_certified (λ own. flow_breaches
    (surrounded_by declared (inputs_in table certificate) (end_in table certificate row.placement) row.name own)
    (settings_of row.state) (kind_of row.state)) (certified certificate row.name)

-- what the rules find in a row, if there is one
abbrev pub found_in : (Row → List Breach) → Option Row → List Finding
found_in rules None = []
found_in rules (Some row) = found_at row.name (rules row)

-- what is found of so many numbers, from that one on
abbrev pub found_from : (ℕ → List Finding) → ℕ → ℕ → List Finding
found_from found zero i = []
found_from found (suc left) i = found i ++ found_from found left (suc i)

-- what the rules find in all rows
abbrev pub found_in_all : (Row → List Breach) → Table → List Finding
found_in_all rules table = found_from (λ i. found_in rules (row_at table i)) (length table.states) 0
