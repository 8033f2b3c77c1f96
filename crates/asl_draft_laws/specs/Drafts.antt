-- Drafts of certificates (the profile's own): what the rounds of an inference come to. At first no tree has any shape
-- of a draft. In each round the declared input flows into the input of the machine's start state; then the states are
-- walked in byte order of their names, and what flows along their edges is joined into the shapes that it would be
-- compared with. Each state is walked with the shapes that it has when its turn comes.
use Rattle.std.specs.Prelude.{◌≡◌, ◌≢◌, ◌<◌, ◌+◌, ◌-◌, ◌==◌, ℕ, zero, suc, List, [], ◌∷◌, ◌++◌, map, not, ◌&&◌, ◌||◌}
use Rattle.std.specs.Prelude.{Option, Some, None, is_some, option_map, Result, Ok, Err, slice_get}
use Rattle.std.specs.Prelude.{position, bytes_eq, replicate, codes, zip, flat_map, if◌then◌else◌}
use Rattle.std.specs.List.{fold, list_any}
use Rattle.std.specs.Option.{unwrap_or}
use Rattle.asl_model.specs.Names.{StateName}
use Rattle.asl_model.specs.Tree.{comes_before}
use Rattle.asl_model.specs.Machine.{State, Kind, settings_of, kind_of, is_task}
use Rattle.asl_model.specs.Numbering.{Table}
use Rattle.asl_model.specs.Shape.{Shape, Any, Never}
use Rattle.asl_model.specs.ShapeOrder.{join}
use Rattle.asl_model.specs.WrittenNumbered.{same_shape}
use Rattle.asl_model.specs.Certificate.{TaskShapes, Declared, StateShapes, Certificate, under, takes_of, gives_of}
use Rattle.asl_model.specs.Certificate.{branches_in, is_map}
use Rattle.asl_model.specs.Finding.{Breach, Finding, TaskUndeclared, TaskUnknown, breach_unless, found_at}
use Rattle.asl_model.specs.Edges.{Destination, ToInput, ToOutput, ToEnd, ToTask, Walked, Flows, Breaks}
use Rattle.asl_model.specs.Edges.{walk, breaches_along}
use Rattle.asl_draft_laws.specs.Cutting.{cut}

-- ---- a shape that grows

-- a shape that grows, and how often it may still change
pub record Growth : Type 0 where
  pub shape : Shape
  pub changes_left : ℕ

-- at first no tree has it
abbrev pub ungrown : Growth
ungrown = record { shape = Never; changes_left = 33 }

-- where a shape flows in, their join is cut: nothing changes where that is the same shape, or no change is left; the
-- last change makes it Any
abbrev pub taken_in : Shape → Growth → Growth
taken_in flowing g =
    let joined = cut (join g.shape flowing) in
    if same_shape joined g.shape || (g.changes_left == 0) then g
    else record { shape = if g.changes_left == 1 then Any else joined; changes_left = g.changes_left - 1 }

-- ---- drafts

-- the shapes of a state: of its input, of its output, and of the end of each of its children, which are the branches of
-- a Parallel, or a Map's processor
pub record DraftEntry : Type 0 where
  pub input : Growth
  pub output : Growth
  pub ends : List Growth

-- the shapes of a machine: of its output, and those of its states by their numbers
pub record Draft : Type 0 where
  pub output : Growth
  pub entries : List DraftEntry

-- how many children a state of that type has
abbrev pub children_in : Kind → ℕ
children_in kind = branches_in kind + (if is_map kind then 1 else 0)

-- the entry of a state with so many children before the first round
abbrev pub first_entry : ℕ → DraftEntry
first_entry children = record { input = ungrown; output = ungrown; ends = replicate children ungrown }

-- the draft of a machine before the first round
abbrev pub first_draft : Table → Draft
first_draft table =
    record { output = ungrown; entries = map (λ state. first_entry (children_in (kind_of state))) table.states }

-- what an entry comes to, for a state of that type
abbrev pub entry_with : Kind → DraftEntry → StateShapes
entry_with kind entry = record {
  input = entry.input.shape;
  output = entry.output.shape;
  branches = if is_map kind then [] else map (λ g. g.shape) entry.ends;
  item = if is_map kind then slice_get (map (λ g. g.shape) entry.ends) 0 else None;
}

-- a shape of a draft: of the machine's output, of the input or of the output of a state, or of the end of one of its
-- children, by their numbers
pub data Target : Type 0 where
  MachineOutput : Target
  Input Output : ℕ → Target
  End : ℕ → ℕ → Target

-- the list with that made of the element at a position, if there is one
abbrev pub with_element : {A : Type 0} → ℕ → (A → A) → List A → List A
with_element i make [] = []
with_element zero make (x ∷ xs) = make x ∷ xs
with_element (suc i) make (x ∷ xs) = x ∷ with_element i make xs

-- the draft with that made of the entry of a state, by its number
abbrev pub with_entry : ℕ → (DraftEntry → DraftEntry) → Draft → Draft
with_entry n make draft = record draft { entries = with_element n make draft.entries }

-- the draft where a shape flows into one of its own, if that is there
abbrev pub taken_at : Option Target → Shape → Draft → Draft
taken_at None s draft = draft
taken_at (Some MachineOutput) s draft = record draft { output = taken_in s draft.output }
taken_at (Some (Input n)) s draft = with_entry n (λ e. record e { input = taken_in s e.input }) draft
taken_at (Some (Output n)) s draft = with_entry n (λ e. record e { output = taken_in s e.output }) draft
taken_at (Some (End n i)) s draft = with_entry n (λ e. record e { ends = with_element i (taken_in s) e.ends }) draft

-- the end of the scope that belongs to a state and a child of it, by their numbers, or to none
abbrev pub end_target : Option (ℕ × ℕ) → Target
end_target None = MachineOutput
end_target (Some owner) = End owner.0 owner.1

-- the shape that an edge of the state of that number leads to; what flows to a task goes into none
abbrev pub target_of : Table → ℕ → Destination → Option Target
target_of table n (ToInput next) = option_map Input (position (bytes_eq next) table.names)
target_of table n ToOutput = Some (Output n)
target_of table n ToEnd = option_map (λ placement. end_target placement.owner) (slice_get table.placements n)
target_of table n ToTask = None

-- ---- the walk through a state

-- a state of a table
pub record Row : Type 0 where
  pub number : ℕ
  pub name : StateName
  pub state : State

-- what a draft comes to of a state; no tree has its shapes where it has no entry
abbrev pub entry_of : Draft → Row → StateShapes
entry_of draft row = entry_with (kind_of row.state) (unwrap_or (slice_get draft.entries row.number) (first_entry 0))

-- A state's own rules, which are broken along a walk whatever is certified: what flows is stopped on its way, or a
-- payload isn't inside what the task takes.
abbrev pub own_breaches : Shape → List Walked → List Breach
own_breaches takes = breaches_along (record { inputs = λ n. None; output = Any; end = None; takes = takes })

-- the draft after a step of the state of that number: what flows along an edge is taken in
abbrev pub step_taken : Table → ℕ → Walked → Draft → Draft
step_taken table n (Flows edge) draft = taken_at (target_of table n edge.destination) edge.flowing draft
step_taken table n (Breaks breach) draft = draft

-- the draft after several steps
abbrev pub steps_taken : Table → ℕ → List Walked → Draft → Draft
steps_taken table n steps draft = fold (λ taken step. step_taken table n step taken) draft steps

-- the draft, unless there is a finding: then the first
abbrev pub unless_found : List Finding → Draft → Result Draft Finding
unless_found [] draft = Ok draft
unless_found (found ∷ further) draft = Err found

-- the steps of a state, with the shapes that it has in the draft
abbrev pub steps_of : Declared → Draft → Row → List Walked
steps_of declared draft row =
    walk (gives_of declared row.name) (settings_of row.state) (kind_of row.state) (entry_of draft row)

-- the draft after the walk through a state, unless a rule of its own is broken
abbrev pub walked : Table → Declared → Row → Draft → Result Draft Finding
walked table declared row draft =
    unless_found (found_at row.name (own_breaches (takes_of declared row.name) (steps_of declared draft row)))
    (steps_taken table row.number (steps_of declared draft row) draft)

-- ---- byte order of names

-- what stands in byte order of its names, with one more
abbrev pub with_named : {A : Type 0} → (A → StateName) → A → List A → List A
with_named name x [] = x ∷ []
with_named name x (other ∷ others) =
    if comes_before (name other) (name x) then other ∷ with_named name x others else x ∷ (other ∷ others)

-- what has a name, in byte order of the names; where two are the same, in its own order
abbrev pub in_name_order : {A : Type 0} → (A → StateName) → List A → List A
in_name_order name [] = []
in_name_order name (x ∷ xs) = with_named name x (in_name_order name xs)

-- the rows of named states, which have numbers from that one on
abbrev pub rows_from : ℕ → List (StateName × State) → List Row
rows_from i [] = []
rows_from i (named ∷ others) = record { number = i; name = named.0; state = named.1 } ∷ rows_from (suc i) others

-- the rows of a table, in byte order of the names of states
abbrev pub rows_of : Table → List Row
rows_of table = in_name_order (λ row. row.name) (rows_from 0 (zip table.names table.states))

-- the Tasks among the rows that aren't declared
abbrev pub undeclared : Declared → List Row → List Finding
undeclared declared rows =
    flat_map (λ row. found_at row.name (breach_unless (not (is_task (kind_of row.state))
    || is_some (under row.name declared.tasks)) (codes "Resource") TaskUndeclared)) rows

-- the declared tasks whose name no Task among the rows has
abbrev pub unknown : List Row → List (StateName × TaskShapes) → List Finding
unknown rows tasks =
    flat_map (λ task. found_at task.0 (breach_unless (list_any (λ row. bytes_eq row.name task.0
    && is_task (kind_of row.state)) rows) (codes "tasks") TaskUnknown)) tasks

-- what is wrong with the names of tasks, in byte order of the names
abbrev pub misnamed : Table → Declared → List Finding
misnamed table declared =
    in_name_order (λ found. found.state) (undeclared declared (rows_of table) ++ unknown (rows_of table) declared.tasks)

-- ---- rounds

-- goes on with the draft, unless a finding is told
abbrev pub unless_told : (Draft → Result Draft Finding) → Result Draft Finding → Result Draft Finding
unless_told go_on (Ok draft) = go_on draft
unless_told go_on (Err found) = Err found

-- the draft after a walk through each of the states in turn
abbrev pub all_walked : Table → Declared → List Row → Draft → Result Draft Finding
all_walked table declared [] draft = Ok draft
all_walked table declared (row ∷ rows) draft =
    unless_told (all_walked table declared rows) (walked table declared row draft)

-- the draft where the declared input flows into that of the start state of the scope in which the first state stands
abbrev pub input_taken : Table → Declared → Draft → Draft
input_taken table declared draft =
    taken_at (option_map (λ placement. Input placement.start) (slice_get table.placements 0)) declared.input draft

-- the draft after one more round
abbrev pub round : Table → Declared → Draft → Result Draft Finding
round table declared draft = all_walked table declared (rows_of table) (input_taken table declared draft)

-- The draft after so many rounds: unless something is wrong with the names of tasks, which is told before the first, or
-- a state breaks a rule of its own in one of them.
abbrev pub after_rounds : Table → Declared → ℕ → Result Draft Finding
after_rounds table declared zero = unless_found (misnamed table declared) (first_draft table)
after_rounds table declared (suc n) = unless_told (round table declared) (after_rounds table declared n)

-- ---- what is inferred

-- the certificate that a draft comes to
abbrev pub certificate_of : Table → Draft → Certificate
certificate_of table draft =
    record { output = draft.output.shape; states = map (λ row. (row.name, entry_of draft row)) (rows_of table) }

-- The draft is one that a round leaves as it is, after fewer than so many of them: the rounds settle on it.
pub record Settles (table : Table) (declared : Declared) (rounds : ℕ) (draft : Draft) : Type 0 where
  pub before : ℕ
  pub within : before < rounds
  pub comes : after_rounds table declared before ≡ Ok draft
  pub stays : round table declared draft ≡ Ok draft

-- the certificate is that of the draft on which the rounds settle
pub record IsInferred (table : Table) (declared : Declared) (rounds : ℕ) (certificate : Certificate) : Type 0 where
  pub draft : Draft
  pub settles : Settles table declared rounds draft
  pub same : certificate ≡ certificate_of table draft

-- the finding is told in one of so many rounds, or before the first
abbrev pub IsTold : Table → Declared → ℕ → Finding → Type 0
IsTold table declared rounds found = after_rounds table declared rounds ≡ Err found

-- each of the rounds changes the draft before it
pub record NeverSettles (table : Table) (declared : Declared) (rounds : ℕ) : Type 0 where
  pub changes : (n : ℕ) → n < rounds → (before after : Draft) × (after_rounds table declared n ≡ Ok before)
      × (round table declared before ≡ Ok after) × (after ≢ before)
