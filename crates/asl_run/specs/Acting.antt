-- What is to be done in one step at one place.
use Rattle.std.specs.Prelude.{◌≡◌, ℕ, List, map, Option, Some, None, IfSome, option_map, slice_get}
use Rattle.std.specs.Borrow.{Bor}
use Rattle.std.specs.Option.{unwrap_or}
use Rattle.asl_states.specs.Machine.{kind_view, settings_view, state_view}
use Rattle.asl_machine_table.specs.Table.{states_in, table_view}
use Rattle.asl_machine_table.specs.declared.machine.Machine.{Machine}
use Rattle.asl_states.specs.declared.states.State as code
use Rattle.asl_states.specs.declared.target.Target.{Target}
use Rattle.asl_model.specs.Machine.{State, Settings}
use Rattle.asl_model.specs.Run as model
use Rattle.asl_model.specs.Tree.{Tree}
use Rattle.asl_tree.specs.View.{view}
use Rattle.asl_run.specs.Changing.{CanApply, changed, visit_in}
use Rattle.asl_run.specs.Entries.{answer_view, entry_view}
use Rattle.asl_processing.specs.Leading.{Leads, LeadsOn}
use Rattle.asl_run.specs.Nodes.{shown_over}
use Rattle.asl_run.specs.Standing.{name_in}
use Rattle.asl_processing.specs.Troubles.{CanRise}
use Rattle.asl_processing.specs.Working.{WorkLeads}
use Rattle.asl_processing.specs.declared.activities.Visit.{Visit}
use Rattle.asl_run.specs.declared.changing.Change.TheVariants.{Retry}
use Rattle.asl_run.specs.declared.entries.Answer.{Answer}
use Rattle.asl_run.specs.declared.nodes.Node.{Node}
use Rattle.asl_run.specs.declared.planning.Here.{Here}
use Rattle.asl_run.specs.declared.planning.Plan.{Plan}
use Rattle.asl_processing.specs.declared.working.Work.{Work}

-- ---- what happens at a place

-- the answer, or without one a move
abbrev pub action_of : Option (Bor Answer) → model.Action
action_of answer = unwrap_or (option_map (λ a. answer_view a.now) answer) model.Move

-- ---- one execution of a state, where it stands

-- the names of the machine's states, by number
abbrev pub names_at : Here → List (List ℕ)
names_at here = here.machine.now.names

-- the state, without the states of its scopes
abbrev pub state_at : Here → State
state_at here = state_view here.state.now

-- what is defined for a state's name, its settings, its raw input and its counts, of those here
abbrev pub by_settings : {A : Type 0} → (List ℕ → Settings → Tree → List ℕ → A) → Here → A
by_settings defined here = defined here.name.now (settings_view here.state.now.settings)
    (view here.visit.now.raw.value) here.visit.now.counts.items

-- the same for the state itself
abbrev pub by_state : {A : Type 0} → (List ℕ → State → Tree → List ℕ → A) → Here → A
by_state defined here = defined here.name.now (state_at here)
    (view here.visit.now.raw.value) here.visit.now.counts.items

-- the step that comes of an error so
abbrev pub by_trouble_at : Here → List ℕ → List ℕ → model.Trouble → model.Step
by_trouble_at here error cause trouble = model.by_trouble here.name.now
    (view here.visit.now.raw.value) here.visit.now.counts.items error cause trouble

-- the name is that of the execution's state, and what its fields name leads on
pub record IsAt (here : Here) : Type 0 where
  pub named : here.name.now ≡ name_in (names_at here) here.visit.now.state
  pub leads : LeadsOn (names_at here) here.state.now

-- where that is so, the target leads to the state of its name
pub record MayFollow (here : Here) (target : Target) : Type 0 where
  pub leads : IsAt here → Leads (names_at here) target

-- and so does what the first move comes to
pub record MayCome (here : Here) (work : Work) : Type 0 where
  pub leads : IsAt here → WorkLeads (names_at here) (kind_view here.state.now.kind) work

-- ---- plans

-- an entry with its place
abbrev pub told_at : List ℕ → model.Entry → List ℕ × model.Entry
told_at place entry = (place, entry)

-- an entry with the place of that execution
abbrev pub told_here : Here → model.Entry → List ℕ × model.Entry
told_here here = told_at here.at.now

-- A plan is that of a step: its entries are the step's, at the place; its change leaves what the step leaves; a count
-- that is to rise can.
pub record Plans (here : Here) (plan : Plan) (step : model.Step) : Type 0 where
  pub told : map entry_view plan.entries.items ≡ map (told_here here) step.entries
  pub left : IsAt here → changed (names_at here) here.visit.now plan.change ≡ step.after
  pub rises : (i : ℕ) → plan.change ≡ Retry i → CanRise here.visit.now.counts.items i

-- there is a step, and the plan is that of it
pub record PlansOne (here : Here) (plan : Plan) (step : Option model.Step) : Type 0 where
  pub that : model.Step
  pub is : step ≡ Some that
  pub plans : Plans here plan that

-- the plan, if any, is that of the step, if any
pub record PlansAs (here : Here) (plan : Option Plan) (step : Option model.Step) : Type 0 where
  pub planned : IfSome plan (λ p. PlansOne here p step)
  pub nothing : plan ≡ None → step ≡ None

-- ---- at an activity

-- the execution's state, found by its number in the machine's table; what the fields of the code's state of that number
-- name leads on
pub record StandsAt (machine : Machine) (visit : Visit) (state : State) : Type 0 where
  pub name : slice_get (table_view machine).names visit.state
      ≡ Some (name_in (table_view machine).names visit.state)
  pub shown : slice_get (table_view machine).states visit.state ≡ Some state
  pub leads : (stored : code.State) → slice_get (states_in machine) visit.state ≡ Some stored
      → LeadsOn (table_view machine).names stored

-- what an action does at an activity of that state
abbrev pub moves : model.Activity → model.Action → State → Option model.Step
moves (model.Ready n raw counts) action state = model.moves_ready n raw counts action state
moves (model.Waiting n raw counts payload) action state = model.moves_waiting n raw counts action state
moves (model.Split n raw counts children) action state =
    model.moves_split n raw counts children action state
moves (model.Done output) action state = None
moves (model.Failed error cause) action state = None

-- the same for a state of that name, with that raw input and those counts; the activity tells only whether it is
-- ready, waits or is split, and its children
abbrev pub moves_as : model.Activity → model.Action → List ℕ → State → Tree → List ℕ → Option model.Step
moves_as (model.Ready m r cs) action n state raw counts = model.moves_ready n raw counts action state
moves_as (model.Waiting m r cs payload) action n state raw counts =
    model.moves_waiting n raw counts action state
moves_as (model.Split m r cs children) action n state raw counts =
    model.moves_split n raw counts children action state
moves_as (model.Done output) action n state raw counts = None
moves_as (model.Failed error cause) action n state raw counts = None

-- the same for the execution here, which stands in the node over these children
abbrev pub moves_at : Here → model.Activities → Node → model.Action → Option model.Step
moves_at here below node action =
    by_state (moves_as (shown_over (names_at here) below node) action) here

-- the execution stands in the node: what an action does there, it does for that execution
pub record IsVisitOf (node : Node) (visit : Visit) : Type 0 where
  pub stands : visit_in node ≡ Some visit
  pub does : (names : List (List ℕ)) (below : model.Activities) (action : model.Action)
      (state : State) → let shown = shown_over names below node in
      moves shown action state
      ≡ moves_as shown action (name_in names visit.state) state (view visit.raw.value) visit.counts.items

-- no execution of a state stands in the node, and no action does anything there
pub record HasNoVisit (node : Node) : Type 0 where
  pub none : visit_in node ≡ None
  pub does : (names : List (List ℕ)) (below : model.Activities) (action : model.Action)
      (state : State) → moves (shown_over names below node) action state ≡ None

-- the execution that stands in the node, with its state, as the machine has it by its number
pub record IsFoundIn (node : Node) (here : Here) : Type 0 where
  pub visit : IsVisitOf node here.visit.now
  pub name : slice_get (names_at here) here.visit.now.state ≡ Some here.name.now
  pub state : slice_get (table_view here.machine.now).states here.visit.now.state
      ≡ Some (state_at here)
  pub stored : slice_get (states_in here.machine.now) here.visit.now.state ≡ Some here.state.now

-- no action does anything at the node
pub record DoesNothing (machine : Machine) (node : Node) : Type 0 where
  pub nothing : (below : model.Activities) (action : model.Action) (state : State)
      → IfSome (visit_in node) (λ visit. StandsAt machine visit state)
      → moves (shown_over (table_view machine).names below node) action state ≡ None

-- the plan does what the step does where that happens to the execution
pub record Does (machine : Machine) (at : List ℕ) (visit : Visit) (plan : Plan) (step : model.Step) : Type 0 where
  pub told : map entry_view plan.entries.items ≡ map (told_at at) step.entries
  pub left : changed machine.names visit plan.change ≡ step.after

-- there is a step, and the plan does it
pub record DoesOne (machine : Machine) (at : List ℕ) (visit : Visit) (plan : Plan)
    (step : Option model.Step) : Type 0 where
  pub that : model.Step
  pub is : step ≡ Some that
  pub does : Does machine at visit plan that

-- a plan is that of what the action does at that place, in the node over these children
pub record ActsSo (machine : Machine) (at : List ℕ) (action : model.Action)
    (below : model.Activities) (node : Node) (plan : Plan) : Type 0 where
  pub visit : Visit
  pub stands : visit_in node ≡ Some visit
  pub rises : CanApply node plan.change
  pub does : (state : State) → StandsAt machine visit state
      → DoesOne machine at visit plan (moves (shown_over machine.names below node) action state)

-- so is the plan, if there is one; there is none only where it does nothing there
pub record Acts (machine : Machine) (at : List ℕ) (action : model.Action)
    (below : model.Activities) (node : Node) (plan : Option Plan) : Type 0 where
  pub planned : IfSome plan (ActsSo machine at action below node)
  pub nothing : plan ≡ None → (state : State)
      → IfSome (visit_in node) (λ visit. StandsAt machine visit state)
      → moves (shown_over machine.names below node) action state ≡ None
