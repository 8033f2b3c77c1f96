-- Steps of a run, as the definitions have them.
use Rattle.std.specs.Prelude.{◌≡◌, ℕ, List, map, Option, Some, None, Result, IfOk, IfErr, Vec, slice_get}
use Rattle.std.specs.Option.{IsSome}
use Rattle.asl_run.specs.Acting.{ActsSo}
use Rattle.asl_run.specs.Nodes.{in_table, range_of, shown_at, shown_from, shown_over}
use Rattle.asl_run.specs.declared.nodes.Node.{Node}
use Rattle.asl_run.specs.declared.planning.Plan.{Plan}
use Rattle.std.specs.declared.alloc.Global.{Global}
use Rattle.asl_machine_table.specs.Table.{Shows}
use Rattle.asl_machine_table.specs.declared.machine.Machine.{Machine}
use Rattle.asl_model.specs.Machine.{Scope}
use Rattle.asl_model.specs.Numbering.{IsScopeOf}
use Rattle.asl_model.specs.Run as model
use Rattle.asl_run.specs.Entries.{entry_view}
use Rattle.asl_run.specs.Standing.{StandsIn, children_of}
use Rattle.asl_run.specs.declared.entries.Entry.{Entry}
use Rattle.asl_run.specs.declared.stepping.StepRefusal.{StepRefusal}
use Rattle.asl_run.specs.declared.stepping.StepRefusal.TheVariants.{NoSuchPlace, NotEnabled, OutOfMemory}

-- a step is defined; its entries are told, with that place, and it leaves what stands after it
pub record IsStep (at : List ℕ) (defined : Option model.Step)
    (told : List (List ℕ × model.Entry)) (after : model.Activity) : Type 0 where
  pub step : model.Step
  pub is : defined ≡ Some step
  pub tells : told ≡ map (λ entry. (at, entry)) step.entries
  pub left : after ≡ step.after

-- the machine takes the event so
abbrev pub Takes : Scope → model.Activity → model.Event
    → List (List ℕ × model.Entry) → model.Activity → Type 0
Takes m before event told after = IsStep event.place (model.step m before event) told after

-- what a refusal says of the step of an activity
abbrev pub RefusedSo : StepRefusal → Option model.Activity → Option model.Step → Type 0
RefusedSo NoSuchPlace there step = there ≡ None
RefusedSo NotEnabled there step = IsSome there × (step ≡ None)
RefusedSo OutOfMemory there step = IsSome step

-- an answer to a step is right for an activity that stands in a scope of a machine
pub record StepsIn (scope : Scope) (at place : List ℕ) (before after : model.Activity)
    (action : model.Action) (r : Result (Vec Entry Global) StepRefusal) : Type 0 where
  pub taken : IfOk r (λ entries.
      IsStep at (model.step_at place scope before action) (map entry_view entries.items) after)
  pub refused : IfErr r (λ refusal.
      RefusedSo refusal (model.activity_at place before) (model.step_at place scope before action))
  pub unchanged : IfErr r (λ _. after ≡ before)

-- so in each such scope of each machine that is shown
pub record Steps (machine : Machine) (at place : List ℕ) (before after : model.Activity)
    (action : model.Action) (r : Result (Vec Entry Global) StepRefusal) : Type 0 where
  pub steps : (m scope : Scope) → Shows machine m → IsScopeOf m scope → StandsIn before scope
      → StepsIn scope at place before after action r

-- an answer to an action at a place of a table of nodes is right
pub record StepsAt (machine : Machine) (at : List ℕ) (action : model.Action)
    (before after : List Node) (r : Result (Vec Entry Global) StepRefusal) : Type 0 where
  pub whole : Steps machine at at
      (shown_at machine.names before 0) (shown_at machine.names after 0) action r

-- what is shown of the children of a node of a table
abbrev pub below_node : List (List ℕ) → List Node → Node → model.Activities
below_node names nodes node = children_of (in_table (range_of node) (shown_from names 0 nodes))

-- a refusal is right for an activity itself
pub record RefusesThere (machine : Machine) (a : model.Activity) (action : model.Action)
    (refusal : StepRefusal) : Type 0 where
  pub refuses : (m scope : Scope) → Shows machine m → IsScopeOf m scope → StandsIn a scope
      → RefusedSo refusal (Some a) (model.acts scope a action)

-- what an action is to do at node i, which stands at that place, or why that is nothing
pub record IsPlanned (machine : Machine) (at : List ℕ) (action : model.Action) (nodes : List Node)
    (i : ℕ) (r : Result Plan StepRefusal) : Type 0 where
  pub node : Node
  pub there : slice_get nodes i ≡ Some node
  pub planned : IfOk r (ActsSo machine at action (below_node machine.names nodes node) node)
  pub refused : IfErr r (λ refusal. RefusesThere machine
      (shown_over machine.names (below_node machine.names nodes node) node) action refusal)
