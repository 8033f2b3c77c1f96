-- Runs of the definitions' machines.
use Rattle.std.specs.Prelude.{◌≡◌, List, map, Option, None, Vec}
use Rattle.std.specs.declared.alloc.Global.{Global}
use Rattle.std.specs.Option.{IsSome}
use Rattle.asl_machine_table.specs.Held.{Held}
use Rattle.asl_machine_table.specs.Table.{scope_in}
use Rattle.asl_model.specs.Machine.{Scope}
use Rattle.asl_model.specs.Run as model
use Rattle.asl_run.specs.Entries.{entry_view, event_view}
use Rattle.asl_run.specs.Nodes.{shown_at}
use Rattle.asl_run.specs.Stepping.{Takes}
use Rattle.asl_run.specs.declared.entries.Entry.{Entry}
use Rattle.asl_run.specs.declared.entries.Event.{Event}
use Rattle.asl_run.specs.declared.nodes.Node.{Node}

-- a run: its machine, and the table of what stands at its places
pub record Running : Type 0 where
  pub machine : Held
  pub nodes : List Node

-- the machine of the definitions whose run it is
abbrev pub scope_of : Running → Scope
scope_of run = scope_in run.machine

-- what stands at the machine's own place, with all below it; the states have their names in the machine
abbrev pub run_view : Running → model.Activity
run_view run = shown_at run.machine.names run.nodes 0

-- what stands at the event's place
abbrev pub there : Running → Event → Option model.Activity
there run event = model.activity_at (event_view event).place (run_view run)

-- what the event leads to, if it is enabled
abbrev pub step_of : Running → Event → Option model.Step
step_of run event = model.step (scope_of run) (run_view run) (event_view event)

-- something stands at the event's place, and the event isn't enabled there
abbrev pub IsDisabled : Running → Event → Type 0
IsDisabled run event = IsSome (there run event) × (step_of run event ≡ None)

-- the run takes the event, and those are its entries
abbrev pub HasTaken : Running → Event → Running → Vec Entry Global → Type 0
HasTaken before event after entries =
    Takes (scope_of before) (run_view before) (event_view event) (map entry_view entries.items) (run_view after)
