-- The events and entries of the definitions that those of the code stand for.
use Rattle.std.specs.Prelude.{ℕ, List, string_bytes}
use Rattle.asl_model.specs.Run as model
use Rattle.asl_tree.specs.View as trees
use Rattle.asl_processing.specs.Faults.{fault_view}
use Rattle.asl_run.specs.declared.entries.Answer.{Answer}
use Rattle.asl_run.specs.declared.entries.Answer.TheVariants as answers
use Rattle.asl_run.specs.declared.entries.Event.{Event}
use Rattle.asl_run.specs.declared.entries.Event.TheVariants as events
use Rattle.asl_run.specs.declared.entries.Want.{Want}
use Rattle.asl_run.specs.declared.entries.Want.TheVariants as wants
use Rattle.asl_run.specs.declared.entries.Outcome.{Outcome}
use Rattle.asl_run.specs.declared.entries.Outcome.TheVariants as outcomes
use Rattle.asl_run.specs.declared.entries.Entry.{Entry}
use Rattle.asl_run.specs.declared.entries.Entry.TheVariants as entries

-- a task's answer as what happens where it waits
abbrev pub answer_view : Answer → model.Action
answer_view (answers.Gives t) = model.Gives (trees.view t.value)
answer_view (answers.Fails error cause) = model.FailsTask (string_bytes error) (string_bytes cause)

-- an event at its place
abbrev pub event_view : Event → model.Event
event_view (events.Move place) = record { place = place.items; action = model.Move }
event_view (events.Answers place answer) = record { place = place.items; action = answer_view answer }

-- the kind of event that is wanted
abbrev pub want_view : Want → model.Want
want_view wants.Move = model.WantsMove
want_view wants.Answer = model.WantsAnswer

-- how a scope ends
abbrev pub outcome_view : Outcome → model.Outcome
outcome_view (outcomes.Output t) = model.Output (trees.view t.value)
outcome_view (outcomes.Failed error cause) = model.FailedWith (string_bytes error) (string_bytes cause)

-- a scope that has ended so
abbrev pub ended_view : Outcome → model.Activity
ended_view (outcomes.Output t) = model.Done (trees.view t.value)
ended_view (outcomes.Failed error cause) = model.Failed (string_bytes error) (string_bytes cause)

-- an entry, with its place
abbrev pub entry_view : Entry → List ℕ × model.Entry
entry_view (entries.Enter at state input) = (at.items, model.Entered state.now (trees.view input.value))
entry_view (entries.Task at state payload) = (at.items, model.Asked state.now (trees.view payload.value))
entry_view (entries.Leave at state output) = (at.items, model.Left state.now (trees.view output.value))
entry_view (entries.Raise at state fault) = (at.items, model.Raised state.now (fault_view fault))
entry_view (entries.TaskFailed at state error cause) =
    (at.items, model.TaskFailed state.now (string_bytes error) (string_bytes cause))
entry_view (entries.BranchFailed at state child error cause) =
    (at.items, model.BranchFailed state.now child (string_bytes error) (string_bytes cause))
entry_view (entries.Retried at state retrier) = (at.items, model.Retried state.now retrier)
entry_view (entries.Caught at state catcher next) = (at.items, model.Caught state.now catcher next.now)
entry_view (entries.Ended at outcome) = (at.items, model.Ended (outcome_view outcome))
