-- What the first moves of the code come to in the definitions.
use Rattle.std.specs.Prelude.{◌≡◌, ℕ, List, Result, Err, IfOk, IfSome, option_map}
use Rattle.asl_states.specs.Machine.{target_name}
use Rattle.asl_model.specs.Flow as model
use Rattle.asl_model.specs.Machine.{Kind, child_scope}
use Rattle.asl_processing.specs.Activities.{StartIn, inputs_of}
use Rattle.asl_processing.specs.Faults.{fault_view}
use Rattle.asl_processing.specs.Data.{data_view}
use Rattle.asl_processing.specs.Leading.{Leads}
use Rattle.asl_processing.specs.declared.faults.Fault.{Fault}
use Rattle.asl_processing.specs.declared.faults.Stop.TheVariants as stops
use Rattle.asl_processing.specs.declared.faults.Stop.{Stop}
use Rattle.asl_processing.specs.declared.working.Work.{Work}
use Rattle.asl_processing.specs.declared.working.Work.TheVariants.{Finishes, Leaves, Fails, Asks, Splits, Raises}

-- what it comes to
abbrev pub work_view : Work → model.Work
work_view (Finishes t) = model.Finishes (data_view t)
work_view (Leaves next t) =
    model.Leaves (option_map (λ target. target_name target.now) next) (data_view t)
work_view (Fails error cause) = model.FailsWith error.now cause.now
work_view (Asks t) = model.Asks (data_view t)
work_view (Splits visits) = model.Splits (inputs_of visits.items)
work_view (Raises fault) = model.Raises (fault_view fault)

-- the states at which it goes on have the names of the definitions: the next state, and those of the children of a state
-- of that type
abbrev pub WorkLeads : List (List ℕ) → Kind → Work → Type 0
WorkLeads names kind (Finishes t) = Unit {0}
WorkLeads names kind (Leaves next t) = IfSome next (λ target. Leads names target.now)
WorkLeads names kind (Fails error cause) = Unit {0}
WorkLeads names kind (Asks t) = Unit {0}
WorkLeads names kind (Splits visits) = StartIn names (child_scope kind) visits.items
WorkLeads names kind (Raises fault) = Unit {0}

-- an answer is what a first move comes to; want of memory says nothing of it
pub record Works (r : Result Work Stop) (defined : model.Work) : Type 0 where
  pub does : IfOk r (λ w. defined ≡ work_view w)
  pub raises : (fault : Fault) → r ≡ Err (stops.Fault fault) → defined ≡ model.Raises (fault_view fault)
