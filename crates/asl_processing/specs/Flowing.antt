-- What the answers of the code say of what is defined.
use Rattle.std.specs.Prelude.{◌≡◌, Result, Ok, Err, IfOk}
use Rattle.asl_model.specs.Faults as model
use Rattle.asl_processing.specs.Faults.{fault_view}
use Rattle.asl_processing.specs.declared.faults.Fault.{Fault}
use Rattle.asl_processing.specs.declared.faults.Stop.TheVariants as stops
use Rattle.asl_processing.specs.declared.faults.Stop.{Stop}

-- an answer is what is defined, the value or the fault; want of memory says nothing of it
pub record Flows {A B : Type 0} (seen : A → B) (r : Result A Stop)
    (defined : Result B model.Fault) : Type 0 where
  pub gives : IfOk r (λ a. defined ≡ Ok (seen a))
  pub fails : (fault : Fault) → r ≡ Err (stops.Fault fault) → defined ≡ Err (fault_view fault)

-- the same where no memory is wanted
pub record Finds {A B : Type 0} (seen : A → B) (r : Result A Fault)
    (defined : Result B model.Fault) : Type 0 where
  pub gives : IfOk r (λ a. defined ≡ Ok (seen a))
  pub fails : (fault : Fault) → r ≡ Err fault → defined ≡ Err (fault_view fault)
