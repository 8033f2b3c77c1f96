-- What is told of faults.
use Rattle.std.proofs.Common.{◌≡◌, ap, ◌∙◌, List, Option, Some, None, Result, Err, refl, sym, codes}
use Rattle.asl_model.specs.Faults as model
use Rattle.asl_model.specs.Flow.{result_placed}
use Rattle.asl_model.specs.Path.{Segment}
use Rattle.asl_model.specs.Placing.{Places, placed}
use Rattle.asl_model.specs.Tree.{Tree}
use Rattle.asl_model.proofs.PlacingExactly.{placed_so}
use Rattle.asl_processing.specs.Flowing.{Flows}
use Rattle.asl_processing.specs.Faults.{fault_view}
use Rattle.asl_processing.specs.declared.faults.Fault.{Fault}
use Rattle.asl_processing.specs.declared.faults.Stop.TheVariants as stops

-- the fault that is defined is answered
pub fault_told : {A B : Type 0} (seen : A → B) (fault : Fault) (defined : Result B model.Fault) → defined ≡ Err (fault_view fault) → Flows seen (Err (stops.Fault fault)) defined
fault_told seen fault defined is = record {
  gives = tt;
  fails = λ other same. let e : fault ≡ other = cc in is ∙ ap (λ f. Err (fault_view f)) e;
}

-- where there is no placing, nothing is placed
pub nothing_placed : (p : List Segment) (w v : Tree) → ((u : Tree) → ¬ Places p w v u) → placed p w v ≡ None
nothing_placed p w v none = go (placed p w v) refl
  where
    go : (there : Option Tree) → placed p w v ≡ there → placed p w v ≡ None
    go None e = e
    go (Some u) e = absurd (none u (placed_so p w v u e))

-- so placing a result is refused
pub misfit_told : {A : Type 0} (seen : A → Tree) (path : Option (List Segment)) (p : List Segment) (w result v raw : Tree) (fault : Fault) → path ≡ Some p → w ≡ result → v ≡ raw → ((u : Tree) → ¬ Places p w v u)
    → fault_view fault ≡ record { error = model.ResultPathMatchFailure; field = codes "ResultPath" } → Flows seen (Err (stops.Fault fault)) (result_placed path raw result)
misfit_told seen path p w result v raw fault given same_result same_raw none is =
    fault_told seen fault (result_placed path raw result) (rw (given, sym same_result, sym same_raw, nothing_placed p w v none) (ap Err (sym is)))
