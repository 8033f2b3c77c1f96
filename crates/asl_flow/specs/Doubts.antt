-- What doubts about a shape's way stand for in the definitions.
use Rattle.std.specs.Prelude.{◌<◌, ℕ, List, length, map, Result, Ok, Err, IfOk, IfErr, IsErr, Vec}
use Rattle.std.specs.List.{AllByRecursion}
use Rattle.std.specs.declared.alloc.Global.{Global}
use Rattle.asl_model.specs.Shape.{Shape}
use Rattle.asl_model.specs.ShapeFlow as model
use Rattle.asl_numbered.specs.Expansion.{shape_at}
use Rattle.asl_shape_paths.specs.Doubts.{doubtful_view}
use Rattle.asl_flow.specs.declared.doubts.Cause.{Cause}
use Rattle.asl_flow.specs.declared.doubts.Cause.TheVariants.{MayBeMissing, MayFail, MayNotFit}
use Rattle.asl_flow.specs.declared.doubts.Doubt.{Doubt}

-- the cause as a fault at that field
abbrev pub cause_at : List Shape → List ℕ → Cause → model.FlowFault
cause_at table field (MayBeMissing d) = model.MissingAt field (doubtful_view table d)
cause_at table field MayFail = model.FailsAt field
cause_at table field MayNotFit = model.MisfitAt field

-- the doubt as a fault at its field
abbrev pub fault_of : List Shape → Doubt → model.FlowFault
fault_of table d = cause_at table d.field.now d.cause

-- the shape that comes through, or the faults that may stop it
abbrev pub flow_view : List Shape → Result ℕ (Vec Doubt Global) → model.Flow
flow_view table (Ok n) = Ok (shape_at table n)
flow_view table (Err doubts) = Err (map (fault_of table) doubts.items)

-- the number of the shape that a cause speaks of is below that bound
abbrev pub IsCauseBelow : ℕ → Cause → Type 0
IsCauseBelow bound (MayBeMissing d) = d.shape < bound
IsCauseBelow bound MayFail = Unit {0}
IsCauseBelow bound MayNotFit = Unit {0}

-- so for each of the doubts
abbrev pub AreDoubtsBelow : ℕ → List Doubt → Type 0
AreDoubtsBelow bound doubts = AllByRecursion (λ (d : Doubt). IsCauseBelow bound d.cause) doubts

-- what comes through is in the table; or there are doubts, and all speak of shapes of it
pub record IsFlowIn (size : ℕ) (answer : Result ℕ (Vec Doubt Global)) : Type 0 where
  pub within : IfOk answer (λ n. n < size)
  pub some : IfErr answer (λ doubts. 0 < length doubts.items)
  pub below : IfErr answer (λ doubts. AreDoubtsBelow size doubts.items)

-- where a cause speaks of a path, that is doubtful in a shape of the table
abbrev pub IsCauseIn : List Shape → Cause → Type 0
IsCauseIn table (MayBeMissing d) =
    (d.shape < length table) × IsErr (model.look d.path.now (shape_at table d.shape))
IsCauseIn table MayFail = Unit {0}
IsCauseIn table MayNotFit = Unit {0}
