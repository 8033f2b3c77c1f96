-- Runs that are driven, and the texts of their histories. No public clause cites this module.
use Rattle.std.specs.Prelude.{◌≡◌, ℕ, List, []}
use Rattle.asl_model.specs.Machine.{Scope}
use Rattle.asl_model.specs.Run.{Activity, Action, start}
use Rattle.asl_model.specs.Tree.{Tree}
use Rattle.asl_model.specs.TracePrinted.{trace_text}
use Rattle.asl_run.specs.Driving.{Policy, Stage, Stops, Told, stage_of}
use Rattle.asl_run.specs.declared.driving.Stop.{Stop}

-- where a run of a machine on an input begins, with those answers
abbrev pub begun : Scope → Tree → List Action → Stage
begun machine input answers = stage_of (start machine input) answers []

-- a run that begins there is driven by at most so many events until it stops so, those answers are left, and the text
-- is that of its history
pub record Traces (policy : Policy) (machine : Scope) (most : ℕ) (before : Stage) (stop : Stop)
    (text : List ℕ) (left : List Action) : Type 0 where
  pub told : Told
  pub after : Activity
  pub stops : Stops policy machine most before stop (stage_of after left told)
  pub traced : text ≡ trace_text told
