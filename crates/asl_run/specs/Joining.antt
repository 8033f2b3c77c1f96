-- How far the children of a Split are, and their outputs.
use Rattle.std.specs.Prelude.{ℕ, List, [], ◌∷◌, ◌++◌, Option, Some, None}
use Rattle.std.specs.Option.{option_to_list}
use Rattle.asl_model.specs.Run.{Activity, Ready, Waiting, Split, Done, Failed, Joining, AllDone, OneFailed}
use Rattle.asl_model.specs.Run.{StillRunning}
use Rattle.asl_model.specs.Tree.{Tree, NoTrees}
use Rattle.asl_run.specs.declared.joining.Far.{Far}
use Rattle.asl_run.specs.declared.joining.Far.TheVariants as fars

-- how far they are, with no outputs told
abbrev pub far_view : Far → Joining
far_view fars.AllDone = AllDone NoTrees
far_view (fars.OneFailed i error cause) = OneFailed i error.now cause.now
far_view fars.StillRunning = StillRunning

-- the same with the outputs left out
abbrev pub without_outputs : Joining → Joining
without_outputs (AllDone outputs) = AllDone NoTrees
without_outputs (OneFailed i error cause) = OneFailed i error cause
without_outputs StillRunning = StillRunning

-- the error and the cause with which a scope has ended there
abbrev pub failure_in : Activity → Option (List ℕ × List ℕ)
failure_in (Ready n raw counts) = None
failure_in (Waiting n raw counts payload) = None
failure_in (Split n raw counts children) = None
failure_in (Done output) = None
failure_in (Failed error cause) = Some (error, cause)

-- the output with which a scope has ended there
abbrev pub output_in : Activity → Option Tree
output_in (Ready n raw counts) = None
output_in (Waiting n raw counts payload) = None
output_in (Split n raw counts children) = None
output_in (Done output) = Some output
output_in (Failed error cause) = None

-- the outputs of those of the children that are done, in order
abbrev pub outputs_among : List Activity → List Tree
outputs_among [] = []
outputs_among (child ∷ others) = option_to_list (output_in child) ++ outputs_among others
