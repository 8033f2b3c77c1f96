-- What steps, edges and faults stand for in the definitions.
use Rattle.std.specs.Prelude.{◌<◌, ℕ, List, map, Option, Some, None, IfSome}
use Rattle.std.specs.List.{AllByRecursion}
use Rattle.asl_model.specs.Edges as model
use Rattle.asl_model.specs.Finding as finding
use Rattle.asl_model.specs.Missing.{counterexample}
use Rattle.asl_model.specs.Shape.{Shape}
use Rattle.asl_model.specs.Tree.{Tree}
use Rattle.asl_shape_paths.specs.Doubts.{doubtful_view}
use Rattle.asl_shape_paths.specs.declared.doubts.DoubtfulPath.{DoubtfulPath}
use Rattle.asl_numbered.specs.Expansion.{shape_at}
use Rattle.asl_states.specs.Machine.{target_name}
use Rattle.asl_state_edges.specs.declared.faults.Broken.{Broken}
use Rattle.asl_state_edges.specs.declared.faults.FindingFault.{FindingFault}
use Rattle.asl_state_edges.specs.declared.faults.FindingFault.TheVariants as found
use Rattle.asl_state_edges.specs.declared.found.Destination.{Destination}
use Rattle.asl_state_edges.specs.declared.found.Destination.TheVariants as to
use Rattle.asl_state_edges.specs.declared.found.Edge.{Edge}
use Rattle.asl_state_edges.specs.declared.found.Step.{Step}
use Rattle.asl_state_edges.specs.declared.found.Step.TheVariants as step

-- the fault of a finding
abbrev pub finding_fault_view : FindingFault → finding.FindingFault
finding_fault_view found.NotCertified = finding.NotCertified
finding_fault_view found.NotAState = finding.NotAState
finding_fault_view found.TaskUndeclared = finding.TaskUndeclared
finding_fault_view found.TaskUnknown = finding.TaskUnknown
finding_fault_view found.StartInput = finding.StartInput
finding_fault_view found.PathMayBeMissing = finding.PathMayBeMissing
finding_fault_view found.WrongKind = finding.WrongKind
finding_fault_view found.ResultMayNotFit = finding.ResultMayNotFit
finding_fault_view found.IntrinsicMayFail = finding.IntrinsicMayFail
finding_fault_view found.NoDefault = finding.NoDefault
finding_fault_view found.PayloadNotTaken = finding.PayloadNotTaken
finding_fault_view found.OutputNotCertified = finding.OutputNotCertified
finding_fault_view found.NextInput = finding.NextInput
finding_fault_view found.ScopeOutput = finding.ScopeOutput
finding_fault_view found.BranchInput = finding.BranchInput
finding_fault_view found.CatchInput = finding.CatchInput

-- the tree that shows a path, if there is one, to be doubtful
abbrev pub example_of : List Shape → Option DoubtfulPath → Option Tree
example_of table None = None
example_of table (Some path) = counterexample (doubtful_view table path)

-- a broken rule, with the shapes of a table
abbrev pub broken_view : List Shape → Broken → finding.Breach
broken_view table b =
    record { field = b.field.now; fault = finding_fault_view b.fault; example = example_of table b.path }

-- where a shape flows to
abbrev pub destination_view : Destination → model.Destination
destination_view (to.Input target) = model.ToInput (target_name target.now)
destination_view to.Output = model.ToOutput
destination_view to.End = model.ToEnd
destination_view to.Task = model.ToTask

-- an edge, with the shape of its number in a table
abbrev pub edge_view : List Shape → Edge → model.Walked
edge_view table e =
    model.flows_to (destination_view e.destination) e.field.now (finding_fault_view e.fault) (shape_at table e.flowing)

-- a step
abbrev pub step_view : List Shape → Step → model.Walked
step_view table (step.Flows e) = edge_view table e
step_view table (step.Breaks b) = model.Breaks (broken_view table b)

-- so for each of a list
abbrev pub steps_of : List Shape → List Step → List model.Walked
steps_of table steps = map (step_view table) steps

-- the number of the shape that a broken rule's path was looked up in is below that bound
abbrev pub IsBrokenBelow : ℕ → Broken → Type 0
IsBrokenBelow bound b = IfSome b.path (λ path. path.shape < bound)

-- so is that of what flows, or of a broken rule
abbrev pub IsStepBelow : ℕ → Step → Type 0
IsStepBelow bound (step.Flows e) = e.flowing < bound
IsStepBelow bound (step.Breaks b) = IsBrokenBelow bound b

-- so for each step
abbrev pub AreStepsBelow : ℕ → List Step → Type 0
AreStepsBelow bound steps = AllByRecursion (IsStepBelow bound) steps
