-- What a shape on its way through a state comes to.
use Rattle.std.specs.Prelude.{◌≡◌, ℕ, List, length, slice_get, Option, Some, None, Result, Ok, Err, Vec}
use Rattle.std.specs.declared.alloc.Global.{Global}
use Rattle.asl_model.specs.ShapeFlow as model
use Rattle.asl_tree.specs.View.{view}
use Rattle.asl_shape_paths.specs.Counterexamples.{IsShownBy}
use Rattle.asl_flow.specs.Doubts.{flow_view, IsFlowIn}
use Rattle.asl_flow.specs.declared.doubts.Doubt.{Doubt}
use Rattle.asl_flow.specs.declared.leaving.FlowFault.{FlowFault}
use Rattle.asl_flow.specs.declared.leaving.FlowFault.TheVariants.{MayBeMissing, MayFail, MayNotFit, OutOfMemory}
use Rattle.asl_flow.specs.declared.leaving.Leaving.{Leaving}
use Rattle.asl_flow.specs.declared.leaving.Leaving.TheVariants.{WithResult, WithInput, Nothing}
use Rattle.asl_model.specs.Flow.{at_output_path, output_of}
use Rattle.asl_model.specs.Shape.{Shape, Has}
use Rattle.asl_model.specs.Tree.{Tree}
use Rattle.asl_states.specs.Machine.{settings_view, kind_view}
use Rattle.asl_states.specs.declared.states.State.{State}

-- what leaves a state
abbrev pub leaving_of : Leaving → model.Leaving
leaving_of WithResult = model.WithResult
leaving_of WithInput = model.WithInput
leaving_of Nothing = model.Nothing

-- the answer is what the way comes to, or the doubts that stop it, and speaks of shapes of the table
pub record FlowsTo (table : List Shape) (flow : model.Flow) (answer : Result ℕ (Vec Doubt Global)) : Type 0 where
  pub same : flow ≡ flow_view table answer
  pub within : IsFlowIn (length table) answer

-- what the way out of a state comes to, for the shapes of its raw input and of its work
abbrev pub way_out : State → Shape → Shape → model.Flow
way_out state raw work = model.leave (settings_view state.settings) (kind_view state.kind) raw work

-- Where a state's result leaves it: each raw input and each result of those shapes come to an output, which has that shape.
abbrev pub ResultLeaves : State → Shape → Shape → Shape → Type 0
ResultLeaves state raw work s =
    model.leaving (kind_view state.kind) ≡ model.WithResult
    → (v x : Tree) → Has raw v → Has work x
    → (u : Tree) × (output_of (settings_view state.settings) v x ≡ Ok u) × Has s u

-- the same where its effective input leaves it, by `OutputPath` alone
abbrev pub InputLeaves : State → Shape → Shape → Shape → Type 0
InputLeaves state raw work s =
    model.leaving (kind_view state.kind) ≡ model.WithInput
    → (v x : Tree) → Has raw v → Has work x
    → (u : Tree) × (at_output_path (settings_view state.settings) x ≡ Ok u) × Has s u

-- the first of the faults that stop a shape; None: it comes through
abbrev pub first_fault : model.Flow → Option model.FlowFault
first_fault (Ok s) = None
first_fault (Err faults) = slice_get faults 0

-- the shape is stopped, and the first fault is the one that is told; out of memory says nothing
abbrev pub IsStopped : model.Flow → FlowFault → Type 0
IsStopped flow (MayBeMissing field t) =
    (d : model.DoubtfulPath) × (first_fault flow ≡ Some (model.MissingAt field.now d)) × IsShownBy d (view t)
IsStopped flow (MayFail field) = first_fault flow ≡ Some (model.FailsAt field.now)
IsStopped flow (MayNotFit field) = first_fault flow ≡ Some (model.MisfitAt field.now)
IsStopped flow OutOfMemory = Unit {0}
