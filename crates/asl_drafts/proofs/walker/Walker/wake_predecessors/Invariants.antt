use Rattle.std.proofs.Common.{◌≡◌, ◌<◌, ℕ, Some, slice_get}
use Rattle.asl_numbered.specs.Expansion.{Keeps}
use Rattle.asl_drafts.specs.Drafted.{draft_view}
use Rattle.asl_drafts.specs.Walker.{StaysWaiting, WaitsOrStays}
use Rattle.asl_drafts.specs.declared.predecessors.Inflow.{Inflow}
use Rattle.asl_drafts.proofs.walker.Walker.wake_predecessors.Given as goal

abbrev pub invariant-loop-inflow : goal.invariant-loop-inflow
invariant-loop-inflow l = record {
  waits : StaysWaiting l.initial.self.waiting l.self.waiting;
  draft : draft_view l.self.draft ≡ draft_view l.initial.self.draft;
  predecessors : l.self.predecessors ≡ l.initial.self.predecessors;
  keeps : Keeps l.initial.self.draft.store l.self.draft.store;
  again : (i : ℕ) (inflow : Inflow) → i < l.inflow-index → slice_get l.inflow-items i ≡ Some inflow → WaitsOrStays l.initial.self.draft l.target l.self.waiting.waits.items inflow.state inflow.flowing;
}
