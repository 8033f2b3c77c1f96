use Rattle.std.proofs.Common.{◌≡◌}
use Rattle.asl_numbered.specs.Expansion.{shape_at}
use Rattle.asl_drafts.specs.Drafted.{draft_view}
use Rattle.asl_infer.proofs.OwnRules.{ArePassed}
use Rattle.asl_infer.proofs.telling.first_broken.Given as goal

abbrev pub invariant-loop-step : goal.invariant-loop-step
invariant-loop-step l = record {
  kept : l.draft.store ≡ l.initial.draft.store;
  same : draft_view l.draft ≡ draft_view l.initial.draft;
  passed : ArePassed l.initial.draft.store (shape_at l.initial.draft.store l.takes) l.steps l.step-index;
}
