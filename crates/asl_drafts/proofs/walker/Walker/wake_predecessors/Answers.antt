use Rattle.std.proofs.Common.{◌≡◌, Contains, get_or, sym, ◌∙◌, subst}
use Rattle.std.proofs.lemmas.List.{get_or_default}
use Rattle.asl_numbered.specs.Laws.{keeps_trans}
use Rattle.asl_drafts.specs.Walker.{WaitsOrStays}
use Rattle.asl_drafts.specs.declared.predecessors.Inflow.{Inflow}
use Rattle.asl_drafts.proofs.Walkers.{again-all, again-stays, again-waits, stays-before, waits-twice}
use Rattle.asl_drafts.proofs.walker.Walker.wake_predecessors.Goals as goal
use Rattle.asl_drafts.proofs.walker.Walker.wake_predecessors.Goals.{then-branch+in_ok-wake, else-branch}

pub loop-inflow-preserved : goal.loop-inflow-preserved
loop-inflow-preserved c =
    let l = c.loop-inflow in
    let first = c.args.self.now in
    let ws = l.self.waiting.waits.items in
    let items = c.deref-inflow-items.result.now in
    let inflow : Inflow = get_or items l.inflow-index (record { state = 0; flowing = 0 }) in
    let at : inflow ≡ get_or items l.inflow-index inflow = get_or_default items l.inflow-index (record { state = 0; flowing = 0 }) inflow c.loop-inflow-test.true in
    elim c.if-branch.branch [
      | then-branch+in_ok-wake w ↦ rw w.self-is record {
        waits = waits-twice first.waiting l.self.waiting w.wake.new.self l.invariant.waits w.in_ok-wake.ensures.stays;
        draft = c.in_ok-would_change.ensures.same ∙ l.invariant.draft;
        predecessors = l.invariant.predecessors;
        keeps = keeps_trans _ _ _ l.invariant.keeps c.in_ok-would_change.ensures.keeps;
        again = λ i x most found. subst (λ waits. WaitsOrStays first.draft c.args.target waits x.state x.flowing) (sym w.in_ok-wake.ensures.wakes) (again-waits first.draft c.args.target ws items l.inflow-index inflow at c.loop-inflow-test.true l.invariant.again i x most found);
      }
      | else-branch w ↦ rw w.self-is record {
        waits = l.invariant.waits;
        draft = c.in_ok-would_change.ensures.same ∙ l.invariant.draft;
        predecessors = l.invariant.predecessors;
        keeps = keeps_trans _ _ _ l.invariant.keeps c.in_ok-would_change.ensures.keeps;
        again = again-stays first.draft c.args.target ws items l.inflow-index inflow at c.loop-inflow-test.true l.invariant.again (stays-before first.draft l.self.draft c.args.target inflow.flowing l.invariant.keeps l.invariant.draft (c.in_ok-would_change.ensures.stays w.if-branch.false));
      }
    ]

pub returns-clause-again : goal.returns-clause-again
returns-clause-again c =
    let l = c.loop-inflow in
    let items = c.deref-inflow-items.result.now in
    again-all c.args.self.now.draft c.args.self.now.predecessors c.args.target l.self.waiting.waits.items items l.inflow-index c.loop-inflow-test.false (λ origin n is. subst (λ xs. Contains xs (record { state = origin.state; flowing = n })) (sym c.deref-inflow-items.ensures.value) (c.in_ok-inflows.ensures.all origin n is)) l.invariant.again
