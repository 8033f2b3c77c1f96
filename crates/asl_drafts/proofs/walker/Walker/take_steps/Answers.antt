use Rattle.std.proofs.Common.{◌≡◌, ◌+◌, ◌||◌, Bool, true, length, refl, sym, subst, arith}
use Rattle.asl_numbered.specs.Laws.{keeps_longer}
use Rattle.asl_draft_laws.specs.Drafts.{step_taken}
use Rattle.asl_state_edges.specs.View.{step_view, steps_of}
use Rattle.asl_state_edges.specs.declared.found.Step.{Step}
use Rattle.asl_machine_table.specs.Table.{table_view}
use Rattle.asl_drafts.specs.Drafted.{draft_view, room}
use Rattle.asl_drafts.specs.Entries.{Makes}
use Rattle.asl_drafts.specs.Underway.{StepsOn}
use Rattle.asl_drafts.specs.declared.predecessors.Origin.{Origin}
use Rattle.asl_drafts.proofs.Leading.{first_steps, step-below, step-kept, step-wider, steps-many, steps-more}
use Rattle.asl_drafts.proofs.Underway.{HasWalked, changed-now, unchanged-now, walked-more}
use Rattle.asl_drafts.proofs.walker.Walker.take_steps.Goals as goal
use Rattle.asl_drafts.proofs.walker.Walker.take_steps.Goals.{then-branch, else-branch}

pub take_step-requires : goal.take_step-requires
take_step-requires c =
    let first = c.args.self.now.draft.store in
    let l = c.loop-place in
    step-wider (length first) (length l.self.draft.store) c.index-steps-place.result (keeps_longer first l.self.draft.store l.invariant.keeps) (step-below (length first) c.args.steps.now l.place _ c.loop-place-test.true c.index-steps-place.is c.requires)

pub loop-place-preserved : goal.loop-place-preserved
loop-place-preserved c =
    let table = table_view c.args.machine.now in
    let n = c.args.number in
    let first = c.args.self.now in
    let steps = c.args.steps.now in
    let l = c.loop-place in
    let shapes = first.draft.store in
    let step : Step = c.index-steps-place.result in
    let origin : Origin = record { state = n; place = l.place } in
    let same = step-kept first.draft.store l.self.draft.store step l.invariant.keeps (step-below (length first.draft.store) steps l.place step c.loop-place-test.true c.index-steps-place.is c.requires) in
    let now = c.take_step.new.self in
    let told = c.in_ok-take_step.ensures in
    let makes = subst (λ s. Makes room (step_taken table n s) (draft_view l.self.draft) c.in_ok-take_step.field-0 (draft_view now.draft)) same told.takes in
    let further = subst (λ s. StepsOn table origin s l.self now) same told.walked in
    let next : (after : Bool) → after ≡ (l.changed || c.in_ok-take_step.field-0) → HasWalked table n (steps_of shapes steps) (first_steps shapes steps (l.place + 1)) first after now = λ after either.
    subst (λ done. HasWalked table n (steps_of shapes steps) done first after now) (sym (steps-more shapes steps l.place step c.loop-place-test.true c.index-steps-place.is))
    (walked-more table n (steps_of shapes steps) first (first_steps shapes steps l.place) (step_view shapes step) l.self now origin l.changed c.in_ok-take_step.field-0 after l.invariant refl (steps-many shapes steps l.place (omega (arith, c.loop-place-test.true))) either makes told.waits told.others further told.keeps) in
    elim c.if-branch.branch [
      | then-branch w ↦ subst (λ changed. HasWalked table n (steps_of shapes steps) (first_steps shapes steps (l.place + 1)) first changed now) (sym w.changed-is) (next true (changed-now l.changed c.in_ok-take_step.field-0 w.if-branch.true))
      | else-branch w ↦ subst (λ changed. HasWalked table n (steps_of shapes steps) (first_steps shapes steps (l.place + 1)) first changed now) (sym w.changed-is) (next l.changed (unchanged-now l.changed c.in_ok-take_step.field-0 w.if-branch.false))
    ]
