use Rattle.std.proofs.Common.{◌≤◌, Some, length, refl, sym, ap, ◌∙◌, subst}
use Rattle.std.proofs.lemmas.Bool.{false≢true}
use Rattle.asl_draft_laws.specs.Drafts.{taken_at}
use Rattle.asl_numbered.specs.Expansion.{shape_at, Keeps}
use Rattle.asl_numbered.specs.Laws.{keeps_longer, keeps_trans}
use Rattle.asl_drafts.specs.Drafted.{draft_view, room, target_view}
use Rattle.asl_drafts.specs.Entries.{Makes}
use Rattle.asl_drafts.specs.Walker.{StaysWaiting}
use Rattle.asl_drafts.specs.declared.walker.Walker.{Walker}
use Rattle.asl_drafts.proofs.Calm.{calm-by}
use Rattle.asl_drafts.specs.declared.draft.Draft.{Draft}
use Rattle.asl_drafts.proofs.Walkers.{woken}
use Rattle.asl_drafts.proofs.walker.Walker.take.Goals as goal

pub returns-in_ok-wake_predecessors-clause-woken : goal.returns-in_ok-wake_predecessors-clause-woken
returns-in_ok-wake_predecessors-clause-woken c = λ changed.
    let old = c.args.self.now.draft in
    let one = c.wake_reader.new.self in
    let two = c.wake_predecessors.new.self in
    let long : length old.store ≤ length one.draft.store = subst (λ (d : Draft). length old.store ≤ length d.store) (sym c.in_ok-wake_reader.ensures.draft) (keeps_longer old.store c.take.new.self.store c.in_ok-changed.ensures.keeps) in
    woken (length old.store) one.draft two.draft one.predecessors two.predecessors c.args.target one.waiting two.waiting long c.in_ok-wake_predecessors.ensures.keeps c.in_ok-wake_predecessors.ensures.draft c.in_ok-wake_predecessors.ensures.predecessors c.in_ok-wake_reader.ensures.reader c.in_ok-wake_predecessors.ensures.waits c.in_ok-wake_predecessors.ensures.again

pub returns-in_ok-wake_predecessors-clause-calm : goal.returns-in_ok-wake_predecessors-clause-calm
returns-in_ok-wake_predecessors-clause-calm c = λ table declared row in_waits was.
    let one = c.args.self.now in
    let read = c.in_ok-wake_reader.ensures in
    let two = c.wake_predecessors.new.self in
    let last = c.in_ok-wake_predecessors.ensures in
    let s = shape_at one.draft.store c.args.flowing in
    let keeps = keeps_trans _ _ _ c.in_ok-changed.ensures.keeps (subst (λ (d : Draft). Keeps d.store two.draft.store) read.draft last.keeps) in
    let view = sym (last.draft ∙ ap draft_view read.draft) in
    let makes = subst (λ d. Makes room (taken_at (Some (target_view c.args.target)) s) (draft_view one.draft) c.in_ok-changed.changed d) view c.in_ok-changed.ensures.takes in
    let stays : StaysWaiting one.waiting two.waiting = record { many = last.waits.many ∙ read.waits.many; order = last.waits.order ∙ read.waits.order; stays = λ n h. last.waits.stays n (read.waits.stays n h) } in
    calm-by table declared row one two c.args.target s keeps (last.predecessors ∙ read.predecessors) stays in_waits c.in_ok-changed.changed makes (returns-in_ok-wake_predecessors-clause-woken c) was

pub returns-else-changed-clause-calm : goal.returns-else-changed-clause-calm
returns-else-changed-clause-calm c = λ table declared row in_waits was.
    let one = c.args.self.now in
    let two : Walker = record { draft = c.take.new.self; waiting = one.waiting; predecessors = one.predecessors } in
    let s = shape_at one.draft.store c.args.flowing in
    calm-by table declared row one two c.args.target s c.in_ok-changed.ensures.keeps refl (record { many = refl; order = refl; stays = λ n h. h }) in_waits c.in_ok-changed.changed c.in_ok-changed.ensures.takes (λ changed. absurd (false≢true (sym c.if-changed.false ∙ changed))) was
