use Rattle.std.proofs.Common.{refl, sym, subst, ◌∙◌}
use Rattle.asl_numbered.specs.Laws.{keeps_same}
use Rattle.asl_state_edges.specs.View.{steps_of}
use Rattle.asl_draft_laws.specs.Drafts.{steps_taken}
use Rattle.asl_drafts.specs.Drafted.{draft_view, room}
use Rattle.asl_drafts.specs.Entries.{Makes}
use Rattle.asl_drafts.specs.Underway.{IsCalmAfter}
use Rattle.asl_drafts.specs.declared.walker.Walker.{Walker}
use Rattle.asl_infer.specs.Rounds.{declared_in, table_in}
use Rattle.asl_infer.proofs.CalmStates.{all-calm, none-calm, pass-calm, pass-walks, stop-calm, walked-calm, woken-calm}
use Rattle.asl_infer.proofs.StateSteps.{state-calm, state-walks}
use Rattle.asl_infer.proofs.rounds.Given.take_turn.Goals as goal

pub returns-then-not-stop-clause-walks : goal.returns-then-not-stop-clause-walks
returns-then-not-stop-clause-walks c = pass-walks (table_in c.args.self.now) (declared_in c.args.self.now) c.args.self.now.strictness c.args.walker.now c.args.number (sym c.stop.ensures.told ∙ c.if-not-stop.true) c.requires.calm

pub returns-then-not-stop-clause-calm : goal.returns-then-not-stop-clause-calm
returns-then-not-stop-clause-calm c = pass-calm (table_in c.args.self.now) (declared_in c.args.self.now) c.args.walker.now _ c.args.number c.stop.ensures.stops (sym c.stop.ensures.told ∙ c.if-not-stop.true) c.stop.ensures.order refl refl (keeps_same c.args.walker.now.draft.store) c.requires.calm

pub returns-in_default-clause-calm : goal.returns-in_default-clause-calm
returns-in_default-clause-calm c =
    let given = c.args.self.now in
    let n = c.args.number in
    let first = c.args.walker.now in
    let one : Walker = record { draft = first.draft; waiting = c.stop.new.self; predecessors = first.predecessors } in
    none-calm (table_in given) (declared_in given) one n c.in_default.ensures.none (stop-calm (table_in given) (declared_in given) first one n c.stop.ensures.stops c.stop.ensures.order refl refl (keeps_same first.draft.store) c.requires.calm)

pub returns-then-are_whole-clause-walks : goal.returns-then-are_whole-clause-walks
returns-then-are_whole-clause-walks c =
    let given = c.args.self.now in
    let n = c.args.number in
    let first = c.args.walker.now in
    let one : Walker = record { draft = first.draft; waiting = c.stop.new.self; predecessors = first.predecessors } in
    let made : Walker = record { draft = c.steps.new.draft; waiting = one.waiting; predecessors = one.predecessors } in
    let two = c.take_steps.new.self in
    state-walks given n c.in-Some.row one made two c.in_ok-steps.steps.items c.in_ok-steps.are_whole c.in-Some.ensures.there c.in_ok-steps.ensures.steps c.in_ok-steps.ensures.same c.in_ok-changed.changed
    (subst (λ es. Makes room (steps_taken (table_in given) n (steps_of made.draft.store es)) (draft_view made.draft) c.in_ok-changed.changed (draft_view two.draft)) c.deref.ensures.value c.in_ok-changed.ensures.takes)

pub returns-then-are_whole-clause-calm : goal.returns-then-are_whole-clause-calm
returns-then-are_whole-clause-calm c =
    let given = c.args.self.now in
    let n = c.args.number in
    let first = c.args.walker.now in
    let one : Walker = record { draft = first.draft; waiting = c.stop.new.self; predecessors = first.predecessors } in
    let made : Walker = record { draft = c.steps.new.draft; waiting = one.waiting; predecessors = one.predecessors } in
    let two = c.take_steps.new.self in
    let after = subst (λ es. IsCalmAfter (table_in given) n (steps_of made.draft.store es) made two) c.deref.ensures.value c.in_ok-changed.ensures.walked in
    all-calm (table_in given) (declared_in given) two n
    (state-calm given n c.in-Some.row one made two c.in_ok-steps.steps.items c.in_ok-steps.are_whole c.in-Some.ensures.there c.in_ok-steps.ensures.steps c.in_ok-steps.ensures.same c.if-are_whole.true after)
    (walked-calm (table_in given) (declared_in given) one made two n refl refl c.in_ok-steps.ensures.same c.in_ok-steps.ensures.keeps c.in_ok-changed.ensures.waits c.in_ok-changed.ensures.others
    (stop-calm (table_in given) (declared_in given) first one n c.stop.ensures.stops c.stop.ensures.order refl refl (keeps_same first.draft.store) c.requires.calm))

pub returns-clause-walks : goal.returns-clause-walks
returns-clause-walks c =
    let given = c.args.self.now in
    let n = c.args.number in
    let first = c.args.walker.now in
    let one : Walker = record { draft = first.draft; waiting = c.stop.new.self; predecessors = first.predecessors } in
    let made : Walker = record { draft = c.steps.new.draft; waiting = one.waiting; predecessors = one.predecessors } in
    let two = c.take_steps.new.self in
    state-walks given n c.in-Some.row one made two c.in_ok-steps.steps.items c.in_ok-steps.are_whole c.in-Some.ensures.there c.in_ok-steps.ensures.steps c.in_ok-steps.ensures.same c.in_ok-changed.changed
    (subst (λ es. Makes room (steps_taken (table_in given) n (steps_of made.draft.store es)) (draft_view made.draft) c.in_ok-changed.changed (draft_view two.draft)) c.deref.ensures.value c.in_ok-changed.ensures.takes)

pub returns-clause-calm : goal.returns-clause-calm
returns-clause-calm c =
    let given = c.args.self.now in
    let n = c.args.number in
    let first = c.args.walker.now in
    let one : Walker = record { draft = first.draft; waiting = c.stop.new.self; predecessors = first.predecessors } in
    let made : Walker = record { draft = c.steps.new.draft; waiting = one.waiting; predecessors = one.predecessors } in
    let two = c.take_steps.new.self in
    let woken : Walker = record { draft = two.draft; waiting = c.wake.new.self; predecessors = two.predecessors } in
    woken-calm (table_in given) (declared_in given) two woken n c.in_ok-wake.ensures.wakes c.in_ok-wake.ensures.stays.order refl refl (keeps_same two.draft.store)
    (walked-calm (table_in given) (declared_in given) one made two n refl refl c.in_ok-steps.ensures.same c.in_ok-steps.ensures.keeps c.in_ok-changed.ensures.waits c.in_ok-changed.ensures.others
    (stop-calm (table_in given) (declared_in given) first one n c.stop.ensures.stops c.stop.ensures.order refl refl (keeps_same first.draft.store) c.requires.calm))
