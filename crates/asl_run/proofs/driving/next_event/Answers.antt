use Rattle.std.proofs.Common.{refl, ap, sym, ◌∙◌, subst, List, ℕ}
use Rattle.asl_model.specs.Run.{activity_at}
use Rattle.asl_run.specs.Driving.{any_move}
use Rattle.asl_run.specs.Nodes.{shown_at}
use Rattle.asl_run.specs.Waiting.{NoneWaitsAt}
use Rattle.asl_tree.specs.View.{view}
use Rattle.asl_run.proofs.Driven.{answer_comes_next}
use Rattle.asl_run.proofs.Suited.{answer_suits, move_suits}
use Rattle.asl_run.proofs.driving.next_event.Goals as goal

pub returns-in_default-clause-next : goal.returns-in_default-clause-next
returns-in_default-clause-next g c = record { allowed = any_move; answered = refl }

pub returns-in-Ok-Some-clause-next : goal.returns-in-Ok-Some-clause-next
returns-in-Ok-Some-clause-next g c =
    let names = c.args.machine.now.names in
    let asked = c.in-Some.asked in
    answer_comes_next (g.A.Answers.may_give c.args.answers.now) names c.args.place.items c.deref.result.now (shown_at names c.args.nodes.now 0) asked c.in-Ok-Some.answer (g.A.Answers.content c.args.answers.now) (g.A.Answers.content c.next.new.self)
    c.deref.ensures.value c.in-Some.ensures.found (rw c.in-Ok-Some.field-0-is at c.in-Ok-Some.ensures.given) (rw c.in-Ok-Some.field-0-is at c.in-Ok-Some.ensures.front)

pub returns-in_default-clause-suited : goal.returns-in_default-clause-suited
returns-in_default-clause-suited g c = λ stands.
    let a = shown_at c.args.machine.now.names c.args.nodes.now 0 in
    move_suits c.args.place.items a (subst (λ (p : List ℕ). NoneWaitsAt p a) c.deref.ensures.value (c.in_default.ensures.none stands))

pub returns-in-Ok-Some-clause-suited : goal.returns-in-Ok-Some-clause-suited
returns-in-Ok-Some-clause-suited g c = λ stands.
    let a = shown_at c.args.machine.now.names c.args.nodes.now 0 in
    let waits = c.in-Some.ensures.found in
    answer_suits (activity_at c.args.place.items a) c.in-Ok-Some.answer (record {
      name = c.in-Some.asked.name.now;
      raw = waits.raw;
      counts = waits.counts;
      payload = view c.in-Some.asked.payload.now;
      is = ap (λ (p : List ℕ). activity_at p a) (sym c.deref.ensures.value) ∙ waits.waits;
    })
