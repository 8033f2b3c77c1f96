use Rattle.std.proofs.Common.{◌≡◌, ◌+◌, [], ◌∷◌, ◌++◌, Some, None, take, drop, sym, ap, ◌∙◌, rules, arith}
use Rattle.std.proofs.lemmas.Grind.{common_steps}
use Rattle.std.proofs.lemmas.List.{take-append-drop}
use Rattle.std.specs.Map.{lookup}
use Rattle.asl_numbered.specs.Expansion.{shape_at}
use Rattle.indexmap.proofs.CallerLemmas.{insert_entry-new}
use Rattle.asl_shape_rules.proofs.Settlings.{same, nothing_more, again_kept, first_kept, otherwise_settled, unsettled}
use Rattle.asl_shape_rules.proofs.settling.settles_at.Goals.{in-Some+in-Some-copied+else-answer-wanted, in-Some+in-None+in_ok-insert-in-None, in_default}
use Rattle.asl_shape_rules.proofs.settling.settles_at.Goals as goal

pub returns-in-Some-copied : goal.returns-in-Some-copied
returns-in-Some-copied c =
    let l = c.loop-choice in
    let i = l.choice-index in
    let choices = c.args.choices.now in
    let choice = c.choice-item.result in
    let more : take (i + 1) choices ≡ take i choices ++ choice ∷ [] = grind (arith, common_steps) in
    let there : c.in_ok-question.field-0 ≡ Some (c.in-Some.question, c.in-Some.wanted) = search rules in
    let found : lookup (same c.in-Some.question) l.answers.entries ≡ Some c.in-Some-copied.answer = search rules in
    record {
      as_defined = otherwise_settled (shape_at c.args.shapes.now c.args.number) (take i choices) (take (i + 1) choices) choice l.answers.entries more l.invariant c.in_ok-question.field-0 c.in-Some.question c.in-Some.wanted c.in_ok-question.ensures there choices (drop (i + 1) choices) c.in-Some-copied.answer (sym (take-append-drop (i + 1) choices)) found (λ e. grind (arith, c.if-answer-wanted.true));
    }

pub loop-choice-preserved : goal.loop-choice-preserved
loop-choice-preserved c =
    let l = c.loop-choice in
    let i = l.choice-index in
    let choices = c.args.choices.now in
    let choice = c.choice-item.result in
    let s = shape_at c.args.shapes.now c.args.number in
    let told = c.in_ok-question.field-0 in
    let is = c.in_ok-question.ensures in
    let more : take (i + 1) choices ≡ take i choices ++ choice ∷ [] = grind (arith, common_steps) in
    elim c.match-branch-2.branch [
      | in-Some+in-Some-copied+else-answer-wanted w ↦
          let there : told ≡ Some (w.in-Some.question, w.in-Some.wanted) = search rules in
          let equal : w.in-Some-copied.answer ≡ w.in-Some.wanted = grind (arith, w.if-answer-wanted.false) in
          let found : lookup (same w.in-Some.question) l.answers.entries ≡ Some w.in-Some-copied.answer = search rules in
          rw w.answers-is (again_kept s (take i choices) (take (i + 1) choices) choice l.answers.entries more l.invariant told w.in-Some.question w.in-Some.wanted is there (found ∙ ap Some equal))
      | in-Some+in-None+in_ok-insert-in-None w ↦
          let there : told ≡ Some (w.in-Some.question, w.in-Some.wanted) = search rules in
          let none : lookup (same w.in-Some.question) l.answers.entries ≡ None = search rules in
          let new = w.in_ok-insert-in-None.ensures.entries ∙ insert_entry-new same l.answers w.in-Some.question w.in-Some.wanted none in
          rw w.answers-is (first_kept s (take i choices) (take (i + 1) choices) choice l.answers.entries more l.invariant told w.in-Some.question w.in-Some.wanted is there _ none new)
      | in_default w ↦
          let none : told ≡ None = search rules in
          rw w.answers-is (nothing_more s (take i choices) (take (i + 1) choices) choice l.answers.entries more l.invariant told is none)
    ]

pub returns : goal.returns
returns c = record {
  as_defined = unsettled (shape_at c.args.shapes.now c.args.number) c.args.choices.now c.loop-choice.choice-index c.loop-choice.answers.entries c.loop-choice-test.false c.loop-choice.invariant;
}
