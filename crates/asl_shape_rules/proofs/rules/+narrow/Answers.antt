use Rattle.std.proofs.Common.{◌≡◌, Ok, ap, rules, ◌∙◌}
use Rattle.asl_choice.specs.View.{kind_view, view as test_view}
use Rattle.asl_choice.specs.declared.rule.Test.{the_lemmas}
use Rattle.asl_model.specs.Test.{IsOfKind}
use Rattle.asl_numbered.specs.Expansion.{shape_at}
use Rattle.asl_numbered.specs.Laws.{keeps_trans, kept_shape, kept_within}
use Rattle.asl_shape_paths.specs.Doubts.{found_view}
use Rattle.asl_shape_rules.proofs.DoubtfulRules.{kind_found}
use Rattle.asl_shape_rules.proofs.StillFound.{then_kept, still_found}
use Rattle.asl_shape_rules.proofs.NarrowedTests.{found_next}
use Rattle.asl_shape_rules.proofs.rules.+narrow.Goals as goal

pub check-returns-in-IsOfKind-clause-as_defined : goal.check-returns-in-IsOfKind-clause-as_defined
check-returns-in-IsOfKind-clause-as_defined t c =
    let test = c.in-IsOfKind in
    let s = shape_at c.args.shapes.now c.args.number in
    let is : test_view c.args.test.now ≡ IsOfKind test.variable (kind_view test.kind) test.wanted = search (rules, the_lemmas) in
    rw is (kind_found test.variable (kind_view test.kind) test.wanted s (Ok s) ∙ c.keep_if_found.ensures.as_defined)

pub check-returns-in-Ok-clause-as_defined : goal.check-returns-in-Ok-clause-as_defined
check-returns-in-Ok-clause-as_defined t c =
    let narrowed = c.in_ok-narrow-in-And in
    then_kept c.args.shapes.now c.narrow.new.shapes c.args.number narrowed.ensures.keeps c.requires.number _ narrowed.field-0 c.in-Ok.field-0 narrowed.ensures.as_defined c.in-Ok.is

pub check-returns-in-Ok-clause-within : goal.check-returns-in-Ok-clause-within
check-returns-in-Ok-clause-within t c =
    still_found c.args.shapes.now c.narrow.new.shapes c.args.number c.in_ok-narrow-in-And.ensures.keeps c.requires.number

pub check_all-loop-test-preserved : goal.check_all-loop-test-preserved
check_all-loop-test-preserved t c =
    let l = c.loop-test in
    let checked = c.in_ok-check.ensures in
    let found = checked.as_defined ∙ ap (found_view c.check.new.shapes) c.in-Ok.is in (
      keeps_trans _ _ _ l.invariant.0 checked.keeps,
      kept_within l.shapes c.check.new.shapes c.args.number checked.keeps l.invariant.1,
      kept_shape l.shapes c.check.new.shapes c.args.number checked.keeps l.invariant.1 ∙ l.invariant.2,
      found_next _ c.args.tests.now l.test-index c.test-item.result _ (shape_at l.shapes c.args.number) c.loop-test-test.true c.test-item.is l.invariant.3 l.invariant.2 _ found,
    )
