use Rattle.std.proofs.Common.{ap, ◌∙◌}
use Rattle.std.proofs.lemmas.List.{drop_all}
use Rattle.asl_numbered.specs.Laws.{kept_shape, kept_within}
use Rattle.asl_state_edges.specs.Steps.{catchers_steps}
use Rattle.asl_state_edges.proofs.Adding.{adds_same}
use Rattle.asl_state_edges.proofs.Going.{goes_on_none, goes_on_then, goes_through}
use Rattle.asl_state_edges.proofs.KeptSteps.{catcher_kept, catcher_left}
use Rattle.asl_state_edges.proofs.walking.Walk.walk_catchers.Goals as goal

pub loop-catcher-init : goal.loop-catcher-init
loop-catcher-init c = (goes_on_none _ _ _ _ c.in_ok-error.ensures.keeps, c.in_ok-error.ensures.number.within, c.in_ok-error.ensures.number.same)

pub walk_catcher-requires-clause-input : goal.walk_catcher-requires-clause-input
walk_catcher-requires-clause-input c = kept_within _ _ _ c.loop-catcher.invariant.0.keeps c.requires.input

pub walk_catcher-requires-clause-error : goal.walk_catcher-requires-clause-error
walk_catcher-requires-clause-error c = c.loop-catcher.invariant.1

pub walk_catcher-requires-clause-error_output : goal.walk_catcher-requires-clause-error_output
walk_catcher-requires-clause-error_output c = c.loop-catcher.invariant.2

pub loop-catcher-preserved : goal.loop-catcher-preserved
loop-catcher-preserved c =
    let l = c.loop-catcher in
    let a = c.args.shapes.now in
    let walk = c.args.self.now in
    let left = catcher_left a walk c.args.catchers.now l.catcher-index c.catcher-item.result c.loop-catcher-test.true c.catcher-item.is in
    let same = catcher_kept a l.shapes walk l.invariant.0.keeps c.catcher-item.result c.requires.input in
    let keeps = c.in_ok-walk_catcher.ensures.keeps in (
      goes_on_then _ _ _ _ _ _ _ _ _ _ left l.invariant.0 keeps (adds_same _ _ _ _ _ same c.in_ok-walk_catcher.ensures.adds),
      kept_within _ _ _ keeps l.invariant.1,
      kept_shape l.shapes c.walk_catcher.new.shapes c.in_ok-error.error keeps l.invariant.1 ∙ l.invariant.2,
    )

pub returns-clause-adds : goal.returns-clause-adds
returns-clause-adds c =
    let l = c.loop-catcher in
    let none = ap (catchers_steps c.args.shapes.now c.args.self.now) (drop_all l.catcher-index c.args.catchers.now c.loop-catcher-test.false) in
    goes_through _ _ _ _ _ _ none l.invariant.0
