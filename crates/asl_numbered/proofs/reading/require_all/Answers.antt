use Rattle.std.proofs.Common.{◌≡◌, ◌∷◌, ◌+◌, ap, drop, sym, ◌∙◌, arith}
use Rattle.std.proofs.lemmas.Grind.{common_steps}
use Rattle.asl_shape.specs.LevelView.{texts}
use Rattle.asl_numbered.proofs.Marking.{marks_start, marks_step}
use Rattle.asl_numbered.proofs.reading.require_all.Goals as goal
use Rattle.asl_numbered.specs.Laws.{keeps_same, keeps_trans}

pub loop-name-init : goal.loop-name-init
loop-name-init c = (
  keeps_same c.args.table.now,
  marks_start c.args.extra (texts c.args.names.now) c.args.table.now c.args.fields.now.entries c.requires,
)

pub require-requires : goal.require-requires
require-requires c = c.loop-name.invariant.1.within

pub loop-name-preserved : goal.loop-name-preserved
loop-name-preserved c =
    let i = c.loop-name.name-index in
    let names = c.args.names.now in
    let item = c.name-item.result in
    let split : drop i names ≡ item ∷ drop (i + 1) names = grind (arith, common_steps) in (
      keeps_trans _ _ _ c.loop-name.invariant.0 c.in_ok-require.ensures.keeps,
      marks_step c.args.extra _ _ (texts (drop i names)) (texts (drop (i + 1) names)) c.deref.result.now _ _ _ _ c.loop-name.invariant.1 (ap texts split ∙ ap (λ n. n ∷ texts (drop (i + 1) names)) (sym c.deref.ensures)) c.in_ok-require.ensures.needed,
    )
