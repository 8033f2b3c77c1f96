use Rattle.std.proofs.Common.{◌≡◌, Err, sym, ap, ◌∙◌, rules}
use Rattle.asl_shape_paths.specs.declared.putting.PutRefusal.TheVariants.{MayNotFit}
use Rattle.asl_shape_paths.proofs.Puts.{put_through, refused_through}
use Rattle.asl_shape.specs.View.{view}
use Rattle.asl_numbered.specs.Laws.{kept_within}
use Rattle.asl_shape_paths.proofs.putting.put.Goals as goal

pub put_at-requires-clause-number : goal.put_at-requires-clause-number
put_at-requires-clause-number c = kept_within c.add.new.self c.add-2.new.self c.in_ok-number.number c.add-2.ensures.keeps (c.in_ok-number.ensures.number.within)

pub put_at-requires-clause-placed : goal.put_at-requires-clause-placed
put_at-requires-clause-placed c = c.in_ok-placed.ensures.number.within

pub returns-in_err-changed-clause-may_not_fit : goal.returns-in_err-changed-clause-may_not_fit
returns-in_err-changed-clause-may_not_fit c =
    let told : c.from_residual-in_err-changed.result ≡ Err c.in_err-changed.field-0.0 = search rules in
    λ at is.
    let same : c.in_err-changed.field-0.0 ≡ MayNotFit at = cc (sym told ∙ is) in
    refused_through c.add.new.self c.add-2.new.self c.args.path.now (view c.args.placed.now) (view c.args.shape.now) c.in_ok-number.number c.in_ok-placed.placed at c.in_ok-number.ensures.number c.add-2.ensures.keeps c.in_ok-placed.ensures.number (c.in_err-changed.ensures.may_not_fit at (ap Err same))

pub expand-requires : goal.expand-requires
expand-requires c = record { number = c.in_ok-changed.ensures.number.within }

pub returns-clause-as_defined : goal.returns-clause-as_defined
returns-clause-as_defined c =
    put_through c.add.new.self c.add-2.new.self c.put_at.new.shapes c.args.path.now (view c.args.placed.now) (view c.args.shape.now) (view c.in_ok-expand.field-0) c.in_ok-number.number c.in_ok-placed.placed c.in_ok-changed.changed c.in_ok-number.ensures.number c.add-2.ensures.keeps c.in_ok-placed.ensures.number c.in_ok-changed.ensures.as_defined c.in_ok-expand.ensures.shape

pub returns-clause-placed : goal.returns-clause-placed
returns-clause-placed c =
    c.put_means_placed.ensures.placed c.args.path.now (view c.args.placed.now) (view c.args.shape.now) (view c.in_ok-expand.field-0)
    (put_through c.add.new.self c.add-2.new.self c.put_at.new.shapes c.args.path.now (view c.args.placed.now) (view c.args.shape.now) (view c.in_ok-expand.field-0) c.in_ok-number.number c.in_ok-placed.placed c.in_ok-changed.changed c.in_ok-number.ensures.number c.add-2.ensures.keeps c.in_ok-placed.ensures.number c.in_ok-changed.ensures.as_defined c.in_ok-expand.ensures.shape)
