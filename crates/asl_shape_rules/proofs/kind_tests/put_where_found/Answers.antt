use Rattle.std.proofs.Common.{◌≡◌, Err, ap, ◌∙◌}
use Rattle.asl_numbered.specs.Expansion.{shape_at}
use Rattle.asl_shape_paths.specs.declared.putting.PutRefusal.TheVariants.{MayNotFit}
use Rattle.asl_shape_rules.proofs.TestedKinds.{fits_found}
use Rattle.asl_shape_rules.proofs.kind_tests.put_where_found.Goals as goal

pub unreachable-requires : goal.unreachable-requires
unreachable-requires c =
    let table = c.args.shapes.now in
    let at = c.in-Err-MayNotFit.field-0-0 in
    let is : c.put_at.result ≡ Err (MayNotFit at) = c.in-Err-MayNotFit.is ∙ ap Err c.in-Err-MayNotFit.field-0-is in
    fits_found c.args.path.now (shape_at table c.args.placed) (shape_at table c.args.number) at c.requires.found (c.put_at.ensures.may_not_fit at is)

pub returns-in-Ok-clause-within : goal.returns-in-Ok-clause-within
returns-in-Ok-clause-within c = c.in-Ok.ensures.number.within
