use Rattle.std.proofs.Common.{map, sym, ap, ◌∙◌}
use Rattle.asl_numbered.specs.Expansion.{shape_at}
use Rattle.asl_numbered.specs.TakenApart.{objects_over}
use Rattle.asl_drafts.specs.Parts.{objects_with}
use Rattle.asl_drafts.proofs.Rebuilt.{objects_replaced}
use Rattle.asl_drafts.proofs.rebuilding.objects_rebuilt.Goals as goal

pub returns-clause-shape : goal.returns-clause-shape
returns-clause-shape c =
    let numbers = c.args.numbers.now in
    λ table. objects_replaced table c.in-Some.objects c.in_ok-fields_with.field-0 numbers c.in_ok-fields_with.ensures
    ∙ ap (λ o. objects_with (objects_over table o) (map (shape_at table) numbers)) (sym c.in-Some.is)
