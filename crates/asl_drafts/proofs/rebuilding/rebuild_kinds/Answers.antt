use Rattle.std.proofs.Common.{◌-◌, drop, length}
use Rattle.asl_numbered.specs.Laws.{below-drop, below-take}
use Rattle.asl_drafts.proofs.Rebuilt.{rebuilt_shown}
use Rattle.asl_drafts.proofs.rebuilding.rebuild_kinds.Goals as goal

pub returns-clause-shape : goal.returns-clause-shape
returns-clause-shape c =
    λ table. rebuilt_shown table c.args.kinds c.args.numbers.now c.fields_in-fields.result (record { arrays = c.in_ok-arrays_rebuilt.field-0; objects = c.in_ok-objects_rebuilt.field-0 }) c.fields_in-fields.ensures c.requires (c.in_ok-objects_rebuilt.ensures.shape table) (c.in_ok-arrays_rebuilt.ensures.shape table)

pub returns-clause-arrays : goal.returns-clause-arrays
returns-clause-arrays c =
    let numbers = c.args.numbers.now in
    let k = c.fields_in-fields.result in
    λ bound below. c.in_ok-arrays_rebuilt.ensures.below bound (below-take bound (length numbers - k) (drop k numbers) (below-drop bound k numbers below))

pub returns-clause-objects : goal.returns-clause-objects
returns-clause-objects c =
    λ bound below. c.in_ok-objects_rebuilt.ensures.below bound (below-take bound c.fields_in-fields.result c.args.numbers.now below)
