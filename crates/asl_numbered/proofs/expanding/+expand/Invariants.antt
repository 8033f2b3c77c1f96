use Rattle.std.proofs.Common.{◌≡◌, ◌+◌, ◌*◌, List, ◌++◌, take, drop}
use Rattle.std.specs.Prelude.{IsTrue}
use Rattle.asl_shape.specs.Properness.{are_proper, fields_proper}
use Rattle.asl_shape.specs.View.{shapes_view, fields_view}
use Rattle.asl_numbered.specs.declared.node.NodeField.{NodeField}
use Rattle.asl_numbered.specs.Expansion.{shapes_at, fields_at, numbers_in, AreBelow}
use Rattle.asl_numbered.proofs.expanding.+expand.Given as goal
use Rattle.asl_numbered.specs.Names.{Name}

abbrev pub decreases-expand : goal.decreases-expand
decreases-expand l = 4 * l.number + 3

abbrev pub decreases-expand_kinds : goal.decreases-expand_kinds
decreases-expand_kinds l = 4 * l.number + 2

abbrev pub decreases-expand_arrays : goal.decreases-expand_arrays
decreases-expand_arrays l = 4 * l.number + 1

abbrev pub decreases-expand_objects : goal.decreases-expand_objects
decreases-expand_objects l = 4 * l.number + 1

abbrev pub decreases-expand_all : goal.decreases-expand_all
decreases-expand_all l = 4 * l.bound

abbrev pub decreases-expand_fields : goal.decreases-expand_fields
decreases-expand_fields l = 4 * l.bound

abbrev pub invariant-expand_all-loop-number : goal.invariant-expand_all-loop-number
invariant-expand_all-loop-number l =
    (shapes_view l.shapes.items ≡ shapes_at l.table (take l.number-index l.numbers))
    × AreBelow l.bound (drop l.number-index l.numbers) × IsTrue (are_proper l.shapes.items)

abbrev pub invariant-expand_fields-loop-name : goal.invariant-expand_fields-loop-name
invariant-expand_fields-loop-name l =
    (done : List (Name × NodeField)) × (l.fields.entries ≡ done ++ l.name-iterator)
    × (fields_view l.expanded.entries ≡ fields_at l.table done)
    × AreBelow l.bound (numbers_in l.name-iterator) × IsTrue (fields_proper l.expanded.entries)
