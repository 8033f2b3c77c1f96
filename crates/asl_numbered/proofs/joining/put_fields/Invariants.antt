use Rattle.std.proofs.Common.{◌≡◌, ◌++◌, List}
use Rattle.std.specs.Iterator.Adapters.{rev_source}
use Rattle.asl_numbered.specs.declared.node.NodeField.{NodeField}
use Rattle.asl_numbered.specs.Joins.{field_joinings}
use Rattle.asl_numbered.proofs.joining.put_fields.Given as goal
use Rattle.asl_numbered.specs.Names.{Name}

abbrev pub invariant-loop-name : goal.invariant-loop-name
invariant-loop-name l =
    (done : List (Name × NodeField)) × (l.fields.entries ≡ rev_source l.name-iterator ++ done)
    × (l.tasks.items ≡ l.initial.tasks.items ++ field_joinings done l.others.entries)
