use Rattle.std.proofs.Common.{◌≡◌, ◌++◌, List}
use Rattle.std.specs.Iterator.Adapters.{rev_source}
use Rattle.asl_numbered.specs.declared.node.NodeField.{NodeField}
use Rattle.asl_numbered.specs.Expansion.{numbers_in}
use Rattle.asl_records.specs.Listing.{visits}
use Rattle.asl_records.proofs.listing.put_fields.Given as goal
use Rattle.asl_numbered.specs.Names.{Name}

abbrev pub invariant-loop-field : goal.invariant-loop-field
invariant-loop-field l =
    (done : List (Name × NodeField)) × (l.fields.entries ≡ rev_source l.field-iterator ++ done)
    × (l.tasks.items ≡ l.initial.tasks.items ++ visits (numbers_in done))
