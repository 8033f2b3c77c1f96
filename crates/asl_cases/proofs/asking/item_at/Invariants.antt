use Rattle.std.proofs.Common.{◌≡◌}
use Rattle.std.specs.Iterator.Adapters.{rev_source}
use Rattle.std.specs.Slice.Iter.{iter_rest}
use Rattle.asl_machine_table.specs.Table.{table_view}
use Rattle.asl_cases.specs.Asking.{item_at}
use Rattle.asl_cases.proofs.asking.item_at.Given as goal

-- what is further out decides
abbrev pub invariant-loop-child : goal.invariant-loop-child
invariant-loop-child l =
    item_at (table_view l.machine) l.fn.state l.place ≡ item_at (table_view l.machine) l.inner (iter_rest (rev_source l.child-iterator))
