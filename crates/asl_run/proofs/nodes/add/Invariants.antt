use Rattle.std.proofs.Common.{◌≡◌, ◌++◌, ◌+◌, ◌≤◌, length, map}
use Rattle.std.specs.Vec.{vec_capacity, vec_len}
use Rattle.std.specs.Vec.Iter.{into_iter_items, into_iter_len}
use Rattle.asl_run.specs.declared.nodes.Node.TheVariants as variants
use Rattle.asl_run.proofs.nodes.add.Given as goal

-- the nodes so far and those of the executions left are all of them, and there is room for those
abbrev pub invariant-loop-visit : goal.invariant-loop-visit
invariant-loop-visit l = record {
  whole : l.nodes.items ++ map variants.Ready (into_iter_items l.visit-iterator) ≡ l.initial.nodes.items ++ map variants.Ready (into_iter_items l.initial.visit-iterator);
  left : into_iter_len l.visit-iterator ≡ length (into_iter_items l.visit-iterator);
  room : vec_len l.nodes + length (into_iter_items l.visit-iterator) ≤ vec_capacity l.nodes;
}
