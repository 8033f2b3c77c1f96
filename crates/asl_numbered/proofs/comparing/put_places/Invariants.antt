use Rattle.std.proofs.Common.{◌≡◌, ◌++◌, drop}
use Rattle.std.specs.Slice.Iter.{iter_rest}
use Rattle.asl_numbered.specs.Comparison.{place_tasks}
use Rattle.asl_numbered.proofs.comparing.put_places.Given as goal

abbrev pub invariant-loop-place : goal.invariant-loop-place
invariant-loop-place l =
    l.initial.tasks.items ++ place_tasks l.places l.bounds l.rest
    ≡ l.tasks.items ++ place_tasks (drop l.place-index l.places) (iter_rest l.left) l.rest
