use Rattle.std.proofs.Common.{◌+◌, ◌≤◌, length}
use Rattle.std.specs.Vec.{vec_capacity}
use Rattle.asl_run.specs.Counting.{IsBegun}
use Rattle.asl_run.proofs.standing.note_children.Given as goal

abbrev pub invariant-loop-child : goal.invariant-loop-child
invariant-loop-child l = record {
  begun : IsBegun l.fn.number.0 l.added l._child l.fn.progress.items l.progress.items;
  room : length l.fn.progress.items + l.added ≤ vec_capacity l.progress;
}
