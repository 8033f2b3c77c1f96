use Rattle.std.proofs.Common.{◌≡◌, replicate, true}
use Rattle.asl_drafts.proofs.waiting.all_waiting.Given as goal

abbrev pub invariant-loop : goal.invariant-loop
invariant-loop l = l.waits.items ≡ replicate l.counter true
