use Rattle.std.proofs.Common.{◌≡◌, replicate}
use Rattle.asl_drafts.proofs.entries.new_entry.Given as goal

abbrev pub invariant-loop : goal.invariant-loop
invariant-loop l = l.ends.items ≡ replicate l.counter l.never
