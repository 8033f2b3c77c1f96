use Rattle.std.proofs.Common.{◌≡◌, ◌++◌}
use Rattle.asl_numbered.specs.Expansion.{numbers_in}
use Rattle.asl_drafts.proofs.rebuilding.push_each.Given as goal

abbrev pub invariant-loop-field : goal.invariant-loop-field
invariant-loop-field l = l.numbers.items ++ numbers_in l.field-iterator ≡ l.initial.numbers.items ++ numbers_in l.fields.entries
