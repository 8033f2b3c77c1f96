use Rattle.std.proofs.Common.{◌≡◌, ◌++◌, drop}
use Rattle.asl_tree.specs.Written.{tree_tokens}
use Rattle.asl_trace.specs.Shown.{place_tree}
use Rattle.asl_trace.proofs.Places.{number_tokens}
use Rattle.asl_trace.proofs.shown.put_place.Given as goal

-- what is written and what is to come are the whole
abbrev pub invariant-loop-number : goal.invariant-loop-number
invariant-loop-number l = record {
  behind : l.writer.before ≡ l.fn.writer.before;
  to_come : l.writer.tokens ++ number_tokens (drop l.number-index l.at) ≡ l.fn.writer.tokens ++ tree_tokens (place_tree l.at);
}
