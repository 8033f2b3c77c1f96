use Rattle.std.proofs.Common.{◌<◌, ◌≤◌, length}
use Rattle.asl_warnings.proofs.truths.+settled.Given as goal

abbrev pub invariant-settled_of_and-loop-test : goal.invariant-settled_of_and-loop-test
invariant-settled_of_and-loop-test l = record {
  grown : length l.initial.shapes ≤ length l.shapes;
  within : l.narrowed < length l.shapes;
}

abbrev pub invariant-settled_of_or-loop-test : goal.invariant-settled_of_or-loop-test
invariant-settled_of_or-loop-test l = record {
  grown : length l.initial.shapes ≤ length l.shapes;
  within : l.number < length l.shapes;
}
