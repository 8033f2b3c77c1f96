use Rattle.std.proofs.Common.{length, subst, arith}
use Rattle.asl_numbered.specs.Expansion.{numbers_in, AreBelow}
use Rattle.asl_numbered.specs.Outside.{numbers_of}
use Rattle.asl_numbered.proofs.Stepping.{below_len}
use Rattle.asl_numbered.proofs.outside.build_step.Goals as goal
use Rattle.asl_numbered.specs.Laws.{below-behind, below-front}

pub push_examples-requires-clause-within : goal.push_examples-requires-clause-within
push_examples-requires-clause-within c = omega (arith, c.len.ensures)

pub push_examples-requires-clause-below : goal.push_examples-requires-clause-below
push_examples-requires-clause-below c =
    below_len c.args.table.now c.len.result c.in-Examples.places.now c.len.ensures (subst (λ s. AreBelow (length c.args.table.now) (numbers_of s)) c.in-Examples.is c.requires)

pub build_between-requires-clause-before : goal.build_between-requires-clause-before
build_between-requires-clause-before c =
    below-front (length c.args.table.now) c.in-Between.before.now c.in-Between.behind.now (subst (λ s. AreBelow (length c.args.table.now) (numbers_of s)) c.in-Between.is c.requires)

pub build_between-requires-clause-behind : goal.build_between-requires-clause-behind
build_between-requires-clause-behind c =
    below-behind (length c.args.table.now) c.in-Between.before.now c.in-Between.behind.now (subst (λ s. AreBelow (length c.args.table.now) (numbers_of s)) c.in-Between.is c.requires)

pub build_needed-requires-clause-within : goal.build_needed-requires-clause-within
build_needed-requires-clause-within c = omega (arith, c.len-in-Needed.ensures)

pub build_needed-requires-clause-below : goal.build_needed-requires-clause-below
build_needed-requires-clause-below c =
    below_len c.args.table.now c.len-in-Needed.result (numbers_in c.in-Needed.fields.now.entries) c.len-in-Needed.ensures (subst (λ s. AreBelow (length c.args.table.now) (numbers_of s)) c.in-Needed.is c.requires)
