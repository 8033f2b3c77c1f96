use Rattle.asl_numbered.proofs.Comparisons.{right_kept, both_within}
use Rattle.asl_numbered.proofs.shapes.Shapes.join.Goals as goal

pub join-requires-clause-within : goal.join-requires-clause-within
join-requires-clause-within c =
    both_within c.self.inside.table c.args.first c.args.second c.len.result c.len-then-first-len.result c.if-first-len.true c.len.ensures c.if-second-len.true c.len-then-first-len.ensures

pub invariant_of-self : goal.invariant_of-self
invariant_of-self c = (
  right_kept _ _ c.self.inside.compared.entries c.in_err-number.ensures.keeps c.self.invariant.0,
  c.in_err-number.ensures.right,
)

pub invariant_of-self-then-second-len : goal.invariant_of-self-then-second-len
invariant_of-self-then-second-len c = (
  right_kept _ _ c.self.inside.compared.entries c.in_ok-number.ensures.keeps c.self.invariant.0,
  c.in_ok-number.ensures.right,
)
