use Rattle.std.proofs.Common.{length}
use Rattle.asl_numbered.specs.Expansion.{shape_at}
use Rattle.asl_numbered.proofs.Comparisons.{both_within}
use Rattle.asl_numbered.proofs.Stepping.{told_outside, told_inside}
use Rattle.asl_numbered.proofs.shapes.Shapes.outside.Goals as goal

pub outside-requires-clause-sought : goal.outside-requires-clause-sought
outside-requires-clause-sought c =
    let both = both_within c.self.inside.table c.args.inner c.args.outer c.len.result c.len-then-inner-len.result c.if-inner-len.true c.len.ensures c.if-outer-len.true c.len-then-inner-len.ensures in
    record { first = both.first; second = both.second }

pub returns-then-outer-len-clause-outside : goal.returns-then-outer-len-clause-outside
returns-then-outer-len-clause-outside c =
    rw (← c.self.view_is) (told_outside (shape_at c.self.inside.table c.args.inner) (shape_at c.self.inside.table c.args.outer) c.outside.result (c.are_proper.ensures.proper c.args.inner) c.sub_is_exactly_inside.ensures.outside c.outside.ensures.as_defined)

pub returns-then-outer-len-clause-none : goal.returns-then-outer-len-clause-none
returns-then-outer-len-clause-none c =
    rw (← c.self.view_is) (told_inside (shape_at c.self.inside.table c.args.inner) (shape_at c.self.inside.table c.args.outer) c.args.inner c.args.outer (length c.self.inside.table) (length c.self.inside.table) c.outside.result c.sub_is_exactly_inside.ensures.exactly c.sub_means_inside.ensures.inside c.outside.ensures.as_defined)
