use Rattle.asl_numbered.specs.Expansion.{shape_at}
use Rattle.asl_numbered.proofs.Comparisons.{both_within, told_exactly}
use Rattle.asl_numbered.proofs.shapes.Shapes.sub.Goals as goal

pub compare-requires-clause-within : goal.compare-requires-clause-within
compare-requires-clause-within c =
    both_within c.self.inside.table c.args.inner c.args.outer c.len.result c.len-then-inner-len.result c.if-inner-len.true c.len.ensures c.if-outer-len.true c.len-then-inner-len.ensures

pub returns-in_ok-answer-clause-exactly : goal.returns-in_ok-answer-clause-exactly
returns-in_ok-answer-clause-exactly c =
    rw (← c.self.view_is) (told_exactly (shape_at c.self.inside.table c.args.inner) (shape_at c.self.inside.table c.args.outer) c.in_ok-answer.answer c.in_ok-answer.ensures.as_defined (c.are_proper.ensures.proper c.args.inner) c.sub_means_inside.ensures.inside c.sub_is_exactly_inside.ensures.complete)
