use Rattle.std.proofs.Common.{◌∙◌, sym}
use Rattle.asl_numbered.proofs.Seeking.{forbidden_last, mentioned_first}
use Rattle.asl_numbered.proofs.finding.find_fields.Goals as goal
use Rattle.asl_numbered.specs.Laws.{below-wider}

pub find_mentioned-requires-clause-outer : goal.find_mentioned-requires-clause-outer
find_mentioned-requires-clause-outer c = below-wider _ _ _ c.requires.outer.within c.requires.outer.fields

pub find_unmentioned-unmentioned-requires-clause-outer : goal.find_unmentioned-unmentioned-requires-clause-outer
find_unmentioned-unmentioned-requires-clause-outer c = below-wider _ _ _ c.requires.outer.within c.requires.outer.fields

pub returns-then-is_some-clause-found : goal.returns-then-is_some-clause-found
returns-then-is_some-clause-found c = mentioned_first c.args.table.now c.args.bound c.args.inner c.args.outer c.in_ok-mentioned.mentioned c.in_ok-mentioned.ensures.found (sym c.is_some.ensures ∙ c.if-is_some.true)

pub returns-clause-found : goal.returns-clause-found
returns-clause-found c = forbidden_last c.args.table.now c.args.bound c.args.inner c.args.outer c.in_ok-mentioned.mentioned c.find_unmentioned-unmentioned.result c.find_forbidden.result c.in_ok-mentioned.ensures.found (sym c.is_some.ensures ∙ c.if-is_some.false) c.find_unmentioned-unmentioned.ensures (sym c.is_some-2.ensures ∙ c.if-is_some-2.false) c.if-outer.false (c.find_forbidden.ensures c.args.bound)
