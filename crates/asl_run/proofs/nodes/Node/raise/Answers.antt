use Rattle.std.proofs.Common.{rules, sym, ap, refl, subst}
use Rattle.asl_run.proofs.Visits.{raised_there}
use Rattle.asl_run.specs.Changing.{visit_in}
use Rattle.asl_processing.specs.Troubles.{CanRise}
use Rattle.asl_processing.specs.declared.activities.Visit.{Visit}
use Rattle.asl_run.proofs.nodes.Node.raise.Goals as goal

pub raise-requires : goal.raise-requires
raise-requires c = subst (λ (v : Visit). CanRise v.counts.items c.args.retrier) (sym c.in-Ready.visit-is) (c.requires c.in-Ready.visit (ap visit_in c.in-Ready.is))

pub raise-requires-in-Waiting : goal.raise-requires-in-Waiting
raise-requires-in-Waiting c = subst (λ (v : Visit). CanRise v.counts.items c.args.retrier) (sym c.in-Waiting.visit-is) (c.requires c.in-Waiting.visit (ap visit_in c.in-Waiting.is))

pub raise-requires-in-Split : goal.raise-requires-in-Split
raise-requires-in-Split c = subst (λ (v : Visit). CanRise v.counts.items c.args.retrier) (sym c.in-Split.visit-is) (c.requires c.in-Split.visit (ap visit_in c.in-Split.is))

pub returns-in-Ready-clause-raised : goal.returns-in-Ready-clause-raised
returns-in-Ready-clause-raised c = raised_there c.raise.result c.args.retrier _ c.raise.new.self _ _ (search rules) refl c.raise.ensures.raised

pub returns-in-Waiting-clause-raised : goal.returns-in-Waiting-clause-raised
returns-in-Waiting-clause-raised c = raised_there c.raise-in-Waiting.result c.args.retrier _ c.raise-in-Waiting.new.self _ _ (search rules) refl c.raise-in-Waiting.ensures.raised

pub returns-in-Split-clause-raised : goal.returns-in-Split-clause-raised
returns-in-Split-clause-raised c = raised_there c.raise-in-Split.result c.args.retrier _ c.raise-in-Split.new.self _ _ (search rules) refl c.raise-in-Split.ensures.raised
