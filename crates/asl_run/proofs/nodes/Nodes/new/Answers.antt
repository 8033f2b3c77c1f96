use Rattle.std.proofs.Common.{◌∙◌, ap}
use Rattle.asl_run.proofs.Begun.{begun_table, begun_with}
use Rattle.asl_run.proofs.nodes.Nodes.new.Goals as goal

pub invariant_of-result : goal.invariant_of-result
invariant_of-result c = begun_table _ c.push_reserved.new.self.items c.new-visit.result c.push_reserved.ensures.items c.in-Ok.ensures.items

pub returns-clause-node : goal.returns-clause-node
returns-clause-node c =
    let begins = c.new-visit.ensures.begins in
    begun_with c.args.state c.args.input _ c.push_reserved.new.self.items c.new-visit.result c.push_reserved.ensures.items c.in-Ok.ensures.items begins.state (ap (λ r. r.value) c.new-visit.ensures.given ∙ c.in-Ok-new.ensures.ok) begins.uncounted
