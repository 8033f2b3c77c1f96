use Rattle.std.proofs.Common.{inl, inr, List, ap, sym, ◌∙◌, slice_get}
use Rattle.asl_model.specs.Run.{outcome_of}
use Rattle.asl_run.specs.Nodes.{shown_at}
use Rattle.asl_run.specs.Running.{Running}
use Rattle.asl_run.specs.declared.nodes.Node.{Node}
use Rattle.asl_run.proofs.Outcomes.{has_ended_so, goes_on_ready, goes_on_waiting, goes_on_split}
use Rattle.asl_run.proofs.running.Run.outcome.Goals as goal

pub returns-in-Ended : goal.returns-in-Ended
returns-in-Ended c =
    let names = c.args.self.now.machine.names in
    let nodes = c.nodes-nodes.result.now in
    let there = ap (slice_get nodes) (sym c.root.ensures.first) ∙ c.node.ensures.node in
    has_ended_so names nodes c.node.ensures.table 0 c.node.result.now c.in-Ended.outcome there c.in-Ended.is ∙ ap (λ (l : List Node). outcome_of (shown_at names l 0)) c.nodes-nodes.ensures ∙ ap (λ (run : Running). outcome_of (shown_at names run.nodes 0)) c.self.view_is

pub returns-in-Ready : goal.returns-in-Ready
returns-in-Ready c =
    let names = c.args.self.now.machine.names in
    let nodes = c.nodes-nodes.result.now in
    let node = c.node.result.now in
    let there = ap (slice_get nodes) (sym c.root.ensures.first) ∙ c.node.ensures.node in
    let same = ap (λ (l : List Node). outcome_of (shown_at names l 0)) c.nodes-nodes.ensures ∙ ap (λ (run : Running). outcome_of (shown_at names run.nodes 0)) c.self.view_is in
    elim (c.in-Ready.is) [
      | inl w ↦ goes_on_ready names nodes c.node.ensures.table 0 node w.0 there w.1 ∙ same
      | inr (inl w) ↦ goes_on_waiting names nodes c.node.ensures.table 0 node w.0 w.1 there w.2 ∙ same
      | inr (inr w) ↦ goes_on_split names nodes c.node.ensures.table 0 node w.0 w.1 there w.2 ∙ same
    ]
