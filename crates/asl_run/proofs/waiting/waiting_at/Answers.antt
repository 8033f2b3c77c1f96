use Rattle.std.proofs.Common.{ap, sym, ◌∙◌, option_map, refl, inl, inr}
use Rattle.asl_machine_table.specs.Table.{scope_in}
use Rattle.asl_run.specs.Nodes.{in_table, range_of, shown_at, shown_from}
use Rattle.asl_run.specs.Standing.{children_of}
use Rattle.asl_run.proofs.Waits.{node_stands, nothing_stands, task_waits, none_without_place, none_where_ready, none_where_split, none_where_ended, unnamed_waits_nowhere}
use Rattle.asl_run.proofs.waiting.waiting_at.Goals as goal

pub node-requires : goal.node-requires
node-requires c = rw c.in_ok-number.was at c.number_at.ensures.within

pub returns-in_err-number-clause-none : goal.returns-in_err-number-clause-none
returns-in_err-number-clause-none c = λ h.
    let names = c.args.machine.now.names in
    rw c.from_residual.ensures (none_without_place c.args.place.now (shown_at names c.args.nodes.now 0) (nothing_stands names c.args.nodes.now c.number_at.ensures.table c.args.place.now c.number_at.result c.number_at.ensures.number c.in_err-number.was))

pub returns-in_err-name-in-Waiting-clause-none : goal.returns-in_err-name-in-Waiting-clause-none
returns-in_err-name-in-Waiting-clause-none c = λ h.
    let names = c.args.machine.now.names in
    let node = c.node.result.now in
    let nodes = c.args.nodes.now in
    rw c.from_residual-in_err-name-in-Waiting.ensures
    (unnamed_waits_nowhere (scope_in c.args.machine.now) names c.args.place.now (shown_at names nodes 0) (children_of (in_table (range_of node) (shown_from names 0 nodes))) node c.in-Waiting.visit c.in-Waiting.payload (ap (λ t. t.names) c.is_shown.ensures.shown.table) c.is_shown.ensures.shown.well_named h
    (node_stands names nodes c.number_at.ensures.table c.args.place.now c.number_at.result c.in_ok-number.number node c.number_at.ensures.number c.in_ok-number.was c.node.ensures.node) c.in-Waiting.is (sym c.name.ensures.name ∙ ap (option_map (λ n. n.now)) c.in_err-name-in-Waiting.was))

pub returns-in_ok-name-in-Waiting-clause-found : goal.returns-in_ok-name-in-Waiting-clause-found
returns-in_ok-name-in-Waiting-clause-found c =
    let names = c.args.machine.now.names in
    let node = c.node.result.now in
    let nodes = c.args.nodes.now in
    task_waits names c.args.place.now (shown_at names nodes 0) (children_of (in_table (range_of node) (shown_from names 0 nodes))) node c.in-Waiting.visit c.in-Waiting.payload _
    (node_stands names nodes c.number_at.ensures.table c.args.place.now c.number_at.result c.in_ok-number.number node c.number_at.ensures.number c.in_ok-number.was c.node.ensures.node) c.in-Waiting.is refl (sym c.name.ensures.name ∙ ap (option_map (λ n. n.now)) c.in_ok-name-in-Waiting.was) c.deref.ensures

pub returns-in-Ready-clause-none : goal.returns-in-Ready-clause-none
returns-in-Ready-clause-none c = λ h.
    let names = c.args.machine.now.names in
    let p = c.args.place.now in
    let node = c.node.result.now in
    let nodes = c.args.nodes.now in
    let a = shown_at names nodes 0 in
    let below = children_of (in_table (range_of node) (shown_from names 0 nodes)) in
    let stands = node_stands names nodes c.number_at.ensures.table p c.number_at.result c.in_ok-number.number node c.number_at.ensures.number c.in_ok-number.was c.node.ensures.node in
    elim (c.in-Ready.is) [
      | inl w ↦ none_where_ready names p a below node w.0 stands w.1
      | inr (inl w) ↦ none_where_split names p a below node w.0 w.1 stands w.2
      | inr (inr w) ↦ none_where_ended names p a below node w.0 stands w.1
    ]
