use Rattle.std.proofs.Common.{◌≡◌, Some, None, option_map, refl, sym, ap, ◌∙◌}
use Rattle.asl_draft_laws.specs.Drafts as model
use Rattle.asl_state_edges.specs.View.{destination_view, edge_view}
use Rattle.asl_machine_table.specs.Table.{table_view}
use Rattle.asl_drafts.specs.Drafted.{target_view}
use Rattle.asl_drafts.specs.declared.walker.Walker.{Walker}
use Rattle.asl_drafts.proofs.Leading.{edge-rests, none-rests}
use Rattle.asl_drafts.proofs.Underway.{nothing-taken, others-told, steps-told}
use Rattle.asl_drafts.proofs.walker.Walker.take_edge.Goals as goal

pub returns-in_ok-add-in-Some-clause-others : goal.returns-in_ok-add-in-Some-clause-others
returns-in_ok-add-in-Some-clause-others c =
    let before = c.args.self.now in
    let one : Walker = record { draft = before.draft; waiting = before.waiting; predecessors = c.add.new.self } in
    others-told c.take.result before one c.take.new.self c.in-Some.target c.args.origin refl refl c.in_ok-add-in-Some.ensures.elsewhere c.take.ensures.calm

pub returns-in_ok-add-in-Some-clause-walked : goal.returns-in_ok-add-in-Some-clause-walked
returns-in_ok-add-in-Some-clause-walked c =
    let before = c.args.self.now in
    let table = table_view c.args.machine.now in
    let n = c.args.origin.state in
    let shapes = before.draft.store in
    let edge = c.args.edge.now in
    let one : Walker = record { draft = before.draft; waiting = before.waiting; predecessors = c.add.new.self } in
    let leads : Some (target_view c.in-Some.target) ≡ model.target_of table n (destination_view edge.destination) = ap (option_map target_view) (sym c.in-Some.is) ∙ c.target_of.ensures in
    steps-told c.take.result before one c.take.new.self c.in-Some.target c.args.origin refl refl c.in_ok-add-in-Some.ensures.elsewhere table edge.flowing (edge_view shapes edge) c.take.ensures.keeps c.take.ensures.predecessors c.take.ensures.waits c.requires c.in_ok-add-in-Some.ensures.here
    (edge-rests table n shapes edge (target_view c.in-Some.target) leads) c.take.ensures.takes c.take.ensures.woken

pub returns-in-None-clause-walked : goal.returns-in-None-clause-walked
returns-in-None-clause-walked c =
    let before = c.args.self.now in
    let table = table_view c.args.machine.now in
    let n = c.args.origin.state in
    let shapes = before.draft.store in
    let edge = c.args.edge.now in
    let leads : None ≡ model.target_of table n (destination_view edge.destination) = ap (option_map target_view) (sym c.in-None.is) ∙ c.target_of.ensures in
    nothing-taken table c.args.origin (edge_view shapes edge) before (none-rests table n shapes edge leads)
