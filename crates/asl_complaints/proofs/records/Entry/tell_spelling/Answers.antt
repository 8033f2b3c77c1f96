use Rattle.std.proofs.Common.{◌≡◌, map, true, ap, ◌∙◌, rules}
use Rattle.asl_shape.specs.Refusal.{fault_named}
use Rattle.asl_model.specs.ShapeSpelling as model
use Rattle.asl_tree.specs.View.{view}
use Rattle.asl_records.specs.View.{complaint_view}
use Rattle.asl_complaints.proofs.Parts.{faults_begun, faults_on, faults_told}
use Rattle.asl_complaints.proofs.records.Entry.tell_spelling.Goals as goal

pub loop-fault-init : goal.loop-fault-init
loop-fault-init c =
    let faults = c.into_iter-fault-iterator.result.rest.items in
    let same : faults ≡ c.in_ok-faults.faults.items = search rules in
    faults_begun (model.shape_faults true (view c.args.tree.now)) c.args.self.now.name.now c.args.field.now faults (map complaint_view c.args.told.now.items) (ap (map fault_named) same ∙ c.in_ok-faults.ensures)

pub loop-fault-preserved : goal.loop-fault-preserved
loop-fault-preserved c =
    let l = c.loop-fault in
    faults_on (model.shape_faults true (view c.args.tree.now)) c.args.self.now.name.now c.args.field.now l.fault-iterator.rest.items c.next.new.self.rest.items c.in-Some.fault (map complaint_view c.args.told.now.items) l.told.items c.tell.new.told.items l.invariant c.in-Some.ensures.steps.0 c.in_ok-tell.ensures

pub returns : goal.returns
returns c =
    let l = c.loop-fault in
    faults_told (model.shape_faults true (view c.args.tree.now)) c.args.self.now.name.now c.args.field.now l.fault-iterator.rest.items (map complaint_view c.args.told.now.items) (map complaint_view l.told.items) l.invariant (search rules)
