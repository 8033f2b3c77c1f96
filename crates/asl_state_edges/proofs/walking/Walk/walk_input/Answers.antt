use Rattle.std.proofs.lemmas.Result.{on_ok_weaker}
use Rattle.asl_numbered.specs.Expansion.{shape_at}
use Rattle.asl_state_edges.specs.Entry.{entry_view}
use Rattle.asl_state_edges.specs.Steps.{settings_of, kind_of}
use Rattle.asl_model.specs.Edges.{walk_work}
use Rattle.asl_state_edges.proofs.Adding.{adds_same}
use Rattle.asl_state_edges.proofs.Flows.{flow_doubted, flow_walked}
use Rattle.asl_state_edges.proofs.Kept.{entry_within}
use Rattle.asl_state_edges.proofs.KeptSteps.{work_kept}
use Rattle.asl_state_edges.proofs.walking.Walk.walk_input.Goals as goal

pub walk_work-requires-clause-entry : goal.walk_work-requires-clause-entry
walk_work-requires-clause-entry c = entry_within _ _ _ c.in_ok-effective.ensures.keeps c.requires.entry

pub returns-in-Ok-clause-adds : goal.returns-in-Ok-clause-adds
returns-in-Ok-clause-adds c =
    let walk = c.args.self.now in
    let a = c.args.shapes.now in
    let b = c.effective_at.new.shapes in
    let flow = c.in_ok-effective in
    let go_on = walk_work (settings_of walk) (kind_of walk) (entry_view a walk.entry) in
    let same = work_kept a b walk flow.ensures.keeps (shape_at b c.in-Ok.effective) c.requires.entry in
    on_ok_weaker _ (λ adds. flow_walked _ _ flow.field-0 flow.ensures.as_defined flow.ensures.within _ _ _ go_on _ c.in-Ok.is (adds_same _ _ _ _ _ same adds)) c.walk_work.ensures.adds

pub returns-in-Err-clause-adds : goal.returns-in-Err-clause-adds
returns-in-Err-clause-adds c =
    let walk = c.args.self.now in
    let flow = c.in_ok-effective in
    let go_on = walk_work (settings_of walk) (kind_of walk) (entry_view c.args.shapes.now walk.entry) in
    on_ok_weaker _ (flow_doubted _ _ flow.field-0 flow.ensures.as_defined flow.ensures.within _ _ go_on c.in-Err.doubts c.in-Err.is) (rw c.deref.ensures.value at c.push_doubts.ensures)
