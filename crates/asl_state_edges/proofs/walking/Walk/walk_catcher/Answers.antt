use Rattle.std.proofs.Common.{Err, ap}
use Rattle.std.proofs.lemmas.Result.{on_ok_weaker}
use Rattle.asl_numbered.specs.Expansion.{shape_at}
use Rattle.asl_states.specs.Machine.{target_name}
use Rattle.asl_state_edges.specs.Walks.{caught_step}
use Rattle.asl_state_edges.proofs.Adding.{adds_pushed, adds_told}
use Rattle.asl_state_edges.proofs.Choices.{input_caught, misfit_caught, placed_caught}
use Rattle.asl_state_edges.proofs.walking.Walk.walk_catcher.Goals as goal

pub returns-in-None-clause-adds : goal.returns-in-None-clause-adds
returns-in-None-clause-adds c =
    let walk = c.args.self.now in
    let catcher = c.args.catcher.now in
    let a = c.args.shapes.now in
    let same = input_caught a walk catcher c.in-None.is in
    on_ok_weaker _ (adds_pushed a _ _ walk.entry.input (caught_step (target_name catcher.next)) _ c.requires.input same) c.push_caught.ensures

pub returns-in-Ok-clause-adds : goal.returns-in-Ok-clause-adds
returns-in-Ok-clause-adds c =
    let walk = c.args.self.now in
    let catcher = c.args.catcher.now in
    let b = c.put_at.new.shapes in
    let same = placed_caught c.args.shapes.now walk catcher c.in-Some.path c.args.error (shape_at b c.in-Ok.placed) c.in-Some.is c.requires.error_output c.in-Ok.ensures.as_defined in
    on_ok_weaker _ (adds_pushed b _ _ c.in-Ok.placed (caught_step (target_name catcher.next)) _ c.in-Ok.ensures.number.within same) c.push_caught-in-Ok.ensures

pub returns-in-Err-MayNotFit-clause-adds : goal.returns-in-Err-MayNotFit-clause-adds
returns-in-Err-MayNotFit-clause-adds c =
    let refused = c.in-Err-MayNotFit in
    let same = misfit_caught c.args.shapes.now c.args.self.now c.args.catcher.now c.in-Some.path c.args.error refused.field-0-0 c.in-Some.is c.requires.error_output (refused.ensures.may_not_fit refused.field-0-0 (ap Err refused.field-0-is)) in
    on_ok_weaker _ (adds_told c.put_at.new.shapes _ _ _ _ same) c.push_broken.ensures
