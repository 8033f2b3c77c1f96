use Rattle.std.proofs.Common.{sym}
use Rattle.std.proofs.lemmas.Result.{on_ok_weaker}
use Rattle.asl_numbered.specs.Expansion.{shape_at}
use Rattle.asl_state_edges.specs.Entry.{entry_view}
use Rattle.asl_state_edges.specs.Steps.{settings_of, kind_of}
use Rattle.asl_state_edges.proofs.Adding.{adds_none, adds_same}
use Rattle.asl_state_edges.proofs.KindSteps.{all_steps, no_steps}
use Rattle.asl_state_edges.proofs.walking.Walk.walk.Goals as goal

pub returns-then-is_inhabited-clause-adds : goal.returns-then-is_inhabited-clause-adds
returns-then-is_inhabited-clause-adds c =
    let walk = c.args.self.now in
    let table = c.args.shapes.now in
    on_ok_weaker _ (adds_same _ _ _ _ _ (all_steps (settings_of walk) (kind_of walk) (entry_view table walk.entry) (shape_at table c.args.gives) (sym c.if-is_inhabited.ensures))) c.walk_parts.ensures.adds

pub returns-else-is_inhabited-clause-adds : goal.returns-else-is_inhabited-clause-adds
returns-else-is_inhabited-clause-adds c =
    let walk = c.args.self.now in
    let table = c.args.shapes.now in
    adds_none _ _ _ (no_steps (settings_of walk) (kind_of walk) (entry_view table walk.entry) (shape_at table c.args.gives) (sym c.if-is_inhabited.ensures))
