use Rattle.std.proofs.Common.{codes, refl}
use Rattle.std.proofs.lemmas.Result.{on_ok_weaker}
use Rattle.asl_model.specs.Edges.{walk_items}
use Rattle.asl_numbered.specs.Laws.{kept_within}
use Rattle.asl_state_edges.specs.Items.{elements_steps}
use Rattle.asl_state_edges.proofs.Adding.{adds_same}
use Rattle.asl_state_edges.proofs.Flows.{found_missing, found_walked}
use Rattle.asl_state_edges.proofs.ItemWalks.{listed_kept}
use Rattle.asl_state_edges.proofs.Kept.{entry_within}
use Rattle.asl_state_edges.proofs.walking.Walk.walk_map.Goals as goal

pub walk_items-requires-clause-entry : goal.walk_items-requires-clause-entry
walk_items-requires-clause-entry c = entry_within _ _ _ c.in_ok-items.ensures.keeps c.requires.entry

pub walk_items-requires-clause-effective : goal.walk_items-requires-clause-effective
walk_items-requires-clause-effective c = kept_within _ _ _ c.in_ok-items.ensures.keeps c.requires.effective

pub returns-in-Ok-clause-adds : goal.returns-in-Ok-clause-adds
returns-in-Ok-clause-adds c =
    let a = c.args.shapes.now in
    let walk = c.args.self.now in
    let found = c.in_ok-items in
    let same = listed_kept a c.find_at.new.shapes walk c.args.children c.in-Ok.items found.ensures.keeps c.requires.entry c.requires.effective in
    let go_on = walk_items (elements_steps a walk c.args.children) in
    on_ok_weaker _ (λ adds. found_walked _ _ found.field-0 found.ensures.as_defined found.ensures.within _ _ _ go_on c.in-Ok.items c.in-Ok.is (adds_same _ _ _ _ _ same adds)) c.walk_items.ensures.adds

pub returns-in-Err-clause-adds : goal.returns-in-Err-clause-adds
returns-in-Err-clause-adds c =
    let found = c.in_ok-items in
    let go_on = walk_items (elements_steps c.args.shapes.now c.args.self.now c.args.children) in
    on_ok_weaker _ (found_missing _ _ found.field-0 found.ensures.as_defined found.ensures.within _ _ (codes "ItemsPath") go_on c.in-Err.path (λ d. refl) c.in-Err.is) c.push_missing.ensures
