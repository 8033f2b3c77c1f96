use Rattle.std.proofs.lemmas.Result.{on_ok_weaker}
use Rattle.asl_state_edges.proofs.Adding.{adds_same, adds_then}
use Rattle.asl_state_edges.proofs.ItemWalks.{elements_within, outputs_kept}
use Rattle.asl_state_edges.proofs.Kept.{entry_within}
use Rattle.asl_state_edges.proofs.walking.Walk.walk_elements.Goals as goal

pub walk_outputs-requires-clause-entry : goal.walk_outputs-requires-clause-entry
walk_outputs-requires-clause-entry c = entry_within _ _ _ c.in_ok-walk_item.ensures.keeps c.requires.entry

pub walk_outputs-requires-clause-elements : goal.walk_outputs-requires-clause-elements
walk_outputs-requires-clause-elements c = elements_within _ _ _ c.in_ok-walk_item.ensures.keeps c.requires.elements

pub returns-clause-adds : goal.returns-clause-adds
returns-clause-adds c =
    let first = c.in_ok-walk_item.ensures in
    let same = outputs_kept c.args.shapes.now c.walk_item.new.shapes c.args.self.now c.args.elements.now first.keeps c.requires.entry c.requires.elements in
    on_ok_weaker _ (λ adds. adds_then _ _ _ _ _ _ _ c.walk_outputs.ensures.keeps first.adds (adds_same _ _ _ _ _ same adds)) c.walk_outputs.ensures.adds
