use Rattle.std.proofs.Common.{option_map, ap, sym, ◌∙◌}
use Rattle.std.proofs.lemmas.Result.{on_ok_weaker}
use Rattle.asl_flow.specs.Elements.{elements_view}
use Rattle.asl_state_edges.proofs.Adding.{adds_same, adds_told}
use Rattle.asl_state_edges.proofs.ItemWalks.{listed_elements, listed_none}
use Rattle.asl_state_edges.proofs.walking.Walk.walk_items.Goals as goal

pub returns-in-Some-clause-adds : goal.returns-in-Some-clause-adds
returns-in-Some-clause-adds c =
    let table = c.args.shapes.now in
    let some = sym (ap (option_map (elements_view table)) c.in-Some.is) ∙ c.in_ok-elements.ensures.as_defined in
    let same = listed_elements table c.args.self.now c.args.children c.args.items (elements_view table c.in-Some.elements) some in
    on_ok_weaker _ (adds_same _ _ _ _ _ same) c.walk_elements.ensures.adds

pub returns-in-None-clause-adds : goal.returns-in-None-clause-adds
returns-in-None-clause-adds c =
    let table = c.args.shapes.now in
    let none = sym (ap (option_map (elements_view table)) c.in-None.is) ∙ c.in_ok-elements.ensures.as_defined in
    let same = listed_none table c.args.self.now c.args.children c.args.items none in
    on_ok_weaker _ (adds_told _ _ _ _ _ same) c.push_broken.ensures
