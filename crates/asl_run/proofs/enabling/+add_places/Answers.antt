use Rattle.std.proofs.Common.{ℕ, List, ◌≡◌, ◌++◌, ◌∷◌, [], ◌∙◌, ap, map, refl, rules, arith}
use Rattle.asl_run.specs.Enabling.{found_view}
use Rattle.asl_run.specs.Nodes.{range_of}
use Rattle.asl_run.proofs.Adding.{alone_added, split_added, one_added, taken_off, all_added, where_ok}
use Rattle.asl_run.proofs.enabling.+add_places.Goals as goal

pub add_places-returns-in-Split-clause-added : goal.add_places-returns-in-Split-clause-added
add_places-returns-in-Split-clause-added t c =
    let between = map found_view c.add_own_place.new.found.items in
    let after = map found_view c.add_places_below.new.found.items in
    where_ok c.add_places_below.result
    (λ below. split_added c.args.nodes.now c.node-node.ensures.table c.args.number.0 c.node-node.result.now c.in-Split.visit c.in-Split.children c.children.result.now c.args.place.now.items (map found_view c.args.found.now.items) between after c.node-node.ensures.node c.in-Split.is c.children.ensures c.in_ok-add_own_place.ensures below) c.add_places_below.ensures.added

pub add_places_below-loop-number-preserved : goal.add_places_below-loop-number-preserved
add_places_below-loop-number-preserved t c =
    let place = c.args.place.now.items in
    let number = c.loop-number.number in
    let pushed : c.push.new.self.items ≡ c.loop-number.place.items ++ number ∷ [] = search rules in
    let below : c.push.new.self.items ≡ place ++ number ∷ [] = pushed ∙ ap (λ (p : List ℕ). p ++ number ∷ []) c.loop-number.invariant.place in
    record {
      place = taken_off place c.add_places.new.place.items c.pop-number.new.self.items number _ (c.in_ok-add_places.ensures.place ∙ below) (omega (arith, c.add_places.new.place.ok.0)) c.pop-number.ensures.rest;
      added = one_added c.args.nodes.now c.requires.table c.args.children number _ place c.push.new.self.items (map found_view c.args.found.now.items) (map found_view c.loop-number.found.items) (map found_view c.add_places.new.found.items) c.requires.within c.loop-number-test.true refl below c.in_ok-add_places.ensures.added c.loop-number.invariant.added;
    }

pub add_places-add_places_below-requires : goal.add_places-add_places_below-requires
add_places-add_places_below-requires t c =
    let range = c.node-node.ensures.table.ranges c.args.number.0 c.node-node.result.now c.in-Split.children c.node-node.ensures.node (ap range_of c.in-Split.is) in
    let behind = range.behind in
    let within = range.within in
    let inside = c.requires in
    (omega arith, record { table = c.node-node.ensures.table; few = c.node-node.ensures.few; within = within })

pub add_places-returns-in-Ready-clause-added : goal.add_places-returns-in-Ready-clause-added
add_places-returns-in-Ready-clause-added t c = alone_added c.args.nodes.now c.node-node.ensures.table c.args.number.0 c.node-node.result.now c.children.result.now c.args.place.now.items _ _ c.node-node.ensures.node (search rules) c.children.ensures c.in_ok-add_own_place.ensures

pub add_places-returns-in-Ready-2-clause-added : goal.add_places-returns-in-Ready-2-clause-added
add_places-returns-in-Ready-2-clause-added t c = alone_added c.args.nodes.now c.node-node.ensures.table c.args.number.0 c.node-node.result.now c.children.result.now c.args.place.now.items _ _ c.node-node.ensures.node (search rules) c.children.ensures c.in_ok-add_own_place.ensures

pub add_places-returns-in-Ready-3-clause-added : goal.add_places-returns-in-Ready-3-clause-added
add_places-returns-in-Ready-3-clause-added t c = alone_added c.args.nodes.now c.node-node.ensures.table c.args.number.0 c.node-node.result.now c.children.result.now c.args.place.now.items _ _ c.node-node.ensures.node (search rules) c.children.ensures c.in_ok-add_own_place.ensures

pub add_places_below-add_places-requires : goal.add_places_below-add_places-requires
add_places_below-add_places-requires t c = let within = c.requires.within in let less = c.loop-number-test.true in omega arith

pub add_places_below-overflow_add-child : goal.add_places_below-overflow_add-child
add_places_below-overflow_add-child t c = omega (arith, c.requires.within, c.requires.few, c.loop-number-test.true)

pub add_places_below-returns-clause-added : goal.add_places_below-returns-clause-added
add_places_below-returns-clause-added t c = all_added c.args.nodes.now c.args.children c.loop-number.number c.args.place.now.items (map found_view c.args.found.now.items) (map found_view c.loop-number.found.items) c.loop-number-test.false c.loop-number.invariant.added
