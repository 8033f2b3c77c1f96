use Rattle.std.proofs.Common.{◌≡◌, ◌+◌, ◌-◌, ◌*◌, length, map}
use Rattle.asl_run.specs.Enabling.{found_view}
use Rattle.asl_run.proofs.Adding.{AreAdded}
use Rattle.asl_run.proofs.enabling.+add_places.Given as goal

abbrev pub decreases-add_places : goal.decreases-add_places
decreases-add_places l = 2 * (length l.nodes.now - l.number.0)

abbrev pub decreases-add_places_below : goal.decreases-add_places_below
decreases-add_places_below l = 2 * (length l.nodes.now - l.children.first.0) + 1

abbrev pub invariant-add_places_below-loop-number : goal.invariant-add_places_below-loop-number
invariant-add_places_below-loop-number l =
    record {
      place : l.place.items ≡ l.initial.place.items;
      added : AreAdded l.nodes l.children l.initial.place.items (map found_view l.initial.found.items) l.number (map found_view l.found.items);
    }
