use Rattle.std.proofs.Common.{◌≡◌, ◌+◌, ◌-◌, length}
use Rattle.asl_ways.proofs.search.Search.make_room.Given as goal

abbrev pub invariant-loop-self : goal.invariant-loop-self
invariant-loop-self l = (l.self.visits ≡ l.initial.self.visits) × (l.self.most ≡ l.initial.self.most)

abbrev pub decreases-loop-self : goal.decreases-loop-self
decreases-loop-self l = (l.state + 1) - length l.self.shapes_at.items
