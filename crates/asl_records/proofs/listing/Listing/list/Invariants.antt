use Rattle.asl_model.specs.WrittenNumbered.{list_after}
use Rattle.asl_numbered.specs.Expansion.{shape_at}
use Rattle.asl_records.specs.Listing.{listed_shapes}
use Rattle.asl_records.proofs.Walks.{steps_of, work}
use Rattle.asl_records.proofs.Listings.{IsGoing}
use Rattle.asl_records.proofs.listing.Listing.list.Given as goal

abbrev pub invariant-loop-task : goal.invariant-loop-task
invariant-loop-task l =
    IsGoing l.shapes (list_after (listed_shapes l.shapes l.initial.self) (shape_at l.shapes l.number)) l.tasks.items l.self

abbrev pub decreases-loop-task : goal.decreases-loop-task
decreases-loop-task l = work (steps_of l.shapes l.tasks.items)
