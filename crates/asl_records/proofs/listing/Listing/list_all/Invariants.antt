use Rattle.std.proofs.Common.{map, drop}
use Rattle.asl_model.specs.WrittenNumbered.{list_after_all}
use Rattle.asl_numbered.specs.Expansion.{shape_at}
use Rattle.asl_records.specs.Listing.{listed_shapes}
use Rattle.asl_records.proofs.Listings.{ListsAll}
use Rattle.asl_records.proofs.listing.Listing.list_all.Given as goal

abbrev pub invariant-loop-number : goal.invariant-loop-number
invariant-loop-number l =
    ListsAll l.shapes (list_after_all (listed_shapes l.shapes l.initial.self) (map (shape_at l.shapes) l.numbers)) (drop l.number-index l.numbers) l.self
