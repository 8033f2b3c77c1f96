use Rattle.asl_model.specs.WrittenNumbered.{shapes_listed}
use Rattle.asl_records.specs.Numbered.{numbered_view}
use Rattle.asl_records.proofs.Listings.{ListsStates}
use Rattle.asl_records.proofs.listing.Listing.of.Given as goal

abbrev pub invariant-loop-state : goal.invariant-loop-state
invariant-loop-state l = ListsStates l.certificate.shapes (shapes_listed (numbered_view l.certificate)) l.state-iterator l.listing
