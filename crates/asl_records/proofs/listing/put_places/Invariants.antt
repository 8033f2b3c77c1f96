use Rattle.std.proofs.Common.{◌≡◌, ◌++◌, ℕ, List}
use Rattle.std.specs.Iterator.Adapters.{rev_source}
use Rattle.std.specs.Slice.Iter.{iter_rest}
use Rattle.asl_records.specs.Listing.{visits}
use Rattle.asl_records.proofs.listing.put_places.Given as goal

abbrev pub invariant-loop-place : goal.invariant-loop-place
invariant-loop-place l =
    (done : List ℕ) × (l.places ≡ iter_rest (rev_source l.place-iterator) ++ done)
    × (l.tasks.items ≡ l.initial.tasks.items ++ visits done)
