use Rattle.std.proofs.Common.{◌≡◌, ◌+◌, ◌∷◌, drop, get_or, arith}
use Rattle.std.proofs.lemmas.Grind.{common_steps}
use Rattle.asl_records.proofs.Listings.{next_listed, next_number}
use Rattle.asl_records.proofs.listing.Listing.list_all.Goals as goal

pub list-requires-clause-below : goal.list-requires-clause-below
list-requires-clause-below c =
    let i = c.loop-number.number-index in
    let numbers = c.args.numbers.now in
    let n = get_or numbers i 0 in
    let split : drop i numbers ≡ n ∷ drop (i + 1) numbers = grind (arith, common_steps) in
    next_number _ _ _ _ n _ split c.loop-number.invariant

pub loop-number-preserved : goal.loop-number-preserved
loop-number-preserved c =
    let i = c.loop-number.number-index in
    let numbers = c.args.numbers.now in
    let n = get_or numbers i 0 in
    let split : drop i numbers ≡ n ∷ drop (i + 1) numbers = grind (arith, common_steps) in
    next_listed _ _ _ _ n _ _ split c.loop-number.invariant c.in_ok-list.ensures.listing c.in_ok-list.ensures.listed
