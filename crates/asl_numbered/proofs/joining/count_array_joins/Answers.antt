use Rattle.std.proofs.Common.{arith}
use Rattle.asl_numbered.proofs.Parts.{places_counted}
use Rattle.asl_numbered.proofs.joining.count_array_joins.Goals as goal

pub returns-in-Some-second : goal.returns-in-Some-second
returns-in-Some-second c = record { counted = λ table. rw (c.in-Some.is, c.in-Some-second.is) (omega (arith, c.min.ensures, places_counted table c.in-Some.arrays.first.now c.in-Some-second.others.first.now)) }
