-- How much a walk has passed.
use Rattle.std.proofs.Common.{◌≤◌, ◌+◌, ℕ, Bool, true, false, if◌then◌else◌, bytes_eq, codes, arith}
use Rattle.asl_model.specs.Edges.{Destination, ToInput, ToOutput, ToEnd, ToTask, Walked, Flows, Breaks}
use Rattle.asl_model.specs.Names.{FieldName}
use Rattle.asl_ways.specs.Exits.{none_passed, passed_on, passed_to, turned}
use Rattle.asl_ways.specs.declared.exits.Passed.{Passed}

-- no more than that was passed
pub record IsPassedWithin (bound : ℕ) (passed : Passed) : Type 0 where
  pub turns : passed.turns ≤ bound
  pub catchers : passed.catchers ≤ bound
  pub branches : passed.branches ≤ bound

pub none_within : (bound : ℕ) → IsPassedWithin bound none_passed
none_within bound = record { turns = omega arith; catchers = omega arith; branches = omega arith }

pub within_wider : (bound wider : ℕ) (passed : Passed) → bound ≤ wider → IsPassedWithin bound passed → IsPassedWithin wider passed
within_wider bound wider passed more h =
    let turns = h.turns in
    let catchers = h.catchers in
    let branches = h.branches in
    record { turns = omega (arith, more, turns); catchers = omega (arith, more, catchers); branches = omega (arith, more, branches) }

counted_within : (bound n : ℕ) (b : Bool) → n ≤ bound → (if b then n + 1 else n) ≤ bound + 1
counted_within bound n true h = omega (arith, h)
counted_within bound n false h = omega (arith, h)

turned_within : (bound : ℕ) (passed : Passed) (field : FieldName) → IsPassedWithin bound passed → IsPassedWithin (bound + 1) (turned passed field)
turned_within bound passed field h =
    let turns = h.turns in
    record {
      turns = omega (arith, turns);
      catchers = counted_within bound passed.catchers (bytes_eq field (codes "Catch")) h.catchers;
      branches = counted_within bound passed.branches (bytes_eq field (codes "Branches")) h.branches;
    }

pub on_within : (bound : ℕ) (passed : Passed) (step : Walked) → IsPassedWithin bound passed → IsPassedWithin (bound + 1) (passed_on passed step)
on_within bound passed (Flows edge) h = by edge.destination
  where
    by : (d : Destination) → IsPassedWithin (bound + 1) (passed_to passed edge.field d)
    by (ToInput n) = turned_within bound passed edge.field h
    by ToOutput = within_wider bound (bound + 1) passed (omega arith) h
    by ToEnd = within_wider bound (bound + 1) passed (omega arith) h
    by ToTask = within_wider bound (bound + 1) passed (omega arith) h
on_within bound passed (Breaks breach) h = turned_within bound passed breach.field h
