-- The way that ends in a visit.
use Rattle.std.specs.Prelude.{◌≡◌, ℕ, List, [], ◌∷◌, ◌++◌, Option, Some, None, slice_get, if◌then◌else◌, nat_lt}
use Rattle.asl_ways.specs.declared.visiting.Visit.{Visit}

-- that number, if it is that of a visit in front
abbrev pub in_front_of : ℕ → Option ℕ → Option ℕ
in_front_of place None = None
in_front_of place (Some before) = if nat_lt before place then Some before else None

-- the number of the visit before a visit that may be there
abbrev pub before_visit : ℕ → Option Visit → Option ℕ
before_visit place None = None
before_visit place (Some visit) = in_front_of place visit.before

-- that of the visit before that of a number, which stands in front of it
abbrev pub before_at : List Visit → ℕ → Option ℕ
before_at visits place = before_visit place (slice_get visits place)

-- The way that ends in a visit: it alone, where none is before it, else the way that ends in the one before, and then it.
pub data IsWay (visits : List Visit) : List ℕ → ℕ → Type 0 where
  begins : (place : ℕ) → before_at visits place ≡ None → IsWay visits (place ∷ []) place
  goes_on : (way : List ℕ) (before place : ℕ) → IsWay visits way before → before_at visits place ≡ Some before
      → IsWay visits (way ++ place ∷ []) place
