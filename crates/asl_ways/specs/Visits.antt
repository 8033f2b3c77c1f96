-- The visits of states on the ways from a machine's start.
use Rattle.std.specs.Prelude.{◌≡◌, ◌<◌, ◌≤◌, ℕ, List, [], Option, Some, None, IfSome, Contains, slice_get, take, nat_eq, true, ⊤}
use Rattle.std.specs.List.{All, filter}
use Rattle.asl_model.specs.Shape.{Shape, Inside, inhabited}
use Rattle.asl_numbered.specs.Expansion.{shape_at}
use Rattle.asl_ways.specs.Coming.{Coming, coming, leaves, starts}
use Rattle.asl_ways.specs.Given.{Given}
use Rattle.asl_ways.specs.declared.search.TheConstants.{MOST_COMPARED}
use Rattle.asl_ways.specs.declared.visiting.Visit.{Visit}

-- what leaves the state of a visit for others, where what comes to it has the visit's own shape
abbrev pub leaves_visit : List Shape → Given → Visit → List Coming
leaves_visit table given visit = leaves given visit.arrival.state (shape_at table visit.arrival.shape)

-- of a visit that may be there
abbrev pub leaves_where : List Shape → Given → Option Visit → List Coming
leaves_where table given None = []
leaves_where table given (Some visit) = leaves_visit table given visit

-- what comes next on a way: at its start the machine's input, behind a visit what leaves the state of that one
abbrev pub comes_next : List Shape → Given → List Visit → Option ℕ → List Coming
comes_next table given visits None = starts given
comes_next table given visits (Some before) = leaves_where table given (slice_get visits before)

-- the first visits of the state of that number, so many as are compared with what comes to it
abbrev pub first_of : ℕ → List Visit → List Visit
first_of state visits = take MOST_COMPARED (filter (λ visit. nat_eq visit.arrival.state state) visits)

-- what comes to a state is inside none of their shapes
abbrev pub IsNew : List Shape → List Visit → Coming → Type 0
IsNew table visits x = (earlier : Visit) → Contains (first_of x.state visits) earlier
    → ¬ Inside x.shape (shape_at table earlier.arrival.shape)

-- A visit is one more step of a way, on which some tree comes, and new where it stands: its shape is inside none of those
-- of the first visits of its state in front of it.
pub record IsVisit (table : List Shape) (given : Given) (visits : List Visit) (place : ℕ) (visit : Visit) : Type 0 where
  pub sooner : IfSome visit.before (λ before. before < place)
  pub comes : Contains (comes_next table given visits visit.before) (coming table visit.arrival)
  pub inhabited : inhabited (shape_at table visit.arrival.shape) ≡ true
  pub new : IsNew table (take place visits) (coming table visit.arrival)

-- one doesn't come before the other
abbrev pub IsNoLater : Option ℕ → Option ℕ → Type 0
IsNoLater None next = ⊤
IsNoLater (Some before) None = ⊥
IsNoLater (Some before) (Some next) = before ≤ next

-- Each is a visit, and the visits behind an earlier one come earlier: so no way is longer than one that is found later.
pub record AreVisits (table : List Shape) (given : Given) (visits : List Visit) : Type 0 where
  pub each : (place : ℕ) (visit : Visit) → slice_get visits place ≡ Some visit → IsVisit table given visits place visit
  pub in_order : (place later : ℕ) (visit next : Visit) → place < later → slice_get visits place ≡ Some visit
      → slice_get visits later ≡ Some next → IsNoLater visit.before next.before

-- a visit of the state takes in what comes to it
pub record IsTakenIn (table : List Shape) (visits : List Visit) (x : Coming) : Type 0 where
  pub visit : Visit
  pub stands : Contains visits visit
  pub state : visit.arrival.state ≡ x.state
  pub inside : Inside x.shape (shape_at table visit.arrival.shape)

-- so what comes next, if some tree does
abbrev pub AreTakenIn : List Shape → List Visit → List Coming → Type 0
AreTakenIn table visits all = (x : Coming) → Contains all x → inhabited x.shape ≡ true → IsTakenIn table visits x

-- No way is left out: what comes to the start is taken in, and so is what leaves the state of each visit.
pub record AreAll (table : List Shape) (given : Given) (visits : List Visit) : Type 0 where
  pub start : AreTakenIn table visits (starts given)
  pub onward : (visit : Visit) → Contains visits visit → AreTakenIn table visits (leaves_visit table given visit)

-- their shapes are those of numbers below that bound
abbrev pub AreVisitsBelow : ℕ → List Visit → Type 0
AreVisitsBelow bound visits = All (λ visit. visit.arrival.shape < bound) visits
