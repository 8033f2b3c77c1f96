-- What is added to the visits of a search.
use Rattle.std.specs.Prelude.{◌≡◌, ◌<◌, ◌≤◌, ◌++◌, ℕ, List, length, Option, Some, Contains, slice_get, take, true}
use Rattle.asl_model.specs.Shape.{Shape, inhabited}
use Rattle.asl_numbered.specs.Expansion.{shape_at}
use Rattle.asl_ways.specs.Coming.{Coming, coming}
use Rattle.asl_ways.specs.Visits.{AreTakenIn, IsNew}
use Rattle.asl_ways.specs.declared.search.Search.{Search}
use Rattle.asl_ways.specs.declared.visiting.Visit.{Visit}

-- a visit of what comes, behind that one
pub record IsOf (table : List Shape) (all : List Coming) (before : Option ℕ) (visit : Visit) : Type 0 where
  pub behind : visit.before ≡ before
  pub comes : Contains all (coming table visit.arrival)
  pub inhabited : inhabited (shape_at table visit.arrival.shape) ≡ true
  pub below : visit.arrival.shape < length table

-- Visits of what comes are added, behind that one, and each is new where it stands. All of them take in what comes, with
-- those that were there, unless there are as many as there may be.
pub record Visits (table : List Shape) (a b : Search) (all : List Coming) (before : Option ℕ) : Type 0 where
  pub added : List Visit
  pub whole : b.visits.items ≡ a.visits.items ++ added
  pub most : b.most ≡ a.most
  pub each : (visit : Visit) → Contains added visit → IsOf table all before visit
  pub new : (place : ℕ) (visit : Visit) → length a.visits.items ≤ place → slice_get b.visits.items place ≡ Some visit
      → IsNew table (take place b.visits.items) (coming table visit.arrival)
  pub taken_in : length b.visits.items < b.most → AreTakenIn table b.visits.items all
