-- How the shapes of a certificate are listed by their numbers.
use Rattle.std.specs.Prelude.{◌≡◌, ◌<◌, ℕ, List, [], ◌∷◌, ◌++◌, length, map, get_or, set, Bool, if◌then◌else◌, Option, Some, None, IfSome}
use Rattle.std.specs.List.{AllByRecursion}
use Rattle.asl_model.specs.Shape.{Shape, IsProperShape}
use Rattle.asl_model.specs.WrittenNumbered.{place_of, is_listed, list_after_all}
use Rattle.asl_numbered.specs.Expansion.{shape_at, numbers_in, AreBelow}
use Rattle.asl_numbered.specs.TakenApart.{taken_apart, AreKindsAt}
use Rattle.asl_numbered.specs.declared.kinds.NodeArrays.{NodeArrays}
use Rattle.asl_numbered.specs.declared.kinds.NodeKinds.{NodeKinds}
use Rattle.asl_numbered.specs.declared.kinds.NodeObjects.{NodeObjects}
use Rattle.asl_records.specs.declared.listing.Listing.{Listing}
use Rattle.asl_records.specs.declared.listing.Task.{Task}
use Rattle.asl_records.specs.declared.listing.Task.TheVariants.{Visit, List as Put}

-- ---- what is listed

-- the shapes that are listed, in order
abbrev pub listed_shapes : List Shape → Listing → List Shape
listed_shapes table listing = map (shape_at table) listing.order.items

-- each number of the table has the place of its shape among those that are listed
pub record IsPlaced (table : List Shape) (listing : Listing) : Type 0 where
  pub below : AreBelow (length table) listing.order.items
  pub counted : length listing.places.items ≡ length table
  pub places : (n : ℕ) → n < length table
      → get_or listing.places.items n None ≡ place_of (shape_at table n) (listed_shapes table listing)

-- the listing is what a walk through some proper shapes leaves
pub record IsListing (table : List Shape) (listing : Listing) : Type 0 where
  pub placed : IsPlaced table listing
  pub seen : List Shape
  pub proper : AllByRecursion IsProperShape seen
  pub listed : listed_shapes table listing ≡ list_after_all [] seen

-- ---- what is left to do

-- the walks through the shapes of those numbers, the first of them last
abbrev pub visits : List ℕ → List Task
visits [] = []
visits (n ∷ ns) = visits ns ++ Visit n ∷ []

-- those through the shapes of elements, so that the first one's is done first
abbrev pub array_visits : Option NodeArrays → List Task
array_visits None = []
array_visits (Some arrays) = Visit arrays.rest ∷ visits arrays.first.now

-- those through the shapes of fields
abbrev pub object_visits : Option NodeObjects → List Task
object_visits None = []
object_visits (Some objects) = visits (numbers_in objects.fields.now.entries)

-- a task, if it is wanted
abbrev pub task_if : Bool → Task → List Task
task_if wanted task = if wanted then task ∷ [] else []

-- a shape is to be listed, where it is, behind its parts, those of objects behind those of arrays
abbrev pub tasks_at : List Shape → ℕ → Option NodeKinds → List Task
tasks_at table n None = []
tasks_at table n (Some kinds) =
    task_if (is_listed (shape_at table n)) (Put n) ++ (object_visits kinds.objects ++ array_visits kinds.arrays)

-- the tasks for a number's shape were put down
pub record IsOpened (table : List Shape) (n : ℕ) (old new : List Task) : Type 0 where
  pub kinds : Option NodeKinds
  pub shown : taken_apart table kinds ≡ shape_at table n
  pub below : IfSome kinds (AreKindsAt table n)
  pub put : new ≡ old ++ tasks_at table n kinds

-- so where it has no place
abbrev pub Opens : Option ℕ → List Shape → ℕ → List Task → List Task → Type 0
Opens (Some place) table n old new = new ≡ old
Opens None table n old new = IsOpened table n old new

-- A number that has no place gets the next one.
abbrev pub Puts : Option ℕ → ℕ → Listing → Listing → Type 0
Puts (Some place) n old new = new ≡ old
Puts None n old new =
    (new.order.items ≡ old.order.items ++ n ∷ [])
    × (new.places.items ≡ set old.places.items n (Some (length old.order.items)))
