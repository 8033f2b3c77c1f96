-- What the numbers that references mean stand for: listed trees that spell the shapes of these numbers. No public
-- clause cites this module.
use Rattle.std.specs.Prelude.{◌≡◌, ℕ, List, [], length, map, slice_get, Bool, Option, Some, None, IfSome}
use Rattle.std.specs.Borrow.{Bor}
use Rattle.asl_model.specs.Records.{Reading}
use Rattle.asl_model.specs.Shape.{Shape}
use Rattle.asl_model.specs.ShapeSpelling.{shape_of, shape_faults}
use Rattle.asl_model.specs.Tree.{Tree}
use Rattle.asl_numbered.specs.Expansion.{shape_at, AreBelow}
use Rattle.asl_numbered.specs.References.{numbers_given}

-- each tree spells the shape of the number in its place, with lists of types where these may stand
pub record AreMeant (several : Bool) (table : List Shape) (numbers : List ℕ) (trees : List Tree) : Type 0 where
  pub shapes : map shape_of trees ≡ map (shape_at table) numbers
  pub right : (i : ℕ) (t : Tree) → slice_get trees i ≡ Some t → shape_faults several t ≡ []

-- so where numbers are given; where none are, no trees are listed
abbrev pub Mean : Bool → List Shape → Option (List ℕ) → Option (List Tree) → Type 0
Mean several table None None = Unit {0}
Mean several table None (Some trees) = ⊥
Mean several table (Some numbers) None = ⊥
Mean several table (Some numbers) (Some trees) = AreMeant several table numbers trees

-- shapes are read so where lists of types may stand or not, and references mean those numbers
pub record IsReading (several : Bool) (table : List Shape) (numbers : Option (List ℕ)) (reading : Reading) : Type 0 where
  pub same : reading.several ≡ several
  pub meant : Mean several table numbers reading.listed

-- the numbers that are given are in the table
pub record AreInTable (table : List Shape) (numbers : Option (Bor (List ℕ))) : Type 0 where
  pub below : IfSome numbers (λ ns. AreBelow (length table) ns.now)

-- that holds for each such way to read
pub record ForReading (several : Bool) (table : List Shape) (numbers : Option (Bor (List ℕ)))
    (P : Reading → Type 0) : Type 0 where
  pub each : (reading : Reading) → IsReading several table (numbers_given numbers) reading → P reading
