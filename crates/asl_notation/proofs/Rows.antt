-- Texts in a row.
use Rattle.std.proofs.Common.{◌≡◌, ℕ, List, [], ◌∷◌, ◌++◌, ◌<◌, zero, suc, length, drop, Bool, Option, None, String, Global, map, refl, ap, arith}
use Rattle.std.specs.List.{flat_map, join_by}
use Rattle.asl_model.specs.Shape.{Shape}
use Rattle.asl_numbered.specs.declared.node.NodeField.{NodeField}
use Rattle.asl_numbered.specs.Expansion.{fields_at, shapes_at}
use Rattle.asl_notation.specs.Notation.{untold, places_noted, elements_noted, members_noted}
use Rattle.asl_numbered.specs.Names.{Name}

each_seen : {X : Type 0} (f : X → List ℕ) (separator : List ℕ) (xs : List X) → flat_map (λ x. separator ++ f x) xs ≡ flat_map (λ part. separator ++ part) (map f xs)
each_seen f separator [] = refl
each_seen f separator (x ∷ xs) = ap (λ more. (separator ++ f x) ++ more) (each_seen f separator xs)

-- texts that are joined, as they are seen
pub joined_seen : {X : Type 0} (f : X → List ℕ) (separator : List ℕ) (xs : List X) → join_by f separator xs ≡ join_by (λ part. part) separator (map f xs)
joined_seen f separator [] = refl
joined_seen f separator (x ∷ xs) = ap (λ more. f x ++ more) (each_seen f separator xs)

-- ---- what isn't told

-- the places behind the last one that is told
pub places_cut : (told : Shape → List ℕ) (left : ℕ) (table : List Shape) (ns : List ℕ) (i : ℕ) → i < length ns → left ≡ 0 → places_noted told left (shapes_at table (drop i ns)) ≡ untold ∷ []
places_cut told left table [] i within none = absurd (omega (arith, within))
places_cut told left table (n ∷ ns) zero within none = rw none refl
places_cut told left table (n ∷ ns) (suc i) within none = places_cut told left table ns i (omega (arith, within)) none

-- elements below the depth
pub elements_cut : (below : Option (Shape → List ℕ)) (width : ℕ) (table : List Shape) (ns : List ℕ) (rest : Shape) → below ≡ None → 0 < length ns → elements_noted below width (shapes_at table ns) rest ≡ untold ∷ []
elements_cut below width table [] rest none some = absurd (omega (arith, some))
elements_cut below width table (n ∷ ns) rest none some = rw none refl

-- fields below the depth
pub members_cut : (below : Option (Shape → List ℕ)) (width : ℕ) (table : List Shape) (fs : List (Name × NodeField)) (extra : Bool) → below ≡ None → 0 < length fs → members_noted below width (fields_at table fs) extra ≡ untold ∷ []
members_cut below width table [] extra none some = absurd (omega (arith, some))
members_cut below width table (f ∷ fs) extra none some = rw none refl
