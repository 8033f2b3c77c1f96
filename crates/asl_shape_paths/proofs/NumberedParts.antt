-- What one segment, and then the segments behind it, lead to in a shape of a table, by number.
use Rattle.std.proofs.Common.{◌≡◌, ℕ, zero, suc, ◌<◌, ◌≤◌, List, [], ◌∷◌, Option, Some, None, option_map, is_some, Bor, IfSome, length, get_or, refl, ap, sym, ◌∙◌, arith}
use borrow.Author.Tests.{ltb-true, ltb-false}
use lib.Dec.{ltb}
use Rattle.std.specs.BTreeMap.{BTreeMap, get_by}
use Rattle.std.specs.Option.{option_copied}
use Rattle.asl_model.specs.Shape as model
use Rattle.asl_model.specs.ShapeFlow.{place_at}
use Rattle.asl_model.specs.ShapeOrder.{mention_of}
use Rattle.asl_shape_paths.specs.Putting.{mentioned}
use Rattle.asl_numbered.specs.declared.node.NodeField.{NodeField}
use Rattle.asl_numbered.specs.Expansion.{shape_at, shapes_at, fields_at, numbers_in, AreBelow}
use Rattle.asl_numbered.proofs.Comparisons.{mention_under, found-below}
use Rattle.asl_numbered.specs.Names.{Name, text_cmp}

-- ---- places

place_within : (table : List model.Shape) (ns : List ℕ) (i d : ℕ) → i < length ns → Some (shape_at table (get_or ns i d)) ≡ place_at i (shapes_at table ns)
place_within table [] i d h = absurd (omega arith)
place_within table (n ∷ ns) zero d h = refl
place_within table (n ∷ ns) (suc i) d h = place_within table ns i d (omega arith)

place_past : (table : List model.Shape) (ns : List ℕ) (i : ℕ) → length ns ≤ i → None ≡ place_at i (shapes_at table ns)
place_past table [] i h = refl
place_past table (n ∷ ns) zero h = absurd (omega arith)
place_past table (n ∷ ns) (suc i) h = place_past table ns i (omega arith)

-- getting a number of a list gets the one at that place
pub place_got : (table : List model.Shape) (ns : List ℕ) (i : ℕ) (r : Option (Bor ℕ)) → is_some r ≡ ltb i (length ns) → IfSome r (λ x. x.now ≡ get_or ns i x.now)
    → option_map (shape_at table) (option_copied r) ≡ place_at i (shapes_at table ns)
place_got table ns i None e h = place_past table ns i (ltb-false i (length ns) (sym e))
place_got table ns i (Some x) e h = ap (λ n. Some (shape_at table n)) h ∙ place_within table ns i x.now (ltb-true i (length ns) (sym e))

-- a number in a list is below its bound
pub below_at : (bound : ℕ) (ns : List ℕ) (i d : ℕ) → i < length ns → AreBelow bound ns → get_or ns i d < bound
below_at bound [] i d h below = absurd (omega arith)
below_at bound (n ∷ ns) zero d h below = below.0
below_at bound (n ∷ ns) (suc i) d h below = below_at bound ns i d (omega arith) below.1

pub place_below : (bound : ℕ) (ns : List ℕ) (i : ℕ) (r : Option (Bor ℕ)) → is_some r ≡ ltb i (length ns) → IfSome r (λ x. x.now ≡ get_or ns i x.now) → AreBelow bound ns
    → IfSome (option_copied r) (λ n. n < bound)
place_below bound ns i None e h below = tt
place_below bound ns i (Some x) e h below = rw h (below_at bound ns i x.now (ltb-true i (length ns) (sym e)) below)

-- ---- fields

-- the mention of a field, as the map of a node has it
pub mention_got : (table : List model.Shape) (n : List ℕ) (m : BTreeMap Name NodeField) (r : Option NodeField) → r ≡ get_by (text_cmp n) m → mention_of n (fields_at table m.entries) ≡ option_map (mentioned table) r
mention_got table n m r got = mention_under table n m.entries ∙ rw (← got) refl

-- a look-up by a text goes by its bytes alone
pub got_under : {r : Option NodeField} (m : BTreeMap Name NodeField) {text n : List ℕ} → text ≡ n → r ≡ get_by (text_cmp text) m → r ≡ get_by (text_cmp n) m
got_under m same got = got ∙ ap (λ n. get_by (text_cmp n) m) same

pub field_below : (bound : ℕ) (n : List ℕ) (m : BTreeMap Name NodeField) (r : Option NodeField) → r ≡ get_by (text_cmp n) m → AreBelow bound (numbers_in m.entries) → IfSome r (λ f. f.shape < bound)
field_below bound n m None got below = tt
field_below bound n m (Some f) got below = found-below bound _ m.entries f below (sym got)

-- ---- the whole path
