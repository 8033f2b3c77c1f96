-- What one segment, and then the segments behind it, lead to in a shape.
use Rattle.std.proofs.Common.{◌≡◌, ℕ, zero, suc, ◌<◌, ◌≤◌, Bool, List, [], ◌∷◌, Option, Some, None, option_map, Bor, String, string_bytes, is_some, IfSome, length, get_or, refl, ap, sym, ◌∙◌, arith, BTreeMap}
use borrow.Author.Tests.{ltb-true, ltb-false}
use lib.Dec.{ltb}
use Rattle.std.specs.BTreeMap.{is_at}
use Rattle.std.specs.Map.{lookup}
use Rattle.std.specs.String.{string_cmp}
use Rattle.std.specs.declared.alloc.Global.{Global}
use Rattle.asl_model.specs.Path as path
use Rattle.asl_model.specs.Shape as model
use Rattle.asl_model.specs.ShapeFlow.{part_at, place_at, objects_alone, if_needed}
use Rattle.asl_shape.specs.declared.shape.Field.{Field}
use Rattle.asl_shape.specs.declared.shape.Shape.{Shape}
use Rattle.asl_shape.specs.View.{view, shapes_view, fields_view}
use Rattle.asl_shape.proofs.Lookups.{mention_of_lookup}

-- the place at an index that a list has
pub place_within : (ss : List Shape) (i : ℕ) (d : Shape) → i < length ss → Some (view (get_or ss i d)) ≡ place_at i (shapes_view ss)
place_within [] i d h = absurd (omega arith)
place_within (s ∷ ss) zero d h = refl
place_within (s ∷ ss) (suc i) d h = place_within ss i d (omega arith)

-- no place is at an index behind a list
pub place_past : (ss : List Shape) (i : ℕ) → length ss ≤ i → None ≡ place_at i (shapes_view ss)
place_past [] i h = refl
place_past (s ∷ ss) zero h = absurd (omega arith)
place_past (s ∷ ss) (suc i) h = place_past ss i (omega arith)

-- getting a shape of a list gets the one at that place
pub place_got : (ss : List Shape) (i : ℕ) (r : Option (Bor Shape)) → is_some r ≡ ltb i (length ss) → IfSome r (λ x. x.now ≡ get_or ss i x.now)
    → option_map (λ x. view x.now) r ≡ place_at i (shapes_view ss)
place_got ss i None e h = place_past ss i (ltb-false i (length ss) (sym e))
place_got ss i (Some x) e h = ap (λ t. Some (view t)) h ∙ place_within ss i x.now (ltb-true i (length ss) (sym e))

-- what a look-up in the fields of objects says of the part of that name
pub object_part : (s : model.Shape) (m : BTreeMap (String Global) Field) (extra : Bool) (k : String Global) (found : Option Field) → model.ObjectsOf (fields_view m.entries) extra ≡ objects_alone s
    → found ≡ lookup (is_at (string_cmp k)) m.entries
    → if_needed (option_map (λ (f : Field). (f.needed, view f.shape)) found) ≡ part_at (path.Name (string_bytes k)) s
object_part s m extra k found e l = rw (← e, mention_of_lookup k m.entries, ← l) refl
