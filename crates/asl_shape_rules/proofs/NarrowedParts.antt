-- What narrowing by a path does to a shape of a table under the path's first segment.
use Rattle.std.proofs.Common.{◌≡◌, ◌<◌, ℕ, List, Bool, true, false, Option, Some, None, Bor, String, Global, BTreeMap, IfSome, is_some, option_map, string_bytes, get_or, length, refl, sym, ap, ◌∙◌, subst}
use lib.Dec.{ltb}
use Rattle.std.specs.BTreeMap.{get_by}
use Rattle.std.specs.Option.{option_copied}
use Rattle.asl_model.specs.Path.{Name, Index}
use Rattle.asl_model.specs.Shape.{Shape, Any, OfKinds, Simple, Arrays, ArraysOf, Objects, ObjectsOf, Never, Shapes, FieldShapes, ArrayShape}
use Rattle.asl_model.specs.ShapeFlow.{narrow_under, place_at}
use Rattle.asl_model.specs.ShapeOrder.{mention_of}
use Rattle.asl_shape_paths.specs.Changing.{with_field, with_place}
use Rattle.asl_shape_paths.specs.Putting.{mentioned}
use Rattle.asl_shape_paths.proofs.NumberedParts.{place_got, place_below, mention_got, field_below}
use Rattle.asl_numbered.specs.declared.node.NodeField.{NodeField}
use Rattle.asl_numbered.specs.Expansion.{shape_at, shapes_at, fields_at, numbers_in, AreBelow, Keeps, Shows}
use Rattle.asl_numbered.specs.Laws.{kept_shape}
use Rattle.asl_numbered.specs.Names.{Name as SharedName, text_cmp}

-- ---- a place that was looked up

module _ (ns : List ℕ) (i : ℕ) (r : Option (Bor ℕ)) (place : Option ℕ) (there : is_some r ≡ ltb i (length ns)) (value : IfSome r (λ x. x.now ≡ get_or ns i x.now)) (is : place ≡ option_copied r) where
  pub place_found : (table : List Shape) (o : Option ℕ) → place ≡ o → option_map (shape_at table) o ≡ place_at i (shapes_at table ns)
  place_found table o found = ap (option_map (shape_at table)) (sym found ∙ is) ∙ place_got table ns i r there value

  pub place_within : (bound p : ℕ) → place ≡ Some p → AreBelow bound ns → p < bound
  place_within bound p found below = subst (λ o. IfSome o (λ n. n < bound)) (sym is ∙ found) (place_below bound ns i r there value below)

-- ---- a field that was looked up

module _ (k : String Global) (m : BTreeMap SharedName NodeField) (r : Option (Bor NodeField)) (field : Option NodeField) (value : option_copied r ≡ get_by (text_cmp (string_bytes k)) m) (is : field ≡ option_copied r) where
  pub mention_found : (table : List Shape) (o : Option NodeField) → field ≡ o → mention_of (string_bytes k) (fields_at table m.entries) ≡ option_map (mentioned table) o
  mention_found table o found = mention_got table (string_bytes k) m field (is ∙ value) ∙ ap (option_map (mentioned table)) found

  pub field_within : (bound : ℕ) (f : NodeField) → field ≡ Some f → AreBelow bound (numbers_in m.entries) → f.shape < bound
  field_within bound f found below = subst (λ o. IfSome o (λ g. g.shape < bound)) found (field_below bound (string_bytes k) m field (is ∙ value) below)

-- ---- the shape of what is narrowed

module _ (go_on : Shape → Shape) (old now : List Shape) (number n : ℕ) (within : number < length old) (keeps : Keeps old now) (simple : Simple) where
  -- lists, once the place at an index is narrowed
  pub narrowed_list : (i p : ℕ) (first : Shapes) (rest : Shape) (objects : Objects) → OfKinds simple (ArraysOf first rest) objects ≡ shape_at old number → Some (shape_at old p) ≡ place_at i first → Shows now (go_on (shape_at old p)) n
      → with_place i (shape_at now n) (shape_at now number) ≡ narrow_under go_on (Index i) (shape_at old number)
  narrowed_list i p first rest objects list found shown =
      rw (kept_shape old now number keeps within, shown.same, ← list, ← found) refl

  -- objects, once the field that they mention is narrowed
  pub narrowed_object : (name : List ℕ) (p : ℕ) (needed : Bool) (arrays : Arrays) (shapes : FieldShapes) (extra : Bool) → OfKinds simple arrays (ObjectsOf shapes extra) ≡ shape_at old number → mention_of name shapes ≡ Some (needed, shape_at old p) → Shows now (go_on (shape_at old p)) n
      → with_field name (shape_at now n) (shape_at now number) ≡ narrow_under go_on (Name name) (shape_at old number)
  narrowed_object name p needed arrays shapes extra object found shown =
      rw (kept_shape old now number keeps within, shown.same, ← object, found) refl

  -- objects that may have the field, once that is mentioned
  pub widened_object : (name : List ℕ) (arrays : Arrays) (shapes : FieldShapes) (extra : Bool) → OfKinds simple arrays (ObjectsOf shapes extra) ≡ shape_at old number → extra ≡ true → mention_of name shapes ≡ None → Shows now Any n
      → with_field name (shape_at now n) (shape_at now number) ≡ narrow_under go_on (Name name) (shape_at old number)
  widened_object name arrays shapes extra object more none shown =
      rw (kept_shape old now number keeps within, shown.same, ← object, none, more) refl

-- lists without the place stay as they are
pub same_list : (go_on : Shape → Shape) (i : ℕ) (simple : Simple) (first : Shapes) (rest : Shape) (objects : Objects) (s : Shape) → OfKinds simple (ArraysOf first rest) objects ≡ s → None ≡ place_at i first → ArrayShape first rest ≡ narrow_under go_on (Index i) s
same_list go_on i simple first rest objects s list none = rw (← list, ← none) refl

-- objects that can't have the field
pub closed_object : (go_on : Shape → Shape) (name : List ℕ) (simple : Simple) (arrays : Arrays) (shapes : FieldShapes) (extra : Bool) (s : Shape) → OfKinds simple arrays (ObjectsOf shapes extra) ≡ s → extra ≡ false → mention_of name shapes ≡ None → Never ≡ narrow_under go_on (Name name) s
closed_object go_on name simple arrays shapes extra s object closed none = rw (← object, none, closed) refl
