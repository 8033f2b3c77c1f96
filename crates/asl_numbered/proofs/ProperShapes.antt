-- The shapes of a table are proper.
use Rattle.std.proofs.Common.{◌≡◌, ℕ, zero, suc, List, [], ◌∷◌, ◌++◌, map, Some, slice_get, refl}
use Rattle.std.specs.List.Sorted.{IsStrictlySortedBy}
use Rattle.std.specs.Map.{keys_of}
use Rattle.std.proofs.lemmas.Str.{IsUtf8-string_bytes}
use Rattle.asl_model.specs.Shape as model
use Rattle.asl_shape.specs.View.{merged, with_kinds, first_arrays, first_objects}
use Rattle.asl_numbered.specs.declared.node.Node.{Node}
use Rattle.asl_numbered.specs.declared.node.Node.TheVariants.{Any, Never, Null, Bool as Truth, Int, Text, List as Elements, Object, Several}
use Rattle.asl_numbered.specs.declared.node.NodeField.{NodeField}
use Rattle.asl_numbered.specs.declared.table.Facts.{Facts}
use Rattle.asl_numbered.specs.Expansion.{shape_at, shapes_at, fields_at, shape_over, expansions_after}
use Rattle.asl_numbered.specs.Table.{AreFieldsInOrder, HasFieldsInOrder, IsTable, shapes_in}
use Rattle.asl_numbered.specs.Names.{Name}

-- the shapes of all numbers are proper
abbrev AreProper : List model.Shape → Type 0
AreProper table = (n : ℕ) → model.IsProperShape (shape_at table n)

proper_places : (table : List model.Shape) (ns : List ℕ) → AreProper table → model.AreProperShapes (shapes_at table ns)
proper_places table [] h = tt
proper_places table (n ∷ ns) h = (h n, proper_places table ns h)

proper_fields : (table : List model.Shape) (fs : List (Name × NodeField)) → AreProper table → AreFieldsInOrder fs → model.AreProperFields (fields_at table fs)
unfolding IsStrictlySortedBy
proper_fields table [] h order = tt
proper_fields table (f ∷ []) h order = (IsUtf8-string_bytes f.0.text.value, refl, h f.1.shape, tt)
proper_fields table (f ∷ (g ∷ fs)) h order = (IsUtf8-string_bytes f.0.text.value, (rw order.0.0 refl), h f.1.shape, proper_fields table (g ∷ fs) h order.1)

proper_with : (s t : model.Shape) → model.IsProperShape s → model.IsProperShape t → model.IsProperShape (with_kinds s t)
proper_with model.Any t h i = tt
proper_with (model.OfKinds simple arrays objects) model.Any h i = tt
proper_with (model.OfKinds simple arrays objects) (model.OfKinds others more further) h i = (first arrays h.0, second objects h.1)
  where
    first : (arrays : model.Arrays) → model.AreProperArrays arrays → model.AreProperArrays (first_arrays arrays more)
    first model.WithoutArrays own = i.0
    first (model.ArraysOf places rest) own = own

    second : (objects : model.Objects) → model.AreProperObjects objects → model.AreProperObjects (first_objects objects further)
    second model.WithoutObjects own = i.1
    second (model.ObjectsOf shapes extra) own = own

proper_merged : (table : List model.Shape) (ns : List ℕ) → AreProper table → model.IsProperShape (merged (map (shape_at table) ns))
proper_merged table [] h = (tt, tt)
proper_merged table (n ∷ ns) h = proper_with (shape_at table n) (merged (map (shape_at table) ns)) (h n) (proper_merged table ns h)

proper_over : (table : List model.Shape) (node : Node) → AreProper table → HasFieldsInOrder node → model.IsProperShape (shape_over table node)
proper_over table Any h order = tt
proper_over table Never h order = (tt, tt)
proper_over table Null h order = (tt, tt)
proper_over table Truth h order = (tt, tt)
proper_over table Int h order = (tt, tt)
proper_over table Text h order = (tt, tt)
proper_over table (Elements first rest) h order = ((proper_places table first.items h, h rest), tt)
proper_over table (Object fields extra) h order = (tt, proper_fields table fields.entries h order)
proper_over table (Several numbers) h order = proper_merged table numbers.items h

proper_last : (table : List model.Shape) (s : model.Shape) → AreProper table → model.IsProperShape s → AreProper (table ++ s ∷ [])
proper_last [] s h own zero = own
proper_last [] s h own (suc n) = (tt, tt)
proper_last (t ∷ table) s h own zero = h 0
proper_last (t ∷ table) s h own (suc n) = proper_last table s (λ m. h (suc m)) own n

proper_after : (table : List model.Shape) (es : List (Node × Facts)) → ((n : ℕ) (e : Node × Facts) → slice_get es n ≡ Some e → HasFieldsInOrder e.0) → AreProper table → AreProper (expansions_after table (keys_of es))
proper_after table [] order h = h
proper_after table (e ∷ es) order h =
    let own = proper_over table e.0 h (order 0 e refl) in
    proper_after (table ++ shape_over table e.0 ∷ []) es (λ n f at. order (suc n) f at) (proper_last table (shape_over table e.0) h own)

pub all_proper : (es : List (Node × Facts)) → IsTable es → (n : ℕ) → model.IsProperShape (shape_at (shapes_in es) n)
all_proper es table = proper_after [] es (λ n e at. (table.ordered n e at).ordered) (λ n. (tt, tt))
