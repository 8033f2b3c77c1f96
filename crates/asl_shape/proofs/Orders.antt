-- A map's names are in order, and what is known of its fields, or of shapes, one by one is known of all.
use Rattle.std.proofs.Common.{◌≡◌, List, [], ◌∷◌, map, refl, String}
use Rattle.std.specs.declared.alloc.Global.{Global}
use Rattle.std.specs.List.Sorted.{IsStrictlySortedBy}
use Rattle.std.specs.Map.{keys_of}
use Rattle.std.specs.String.{string_cmp}
use Rattle.std.proofs.lemmas.Str.{IsUtf8-string_bytes}
use Rattle.asl_shape.specs.declared.shape.Shape.{Shape}
use Rattle.asl_shape.specs.declared.shape.Field.{Field}
use Rattle.asl_model.specs.Shape as model
use Rattle.asl_shape.specs.Proper.{Proper, AllProper, FieldsProper}
use Rattle.asl_shape.specs.Known.{AreInOrder}
use Rattle.asl_shape.specs.View.{view, shapes_view, fields_view, merged, with_kinds, first_arrays, first_objects}
use Rattle.asl_shape.proofs.Spellings.{Mention}

pub in_order : (ms : List (String Global × Field)) → IsStrictlySortedBy string_cmp (keys_of ms) → AreInOrder (fields_view ms)
unfolding IsStrictlySortedBy
in_order [] h = tt
in_order (m ∷ []) h = (IsUtf8-string_bytes m.0, refl, tt)
in_order (m ∷ (k ∷ ms)) h = (IsUtf8-string_bytes m.0, (rw h.0.0 refl), in_order (k ∷ ms) h.1)

-- ---- proper shapes

-- the fields are proper if their names are in order
pub record ProperInOrder (shapes : model.FieldShapes) : Type 0 where
  pub proper : AreInOrder shapes → model.AreProperFields shapes

pub and_proper_in_order : (m : Mention) (ms now : List Mention) → now ≡ m ∷ ms → Proper (view m.1.shape) → ProperInOrder (fields_view ms) → ProperInOrder (fields_view now)
and_proper_in_order m ms now split h others =
    rw split (record { proper = (λ order. (order.0, order.1, h.proper, others.proper order.2)) })

pub all_proper : (ms left : List Mention) → left ≡ [] → (ProperInOrder (fields_view left) → ProperInOrder (fields_view ms)) → AreInOrder (fields_view ms) → FieldsProper (fields_view ms)
all_proper ms left none h order = record { proper = (h (rw none (record { proper = (λ o. tt) }))).proper order }

first_arrays_proper : (a b : model.Arrays) → model.AreProperArrays a → model.AreProperArrays b → model.AreProperArrays (first_arrays a b)
first_arrays_proper model.WithoutArrays b h i = i
first_arrays_proper (model.ArraysOf first rest) b h i = h

first_objects_proper : (a b : model.Objects) → model.AreProperObjects a → model.AreProperObjects b → model.AreProperObjects (first_objects a b)
first_objects_proper model.WithoutObjects b h i = i
first_objects_proper (model.ObjectsOf shapes extra) b h i = h

with_proper : (a b : model.Shape) → model.IsProperShape a → model.IsProperShape b → model.IsProperShape (with_kinds a b)
with_proper model.Any b h i = tt
with_proper (model.OfKinds some arrays objects) model.Any h i = tt
with_proper (model.OfKinds some arrays objects) (model.OfKinds simple more further) h i =
    (first_arrays_proper arrays more h.0 i.0, first_objects_proper objects further h.1 i.1)

together_proper : (ss : List Shape) → model.AreProperShapes (shapes_view ss) → model.IsProperShape (merged (map view ss))
together_proper [] h = (tt, tt)
together_proper (s ∷ ss) h = with_proper (view s) (merged (map view ss)) h.0 (together_proper ss h.1)

-- what shapes show together is proper where each of them is
pub merged_proper : (ss : List Shape) → AllProper (shapes_view ss) → Proper (merged (map view ss))
merged_proper ss h = record { proper = together_proper ss h.proper }
