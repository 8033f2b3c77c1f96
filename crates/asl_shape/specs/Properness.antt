-- Which shapes are proper: one of several kinds has two parts or more, each of a kind of its own, in byte order of the
-- names of their types.
use Rattle.std.specs.Prelude.{ℕ, suc, List, [], ◌∷◌, Bool, true, false, ◌&&◌, Option, Some, None, String, length, map, nat_le}
use Rattle.std.specs.declared.alloc.Global.{Global}
use Rattle.asl_shape.specs.declared.kinds.OwnedArrays.{OwnedArrays}
use Rattle.asl_shape.specs.declared.kinds.OwnedObjects.{OwnedObjects}
use Rattle.asl_shape.specs.declared.kinds.OwnedKinds.{OwnedKinds}
use Rattle.asl_shape.specs.declared.shape.Shape.{Shape, fold-Shape}
use Rattle.asl_shape.specs.declared.shape.Shape.TheOpen.{Shape-F, Field-F}
use Rattle.asl_shape.specs.declared.shape.Field.{Field}

-- what is seen of a shape: its place among the six kinds, in byte order of the names of their types, where it is of one
-- kind; and whether it is proper
pub record Seen : Type 0 where
  pub place : Option ℕ
  pub proper : Bool

-- each of them is proper
abbrev pub all_proper : List Seen → Bool
all_proper [] = true
all_proper (s ∷ seen) = s.proper && all_proper seen

-- each has a place: the first at that number or later, each other one behind the one before it
abbrev pub ascend_from : ℕ → List (Option ℕ) → Bool
ascend_from least [] = true
ascend_from least (None ∷ places) = false
ascend_from least (Some n ∷ places) = nat_le least n && ascend_from (suc n) places

-- there are two or more, each of one kind, these in order, and each is proper
abbrev pub are_parts : List Seen → Bool
are_parts seen = nat_le 2 (length seen) && (ascend_from 0 (map (λ s. s.place) seen) && all_proper seen)

-- one level, with what is seen of each shape inside
abbrev pub seen_step : Shape-F Seen Seen → Seen
seen_step Shape-F.Any = record { place = None; proper = true }
seen_step Shape-F.Never = record { place = None; proper = true }
seen_step (Shape-F.List first rest) = record { place = Some 0; proper = all_proper first.items && rest.value.proper }
seen_step Shape-F.Bool = record { place = Some 1; proper = true }
seen_step Shape-F.Int = record { place = Some 2; proper = true }
seen_step Shape-F.Null = record { place = Some 3; proper = true }
seen_step (Shape-F.Object fields extra) =
    record { place = Some 4; proper = all_proper (map (λ m. m.1) fields.entries) }
seen_step Shape-F.Text = record { place = Some 5; proper = true }
seen_step (Shape-F.Several parts) = record { place = None; proper = are_parts parts.items }

-- of a field, what is seen of its shape
abbrev pub seen_field : Field-F Seen Seen → Seen
seen_field f = f.shape

-- what is seen of the shape
abbrev pub seen : Shape → Seen
seen = fold-Shape Seen Seen seen_step seen_field

-- the shape is proper
abbrev pub is_proper : Shape → Bool
is_proper s = (seen s).proper

-- each of the shapes is
abbrev pub are_proper : List Shape → Bool
are_proper shapes = all_proper (map seen shapes)

-- each field's shape is
abbrev pub fields_proper : List (String Global × Field) → Bool
fields_proper fields = all_proper (map (λ m. seen m.1.shape) fields)

-- each shape inside the arrays is, where there are any
abbrev pub arrays_proper : Option OwnedArrays → Bool
arrays_proper None = true
arrays_proper (Some arrays) = are_proper arrays.first.items && is_proper arrays.rest.value

-- each shape inside the objects, where there are any
abbrev pub objects_proper : Option OwnedObjects → Bool
objects_proper None = true
objects_proper (Some objects) = fields_proper objects.fields.entries

-- each shape inside these kinds
abbrev pub kinds_proper : OwnedKinds → Bool
kinds_proper kinds = arrays_proper kinds.arrays && objects_proper kinds.objects
