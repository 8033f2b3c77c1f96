-- The numbers of the kinds that the shape of a number takes.
use Rattle.std.proofs.Common.{◌≡◌, ◌<◌, ℕ, List, length, Option, Some, None, IfSome, sym, ap, ◌∙◌, subst, arith}
use Rattle.asl_model.specs.Shape.{Shape, OfKinds, ArraysOf, ObjectsOf}
use Rattle.asl_shape_paths.specs.Kinds.{AreArraysIn, AreObjectsIn, AreKindsIn}
use Rattle.asl_numbered.specs.declared.kinds.NodeArrays.{NodeArrays}
use Rattle.asl_numbered.specs.declared.kinds.NodeKinds.{NodeKinds}
use Rattle.asl_numbered.specs.declared.kinds.NodeObjects.{NodeObjects}
use Rattle.asl_numbered.specs.Expansion.{shape_at, shapes_at, fields_at, numbers_in}
use Rattle.asl_numbered.specs.TakenApart.{simple_of, arrays_over, objects_over, kinds_over, AreArraysIfAny, AreObjectsIfAny, AreKindsAt}
use Rattle.asl_numbered.specs.Laws.{below-wider}

module _ (table : List Shape) (number : ℕ) (within : number < length table) where
  arrays-in : (arrays : Option NodeArrays) → AreArraysIfAny table number arrays → IfSome arrays (AreArraysIn table)
  arrays-in None h = tt
  arrays-in (Some arrays) h = record {
    within = omega (arith, within, h.within);
    alone = h.alone;
    first = below-wider arrays.number (length table) arrays.first.now (omega (arith, within, h.within)) h.first;
    rest = omega (arith, within, h.within, h.rest);
  }

  objects-in : (objects : Option NodeObjects) → AreObjectsIfAny table number objects → IfSome objects (AreObjectsIn table)
  objects-in None h = tt
  objects-in (Some objects) h = record {
    within = omega (arith, within, h.within);
    alone = h.alone;
    fields = below-wider objects.number (length table) (numbers_in objects.fields.now.entries) (omega (arith, within, h.within)) h.fields;
  }

  kinds-in : (kinds : NodeKinds) → AreKindsAt table number kinds → AreKindsIn table kinds
  kinds-in kinds h = record { arrays = arrays-in kinds.arrays h.arrays; objects = objects-in kinds.objects h.objects }

  -- what is taken apart is in the table
  pub taken_in : (taken : Option NodeKinds) → IfSome taken (AreKindsAt table number) → IfSome taken (AreKindsIn table)
  taken_in None h = tt
  taken_in (Some kinds) h = kinds-in kinds h

-- ---- one of the kinds at hand

module _ (table : List Shape) (kinds : NodeKinds) (s : Shape) (within : AreKindsIn table kinds) (shown : kinds_over table kinds ≡ s) where
  module _ (objects : NodeObjects) (is : kinds.objects ≡ Some objects) where
    -- the objects among the kinds of a shape
    pub objects_shown : OfKinds (simple_of kinds) (arrays_over table kinds.arrays) (ObjectsOf (fields_at table objects.fields.now.entries) objects.extra) ≡ s
    objects_shown = ap (λ own. OfKinds (simple_of kinds) (arrays_over table kinds.arrays) (objects_over table own)) (sym is) ∙ shown

    pub objects_within : AreObjectsIn table objects
    objects_within = subst (λ own. IfSome own (AreObjectsIn table)) is within.objects

  module _ (arrays : NodeArrays) (is : kinds.arrays ≡ Some arrays) where
    -- the arrays among them
    pub arrays_shown : OfKinds (simple_of kinds) (ArraysOf (shapes_at table arrays.first.now) (shape_at table arrays.rest)) (objects_over table kinds.objects) ≡ s
    arrays_shown = ap (λ own. OfKinds (simple_of kinds) (arrays_over table own) (objects_over table kinds.objects)) (sym is) ∙ shown

    pub arrays_within : AreArraysIn table arrays
    arrays_within = subst (λ own. IfSome own (AreArraysIn table)) is within.arrays
