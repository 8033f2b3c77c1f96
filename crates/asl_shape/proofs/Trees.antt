-- What a reading answers, in the words of the two ways to read.
use Rattle.std.proofs.Common.{◌≡◌, Bool, true, false, Some, Result, Ok, Err, IfOk, IfErr, IfSome, ap, subst, ◌∙◌}
use Rattle.std.specs.List.{Contains}
use Rattle.asl_model.specs.ShapeSpelling.{ShapeFault, SpellsShape, SpellsShapeV1, HasShapeFault, HasShapeFaultV1, shape_faults}
use Rattle.asl_model.specs.Tree.{Tree}
use Rattle.asl_shape.specs.Refusal.{Tells, SpellsAs, fault_named}
use Rattle.asl_shape.specs.View.{view}
use Rattle.asl_shape.specs.declared.ShapeRefusal.{ShapeRefusal}
use Rattle.asl_shape.specs.declared.shape.Shape.{Shape}

pub spells : (t : Tree) (r : Result Shape ShapeRefusal) → IfOk r (λ s. SpellsAs true t (view s)) → IfOk r (λ s. SpellsShape t (view s))
spells t (Ok s) h = record { none_wrong = h.none_wrong; same = h.same }
spells t (Err e) h = tt

pub spells_v1 : (t : Tree) (r : Result Shape ShapeRefusal) → IfOk r (λ s. SpellsAs false t (view s)) → IfOk r (λ s. SpellsShapeV1 t (view s))
spells_v1 t (Ok s) h = record { none_wrong = h.none_wrong; same = h.same }
spells_v1 t (Err e) h = tt

-- the fault that a refusal names stands there
fault_there : (several : Bool) (t : Tree) (r : Result Shape ShapeRefusal) (e : ShapeRefusal) (f : ShapeFault) → fault_named e ≡ Some f → IfErr r (λ e. Tells e (shape_faults several t)) → r ≡ Err e → Contains (shape_faults several t) f
fault_there several t (Ok s) e f names told same = absurd (cc)
fault_there several t (Err d) e f names told same =
    let refusal : d ≡ e = cc in
    subst (λ o. IfSome o (Contains (shape_faults several t))) (ap fault_named refusal ∙ names) told.listed

pub fault_of : (t : Tree) (r : Result Shape ShapeRefusal) (e : ShapeRefusal) (f : ShapeFault) → fault_named e ≡ Some f → IfErr r (λ e. Tells e (shape_faults true t)) → r ≡ Err e → HasShapeFault t f
fault_of t r e f names told same = record { listed = fault_there true t r e f names told same }

pub fault_of_v1 : (t : Tree) (r : Result Shape ShapeRefusal) (e : ShapeRefusal) (f : ShapeFault) → fault_named e ≡ Some f → IfErr r (λ e. Tells e (shape_faults false t)) → r ≡ Err e → HasShapeFaultV1 t f
fault_of_v1 t r e f names told same = record { listed = fault_there false t r e f names told same }
