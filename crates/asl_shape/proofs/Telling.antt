-- What a refusal tells of one of two lists of faults, it tells of both.
use Rattle.std.proofs.Common.{◌≡◌, List, [], ◌∷◌, ◌++◌, Bool, true, false, ◌&&◌, Option, Some, None, subst}
use Rattle.std.specs.Prelude.{IfSome}
use Rattle.std.specs.List.{Contains}
use Rattle.std.proofs.lemmas.List.Elements.{Contains-append_left, Contains-append_right}
use Rattle.asl_model.specs.ShapeSpelling.{ShapeFault, unless}
use Rattle.asl_shape.specs.declared.ShapeRefusal.{ShapeRefusal}
use Rattle.asl_shape.specs.Refusal.{Tells, fault_named}

left : (named : Option ShapeFault) (xs ys : List ShapeFault) → IfSome named (Contains xs) → IfSome named (Contains (xs ++ ys))
left None xs ys h = h
left (Some f) xs ys h = Contains-append_left xs ys f h

right : (named : Option ShapeFault) (xs ys : List ShapeFault) → IfSome named (Contains ys) → IfSome named (Contains (xs ++ ys))
right None xs ys h = h
right (Some f) xs ys h = Contains-append_right xs ys f h

pub told_left : (e : ShapeRefusal) (xs ys : List ShapeFault) → Tells e xs → Tells e (xs ++ ys)
told_left e xs ys h = record { listed = left (fault_named e) xs ys h.listed }

pub told_right : (e : ShapeRefusal) (xs ys : List ShapeFault) → Tells e ys → Tells e (xs ++ ys)
told_right e xs ys h = record { listed = right (fault_named e) xs ys h.listed }

pub told_same : (e : ShapeRefusal) (xs ys : List ShapeFault) → Tells e xs → xs ≡ ys → Tells e ys
told_same e xs ys h same = subst (Tells e) same h

pub told_first : (e : ShapeRefusal) (a b : Bool) (fault : ShapeFault) → Tells e (unless a fault) → Tells e (unless (a && b) fault)
told_first e true b fault h = told_left e [] (unless b fault) h
told_first e false b fault h = h

pub told_second : (e : ShapeRefusal) (a b : Bool) (fault : ShapeFault) → Tells e (unless b fault) → Tells e (unless (a && b) fault)
told_second e true b fault h = h
told_second e false true fault h = told_left e [] (fault ∷ []) h
told_second e false false fault h = h
