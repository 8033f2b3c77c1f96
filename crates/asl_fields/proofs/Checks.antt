-- What checks and readings answer one after another.
use Rattle.std.proofs.Common.{◌≡◌, zero, suc, List, [], ◌∷◌, ◌++◌, map, Option, Some, None, option_map, Result, Ok, Err, sym, ap, ◌∙◌, subst, arith}
use Rattle.std.specs.Result.{IsErrAnd}
use Rattle.std.specs.List.{Contains}
use Rattle.std.proofs.lemmas.Result.{err_from_is_err_and}
use Rattle.std.proofs.lemmas.List.Elements.{Contains-append_left}
use Rattle.asl_fields.specs.Verdicts.{IsAmong, IsAnswer}

pub among_first : {F : Type 0} (xs ys : List F) (o : Option F) → IsAmong xs o → IsAmong (xs ++ ys) o
among_first xs ys None h = tt
among_first xs ys (Some f) h = Contains-append_left xs ys f h

mapped : {F G : Type 0} (f : F → G) (a : F) (xs : List F) → Contains xs a → Contains (map f xs) (f a)
mapped f a [] (i, within, is) = absurd (omega (arith, within))
mapped f a (x ∷ xs) (zero, within, is) = (0, omega arith, ap f is)
mapped f a (x ∷ xs) (suc i, within, is) = let there = mapped f a xs (i, omega (arith, within), is) in (suc there.0, omega (arith, there.1), there.2)

-- what stands in a list stands in the list as it is mapped
pub among_mapped : {F G : Type 0} (f : F → G) (xs : List F) (o : Option F) (told : Option G) → IsAmong xs o → told ≡ option_map f o → IsAmong (map f xs) told
among_mapped f xs None told h e = subst (λ t. IsAmong (map f xs) t) (sym e) tt
among_mapped f xs (Some a) told h e = subst (λ t. IsAmong (map f xs) t) (sym e) (mapped f a xs h)

-- what is told of the first of two lists is told of both
pub told_first : {A B E F : Type 0} {shown : E → Option F} (xs ys : List F) (e : E) → IsAnswer {A = A} shown xs (Err e) → IsAnswer {A = B} shown (xs ++ ys) (Err e)
told_first {shown = shown} xs ys e h = record { holds = among_first xs ys (shown e) h.holds }

-- what was told is handed on
pub handed_on : {B E F : Type 0} {shown : E → Option F} (wrong : List F) (r : Result B E) (e : E) → IsErrAnd r (λ y. y ≡ e) → IsAnswer {A = B} shown wrong (Err e) → IsAnswer shown wrong r
handed_on wrong r e h told = let p = err_from_is_err_and r h in rw (p.1, p.2) told

-- an answer for the first part of what is left
pub left_after : {A E F : Type 0} {shown : E → Option F} (wrong head rest : List F) {read : A} → wrong ≡ head ++ rest → IsAnswer shown head (Ok read) → wrong ≡ rest
left_after wrong head rest all none = all ∙ ap (λ xs. xs ++ rest) none.holds

pub told_of_left : {A B E F : Type 0} {shown : E → Option F} (wrong head rest : List F) (e : E) → wrong ≡ head ++ rest → IsAnswer {A = A} shown head (Err e) → IsAnswer {A = B} shown wrong (Err e)
told_of_left {B = B} {shown = shown} wrong head rest e all h = subst (λ xs. IsAnswer {A = B} shown xs (Err e)) (sym all) (told_first head rest e h)
