-- One shape of lists inside another: place by place, and then the further elements.
use Rattle.std.proofs.Common.{◌≡◌, Bool, true, false, ◌&&◌, ◌||◌, List, [], ◌∷◌, length, nat_eq, suc, refl, arith}
use Rattle.asl_model.specs.Shape as model
use Rattle.asl_model.specs.ShapeOrder.{sub, elements_sub, each_shape, takes_all, takes_all_arrays}
use Rattle.asl_shape.specs.declared.shape.Shape.{Shape}
use Rattle.asl_shape.specs.View.{shapes_view}
use Rattle.asl_shape.proofs.Places.{both}

never_sub : (s : model.Shape) → sub model.Never s ≡ true
never_sub model.Any = refl
never_sub (model.OfKinds simple arrays objects) = refl

and_true : (a b : Bool) → (a && b) ≡ ((a && true) && b)
and_true true b = refl
and_true false b = refl

pub places_then_further : (places : model.Shapes) (further : model.Shape) (bounds : model.Shapes) (rest : model.Shape) → elements_sub places further bounds (λ s. sub s rest) ≡ (elements_sub places model.Never bounds (λ s. sub s rest) && sub further rest)
places_then_further places further model.NoShapes rest =
    rw (never_sub rest) (and_true (each_shape (λ s. sub s rest) places) (sub further rest))
places_then_further model.NoShapes further (model.AndShape s bounds) rest = refl
places_then_further (model.AndShape p places) further (model.AndShape s bounds) rest =
    both (sub p s) _ _ _ (places_then_further places further bounds rest)

pub or_swap : (a b : Bool) → (a || b) ≡ (b || a)
or_swap true true = refl
or_swap true false = refl
or_swap false true = refl
or_swap false false = refl

pub lists_all : (first : List Shape) (rest : model.Shape) → takes_all_arrays (model.ArraysOf (shapes_view first) rest) ≡ (nat_eq (length first) 0 && takes_all rest)
lists_all [] rest = refl
lists_all (s ∷ first) rest =
    let some : nat_eq (suc (length first)) 0 ≡ false = grind arith in
    rw some refl
