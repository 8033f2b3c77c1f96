-- The inputs of the children of a Map, whose items are gone through in order.
use Rattle.std.proofs.Common.{◌≡◌, ℕ, suc, ◌+◌, ◌<◌, ◌≤◌, List, [], ◌∷◌, ◌++◌, length, get_or, drop, map, Option, Result, Ok, Err, Global, refl, sym, ap, ◌∙◌, subst, drop-cons, add-one, arith}
use Rattle.std.proofs.lemmas.List.{drop_all, map-append}
use Rattle.std.specs.declared.rc.Rc.{Rc}
use Rattle.asl_model.specs.Faults.{Fault, and_then}
use Rattle.asl_model.specs.Flow.{item_input, item_inputs}
use Rattle.asl_model.specs.Template.{Template}
use Rattle.asl_model.specs.Tree as model
use Rattle.asl_processing.specs.Activities.{given, inputs_of}
use Rattle.asl_processing.specs.Data.{datum_view}
use Rattle.asl_processing.specs.declared.activities.Visit.{Visit}
use Rattle.asl_tree.specs.View.{view, elements_view}
use Rattle.asl_tree.specs.declared.Tree.{Tree}

-- the trees in front of others
abbrev pub joined : List model.Tree → model.Trees → model.Trees
joined [] us = us
joined (t ∷ ts) us = model.AndTree t (joined ts us)

-- the trees in front of those that are given, unless there is a fault
abbrev pub in_front : List model.Tree → Result model.Trees Fault → Result model.Trees Fault
in_front done (Ok us) = Ok (joined done us)
in_front done (Err fault) = Err fault

-- the inputs of all items: those that are done, in front of those of the items that are left, which begin with number i
pub record AreDone (selector : Option Template) (v : model.Tree) (whole : model.Trees) (done : List model.Tree) (i : ℕ) (left : model.Trees) : Type 0 where
  pub are : item_inputs selector v 0 whole ≡ in_front done (item_inputs selector v i left)

joined_further : (done : List model.Tree) (u : model.Tree) (us : model.Trees) → joined done (model.AndTree u us) ≡ joined (done ++ u ∷ []) us
joined_further [] u us = refl
joined_further (t ∷ done) u us = ap (model.AndTree t) (joined_further done u us)

-- one more input goes in front
one_in_front : (done : List model.Tree) (u : model.Tree) (given : Result model.Trees Fault) → in_front done (and_then (λ us. Ok (model.AndTree u us)) given) ≡ in_front (done ++ u ∷ []) given
one_in_front done u (Ok us) = ap Ok (joined_further done u us)
one_in_front done u (Err fault) = refl

-- the next item's input is done
one_done : (selector : Option Template) (v : model.Tree) (whole : model.Trees) (done : List model.Tree) (i : ℕ) (t u : model.Tree) (left : model.Trees) → item_input selector v i t ≡ Ok u → AreDone selector v whole done i (model.AndTree t left) → AreDone selector v whole (done ++ u ∷ []) (suc i) left
one_done selector v whole done i t u left is h =
    record { are = h.are ∙ rw is (one_in_front done u (item_inputs selector v (suc i) left)) }

joined_to_none : (done : List model.Tree) → joined done model.NoTrees ≡ model.trees_of done
joined_to_none [] = refl
joined_to_none (t ∷ done) = ap (model.AndTree t) (joined_to_none done)

-- no item is left
all_done : (selector : Option Template) (v : model.Tree) (whole : model.Trees) (done : List model.Tree) (i : ℕ) → AreDone selector v whole done i model.NoTrees → item_inputs selector v 0 whole ≡ Ok (model.trees_of done)
all_done selector v whole done i h = h.are ∙ ap Ok (joined_to_none done)

-- the item at hand, in front of those behind it
next_item : (ts : List Tree) (i : ℕ) (t : Tree) → i < length ts → t ≡ get_or ts i t → elements_view (drop i ts) ≡ model.AndTree (view t) (elements_view (drop (i + 1) ts))
next_item ts i t within is = ap elements_view (drop-cons ts i t within) ∙ rw (← is, add-one) refl

-- one more child is pushed
pub one_pushed : (selector : Option Template) (v : model.Tree) (ts : List Tree) (i : ℕ) (t : Tree) (u : Rc Tree Global) (visit : Visit) (children pushed : List Visit) → i < length ts → t ≡ get_or ts i t → item_input selector v i (view t) ≡ Ok (datum_view u) → visit.raw ≡ u → pushed ≡ children ++ visit ∷ []
    → AreDone selector v (elements_view ts) (map given children) i (elements_view (drop i ts)) → AreDone selector v (elements_view ts) (map given pushed) (i + 1) (elements_view (drop (i + 1) ts))
one_pushed selector v ts i t u visit children pushed within is gives raw grown h =
    let whole = elements_view ts in
    let left = elements_view (drop (i + 1) ts) in
    let more : AreDone selector v whole (map given children ++ datum_view u ∷ []) (suc i) left = one_done selector v whole (map given children) i (view t) (datum_view u) left gives (subst (AreDone selector v whole (map given children) i) (next_item ts i t within is) h) in
    let seen : map given children ++ datum_view u ∷ [] ≡ map given pushed = sym (ap (map given) grown ∙ map-append given children (visit ∷ []) ∙ ap (λ (d : Rc Tree Global). map given children ++ datum_view d ∷ []) raw) in
    let next : suc i ≡ i + 1 = omega arith in
    subst (λ j. AreDone selector v whole (map given pushed) j left) next (subst (λ done. AreDone selector v whole done (suc i) left) seen more)

-- all are pushed
pub all_pushed : (selector : Option Template) (v : model.Tree) (ts : List Tree) (i : ℕ) (children : List Visit) → length ts ≤ i → AreDone selector v (elements_view ts) (map given children) i (elements_view (drop i ts)) → item_inputs selector v 0 (elements_view ts) ≡ Ok (inputs_of children)
all_pushed selector v ts i children end h =
    all_done selector v (elements_view ts) (map given children) i (subst (AreDone selector v (elements_view ts) (map given children) i) (ap elements_view (drop_all i ts end)) h)
