-- The first elements of a list, each of a shape of its own, and the further ones.
use Rattle.std.proofs.Common.{◌≡◌, ℕ, ◌≤◌, ◌-◌, Bool, true, false, ◌&&◌, List, [], ◌∷◌, length, take, drop, refl, sym, ap, ◌∙◌, rules}
use Rattle.std.proofs.lemmas.List.{drop_all, take_all, length-drop}
use Rattle.asl_model.specs.Tree as model
use Rattle.asl_model.specs.Shape.{has, each_element, elements_have}
use Rattle.asl_tree.specs.declared.Tree.{Tree}
use Rattle.asl_tree.specs.View as trees
use Rattle.asl_tree.specs.View.{elements_view}
use Rattle.asl_shape.specs.declared.shape.Shape.{Shape}
use Rattle.asl_shape.specs.View.{view, shapes_view}

pub all_pass : (ts : model.Trees) → each_element (λ _. true) ts ≡ true
all_pass model.NoTrees = refl
all_pass (model.AndTree t ts) = all_pass ts

pub both : (a b c d : Bool) → c ≡ (b && d) → (a && c) ≡ ((a && b) && d)
both true b c d e = e
both false b c d e = refl

pub first_then_further : (ss : List Shape) (test : model.Tree → Bool) (ts : List Tree) → elements_have (shapes_view ss) test (elements_view ts) ≡ (elements_have (shapes_view ss) (λ _. true) (elements_view ts) && each_element test (elements_view (drop (length ss) ts)))
first_then_further [] test ts = rw (all_pass (elements_view ts)) refl
first_then_further (s ∷ ss) test [] = refl
first_then_further (s ∷ ss) test (t ∷ ts) = both (has (view s) (trees.view t)) _ _ _ (first_then_further ss test ts)

pub take_to_end : {A : Type 0} (n : ℕ) (xs : List A) → take (length xs - n) (drop n xs) ≡ drop n xs
take_to_end n xs = search (rules, take_all, length-drop)

pub list_has : (first : List Shape) (test : model.Tree → Bool) (elements : List Tree) (behind : Bool) → true ≡ elements_have (shapes_view first) (λ _. true) (elements_view elements) → behind ≡ each_element test (elements_view (take (length elements - length first) (drop (length first) elements))) → behind ≡ elements_have (shapes_view first) test (elements_view elements)
list_has first test elements behind e f =
    f ∙ ap (λ ts. each_element test (elements_view ts)) (take_to_end (length first) elements)
    ∙ sym (first_then_further first test elements ∙ ap (λ b. b && each_element test (elements_view (drop (length first) elements))) (sym e))

pub none_left : (ss : List Shape) (i : ℕ) (ts : model.Trees) → length ss ≤ i → elements_have (shapes_view (drop i ss)) (λ _. true) ts ≡ true
none_left ss i ts h = rw (drop_all i ss h) (all_pass ts)
