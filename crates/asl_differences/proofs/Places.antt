-- Where a path leads, and what is told of a place, seen from above it.
use Rattle.std.proofs.Common.{◌≡◌, ◌≢◌, ◌↔◌, ℕ, zero, suc, ◌+◌, ◌<◌, List, [], ◌∷◌, ◌++◌, map, reverse, length, get_or, drop, drop-cons, Option, Some, None, option_and_then, Bor, Result, Ok, Err, IfOk, IfSome, IsSomeAnd, refl, sym, ap, subst, ◌∙◌, add-one}
use Rattle.std.proofs.Math.Seq.{drop-nil}
use Rattle.std.proofs.lemmas.List.{map-append, nil_from_length, reverse-append}
use Rattle.std.specs.Slice.Iter.{iter_rest, iter_steps}
use Rattle.std.specs.declared.slice.Iter.{Iter}
use Rattle.asl_model.specs.Path.{Segment, child, named_by}
use Rattle.asl_model.specs.Tree as model
use Rattle.asl_model.specs.Tree.{AndField, AndTree, element}
use Rattle.asl_tree.specs.View.{view, elements_view}
use Rattle.asl_tree.specs.declared.Tree.{Tree}
use Rattle.asl_differences.specs.Places.{path_of, segment_of, told, IsDifference, IsPart, IsPlace, TellsOf}
use Rattle.asl_differences.specs.declared.misfits.Misfit.{Misfit}
use Rattle.asl_differences.specs.declared.misfits.Part.{Part}
use Rattle.asl_differences.specs.declared.paths.Step.{Step}
use Rattle.asl_differences.specs.declared.trees.Difference.{Difference}

-- where the empty path leads
nowhere : (o : Option model.Tree) → option_and_then (named_by []) o ≡ o
nowhere None = refl
nowhere (Some t) = refl

further : (p : List Segment) (s : Segment) (o : Option model.Tree) → ((t : model.Tree) → named_by (p ++ s ∷ []) t ≡ option_and_then (child s) (named_by p t)) → option_and_then (named_by (p ++ s ∷ [])) o ≡ option_and_then (child s) (option_and_then (named_by p) o)
further p s None below = refl
further p s (Some t) below = below t

-- where a path with one more segment leads
named_further : (p : List Segment) (s : Segment) (t : model.Tree) → named_by (p ++ s ∷ []) t ≡ option_and_then (child s) (named_by p t)
named_further [] s t = nowhere (child s t)
named_further (first ∷ p) s t = further p s (child first t) (λ u. named_further p s u)

-- the path with one more step further in ends with it
path_before : (way : List Step) (s : Step) → path_of (s ∷ way) ≡ path_of way ++ segment_of s ∷ []
path_before way s = ap (map segment_of) (reverse-append (s ∷ []) way) ∙ map-append segment_of (reverse way) (s ∷ [])

-- ---- differences

-- what a step leads to on one side alone
pub differ_alone : (a b : model.Tree) (s : Segment) (one other : Option model.Tree) (d : Difference) → TellsOf (s ∷ []) one other d → child s a ≡ one → child s b ≡ other → one ≢ other → IsDifference a b d
differ_alone a b s one other d h left right apart = record {
  expected = ap (λ p. named_by p a) h.path ∙ nowhere (child s a) ∙ left ∙ sym h.expected;
  found = ap (λ p. named_by p b) h.path ∙ nowhere (child s b) ∙ right ∙ sym h.found;
  differ = λ same. apart (sym h.expected ∙ same ∙ h.found);
}

-- a difference of what a step leads to
pub differ_below : (a b x y : model.Tree) (s : Segment) (d whole : Difference) → TellsOf (s ∷ path_of d.way.items) (told d.expected) (told d.found) whole → child s a ≡ Some x → child s b ≡ Some y → IsDifference x y d → IsDifference a b whole
differ_below a b x y s d whole h left right below = record {
  expected = ap (λ p. named_by p a) h.path ∙ ap (option_and_then (named_by (path_of d.way.items))) left ∙ below.expected ∙ sym h.expected;
  found = ap (λ p. named_by p b) h.path ∙ ap (option_and_then (named_by (path_of d.way.items))) right ∙ below.found ∙ sym h.found;
  differ = λ same. below.differ (sym h.expected ∙ same ∙ h.found);
}

-- what holds of each difference of which the first fact holds
pub weaker : {E : Type 0} (P Q : Difference → Type 0) (r : Result (Option Difference) E) → ((d : Difference) → P d → Q d) → IfOk r (λ o. IfSome o P) → IfOk r (λ o. IfSome o Q)
weaker P Q (Ok (Some d)) follows h = follows d h
weaker P Q (Ok None) follows h = tt
weaker P Q (Err e) follows h = tt

-- ---- elements

-- what stands in front of what is left is the element at that position
pub element_first : (ts rest : List Tree) (i : ℕ) (t : Tree) → drop i ts ≡ t ∷ rest → element i (elements_view ts) ≡ Some (view t)
element_first [] rest i t e = absurd (let none : drop i [] ≡ t ∷ rest = e in cc (drop-nil i))
element_first (first ∷ ts) rest zero t e = let same : first ≡ t = cc in ap (λ x. Some (view x)) same
element_first (first ∷ ts) rest (suc i) t e = element_first ts rest i t e

-- where nothing is left there is no element at that position
pub element_none : (ts : List Tree) (i : ℕ) → drop i ts ≡ [] → element i (elements_view ts) ≡ None
element_none [] i e = refl
element_none (first ∷ ts) zero e = absurd (cc)
element_none (first ∷ ts) (suc i) e = element_none ts i e

drop_suc : (ts rest : List Tree) (i : ℕ) (t : Tree) → drop i ts ≡ t ∷ rest → drop (suc i) ts ≡ rest
drop_suc [] rest i t e = absurd (let none : drop i [] ≡ t ∷ rest = e in cc (drop-nil i))
drop_suc (first ∷ ts) rest zero t e = cc
drop_suc (first ∷ ts) rest (suc i) t e = drop_suc ts rest i t e

-- what is left behind the first
pub drop_next : (ts rest : List Tree) (i : ℕ) (t : Tree) → drop i ts ≡ t ∷ rest → drop (i + 1) ts ≡ rest
drop_next ts rest i t e = rw add-one (drop_suc ts rest i t e)

drop_past : (ts : List Tree) (i : ℕ) → drop i ts ≡ [] → drop (suc i) ts ≡ []
drop_past [] i e = refl
drop_past (first ∷ ts) zero e = absurd (cc)
drop_past (first ∷ ts) (suc i) e = drop_past ts i e

-- what comes next of what is left is the element at that position, if there is one
pub element_next : (ts : List Tree) (i : ℕ) (now next : Iter Tree) (o : Option (Bor Tree)) → drop i ts ≡ iter_rest now → iter_steps now o next → element i (elements_view ts) ≡ told o
element_next ts i now next None here h = element_none ts i (here ∙ nil_from_length (iter_rest now) h.0)
element_next ts i now next (Some x) here h = element_first ts (iter_rest next) i x.now (here ∙ h)

-- and what is left then stands behind it
pub left_next : (ts : List Tree) (i : ℕ) (now next : Iter Tree) (o : Option (Bor Tree)) → drop i ts ≡ iter_rest now → iter_steps now o next → drop (i + 1) ts ≡ iter_rest next
left_next ts i now next None here h =
    let none = nil_from_length (iter_rest now) h.0 in
    rw add-one (drop_past ts i (here ∙ none) ∙ sym (ap iter_rest h.1 ∙ none))
left_next ts i now next (Some x) here h = drop_next ts (iter_rest next) i x.now (here ∙ h)

-- an element that is come to stands in front of what is left
pub drop_at : (ts items : List Tree) (i : ℕ) (t : Tree) → items ≡ ts → i < length items → t ≡ get_or items i t → drop i ts ≡ t ∷ drop (i + 1) ts
drop_at ts items i t same within is =
    subst (λ l. drop i l ≡ t ∷ drop (i + 1) l) same (rw add-one (drop-cons items i t within ∙ ap (λ x. x ∷ drop (suc i) items) (sym is)))

-- what is left is the same behind trees that are the same
pub same_trees_behind : (P : Type 0) (a b now now_others : model.Trees) (x y : model.Tree) → now ≡ AndTree x a → now_others ≡ AndTree y b → x ≡ y → (P ↔ now ≡ now_others) → (P ↔ a ≡ b)
same_trees_behind P a b now now_others x y left right same h = (
  λ p. (let e : AndTree x a ≡ AndTree y b = sym left ∙ h.0 p ∙ right in cc),
  λ e. h.1 (left ∙ ap (λ t. AndTree t a) same ∙ ap (AndTree y) e ∙ sym right),
)

-- so for fields
pub same_fields_behind : (P : Type 0) (a b now now_others : model.Fields) (n m : List ℕ) (x y : model.Tree) → now ≡ AndField n x a → now_others ≡ AndField m y b → n ≡ m → x ≡ y → (P ↔ now ≡ now_others) → (P ↔ a ≡ b)
same_fields_behind P a b now now_others n m x y left right named same h = (
  λ p. (let e : AndField n x a ≡ AndField m y b = sym left ∙ h.0 p ∙ right in cc),
  λ e. h.1 (left ∙ ap (λ k. AndField k x a) named ∙ ap (λ t. AndField m t a) same ∙ ap (AndField m y) e ∙ sym right),
)

-- ---- misfits

-- what the step leads to from a place is a place
pub place_below : (t : model.Tree) (m whole : Misfit) (part : Part) → whole.way.items ≡ part.step ∷ m.way.items → whole.found ≡ part.found → IsSomeAnd m.found (λ tree. IsPart (view tree.now) part) → IsPlace t m → IsPlace t whole
place_below t m whole part way found there place = record {
  found = ap (λ w. named_by (path_of w) t) way ∙ ap (λ p. named_by p t) (path_before m.way.items part.step)
      ∙ named_further (path_of m.way.items) (segment_of part.step) t ∙ go m.found there place.found ∙ ap told (sym found);
}
  where
    go : (o : Option (Bor Tree)) → IsSomeAnd o (λ tree. IsPart (view tree.now) part) → named_by (path_of m.way.items) t ≡ told o → option_and_then (child (segment_of part.step)) (named_by (path_of m.way.items) t) ≡ told part.found
    go None h e = absurd h
    go (Some tree) h e = ap (option_and_then (child (segment_of part.step))) e ∙ h.found

-- a part that is told so, where the step leads to that in the tree
pub part_there : (t : model.Tree) (step : Step) (found : Option (Bor Tree)) (o : Option Part) → child (segment_of step) t ≡ told found → IfSome o (λ part. (part.step ≡ step) × (part.found ≡ found)) → IfSome o (IsPart t)
part_there t step found None there h = tt
part_there t step found (Some part) there h = record { found = ap (λ s. child (segment_of s) t) h.0 ∙ there ∙ ap told (sym h.1) }
