-- The values of elements and fields that are gone through, and the order of a map's names.
use Rattle.std.proofs.Common.{◌≡◌, ℕ, ◌+◌, ◌<◌, ◌≤◌, List, [], ◌∷◌, ◌++◌, length, get_or, drop, take, map, Option, String, Global, Less, true, false, IsTrue, string_bytes, string_cmp, refl, ap, ◌∙◌, drop-cons, add-one}
use Rattle.std.proofs.lemmas.Bool.{and_from}
use Rattle.std.proofs.lemmas.List.{take_all, drop_all}
use Rattle.std.specs.List.{AllByRecursion}
use Rattle.std.specs.List.Sorted.{IsStrictlySortedBy}
use Rattle.std.specs.Map.{keys_of}
use Rattle.std.specs.Ordering.{match_ordering}
use Rattle.asl_model.specs.Intrinsic.{Item}
use Rattle.asl_model.specs.Template.{NoTemplates, AndTemplate, filled, elements_filled, fields_filled, before_each}
use Rattle.asl_model.specs.Tree as model
use Rattle.asl_model.specs.Tree.{comes_before}
use Rattle.asl_tree.proofs.Texts.{after_first}
use Rattle.asl_tree.proofs.Views.{put}
use Rattle.asl_tree.specs.View as trees
use Rattle.asl_tree.specs.declared.Tree as code
use Rattle.asl_template.specs.View.{view, elements_view, entries_view}
use Rattle.asl_template.specs.declared.template.Template.{Template}

abbrev pub Entry : Type 0
Entry = String Global × Template

-- ---- elements

-- the element at hand, in front of those behind it
pub next_element : (ts : List Template) (i : ℕ) (t : Template) → i < length ts → t ≡ get_or ts i t → elements_view (drop i ts) ≡ AndTemplate (view t) (elements_view (drop (i + 1) ts))
next_element ts i t within is = ap elements_view (drop-cons ts i t within) ∙ rw (← is, add-one) refl

-- past the last element none is left
pub no_element_left : (ts : List Template) (i : ℕ) → length ts ≤ i → elements_view (drop i ts) ≡ NoTemplates
no_element_left ts i end = ap elements_view (drop_all i ts end)

-- the values of all elements, as elements
values_shown : (input : model.Tree) (item : Option Item) (ts : List Template) → model.trees_of (map (λ t. filled (view t) input item) ts) ≡ elements_filled (elements_view ts) input item
values_shown input item [] = refl
values_shown input item (t ∷ ts) = ap (model.AndTree (filled (view t) input item)) (values_shown input item ts)

-- the values of the elements that are gone through, to the end
pub values_gone_through : (input : model.Tree) (item : Option Item) (ts : List Template) (i : ℕ) (vs : List code.Tree) → length ts ≤ i → map trees.view vs ≡ map (λ t. filled (view t) input item) (take i ts) → trees.elements_view vs ≡ elements_filled (elements_view ts) input item
values_gone_through input item ts i vs end e = ap model.trees_of (e ∙ ap (map (λ t. filled (view t) input item)) (take_all i ts end)) ∙ values_shown input item ts

-- ---- fields

sorted_behind : (done left : List Entry) → IsStrictlySortedBy string_cmp (keys_of (done ++ left)) → IsStrictlySortedBy string_cmp (keys_of left)
unfolding IsStrictlySortedBy
sorted_behind [] left h = h
sorted_behind (d ∷ done) left h = sorted_behind done left h.1

-- what is less than each of the names comes before each field
each_above : (n : String Global) (es : List Entry) → AllByRecursion (λ y. string_cmp n y ≡ Less) (keys_of es) → IsTrue (before_each (string_bytes n) (entries_view es))
each_above n [] h = refl
each_above n (e ∷ es) h = and_from (comes_before (string_bytes n) (string_bytes e.0)) (before_each (string_bytes n) (entries_view es)) (ap (λ o. match_ordering o true false false) h.0) (each_above n es h.1)

-- a name of a map comes before those behind it
pub before_later : (done : List Entry) (e : Entry) (more : List Entry) → IsStrictlySortedBy string_cmp (keys_of (done ++ e ∷ more)) → IsTrue (before_each (string_bytes e.0) (entries_view more))
unfolding IsStrictlySortedBy
before_later done e more h = each_above e.0 more (sorted_behind done (e ∷ more) h).0

-- the value of a field whose name comes last goes last
pub value_last : (input : model.Tree) (item : Option Item) (done : List Entry) (e : Entry) (more : List Entry) → IsStrictlySortedBy string_cmp (keys_of (done ++ e ∷ more))
    → put (string_bytes e.0) (filled (view e.1) input item) (fields_filled (entries_view done) input item) ≡ fields_filled (entries_view (done ++ e ∷ [])) input item
unfolding IsStrictlySortedBy
value_last input item [] e more h = refl
value_last input item (d ∷ done) e more h =
    let above = after_first d done e more h.0 in
    rw above (ap (model.AndField (string_bytes d.0) (filled (view d.1) input item)) (value_last input item done e more h.1))
