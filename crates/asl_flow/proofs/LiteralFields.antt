-- The shapes of the elements and fields of a value that stands for itself.
use Rattle.std.proofs.Common.{◌≡◌, ℕ, ◌≤◌, List, [], ◌∷◌, ◌++◌, length, take, Vec, String, Global, string_bytes, string_cmp, true, refl, sym, ap, ◌∙◌, subst, rules}
use Rattle.std.proofs.lemmas.List.{append-nil, take_all}
use Rattle.std.specs.List.Sorted.{IsStrictlySortedBy}
use Rattle.std.specs.Map.{keys_of}
use Rattle.asl_model.specs.Shape as model
use Rattle.asl_model.specs.ShapeFlow.{literal, literals, literal_fields}
use Rattle.asl_model.specs.ShapeOrder.{set_mention}
use Rattle.asl_numbered.specs.declared.node.NodeField.{NodeField}
use Rattle.asl_numbered.specs.Expansion.{AreNumbersOf, AreFieldsOf}
use Rattle.asl_tree.specs.View as trees
use Rattle.asl_tree.specs.declared.Tree.{Tree, the_lemmas}
use Rattle.asl_tree.specs.declared.Tree as tree
use Rattle.asl_flow.proofs.Composed.{shapes_by}
use Rattle.asl_flow.proofs.Needed.{needed_by, set_in_order}
use Rattle.asl_numbered.specs.Names.{Name}

-- the shape of a tree that stands for itself
abbrev pub of_itself : Tree → model.Shape
of_itself t = literal (trees.view t)

elements_shown : (ts : List Tree) → shapes_by of_itself ts ≡ literals (trees.elements_view ts)
elements_shown [] = refl
elements_shown (t ∷ ts) = ap (model.AndShape (of_itself t)) (elements_shown ts)

-- the elements' numbers, once all are gone through
pub elements_end : (table : List model.Shape) (ts : List Tree) (i : ℕ) (ns : List ℕ) → length ts ≤ i → AreNumbersOf table (shapes_by of_itself (take i ts)) ns → AreNumbersOf table (literals (trees.elements_view ts)) ns
elements_end table ts i ns end are = subst (λ ss. AreNumbersOf table ss ns) (ap (shapes_by of_itself) (take_all i ts end) ∙ elements_shown ts) are

-- the fields' shapes, where the names are in order
fields_shown : (es : List (String Global × Tree)) → IsStrictlySortedBy string_cmp (keys_of es) → literal_fields (trees.entries_view es) ≡ needed_by of_itself es
unfolding IsStrictlySortedBy
fields_shown [] h = refl
fields_shown (e ∷ es) h = ap (set_mention (string_bytes e.0) true (of_itself e.1)) (fields_shown es h.1) ∙ set_in_order of_itself e.0 (of_itself e.1) es h.0

-- the fields' numbers, once all are gone through
pub fields_end : (table : List model.Shape) (all done left : List (String Global × Tree)) (fs : List (Name × NodeField)) → all ≡ done ++ left → left ≡ [] → IsStrictlySortedBy string_cmp (keys_of all) → AreFieldsOf table (needed_by of_itself done) fs → AreFieldsOf table (literal_fields (trees.entries_view all)) fs
fields_end table all done left fs split none sorted are =
    let whole : all ≡ done = split ∙ ap (λ es. done ++ es) none ∙ append-nil done in
    subst (λ ms. AreFieldsOf table ms fs) (ap (needed_by of_itself) (sym whole) ∙ sym (fields_shown all sorted)) are

-- the shape of a list
pub list_shown : (elements : Vec Tree Global) → literal (trees.view (tree.List elements)) ≡ model.ArrayShape (literals (trees.elements_view elements.items)) model.Never
list_shown elements = search (rules, the_lemmas)
