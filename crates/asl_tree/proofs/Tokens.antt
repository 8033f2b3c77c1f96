-- What is printed for a tree's tokens, and what that reads as.
use Rattle.std.proofs.Common.{◌≡◌, ℕ, suc, ◌<◌, ◌≤◌, ◌^◌, max, List, [], ◌∷◌, ◌++◌, Some, option_map, option_and_then, IsUtf8, ℤ, pos, negsuc, FitsSigned, w64, String, Vec, BTreeMap, Global, string_bytes, string_cmp, refl, sym, ap, ap₂, ◌∙◌, subst, append_assoc, append-nil, lt-ltb, arith}
use Rattle.std.specs.List.Sorted.{IsStrictlySortedBy}
use Rattle.std.specs.Map.{keys_of}
use Rattle.json.specs.Lex.{tokens}
use Rattle.json.specs.Json as json
use Rattle.json.specs.Print.{print}
use Rattle.json.specs.Tree as json_tree
use Rattle.json.proofs.Printed.Trees.{value-json_tokens}
use Rattle.serde_json.proofs.Numbers.{number_of-decimal, number_of-negative}
use Rattle.serde_json.proofs.Texts.{print-outline}
use Rattle.serde_json.specs.Data.{Data, Items, Members, null, boolean, number, string, array, object, no_items, item, no_members, member, put, depth, items_depth, members_depth}
use Rattle.serde_json.specs.Read.{max_depth, of_json, of_items, of_members}
use Rattle.serde_json.specs.Written.{outline, items_outline, members_outline}
use Rattle.asl_model.specs.Json.{ReadsAsTree, value_of, items_of, members_for, compact_text}
use Rattle.asl_model.specs.Tree as model
use Rattle.asl_tree.specs.View.{view, elements_view, entries_view}
use Rattle.asl_tree.specs.Whole.{AreWhole, HaveWholeValues}
use Rattle.asl_tree.specs.Written.{tree_tokens, ReadsBack, AllReadBack, ValuesReadBack}
use Rattle.asl_tree.specs.declared.Tree.{Tree}
use Rattle.asl_tree.specs.declared.Tree as tree
use Rattle.asl_tree.proofs.Texts.{put_last_for}
use Rattle.asl_tree.proofs.Views.{Entry}
use Rattle.asl_tree.proofs.Wholes.{elements_whole, members_whole, view_list, view_object}

-- what is printed for a tree's tokens is its compact text
pub print_tree_tokens : (t : model.Tree) → print (tree_tokens t) ≡ compact_text t
print_tree_tokens t = print-outline (value_of t)

-- ---- a text of a tree's tokens reads as the tree

mutual
  depth-outline : (d : Data) → json_tree.depth (outline d) ≡ depth d
  depth-outline null = refl
  depth-outline (boolean b) = refl
  depth-outline (number n) = refl
  depth-outline (string s) = refl
  depth-outline (array ds) = ap suc (items_depth-outline ds)
  depth-outline (object ms) = ap suc (members_depth-outline ms)

  items_depth-outline : (ds : Items) → json_tree.items_depth (items_outline ds) ≡ items_depth ds
  items_depth-outline no_items = refl
  items_depth-outline (item d ds) = ap₂ max (depth-outline d) (items_depth-outline ds)

  members_depth-outline : (ms : Members) → json_tree.members_depth (members_outline ms) ≡ members_depth ms
  members_depth-outline no_members = refl
  members_depth-outline (member k d ms) = ap₂ max (depth-outline d) (members_depth-outline ms)

-- a text of these tokens reads as the tree
pub reads_as_tree : (text : List ℕ) (t : model.Tree) → IsUtf8 text → tokens text ≡ tree_tokens t → ReadsBack t → depth (value_of t) ≤ max_depth → ReadsAsTree text t
reads_as_tree text t utf8 same back shallow =
    let j = outline (value_of t) in
    let parsed = ap (json.value max_depth) (same ∙ sym (append-nil _)) ∙ value-json_tokens j max_depth [] (omega (arith, depth-outline (value_of t))) in
    (value_of t, (utf8, ap (λ o. option_and_then of_json (option_and_then (λ p. json.if_last p.0 p.1) o)) parsed ∙ back.value), back.tree)

-- ---- which trees read back

pub integer_back : (n : ℤ) → FitsSigned w64 n → ReadsBack (model.Integer n)
integer_back (pos n) fits =
    let small : n < 2 ^ 63 = grind arith in
    record { value = ap (option_map number) (number_of-decimal n (omega arith)); tree = rw (lt-ltb _ _ small) refl }
integer_back (negsuc n) fits = record { value = ap (option_map number) (number_of-negative n (grind arith)); tree = refl }

all_whole : (ts : List Tree) → AllReadBack ts → AreWhole ts
all_whole [] h = record { whole = tt }
all_whole (t ∷ ts) h = record { whole = (h.each.0.tree, (all_whole ts (record { each = h.each.1 })).whole) }

values_whole : (es : List Entry) → ValuesReadBack es → HaveWholeValues es
values_whole [] h = record { whole = tt }
values_whole (e ∷ es) h = record { whole = (h.each.0.tree, (values_whole es (record { each = h.each.1 })).whole) }

items_back : (ts : List Tree) → AllReadBack ts → of_items (items_outline (items_of (elements_view ts))) ≡ Some (items_of (elements_view ts))
items_back [] h = refl
items_back (t ∷ ts) h = rw (h.each.0.value, items_back ts (record { each = h.each.1 })) refl

-- the fields that are left are put behind those before them
members_back : (done left : List Entry) → IsStrictlySortedBy string_cmp (keys_of (done ++ left)) → ValuesReadBack left
    → of_members (members_outline (members_for (entries_view left))) (members_for (entries_view done)) ≡ Some (members_for (entries_view (done ++ left)))
members_back done [] sorted h = ap (λ es. Some (members_for (entries_view es))) (sym (append-nil done))
members_back done (e ∷ left) sorted h =
    let split = append_assoc done (e ∷ []) left in
    ap (option_and_then (λ d. of_members (members_outline (members_for (entries_view left))) (put (string_bytes e.0) d (members_for (entries_view done))))) h.each.0.value
    ∙ ap (of_members (members_outline (members_for (entries_view left)))) (put_last_for done e left sorted)
    ∙ members_back (done ++ e ∷ []) left (subst (λ es. IsStrictlySortedBy string_cmp (keys_of es)) (sym split) sorted) (record { each = h.each.1 })
    ∙ ap (λ es. Some (members_for (entries_view es))) split

pub list_back : (elements : Vec Tree Global) → AllReadBack elements.items → ReadsBack (view (tree.List elements))
list_back elements h =
    let ts = elements.items in
    subst ReadsBack (sym (view_list elements)) (record { value = ap (option_map array) (items_back ts h); tree = ap (option_map model.Array) (elements_whole ts (all_whole ts h)) })

pub object_back : (fields : BTreeMap (String Global) Tree) → IsStrictlySortedBy string_cmp (keys_of fields.entries) → ValuesReadBack fields.entries → ReadsBack (view (tree.Object fields))
object_back fields sorted h =
    let es = fields.entries in
    subst ReadsBack (sym (view_object fields)) (record { value = ap (option_map object) (members_back [] es sorted h); tree = ap (option_map model.Object) (members_whole es (values_whole es h)) })
