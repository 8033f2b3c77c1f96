-- Trees whose JSON values are read as them again.
use Rattle.std.proofs.Common.{◌≡◌, List, [], ◌∷◌, Some, option_map, String, Vec, BTreeMap, Global, refl, sym, ap, ◌∙◌}
use Rattle.serde_json.proofs.Views.{view-Array, view-Object}
use Rattle.serde_json.specs.Data as json
use Rattle.serde_json.specs.View.{view as json_view}
use Rattle.serde_json.specs.View.{items_view, members_view}
use Rattle.serde_json.specs.declared.value.Value.{Value}
use Rattle.serde_json.specs.declared.value.Value as value
use Rattle.asl_model.specs.Json.{tree_of, elements_of, members_of, value_of, items_of, members_for}
use Rattle.asl_model.specs.Tree as model
use Rattle.asl_tree.specs.View.{view, view_step, elements_view, entries_view}
use Rattle.asl_tree.specs.Whole.{IsWhole, AreWhole, HaveWholeValues}
use Rattle.asl_tree.specs.declared.Tree.{Tree}
use Rattle.asl_tree.specs.declared.Tree as tree
use Rattle.asl_tree.specs.declared.Tree.TheFolds.{fold-roll-Tree}
use Rattle.asl_tree.specs.declared.Tree.TheOpen
use Rattle.asl_tree.specs.declared.Tree.TheVariants
use Rattle.asl_tree.proofs.Views.{Entry}

-- what is known of a value is known of that of its tree
pub whole_value : (t : model.Tree) (v : Value) → json_view v ≡ value_of t → tree_of (json_view v) ≡ Some t → tree_of (value_of t) ≡ Some t
whole_value t v same back = ap tree_of (sym same) ∙ back

pub and_whole : (e : Entry) (es now : List Entry) → now ≡ e ∷ es → IsWhole e.1 → HaveWholeValues es → HaveWholeValues now
and_whole e es now split h others = rw split (record { whole = (h, others.whole) })

-- trees that are whole make up a whole array, and a whole object
pub elements_whole : (ts : List Tree) → AreWhole ts → elements_of (items_of (elements_view ts)) ≡ Some (elements_view ts)
elements_whole [] h = refl
elements_whole (t ∷ ts) h = rw (h.whole.0, elements_whole ts (record { whole = h.whole.1 })) refl

pub members_whole : (es : List Entry) → HaveWholeValues es → members_of (members_for (entries_view es)) ≡ Some (entries_view es)
members_whole [] h = refl
members_whole (e ∷ es) h = rw (h.whole.0, members_whole es (record { whole = h.whole.1 })) refl

-- ---- what a list and an object show

pub view_list : (elements : Vec Tree Global) → view (tree.List elements) ≡ model.Array (elements_view elements.items)
view_list elements = ap view (sym (TheVariants.rolls-List elements)) ∙ fold-roll-Tree model.Tree view_step (TheOpen.List elements)

pub view_object : (fields : BTreeMap (String Global) Tree) → view (tree.Object fields) ≡ model.Object (entries_view fields.entries)
view_object fields = ap view (sym (TheVariants.rolls-Object fields)) ∙ fold-roll-Tree model.Tree view_step (TheOpen.Object fields)

pub list_back : (items : Vec Value Global) (elements : Vec Tree Global) → items_view items.items ≡ items_of (elements_view elements.items) → AreWhole elements.items → tree_of (json_view (value.Array items)) ≡ Some (view (tree.List elements))
list_back items elements same h =
    ap tree_of (view-Array items ∙ ap json.array same)
    ∙ ap (option_map model.Array) (elements_whole elements.items h)
    ∙ ap Some (sym (view_list elements))

pub object_back : (members : BTreeMap (String Global) Value) (fields : BTreeMap (String Global) Tree) → members_view members.entries ≡ members_for (entries_view fields.entries) → HaveWholeValues fields.entries → tree_of (json_view (value.Object members)) ≡ Some (view (tree.Object fields))
object_back members fields same h =
    ap tree_of (view-Object members ∙ ap json.object same)
    ∙ ap (option_map model.Object) (members_whole fields.entries h)
    ∙ ap Some (sym (view_object fields))
