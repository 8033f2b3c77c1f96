-- What a list shape, an object shape and a list show.
use Rattle.std.proofs.Common.{◌≡◌, ℤ, List, [], ◌∷◌, map, Bool, ap, refl, sym, ◌∙◌, String, string_bytes, Vec, Box}
use Rattle.std.specs.BTreeMap.{BTreeMap}
use Rattle.std.specs.declared.alloc.Global.{Global}
use Rattle.asl_model.specs.Tree as trees
use Rattle.asl_model.specs.Shape as model
use Rattle.asl_tree.specs.declared.Tree as tree
use Rattle.asl_tree.specs.declared.Tree.TheFolds.{fold-roll-Tree}
use Rattle.asl_tree.specs.declared.Tree.TheOpen as TreeOpen
use Rattle.asl_tree.specs.declared.Tree.TheVariants as TreeVariants
use Rattle.asl_tree.specs.View as tree_view
use Rattle.asl_shape.specs.declared.shape.Field.{Field}
use Rattle.asl_shape.specs.declared.shape.Shape.{Shape}
use Rattle.asl_shape.specs.declared.shape.Shape as shape
use Rattle.asl_shape.specs.declared.shape.Shape.TheFolds.{fold-roll-Shape, fold-Field, fold_out-Field}
use Rattle.asl_shape.specs.declared.shape.Shape.TheOpen
use Rattle.asl_shape.specs.declared.shape.Shape.TheVariants
use Rattle.asl_shape.specs.declared.shape.Shape.TheViews
use Rattle.asl_shape.specs.View.{view, shapes_view, fields_view, mentions_of, merged, shape_step, field_step}

pub view_list : (first : Vec Shape Global) (rest : Box Shape Global) → view (TheViews.List first rest) ≡ model.ArrayShape (shapes_view first.items) (view rest.value)
view_list first rest =
    ap view (sym (TheVariants.rolls-List first rest)) ∙ fold-roll-Shape model.Shape (Bool × model.Shape) shape_step field_step (TheOpen.List first rest)

-- a field that is opened by its fold shows what it holds
mentions_shown : (ms : List (String Global × Field)) → mentions_of (map (λ m. (m.0, fold-Field model.Shape (Bool × model.Shape) shape_step field_step m.1)) ms) ≡ fields_view ms
mentions_shown [] = refl
mentions_shown (m ∷ ms) =
    rw (fold_out-Field model.Shape (Bool × model.Shape) shape_step field_step m.1, mentions_shown ms) refl

pub view_object : (fields : BTreeMap (String Global) Field) (extra : Bool) → view (TheViews.Object fields extra) ≡ model.ObjectShape (fields_view fields.entries) extra
view_object fields extra =
    ap view (sym (TheVariants.rolls-Object fields extra)) ∙ fold-roll-Shape model.Shape (Bool × model.Shape) shape_step field_step (TheOpen.Object fields extra) ∙ ap (λ ms. model.ObjectShape ms extra) (mentions_shown fields.entries)

pub view_several : (parts : Vec Shape Global) → view (TheViews.Several parts) ≡ merged (map view parts.items)
view_several parts =
    ap view (sym (TheVariants.rolls-Several parts)) ∙ fold-roll-Shape model.Shape (Bool × model.Shape) shape_step field_step (TheOpen.Several parts)

pub view_array : (elements : Vec tree.Tree Global) → tree_view.view (tree.List elements) ≡ trees.Array (tree_view.elements_view elements.items)
view_array elements =
    ap tree_view.view (sym (TreeVariants.rolls-List elements)) ∙ fold-roll-Tree trees.Tree tree_view.view_step (TreeOpen.List elements)

pub view_members : (members : BTreeMap (String Global) tree.Tree) → tree_view.view (tree.Object members) ≡ trees.Object (tree_view.entries_view members.entries)
view_members members =
    ap tree_view.view (sym (TreeVariants.rolls-Object members)) ∙ fold-roll-Tree trees.Tree tree_view.view_step (TreeOpen.Object members)

pub view_truth : (b : Bool) → tree_view.view (tree.Bool b) ≡ trees.Boolean b
view_truth b = ap tree_view.view (sym (TreeVariants.rolls-Bool b)) ∙ fold-roll-Tree trees.Tree tree_view.view_step (TreeOpen.Bool b)

pub view_integer : (n : ℤ) → tree_view.view (tree.Int n) ≡ trees.Integer n
view_integer n = ap tree_view.view (sym (TreeVariants.rolls-Int n)) ∙ fold-roll-Tree trees.Tree tree_view.view_step (TreeOpen.Int n)

pub view_text : (s : String Global) → tree_view.view (tree.Text s) ≡ trees.Text (string_bytes s)
view_text s = ap tree_view.view (sym (TreeVariants.rolls-Text s)) ∙ fold-roll-Tree trees.Tree tree_view.view_step (TreeOpen.Text s)

pub view_any : view shape.Any ≡ model.Any
view_any =
    ap view (sym TheVariants.rolls-Any) ∙ fold-roll-Shape model.Shape (Bool × model.Shape) shape_step field_step TheOpen.Any

-- each simple shape shows the shape of its kind
pub view_bool : view shape.Bool ≡ model.BooleanShape
view_bool =
    ap view (sym TheVariants.rolls-Bool) ∙ fold-roll-Shape model.Shape (Bool × model.Shape) shape_step field_step TheOpen.Bool

pub view_int : view shape.Int ≡ model.IntegerShape
view_int =
    ap view (sym TheVariants.rolls-Int) ∙ fold-roll-Shape model.Shape (Bool × model.Shape) shape_step field_step TheOpen.Int

pub view_null : view shape.Null ≡ model.NullShape
view_null =
    ap view (sym TheVariants.rolls-Null) ∙ fold-roll-Shape model.Shape (Bool × model.Shape) shape_step field_step TheOpen.Null

pub view_string : view shape.Text ≡ model.StringShape
view_string =
    ap view (sym TheVariants.rolls-Text) ∙ fold-roll-Shape model.Shape (Bool × model.Shape) shape_step field_step TheOpen.Text
