-- A map's look-up by a key finds what the fields, or the mentions, that the map shows have under that name.
use Rattle.std.proofs.Common.{◌≡◌, ℕ, Bool, true, false, cond, List, [], ◌∷◌, Option, Some, None, Bor, String, string_bytes, option_map, is_some, ap, ◌||◌, map, refl, ◌∙◌, sym}
use Rattle.std.specs.declared.alloc.Global.{Global}
use Rattle.std.specs.BTreeMap.{is_at}
use Rattle.std.specs.Cmp.Lexicographic.{slice_cmp}
use Rattle.std.specs.Map.{lookup}
use Rattle.std.specs.Option.{option_copied}
use Rattle.std.specs.Ordering.{nat_cmp}
use Rattle.std.specs.String.{string_cmp}
use Rattle.asl_model.specs.Tree.{field_named}
use Rattle.asl_model.specs.Shape as model
use Rattle.asl_model.specs.Shape.{mentions}
use Rattle.asl_model.specs.ShapeOrder.{mention_of}
pub use Rattle.asl_tree.proofs.Values.{same_name, picked}
use Rattle.asl_tree.specs.declared.Tree.{Tree}
use Rattle.asl_tree.specs.View as trees
use Rattle.asl_shape.specs.declared.shape.Field.{Field}
use Rattle.asl_shape.specs.Spelled.{tree_there, member_named}
use Rattle.asl_shape.specs.View.{view, fields_view, mentions_of}

pub field_named_lookup : (q : List ℕ) (es : List (String Global × Tree)) → field_named q (trees.entries_view es) ≡ option_map trees.view (lookup (is_at (λ k. slice_cmp nat_cmp q (string_bytes k))) es)
field_named_lookup q [] = refl
field_named_lookup q (e ∷ es) =
    rw (same_name q (string_bytes e.0), field_named_lookup q es) (picked trees.view e.1 _ _)

found : {A : Type 0} (x : A) (b : Bool) (s : Option A) → b || is_some s ≡ is_some (cond b (Some x) s)
found x true s = refl
found x false s = refl

-- in the mentions by which the values of a map are shown
pub shown_lookup : {X : Type 0} (show : X → Bool × model.Shape) (k : String Global) (es : List (String Global × X)) → mentions (string_bytes k) (mentions_of (map (λ e. (e.0, show e.1)) es)) ≡ is_some (lookup (is_at (string_cmp k)) es)
shown_lookup show k [] = refl
shown_lookup show k (e ∷ es) =
    rw (same_name (string_bytes k) (string_bytes e.0), shown_lookup show k es) (found e.1 _ _)

pub mentions_lookup : (k : String Global) (ms : List (String Global × Field)) → mentions (string_bytes k) (fields_view ms) ≡ is_some (lookup (is_at (string_cmp k)) ms)
mentions_lookup k ms = shown_lookup (λ f. (f.needed, view f.shape)) k ms

pub mention_of_lookup : (k : String Global) (ms : List (String Global × Field)) → mention_of (string_bytes k) (fields_view ms) ≡ option_map (λ m. (m.needed, view m.shape)) (lookup (is_at (string_cmp k)) ms)
mention_of_lookup k [] = refl
mention_of_lookup k (m ∷ ms) =
    rw (same_name (string_bytes k) (string_bytes m.0), mention_of_lookup k ms) (picked (λ (m : Field). (m.needed, view m.shape)) m.1 _ _)

there : (o : Option (Bor Tree)) → tree_there o ≡ option_map trees.view (option_copied o)
there None = refl
there (Some t) = refl

-- what a look-up in a map gives is what its fields have
pub member_named_lookup : (q : List ℕ) (es : List (String Global × Tree)) (o : Option (Bor Tree)) → option_copied o ≡ lookup (is_at (λ k. slice_cmp nat_cmp q (string_bytes k))) es → tree_there o ≡ member_named q es
member_named_lookup q es o is = there o ∙ ap (option_map trees.view) is ∙ sym (field_named_lookup q es)
