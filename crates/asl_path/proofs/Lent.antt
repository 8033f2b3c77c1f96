-- What a map or a vector lends to be written, and what it is then.
use Rattle.std.proofs.Common.{◌≡◌, ℕ, ◌<◌, List, Bool, Option, Some, None, option_map, String, Global, string_bytes, string_cmp, nat_cmp, MutBor, length, get_or, sym, ap, ◌∙◌}
use Rattle.std.specs.BTreeMap.{is_at}
use Rattle.std.specs.Cmp.Lexicographic.{slice_cmp}
use Rattle.std.specs.List.Sorted.{IsStrictlySortedBy}
use Rattle.std.specs.Map.{keys_of, lookup, set_value}
use Rattle.std.specs.Option.{option_copied_mut}
use Rattle.asl_model.specs.Placing.{set_field}
use Rattle.asl_model.specs.Tree.{element, field_named}
use Rattle.asl_path.proofs.Fields.{set_value-same, set_value-set_field}
use Rattle.asl_path.proofs.Nodes.{element_within, view-lookup}
use Rattle.asl_tree.proofs.Views.{Entry}
use Rattle.asl_tree.specs.View.{view, elements_view, entries_view}
use Rattle.asl_tree.specs.declared.Tree.{Tree}

-- the test of keys by which a name is looked up
abbrev pub named : List ℕ → String Global → Bool
named name = is_at (λ (k : String Global). slice_cmp nat_cmp name (string_bytes k))

-- a field that is lent is the field of that name
pub lent_field : (name key : List ℕ) (es : List Entry) (r : Option (MutBor Tree)) (x : MutBor Tree) → key ≡ name → option_copied_mut r ≡ lookup (named key) es → r ≡ Some x → field_named name (entries_view es) ≡ Some (view x.now)
lent_field name key es r x same value is =
    let found : lookup (named name) es ≡ Some x.now = rw (← same) (sym value ∙ ap option_copied_mut is) in
    sym (view-lookup name es) ∙ ap (option_map view) found

-- where none is lent, there is no field of that name
pub no_field : (name key : List ℕ) (es : List Entry) (r : Option (MutBor Tree)) → key ≡ name → option_copied_mut r ≡ lookup (named key) es → r ≡ None → field_named name (entries_view es) ≡ None
no_field name key es r same value is =
    let none : lookup (named name) es ≡ None = rw (← same) (sym value ∙ ap option_copied_mut is) in
    sym (view-lookup name es) ∙ ap (option_map view) none

-- after the field was written it is set
pub written_field : (name key : List ℕ) (es new : List Entry) (r : Option (MutBor Tree)) (x : MutBor Tree) (w : Tree) → key ≡ name → option_copied_mut r ≡ lookup (named key) es → r ≡ Some x → IsStrictlySortedBy string_cmp (keys_of es) → new ≡ set_value (named key) es w
    → entries_view new ≡ set_field name (view w) (entries_view es)
written_field name key es new r x w same value is ordered written =
    let found : lookup (named name) es ≡ Some x.now = rw (← same) (sym value ∙ ap option_copied_mut is) in
    ap entries_view (written ∙ ap (λ k. set_value (named k) es w) same) ∙ set_value-set_field name w x.now es ordered found

-- a field that was written with what it was stays
pub rewritten_field : (key : List ℕ) (es new : List Entry) (r : Option (MutBor Tree)) (x : MutBor Tree) (w : Tree) → option_copied_mut r ≡ lookup (named key) es → r ≡ Some x → new ≡ set_value (named key) es w → view w ≡ view x.now → entries_view new ≡ entries_view es
rewritten_field key es new r x w value is written same =
    let found : lookup (named key) es ≡ Some x.now = sym value ∙ ap option_copied_mut is in
    ap entries_view written ∙ set_value-same (named key) w x.now es found same

-- an element that is lent is the element at that place
pub lent_element : (i : ℕ) (ts : List Tree) (x : MutBor Tree) → i < length ts → x.now ≡ get_or ts i x.now → element i (elements_view ts) ≡ Some (view x.now)
lent_element i ts x within value = sym (ap (λ t. Some (view t)) value ∙ element_within ts i x.now within)
