-- What one step leads to, and what a path names.
use Rattle.std.proofs.Common.{◌≡◌, ℕ, zero, suc, List, [], ◌∷◌, Bool, true, false, cond, Option, Some, None, option_map, option_and_then, bytes_eq, Bor, String, Global, string_bytes, nat_cmp, refl, sym, ap, subst, ◌∙◌, rules, arith, Vec, BTreeMap, length, get_or, drop, take, ◌-◌, drop-cons, is_some, IfSome, ◌<◌, ◌≤◌}
use borrow.Author.Tests.{ltb-true, ltb-false}
use lib.Dec.{ltb}
use Rattle.std.proofs.lemmas.List.{drop_all, take_all}
use Rattle.std.proofs.lemmas.Map.Text.{is_eq-slice_cmp}
use Rattle.std.proofs.lemmas.Slice.Eq.{bytes_eq-Decides}
use Rattle.std.specs.BTreeMap.{is_at}
use Rattle.std.specs.Cmp.Lexicographic.{slice_cmp}
use Rattle.std.specs.Map.{lookup}
use Rattle.asl_model.specs.Path.{Segment, Name, Index, child, named_by, Names, names_itself, names_in_field, names_in_element}
use Rattle.asl_model.specs.Tree as model
use Rattle.asl_model.specs.Tree.{element, field_named}
use Rattle.asl_tree.specs.View.{view, elements_view, entries_view}
use Rattle.asl_tree.specs.declared.Tree.{Tree, List as list_tree, Object as object_tree, the_lemmas}
use Rattle.asl_path.specs.View.{segment_view, segments_view}
use Rattle.asl_path.specs.declared.Segment as code

abbrev Entry : Type 0
Entry = String Global × Tree

-- the test of two texts in either order
turned : (a b : Bool) (n m : List ℕ) → bytes_eq n m ≡ a → bytes_eq m n ≡ b → a ≡ b
turned true true n m e f = refl
turned false false n m e f = refl
turned true false n m e f = sym ((bytes_eq-Decides m n).1 (sym ((bytes_eq-Decides n m).0 e))) ∙ f
turned false true n m e f = sym e ∙ (bytes_eq-Decides n m).1 (sym ((bytes_eq-Decides m n).0 f))

first_or : (a b : Bool) (t : Tree) (rest : Option Tree) (d : Option model.Tree) → a ≡ b → option_map view rest ≡ d → option_map view (cond a (Some t) rest) ≡ cond b (Some (view t)) d
first_or true true t rest d e f = refl
first_or false false t rest d e f = f
first_or true false t rest d e f = absurd (cc)
first_or false true t rest d e f = absurd (cc)

-- looking a name up in a map finds the field of that name
pub view-lookup : (name : List ℕ) (es : List Entry) → option_map view (lookup (is_at (λ k. slice_cmp nat_cmp name (string_bytes k))) es) ≡ field_named name (entries_view es)
view-lookup name [] = refl
view-lookup name (e ∷ es) = first_or _ _ e.1 _ _ (is_eq-slice_cmp name (string_bytes e.0) ∙ turned _ _ name (string_bytes e.0) refl refl) (view-lookup name es)

pub element_within : (ts : List Tree) (i : ℕ) (d : Tree) → i < length ts → Some (view (get_or ts i d)) ≡ element i (elements_view ts)
element_within [] i d h = absurd (omega arith)
element_within (t ∷ ts) zero d h = refl
element_within (t ∷ ts) (suc i) d h = element_within ts i d (omega arith)

pub element_past : (ts : List Tree) (i : ℕ) → length ts ≤ i → None ≡ element i (elements_view ts)
element_past [] i h = refl
element_past (t ∷ ts) zero h = absurd (omega arith)
element_past (t ∷ ts) (suc i) h = element_past ts i (omega arith)

-- getting an element of a list gets the element at that place
pub view-get : (ts : List Tree) (i : ℕ) (r : Option (Bor Tree)) → is_some r ≡ ltb i (length ts) → IfSome r (λ x. x.now ≡ get_or ts i x.now) → option_map (λ x. view x.now) r ≡ element i (elements_view ts)
view-get ts i None e h = element_past ts i (ltb-false i (length ts) (sym e))
view-get ts i (Some x) e h = ap (λ t. Some (view t)) h ∙ element_within ts i x.now (ltb-true i (length ts) (sym e))

view-List : (v : Vec Tree Global) → view (list_tree v) ≡ model.Array (elements_view v.items)
view-List v = search (rules, the_lemmas)

view-Object : (m : BTreeMap (String Global) Tree) → view (object_tree m) ≡ model.Object (entries_view m.entries)
view-Object m = search (rules, the_lemmas)

pub field_child : (t : Tree) (m : BTreeMap (String Global) Tree) (s : code.Segment) (n : String Global) → t ≡ object_tree m → s ≡ code.TheVariants.Name n → field_named (string_bytes n) (entries_view m.entries) ≡ child (segment_view s) (view t)
field_child t m s n e f = rw (e, f, view-Object m) refl

pub element_child : (t : Tree) (v : Vec Tree Global) (s : code.Segment) (i : ℕ) → t ≡ list_tree v → s ≡ code.TheVariants.Index i → element i (elements_view v.items) ≡ child (segment_view s) (view t)
element_child t v s i e f = rw (e, f, view-List v) refl

pub view_of_ref : (r : Option (Bor Tree)) → option_map (λ x. view x.now) r ≡ option_map view (option_map (λ x. x.now) r)
view_of_ref None = refl
view_of_ref (Some x) = refl

-- the first step and what is behind it are the path
pub first_and_rest : (items : List code.Segment) (s : code.Segment) (m : Segment) → 1 ≤ length items → s ≡ get_or items 0 s → segment_view s ≡ m → m ∷ segments_view (take (length items - 1) (drop 1 items)) ≡ segments_view items
first_and_rest [] s m some is seen = absurd (omega arith)
first_and_rest (x ∷ items) s m some is seen =
    let all : take (length (x ∷ items) - 1) items ≡ items = take_all (length (x ∷ items) - 1) items (omega arith) in
    rw all (ap (λ y. y ∷ segments_view items) (sym seen ∙ ap segment_view is))

-- ---- what a path names, by cases

found_field : (n : List ℕ) (p : List Segment) (fs : model.Fields) (w : model.Tree) (u : Option model.Tree) → field_named n fs ≡ u → option_and_then (named_by p) u ≡ Some w
    → ((v : model.Tree) → named_by p v ≡ Some w → Names p v w) → Names (Name n ∷ p) (model.Object fs) w
found_field n p fs w None is e further = absurd (cc)
found_field n p fs w (Some u) is e further = names_in_field is (further u e)

found_element : (i : ℕ) (p : List Segment) (ts : model.Trees) (w : model.Tree) (u : Option model.Tree) → element i ts ≡ u → option_and_then (named_by p) u ≡ Some w
    → ((v : model.Tree) → named_by p v ≡ Some w → Names p v w) → Names (Index i ∷ p) (model.Array ts) w
found_element i p ts w None is e further = absurd (cc)
found_element i p ts w (Some u) is e further = names_in_element is (further u e)

-- the tree that the function gives is one that the path names
pub names_found : (p : List Segment) (v w : model.Tree) → named_by p v ≡ Some w → Names p v w
names_found [] v w e = let same : v ≡ w = cc in subst (λ x. Names [] v x) same names_itself
names_found (Name n ∷ p) (model.Object fs) w e = found_field n p fs w (field_named n fs) refl e (λ v f. names_found p v w f)
names_found (Index i ∷ p) (model.Array ts) w e = found_element i p ts w (element i ts) refl e (λ v f. names_found p v w f)
names_found (Name n ∷ p) model.Null w e = absurd (cc)
names_found (Name n ∷ p) (model.Boolean b) w e = absurd (cc)
names_found (Name n ∷ p) (model.Integer i) w e = absurd (cc)
names_found (Name n ∷ p) (model.Text t) w e = absurd (cc)
names_found (Name n ∷ p) (model.Array ts) w e = absurd (cc)
names_found (Index i ∷ p) model.Null w e = absurd (cc)
names_found (Index i ∷ p) (model.Boolean b) w e = absurd (cc)
names_found (Index i ∷ p) (model.Integer n) w e = absurd (cc)
names_found (Index i ∷ p) (model.Text t) w e = absurd (cc)
names_found (Index i ∷ p) (model.Object fs) w e = absurd (cc)

-- a tree that the path names is the one that the function gives
pub found_named : (p : List Segment) (v w : model.Tree) → Names p v w → named_by p v ≡ Some w
found_named [] v w names_itself = refl
found_named (Name n ∷ q) v w (names_in_field is rest) = rw is (found_named q _ w rest)
found_named (Index i ∷ q) v w (names_in_element is rest) = rw is (found_named q _ w rest)

-- where a step leads nowhere, the path names nothing
pub no_further : (p : List Segment) (v node : model.Tree) (items : List code.Segment) (i : ℕ) (s : code.Segment) (r : Option (Bor Tree)) → named_by p v ≡ named_by (segments_view (drop i items)) node
    → i < length items → s ≡ get_or items i s → option_map (λ t. view t.now) r ≡ child (segment_view s) node → r ≡ None → named_by p v ≡ None
no_further p v node items i s r so_far within is step none =
    let here : child (segment_view (get_or items i s)) node ≡ None = ap (λ x. child (segment_view x) node) (sym is) ∙ sym step ∙ ap (option_map (λ t. view t.now)) none in
    so_far ∙ rw (drop-cons items i s within, here) refl

-- at the end of the path stands what it names
pub named_at_end : (p : List Segment) (v node : model.Tree) (items : List code.Segment) (i : ℕ) → named_by p v ≡ named_by (segments_view (drop i items)) node → length items ≤ i → named_by p v ≡ Some node
named_at_end p v node items i so_far end = so_far ∙ rw (drop_all i items end) refl
