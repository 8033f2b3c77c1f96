-- JSON values beside the trees that they are.
use Rattle.std.proofs.Common.{◌≡◌, ℕ, zero, suc, ◌<◌, List, [], ◌∷◌, ◌++◌, length, get_or, map, take, ◌≤◌, Option, Some, None, option_map, option_and_then, String, Global, Less, Greater, string_bytes, string_cmp, nat_cmp, refl, sym, ap, ◌∙◌, append-nil, arith}
use Rattle.std.proofs.lemmas.List.{take_all}
use Rattle.std.proofs.lemmas.Cmp.{nat_list_cmp_total}
use Rattle.std.specs.Cmp.Lexicographic.{slice_cmp}
use Rattle.std.specs.List.{AllByRecursion}
use Rattle.std.specs.List.Sorted.{IsStrictlySortedBy}
use Rattle.std.specs.Map.{keys_of}
use Rattle.std.specs.Ordering.{ordering_reverse}
use Rattle.serde_json.specs.Data as json
use Rattle.serde_json.specs.View.{view as json_view}
use Rattle.serde_json.specs.View.{items_view, members_view}
use Rattle.serde_json.specs.declared.value.Value.{Value}
use Rattle.asl_model.specs.Json.{tree_of, elements_of, members_of, value_of, items_of, members_for}
use Rattle.asl_model.specs.Tree as model
use Rattle.asl_tree.specs.View.{view, elements_view, entries_view}
use Rattle.asl_tree.specs.declared.Tree.{Tree}
use Rattle.asl_tree.proofs.Views.{Entry, put}

abbrev pub Member : Type 0
Member = String Global × Value

-- ---- elements

pub elements_given : (vs : List Value) (ts : List Tree) → map (λ v. tree_of (json_view v)) vs ≡ map (λ t. Some (view t)) ts → elements_of (items_view vs) ≡ Some (elements_view ts)
elements_given [] [] e = refl
elements_given [] (t ∷ ts) e = absurd (cc)
elements_given (v ∷ vs) [] e = absurd (cc)
elements_given (v ∷ vs) (t ∷ ts) e =
    let first : tree_of (json_view v) ≡ Some (view t) = cc in
    rw (first, elements_given vs ts (cc)) refl

no_rest : (f : model.Tree → model.Trees → model.Trees) (u : Option model.Tree) (g : Option model.Trees) → g ≡ None → option_and_then (λ t. option_map (f t) g) u ≡ None
no_rest f None g e = refl
no_rest f (Some u) g e = rw e refl

-- the elements gone through, to the end
pub elements_gone_through : (vs ws : List Value) (i : ℕ) (ts : List Tree) → ws ≡ vs → length ws ≤ i → map (λ v. tree_of (json_view v)) (take i ws) ≡ map (λ t. Some (view t)) ts → elements_of (items_view vs) ≡ Some (elements_view ts)
elements_gone_through vs ws i ts same end e = elements_given vs ts (ap (map (λ v. tree_of (json_view v))) (sym same ∙ sym (take_all i ws end)) ∙ e)

none_at : (vs : List Value) (i : ℕ) (d : Value) → i < length vs → tree_of (json_view (get_or vs i d)) ≡ None → elements_of (items_view vs) ≡ None
none_at [] i d h e = absurd (omega arith)
none_at (v ∷ vs) zero d h e = rw e refl
none_at (v ∷ vs) (suc i) d h e = no_rest model.AndTree (tree_of (json_view v)) _ (none_at vs i d (omega arith) e)

-- where one element is no tree, the array is none
pub elements_none : (vs ws : List Value) (i : ℕ) (v : Value) → ws ≡ vs → i < length ws → v ≡ get_or ws i v → tree_of (json_view v) ≡ None → elements_of (items_view vs) ≡ None
elements_none vs ws i v same within is none = rw (← same) (none_at ws i v within (ap (λ x. tree_of (json_view x)) (sym is) ∙ none))

-- the elements so far and one more
pub elements_more : (done : List Value) (v : Value) (ts : List Tree) (t : Tree) → map (λ v. tree_of (json_view v)) done ≡ map (λ t. Some (view t)) ts
    → tree_of (json_view v) ≡ Some (view t) → map (λ v. tree_of (json_view v)) (done ++ v ∷ []) ≡ map (λ t. Some (view t)) (ts ++ t ∷ [])
elements_more [] v [] t e is = rw is refl
elements_more [] v (x ∷ ts) t e is = absurd (cc)
elements_more (d ∷ done) v [] t e is = absurd (cc)
elements_more (d ∷ done) v (x ∷ ts) t e is =
    let first : tree_of (json_view d) ≡ Some (view x) = cc in
    rw (first, elements_more done v ts t (cc) is) refl

-- the elements so far, where none are left
pub elements_ended : (vs done left : List Value) (ts : List Tree) → vs ≡ done ++ left → length left ≡ 0 → map (λ v. tree_of (json_view v)) done ≡ map (λ t. Some (view t)) ts
    → elements_of (items_view vs) ≡ Some (elements_view ts)
elements_ended vs done [] ts all end e = rw (all ∙ append-nil done) (elements_given done ts e)
elements_ended vs done (v ∷ left) ts all end e = absurd (cc)

-- where one element is no tree, whatever stands in front of it and behind it
pub elements_lost : (done : List Value) (v : Value) (rest : List Value) → tree_of (json_view v) ≡ None → elements_of (items_view (done ++ v ∷ rest)) ≡ None
elements_lost [] v rest none = rw none refl
elements_lost (d ∷ done) v rest none = no_rest model.AndTree (tree_of (json_view d)) _ (elements_lost done v rest none)

items_given : (ts : List Tree) (vs : List Value) → map json_view vs ≡ map (λ t. value_of (view t)) ts → items_view vs ≡ items_of (elements_view ts)
items_given [] [] e = refl
items_given [] (v ∷ vs) e = absurd (cc)
items_given (t ∷ ts) [] e = absurd (cc)
items_given (t ∷ ts) (v ∷ vs) e =
    let first : json_view v ≡ value_of (view t) = cc in
    rw (first, items_given ts vs (cc)) refl

pub items_gone_through : (ts us : List Tree) (i : ℕ) (vs : List Value) → us ≡ ts → length us ≤ i → map json_view vs ≡ map (λ t. value_of (view t)) (take i us) → items_view vs ≡ items_of (elements_view ts)
items_gone_through ts us i vs same end e = items_given ts vs (e ∙ ap (map (λ t. value_of (view t))) (take_all i us end ∙ same))

-- ---- fields

below_middle : {V : Type 0} (first : String Global × V) (es : List (String Global × V)) (e : String Global × V) (more : List (String Global × V)) → AllByRecursion (λ y. string_cmp first.0 y ≡ Less) (keys_of (es ++ e ∷ more)) → string_cmp first.0 e.0 ≡ Less
below_middle first [] e more h = h.0
below_middle first (x ∷ es) e more h = below_middle first es e more h.1

-- a name comes after the first of those before it
pub after_first : {V : Type 0} (first : String Global × V) (es : List (String Global × V)) (e : String Global × V) (more : List (String Global × V)) → AllByRecursion (λ y. string_cmp first.0 y ≡ Less) (keys_of (es ++ e ∷ more)) → slice_cmp nat_cmp (string_bytes e.0) (string_bytes first.0) ≡ Greater
after_first first es e more h = nat_list_cmp_total.antisymm (string_bytes e.0) (string_bytes first.0) ∙ ap ordering_reverse (below_middle first es e more h)

one_more : (n m : List ℕ) (t : model.Tree) (u : Option model.Tree) (g h : Option model.Fields) (fs : model.Fields) → slice_cmp nat_cmp n m ≡ Greater
    → option_and_then (λ x. option_map (model.AndField m x) g) u ≡ Some fs → ((gs : model.Fields) → g ≡ Some gs → h ≡ Some (put n t gs))
    → option_and_then (λ x. option_map (model.AndField m x) h) u ≡ Some (put n t fs)
one_more n m t None g h fs above is later = absurd (cc)
one_more n m t (Some u) None h fs above is later = absurd (cc)
one_more n m t (Some u) (Some gs) h fs above is later =
    let e : model.AndField m u gs ≡ fs = cc in
    rw (later gs refl, ← e, above) refl

-- the members so far and one more, whose name comes last, give the fields so far and that one more
pub members_more : (done : List Member) (e : Member) (more : List Member) (t : model.Tree) (fs : model.Fields) → IsStrictlySortedBy string_cmp (keys_of (done ++ e ∷ more))
    → tree_of (json_view e.1) ≡ Some t → members_of (members_view done) ≡ Some fs
    → members_of (members_view (done ++ e ∷ [])) ≡ Some (put (string_bytes e.0) t fs)
unfolding IsStrictlySortedBy
members_more [] e more t fs sorted is so_far =
    let none : model.NoFields ≡ fs = cc in
    rw (is, ← none) refl
members_more (first ∷ done) e more t fs sorted is so_far =
    one_more (string_bytes e.0) (string_bytes first.0) t (tree_of (json_view first.1)) (members_of (members_view done)) _ fs (after_first first done e more sorted.0) so_far (λ gs g. members_more done e more t gs sorted.1 is g)

no_later : (m : List ℕ) (u : Option model.Tree) (g : Option model.Fields) → g ≡ None → option_and_then (λ t. option_map (model.AndField m t) g) u ≡ None
no_later m None g e = refl
no_later m (Some u) g e = rw e refl

-- where one member is no tree, the object is none
pub members_none : (done : List Member) (e : Member) (more : List Member) → tree_of (json_view e.1) ≡ None → members_of (members_view (done ++ e ∷ more)) ≡ None
members_none [] e more is = rw is refl
members_none (first ∷ done) e more is = no_later (string_bytes first.0) (tree_of (json_view first.1)) _ (members_none done e more is)

-- a field whose name comes last goes last among the members
pub put_last_for : (done : List Entry) (e : Entry) (more : List Entry) → IsStrictlySortedBy string_cmp (keys_of (done ++ e ∷ more))
    → json.put (string_bytes e.0) (value_of (view e.1)) (members_for (entries_view done)) ≡ members_for (entries_view (done ++ e ∷ []))
unfolding IsStrictlySortedBy
put_last_for [] e more h = refl
put_last_for (first ∷ done) e more h =
    let above = after_first first done e more h.0 in
    rw above (ap (json.member (string_bytes first.0) (value_of (view first.1))) (put_last_for done e more h.1))
