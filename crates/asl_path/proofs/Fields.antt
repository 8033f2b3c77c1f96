-- Setting a field of an object, and setting an entry of a map.
use Rattle.std.proofs.Common.{◌≡◌, ℕ, zero, suc, List, [], ◌∷◌, Bool, true, false, Some, None, bytes_eq, String, Global, string_bytes, string_cmp, nat_cmp, Ordering, Less, Equal, Greater, slice_set, refl, sym, ap, ◌∙◌, subst}
use Rattle.std.proofs.lemmas.Cmp.{nat_list_cmp_total}
use Rattle.std.proofs.lemmas.Map.Text.{is_eq-slice_cmp}
use Rattle.std.proofs.lemmas.Slice.Eq.{bytes_eq-Decides}
use Rattle.std.specs.BTreeMap.{is_at, insert_entry}
use Rattle.std.specs.Cmp.Lexicographic.{slice_cmp}
use Rattle.std.specs.List.{AllByRecursion}
use Rattle.std.specs.List.Sorted.{IsStrictlySortedBy}
use Rattle.std.specs.Map.{keys_of, lookup, set_value}
use Rattle.std.specs.Ordering.{is_eq}
use Rattle.asl_model.specs.Placing.{insert_field, set_element, set_field, without_field}
use Rattle.asl_model.specs.Tree as model
use Rattle.asl_model.specs.Tree.{AndField, AndTree, Fields, NoFields, comes_before}
use Rattle.asl_tree.proofs.Views.{Entry, entries_view-insert_entry, put}
use Rattle.asl_tree.specs.View.{view, elements_view, entries_view}
use Rattle.asl_tree.specs.declared.Tree.{Tree}

-- ---- a field that is set twice

without-insert : (n : List ℕ) (u : model.Tree) (fs : Fields) → without_field n (insert_field n u fs) ≡ without_field n fs
without-insert n u NoFields = rw ((bytes_eq-Decides n n).1 refl) refl
without-insert n u (AndField m t fs) = go (comes_before n m) refl (bytes_eq m n) refl (without-insert n u fs)
  where
    go : (front : Bool) → comes_before n m ≡ front → (same : Bool) → bytes_eq m n ≡ same → without_field n (insert_field n u fs) ≡ without_field n fs → without_field n (insert_field n u (AndField m t fs)) ≡ without_field n (AndField m t fs)
    go true at same is below = rw (at, (bytes_eq-Decides n n).1 refl) refl
    go false at true is below = rw (at, is) below
    go false at false is below = rw (at, is) (ap (AndField m t) below)

without-without : (n : List ℕ) (fs : Fields) → without_field n (without_field n fs) ≡ without_field n fs
without-without n NoFields = refl
without-without n (AndField m t fs) = go (bytes_eq m n) refl (without-without n fs)
  where
    go : (same : Bool) → bytes_eq m n ≡ same → without_field n (without_field n fs) ≡ without_field n fs → without_field n (without_field n (AndField m t fs)) ≡ without_field n (AndField m t fs)
    go true is below = rw is below
    go false is below = rw (is, is) (ap (AndField m t) below)

-- what is set last stands
pub set_field-twice : (n : List ℕ) (w u : model.Tree) (fs : Fields) → set_field n w (set_field n u fs) ≡ set_field n w fs
set_field-twice n w u fs = ap (insert_field n w) (without-insert n u (without_field n fs) ∙ without-without n fs)

-- ---- a map's fields, which stand in the order of their names

abbrev AllAbove : List ℕ → List Entry → Type 0
AllAbove n es = AllByRecursion (λ (k : String Global). slice_cmp nat_cmp n (string_bytes k) ≡ Less) (keys_of es)

not_equal : (n m : List ℕ) → is_eq (slice_cmp nat_cmp n m) ≡ false → bytes_eq m n ≡ false
not_equal n m apart = go (bytes_eq m n) refl
  where
    go : (same : Bool) → bytes_eq m n ≡ same → same ≡ false
    go true is =
        let e : m ≡ n = (bytes_eq-Decides m n).0 is in
        let again : is_eq (slice_cmp nat_cmp n m) ≡ true = is_eq-slice_cmp n m ∙ (bytes_eq-Decides n m).1 (sym e) in
        sym again ∙ apart
    go false is = refl

above-without : (n : List ℕ) (es : List Entry) → AllAbove n es → without_field n (entries_view es) ≡ entries_view es
above-without n [] h = refl
above-without n (e ∷ es) h = rw (not_equal n (string_bytes e.0) (ap is_eq h.0), above-without n es h.1) refl

above-insert : (n : List ℕ) (w : model.Tree) (es : List Entry) → AllAbove n es → insert_field n w (entries_view es) ≡ AndField n w (entries_view es)
above-insert n w [] h = refl
above-insert n w (e ∷ es) h = rw h.0 refl

above-trans : (n m : List ℕ) (es : List Entry) → slice_cmp nat_cmp n m ≡ Less → AllAbove m es → AllAbove n es
above-trans n m [] less h = tt
above-trans n m (e ∷ es) less h = (nat_list_cmp_total.trans n m (string_bytes e.0) less h.0, above-trans n m es less h.1)

above-lookup : (n : List ℕ) (es : List Entry) → AllAbove n es → lookup (is_at (λ (k : String Global). slice_cmp nat_cmp n (string_bytes k))) es ≡ None
above-lookup n [] h = refl
above-lookup n (e ∷ es) h = rw h.0 (above-lookup n es h.1)

equal_names : (n m : List ℕ) → slice_cmp nat_cmp n m ≡ Equal → n ≡ m
equal_names n m e = (bytes_eq-Decides n m).0 (sym (is_eq-slice_cmp n m) ∙ ap is_eq e)

-- the map's insert is the setting of a field
pub put-set_field : (n : List ℕ) (w : model.Tree) (es : List Entry) → IsStrictlySortedBy string_cmp (keys_of es) → put n w (entries_view es) ≡ set_field n w (entries_view es)
unfolding IsStrictlySortedBy
put-set_field n w [] h = refl
put-set_field n w (e ∷ es) h = go (slice_cmp nat_cmp n (string_bytes e.0)) refl (put-set_field n w es h.1)
  where
    go : (order : Ordering) → slice_cmp nat_cmp n (string_bytes e.0) ≡ order → put n w (entries_view es) ≡ set_field n w (entries_view es) → put n w (entries_view (e ∷ es)) ≡ set_field n w (entries_view (e ∷ es))
    go Less is below =
        let all : AllAbove n (e ∷ es) = (is, above-trans n (string_bytes e.0) es is h.0) in
        rw is (sym (ap (insert_field n w) (above-without n (e ∷ es) all) ∙ above-insert n w (e ∷ es) all))
    go Equal is below =
        let same : n ≡ string_bytes e.0 = equal_names n (string_bytes e.0) is in
        let all : AllAbove n es = subst (λ k. AllAbove k es) (sym same) h.0 in
        rw (is, (bytes_eq-Decides (string_bytes e.0) n).1 (sym same)) (sym (ap (insert_field n w) (above-without n es all) ∙ above-insert n w es all ∙ ap (λ k. AndField k w (entries_view es)) same))
    go Greater is below = rw (is, not_equal n (string_bytes e.0) (ap is_eq is), is) (ap (AndField (string_bytes e.0) (view e.1)) below)

-- an entry that is there is replaced where it stands
set_value-put : (n : List ℕ) (w t : Tree) (es : List Entry) → IsStrictlySortedBy string_cmp (keys_of es) → lookup (is_at (λ (k : String Global). slice_cmp nat_cmp n (string_bytes k))) es ≡ Some t
    → entries_view (set_value (is_at (λ (k : String Global). slice_cmp nat_cmp n (string_bytes k))) es w) ≡ put n (view w) (entries_view es)
unfolding IsStrictlySortedBy
set_value-put n w t [] h found = absurd (cc)
set_value-put n w t (e ∷ es) h found = go (slice_cmp nat_cmp n (string_bytes e.0)) refl (λ f. set_value-put n w t es h.1 f)
  where
    test : String Global → Bool
    test = is_at (λ (k : String Global). slice_cmp nat_cmp n (string_bytes k))

    go : (order : Ordering) → slice_cmp nat_cmp n (string_bytes e.0) ≡ order → (lookup test es ≡ Some t → entries_view (set_value test es w) ≡ put n (view w) (entries_view es)) → entries_view (set_value test (e ∷ es) w) ≡ put n (view w) (entries_view (e ∷ es))
    go Less is below =
        let none : lookup test es ≡ None = above-lookup n es (above-trans n (string_bytes e.0) es is h.0) in
        let there : lookup test es ≡ Some t = rw is at found in
        absurd (cc)
    go Equal is below = rw is refl
    go Greater is below =
        let there : lookup test es ≡ Some t = rw is at found in
        rw is (ap (AndField (string_bytes e.0) (view e.1)) (below there))

-- writing through a map's field that is there is the setting of the field
pub set_value-set_field : (n : List ℕ) (w t : Tree) (es : List Entry) → IsStrictlySortedBy string_cmp (keys_of es) → lookup (is_at (λ (k : String Global). slice_cmp nat_cmp n (string_bytes k))) es ≡ Some t
    → entries_view (set_value (is_at (λ (k : String Global). slice_cmp nat_cmp n (string_bytes k))) es w) ≡ set_field n (view w) (entries_view es)
set_value-set_field n w t es h found = set_value-put n w t es h found ∙ put-set_field n (view w) es h

-- inserting an entry into a map is the setting of the field
pub inserted_field : (name : List ℕ) (k : String Global) (w : Tree) (es new : List Entry) → string_bytes k ≡ name → IsStrictlySortedBy string_cmp (keys_of es) → new ≡ insert_entry string_cmp es k w → entries_view new ≡ set_field name (view w) (entries_view es)
inserted_field name k w es new same ordered inserted =
    ap entries_view inserted ∙ entries_view-insert_entry es k w ∙ put-set_field (string_bytes k) (view w) es ordered ∙ ap (λ n. set_field n (view w) (entries_view es)) same

-- a field that is set to what it was stays
pub set_value-same : (test : String Global → Bool) (w t : Tree) (es : List Entry) → lookup test es ≡ Some t → view w ≡ view t → entries_view (set_value test es w) ≡ entries_view es
set_value-same test w t [] found same = refl
set_value-same test w t (e ∷ es) found same = go (test e.0) refl (λ f. set_value-same test w t es f same)
  where
    go : (here : Bool) → test e.0 ≡ here → (lookup test es ≡ Some t → entries_view (set_value test es w) ≡ entries_view es) → entries_view (set_value test (e ∷ es) w) ≡ entries_view (e ∷ es)
    go true is below =
        let it : e.1 ≡ t = let f = rw is at found in cc in
        rw is (ap (λ x. AndField (string_bytes e.0) x (entries_view es)) (same ∙ ap view (sym it)))
    go false is below = rw is (ap (AndField (string_bytes e.0) (view e.1)) (below (rw is at found)))

-- ---- an element of a list

-- writing to an element of a vector is the setting of the element
pub slice_set-set_element : (ts : List Tree) (i : ℕ) (w : Tree) → elements_view (slice_set ts i w) ≡ set_element i (view w) (elements_view ts)
slice_set-set_element [] i w = refl
slice_set-set_element (t ∷ ts) zero w = refl
slice_set-set_element (t ∷ ts) (suc i) w = ap (AndTree (view t)) (slice_set-set_element ts i w)

-- what is set last stands
pub set_element-twice : (i : ℕ) (w u : model.Tree) (ts : model.Trees) → set_element i w (set_element i u ts) ≡ set_element i w ts
set_element-twice i w u model.NoTrees = refl
set_element-twice zero w u (AndTree t ts) = refl
set_element-twice (suc i) w u (AndTree t ts) = ap (AndTree t) (set_element-twice i w u ts)

-- an element that was there and is set is there
pub element-set : (i : ℕ) (u t : model.Tree) (ts : model.Trees) → model.element i ts ≡ Some t → model.element i (set_element i u ts) ≡ Some u
element-set i u t model.NoTrees found = absurd (cc)
element-set zero u t (AndTree v ts) found = refl
element-set (suc i) u t (AndTree v ts) found = element-set i u t ts found

-- an element that is set to itself stays
pub set_element-same : (i : ℕ) (t : model.Tree) (ts : model.Trees) → model.element i ts ≡ Some t → set_element i t ts ≡ ts
set_element-same i t model.NoTrees found = absurd (cc)
set_element-same zero t (AndTree v ts) found = let same : v ≡ t = cc in rw same refl
set_element-same (suc i) t (AndTree v ts) found = ap (AndTree v) (set_element-same i t ts found)
