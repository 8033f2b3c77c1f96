-- A map beside the fields that it stands for.
use Rattle.std.proofs.Common.{◌≡◌, ℕ, List, [], ◌∷◌, ◌++◌, String, Global, Ordering, Less, Equal, Greater, string_bytes, string_cmp, nat_cmp, refl, ap, ◌∙◌}
use Rattle.std.proofs.lemmas.Cmp.{nat_list_cmp_total}
use Rattle.std.specs.Cmp.Lexicographic.{slice_cmp}
use Rattle.std.specs.List.{AllByRecursion}
use Rattle.std.specs.List.Sorted.{IsStrictlySortedBy}
use Rattle.std.specs.Map.{keys_of}
use Rattle.std.specs.Ordering.{match_ordering, ordering_reverse}
use Rattle.std.specs.BTreeMap.{insert_entry}
use Rattle.asl_model.specs.Tree as model
use Rattle.asl_tree.specs.View.{view, entries_view}
use Rattle.asl_tree.specs.declared.Tree.{Tree}

abbrev pub Entry : Type 0
Entry = String Global × Tree

-- the fields, with t at the name
abbrev pub put : List ℕ → model.Tree → model.Fields → model.Fields
put n t model.NoFields = model.AndField n t model.NoFields
put n t (model.AndField m u fs) = match_ordering (slice_cmp nat_cmp n m) (model.AndField n t (model.AndField m u fs)) (model.AndField m t fs) (model.AndField m u (put n t fs))

entries_view-match_ordering : (o : Ordering) (a b c : List Entry) → entries_view (match_ordering o a b c) ≡ match_ordering o (entries_view a) (entries_view b) (entries_view c)
entries_view-match_ordering Less a b c = refl
entries_view-match_ordering Equal a b c = refl
entries_view-match_ordering Greater a b c = refl

pub entries_view-insert_entry : (es : List Entry) (k : String Global) (t : Tree) → entries_view (insert_entry string_cmp es k t) ≡ put (string_bytes k) (view t) (entries_view es)
entries_view-insert_entry [] k t = refl
entries_view-insert_entry (e ∷ es) k t = entries_view-match_ordering (string_cmp k e.0) _ _ _ ∙ rw (entries_view-insert_entry es k t)

below_middle : (first : Entry) (es : List Entry) (e : Entry) (more : List Entry) → AllByRecursion (λ y. string_cmp first.0 y ≡ Less) (keys_of (es ++ e ∷ more)) → string_cmp first.0 e.0 ≡ Less
below_middle first [] e more h = h.0
below_middle first (x ∷ es) e more h = below_middle first es e more h.1

-- a name that is above those before it goes last
pub put_last : (done : List Entry) (e : Entry) (more : List Entry) → IsStrictlySortedBy string_cmp (keys_of (done ++ e ∷ more))
    → put (string_bytes e.0) (view e.1) (entries_view done) ≡ entries_view (done ++ e ∷ [])
unfolding IsStrictlySortedBy
put_last [] e more h = refl
put_last (first ∷ done) e more h =
    let above : slice_cmp nat_cmp (string_bytes e.0) (string_bytes first.0) ≡ Greater =
    nat_list_cmp_total.antisymm (string_bytes e.0) (string_bytes first.0) ∙ ap ordering_reverse (below_middle first done e more h.0) in
    rw above (ap (model.AndField (string_bytes first.0) (view first.1)) (put_last done e more h.1))
