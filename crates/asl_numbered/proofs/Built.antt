-- Trees of the shapes of a table, as they are built.
use Rattle.std.proofs.Common.{◌≡◌, ◌∷◌, [], ◌++◌, ℕ, List, map, Option, Some, None, Bool, true, false, String, Global, string_bytes, string_cmp, nat_cmp, bytes_eq, Greater, refl, sym, ap, ◌∙◌}
use Rattle.std.specs.BTreeMap.{insert_entry}
use Rattle.std.specs.Cmp.Lexicographic.{slice_cmp}
use Rattle.std.specs.List.Sorted.{IsStrictlySortedBy}
use Rattle.std.specs.Map.{keys_of}
use Rattle.std.specs.Prelude.{IsTrue}
use Rattle.asl_model.proofs.ShapeExample.{proper-ordered}
use Rattle.asl_model.specs.Examples.{example, examples, needed_examples}
use Rattle.asl_model.specs.Placing.{without_field}
use Rattle.asl_model.specs.Shape.{Shape, Any, OfKinds, Arrays, WithoutArrays, ArraysOf, some_array, all_inhabited, inhabited, Shapes, Has, IsOrdered, IsProperShape}
use Rattle.asl_model.specs.ShapeOrder.{kept_arrays}
use Rattle.asl_model.specs.Tree as model
use Rattle.asl_model.specs.Tree.{Array, Fields, NoFields, AndField, trees_of}
use Rattle.asl_tree.proofs.Views.{Entry, entries_view-insert_entry, put}
use Rattle.asl_tree.specs.View.{view, entries_view}
use Rattle.asl_tree.specs.declared.Tree.{Tree}
use Rattle.asl_numbered.specs.declared.kinds.NodeArrays.{NodeArrays}
use Rattle.asl_numbered.specs.declared.kinds.NodeKinds.{NodeKinds}
use Rattle.asl_numbered.specs.declared.node.NodeField.{NodeField}
use Rattle.asl_numbered.specs.Examples.{examples_at, without, is_omitted}
use Rattle.asl_numbered.specs.Expansion.{shape_at, shapes_at, fields_at}
use Rattle.asl_numbered.specs.Joins.{kept}
use Rattle.asl_numbered.specs.TakenApart.{arrays_over, kinds_over}
use Rattle.asl_numbered.specs.Names.{Name, name_cmp}
use Rattle.std.specs.Rc.{rc_str_bytes}
use Rattle.asl_numbered.proofs.Appending.{after_first}

-- ---- a list

pub examples_listed : (table : List Shape) (ns : List ℕ) → trees_of (examples_at table ns) ≡ examples (shapes_at table ns)
examples_listed table [] = refl
examples_listed table (n ∷ ns) = ap (model.AndTree (example (shape_at table n))) (examples_listed table ns)

-- where some arrays are kept, these are all, and there is one
pub kept_some : (arrays : Arrays) (first : Shapes) (rest : Shape) → ArraysOf first rest ≡ kept_arrays arrays → (arrays ≡ ArraysOf first rest) × (all_inhabited first ≡ true)
kept_some arrays first rest e = go (some_array arrays) refl
  where
    go : (some : Bool) → some_array arrays ≡ some → (arrays ≡ ArraysOf first rest) × (all_inhabited first ≡ true)
    go true at =
        let whole : ArraysOf first rest ≡ arrays = e ∙ rw at refl in
        (sym whole, ap some_array whole ∙ at)
    go false at =
        let none : ArraysOf first rest ≡ WithoutArrays = e ∙ rw at refl in
        absurd (cc)

pub array_built : (table : List Shape) (s : Shape) (kinds : NodeKinds) (lists : NodeArrays) (start trees : List Tree) → kinds_over table kinds ≡ kept s → kinds.arrays ≡ Some lists → start ≡ [] → map view trees ≡ map view start ++ examples_at table lists.first.now → Array (trees_of (map view trees)) ≡ example s
array_built table Any kinds lists start trees is some none put = absurd (cc)
array_built table (OfKinds simple arrays objects) kinds lists start trees is some none put =
    let own : arrays_over table kinds.arrays ≡ kept_arrays arrays = cc in
    let whole = kept_some arrays (shapes_at table lists.first.now) (shape_at table lists.rest) (sym (ap (arrays_over table) some) ∙ own) in
    rw (whole.0, whole.1, put, none) (ap Array (examples_listed table lists.first.now))

-- ---- fields

-- the name comes behind those of the fields
abbrev IsBehind : List ℕ → Fields → Type 0
IsBehind n NoFields = Unit {0}
IsBehind n (AndField m t fs) = (slice_cmp nat_cmp n m ≡ Greater) × IsBehind n fs

-- the fields with one more behind them
abbrev with_last : List ℕ → model.Tree → Fields → Fields
with_last n t NoFields = AndField n t NoFields
with_last n t (AndField m u fs) = AndField m u (with_last n t fs)

put-behind : (n : List ℕ) (t : model.Tree) (fs : Fields) → IsBehind n fs → put n t fs ≡ with_last n t fs
put-behind n t NoFields h = refl
put-behind n t (AndField m u fs) h = rw h.0 (ap (AndField m u) (put-behind n t fs h.1))

behind-without : (n k : List ℕ) (fs : Fields) → IsBehind n fs → IsBehind n (without_field k fs)
behind-without n k NoFields h = tt
behind-without n k (AndField m t fs) h = go (bytes_eq m k) refl (behind-without n k fs h.1)
  where
    go : (same : Bool) → bytes_eq m k ≡ same → IsBehind n (without_field k fs) → IsBehind n (without_field k (AndField m t fs))
    go true is below = rw is below
    go false is below = rw is (h.0, below)

behind-but : (n : List ℕ) (omitted : Option (List ℕ)) (fs : Fields) → IsBehind n fs → IsBehind n (without omitted fs)
behind-but n None fs h = h
behind-but n (Some k) fs h = behind-without n k fs h

without-last : (n k : List ℕ) (t : model.Tree) (fs : Fields) → bytes_eq n k ≡ false → without_field k (with_last n t fs) ≡ with_last n t (without_field k fs)
without-last n k t NoFields other = rw other refl
without-last n k t (AndField m u fs) other = go (bytes_eq m k) refl (without-last n k t fs other)
  where
    go : (same : Bool) → bytes_eq m k ≡ same → without_field k (with_last n t fs) ≡ with_last n t (without_field k fs) → without_field k (with_last n t (AndField m u fs)) ≡ with_last n t (without_field k (AndField m u fs))
    go true is below = rw is below
    go false is below = rw is (ap (AndField m u) below)

but-last : (n : List ℕ) (omitted : Option (List ℕ)) (t : model.Tree) (fs : Fields) → is_omitted omitted n ≡ false → without omitted (with_last n t fs) ≡ with_last n t (without omitted fs)
but-last n None t fs other = refl
but-last n (Some k) t fs other = without-last n k t fs other

without-same : (n k : List ℕ) (t : model.Tree) (fs : Fields) → bytes_eq n k ≡ true → without_field k (with_last n t fs) ≡ without_field k fs
without-same n k t NoFields same = rw same refl
without-same n k t (AndField m u fs) same = go (bytes_eq m k) refl (without-same n k t fs same)
  where
    go : (here : Bool) → bytes_eq m k ≡ here → without_field k (with_last n t fs) ≡ without_field k fs → without_field k (with_last n t (AndField m u fs)) ≡ without_field k (AndField m u fs)
    go true is below = rw is below
    go false is below = rw is (ap (AndField m u) below)

but-same : (n : List ℕ) (omitted : Option (List ℕ)) (t : model.Tree) (fs : Fields) → is_omitted omitted n ≡ true → without omitted (with_last n t fs) ≡ without omitted fs
but-same n None t fs same = absurd (cc)
but-same n (Some k) t fs same = without-same n k t fs same

-- one more field behind others: needed, or not
needed-last : (table : List Shape) (done : List (Name × NodeField)) (f : Name × NodeField) → f.1.needed ≡ true → needed_examples (fields_at table (done ++ f ∷ [])) ≡ with_last (rc_str_bytes f.0) (example (shape_at table f.1.shape)) (needed_examples (fields_at table done))
needed-last table [] f is = rw is refl
needed-last table (first ∷ done) f is = go first.1.needed refl (needed-last table done f is)
  where
    go : (needed : Bool) → first.1.needed ≡ needed → needed_examples (fields_at table (done ++ f ∷ [])) ≡ with_last (rc_str_bytes f.0) (example (shape_at table f.1.shape)) (needed_examples (fields_at table done))
        → needed_examples (fields_at table (first ∷ done ++ f ∷ [])) ≡ with_last (rc_str_bytes f.0) (example (shape_at table f.1.shape)) (needed_examples (fields_at table (first ∷ done)))
    go true at below = rw at (ap (AndField (rc_str_bytes first.0) (example (shape_at table first.1.shape))) below)
    go false at below = rw at below

pub needed_not : (table : List Shape) (done : List (Name × NodeField)) (f : Name × NodeField) → f.1.needed ≡ false → needed_examples (fields_at table (done ++ f ∷ [])) ≡ needed_examples (fields_at table done)
needed_not table [] f is = rw is refl
needed_not table (first ∷ done) f is = rw (needed_not table done f is) refl

needed-behind : (table : List Shape) (done : List (Name × NodeField)) (f : Name × NodeField) (more : List (Name × NodeField)) → IsStrictlySortedBy name_cmp (keys_of (done ++ f ∷ more)) → IsBehind (rc_str_bytes f.0) (needed_examples (fields_at table done))
unfolding IsStrictlySortedBy
needed-behind table [] f more h = tt
needed-behind table (first ∷ done) f more h = go first.1.needed refl (needed-behind table done f more h.1)
  where
    go : (needed : Bool) → first.1.needed ≡ needed → IsBehind (rc_str_bytes f.0) (needed_examples (fields_at table done)) → IsBehind (rc_str_bytes f.0) (needed_examples (fields_at table (first ∷ done)))
    go true at below = rw at (after_first first done f more h.0, below)
    go false at below = rw at below

-- a needed field is put behind the others
pub needed_put : (table : List Shape) (done left : List (Name × NodeField)) (f : Name × NodeField) (omitted : Option (List ℕ)) (es new : List Entry) (k : String Global) (t : Tree) → IsStrictlySortedBy name_cmp (keys_of (done ++ f ∷ left)) → entries_view es ≡ without omitted (needed_examples (fields_at table done)) → string_bytes k ≡ rc_str_bytes f.0 → f.1.needed ≡ true → is_omitted omitted (rc_str_bytes f.0) ≡ false → view t ≡ example (shape_at table f.1.shape) → new ≡ insert_entry string_cmp es k t
    → entries_view new ≡ without omitted (needed_examples (fields_at table (done ++ f ∷ [])))
needed_put table done left f omitted es new k t sorted so_far named needed other own inserted =
    let behind = behind-but (rc_str_bytes f.0) omitted (needed_examples (fields_at table done)) (needed-behind table done f left sorted) in
    ap entries_view inserted ∙ entries_view-insert_entry es k t ∙ rw (named, own, so_far) (put-behind (rc_str_bytes f.0) (example (shape_at table f.1.shape)) (without omitted (needed_examples (fields_at table done))) behind)
    ∙ sym (but-last (rc_str_bytes f.0) omitted (example (shape_at table f.1.shape)) (needed_examples (fields_at table done)) other) ∙ sym (ap (without omitted) (needed-last table done f needed))

-- one that is omitted isn't
pub needed_omitted : (table : List Shape) (done : List (Name × NodeField)) (f : Name × NodeField) (omitted : Option (List ℕ)) → f.1.needed ≡ true → is_omitted omitted (rc_str_bytes f.0) ≡ true → without omitted (needed_examples (fields_at table (done ++ f ∷ []))) ≡ without omitted (needed_examples (fields_at table done))
needed_omitted table done f omitted needed is =
    ap (without omitted) (needed-last table done f needed) ∙ but-same (rc_str_bytes f.0) omitted (example (shape_at table f.1.shape)) (needed_examples (fields_at table done)) is

-- ---- what is told of an example

pub example_told : (s : Shape) (t : model.Tree) (live : Bool) → t ≡ example s → live ≡ inhabited s → live ≡ true → IsProperShape s → ((s : Shape) → IsOrdered s → IsTrue (inhabited s) → Has s (example s)) → Has s t
example_told s t live same is some proper has = rw same (has s (proper-ordered s proper) (sym is ∙ some))
