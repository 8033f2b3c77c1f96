-- What is written for shapes, keyword after keyword and field after field.
use Rattle.std.proofs.Common.{◌≡◌, ℕ, suc, pos, List, [], ◌∷◌, ◌++◌, Bool, true, false, not, Option, Some, None, is_some, unwrap_or, nat_cmp, map, length, String, Global, Ordering, Less, Equal, Greater, string_bytes, string_cmp, codes, Vec, refl, sym, ap, ◌∙◌, append-nil, append_assoc}
use Rattle.std.specs.Cmp.Lexicographic.{slice_cmp}
use Rattle.std.specs.BTreeMap.{BTreeMap, insert_entry}
use Rattle.std.specs.List.Sorted.{IsStrictlySortedBy}
use Rattle.std.specs.Map.{keys_of}
use Rattle.std.specs.Ordering.{match_ordering}
use Rattle.std.proofs.lemmas.List.{map-append}
use Rattle.asl_model.specs.Shape as model
use Rattle.asl_model.specs.Shape.{name_if}
use Rattle.asl_model.specs.ShapeFlow.{how_many_shapes}
use Rattle.asl_model.specs.ShapeOrder.{is_any_shape}
use Rattle.asl_model.specs.Tree as json
use Rattle.asl_model.specs.Written.{field_if, some_shapes, needed_names, as_texts, type_written, type_field, array_fields, closed_first, written_kinds, written_shape, with_written_arrays, written_shapes, written_fields}
use Rattle.asl_tree.proofs.Texts.{after_first}
use Rattle.asl_tree.specs.View as trees
use Rattle.asl_tree.specs.declared.Tree.{Tree}
use Rattle.asl_tree.specs.declared.Tree as tree
use Rattle.asl_shape.specs.Adding.{some_listed, with_field, with_field_if}
use Rattle.asl_shape.specs.WrittenKinds.{names_of, with_arrays, with_objects, arrays_added, objects_added, items_written, text_if, types_listed}
use Rattle.asl_shape.specs.declared.writing.Written.{Written}
use Rattle.asl_shape.specs.declared.writing.WrittenArrays.{WrittenArrays}
use Rattle.asl_shape.specs.declared.writing.WrittenObjects.{WrittenObjects}
use Rattle.asl_shape.specs.View.{view, shapes_view, fields_view}
use Rattle.asl_shape.specs.declared.shape.Shape.{Shape}
use Rattle.asl_shape.proofs.Spellings.{Mention}
use Rattle.asl_shape.proofs.Views.{view_array, view_members, view_truth, view_text}

abbrev pub Entry : Type 0
Entry = String Global × Tree

-- ---- a field of a map

shown_by : (o : Ordering) (a b c : List Entry) → trees.entries_view (match_ordering o a b c) ≡ match_ordering o (trees.entries_view a) (trees.entries_view b) (trees.entries_view c)
shown_by Less a b c = refl
shown_by Equal a b c = refl
shown_by Greater a b c = refl

pub field_added : (es : List Entry) (k : String Global) (t : Tree) → trees.entries_view (insert_entry string_cmp es k t) ≡ with_field (string_bytes k) (trees.view t) (trees.entries_view es)
field_added [] k t = refl
field_added (e ∷ es) k t = shown_by (string_cmp k e.0) _ _ _ ∙ rw (field_added es k t)

-- ---- keywords

-- the name comes before those that are there
abbrev IsFirst : List ℕ → json.Fields → Type 0
IsFirst n json.NoFields = Unit {0}
IsFirst n (json.AndField m t fs) = slice_cmp nat_cmp n m ≡ Less

added_first : (wanted : Bool) (n : List ℕ) (t : json.Tree) (fs : json.Fields) → IsFirst n fs → with_field_if wanted n t fs ≡ field_if wanted n t fs
added_first true n t json.NoFields h = refl
added_first true n t (json.AndField m u fs) h = rw h refl
added_first false n t fs h = refl

first_if : (n m : List ℕ) (wanted : Bool) (t : json.Tree) (fs : json.Fields) → slice_cmp nat_cmp n m ≡ Less → IsFirst n fs → IsFirst n (field_if wanted m t fs)
first_if n m true t fs less h = less
first_if n m false t fs less h = h

first_objects : (n : List ℕ) (objects : Option WrittenObjects) (fs : json.Fields) → slice_cmp nat_cmp n (codes "properties") ≡ Less → slice_cmp nat_cmp n (codes "required") ≡ Less → IsFirst n fs → IsFirst n (with_objects objects fs)
first_objects n None fs properties required h = h
first_objects n (Some objects) fs properties required h =
    first_if n (codes "properties") (some_listed objects.properties.entries) _ _ properties (first_if n (codes "required") (some_listed objects.required.items) _ fs required h)

first_arrays : (n : List ℕ) (arrays : Option WrittenArrays) (fs : json.Fields) → slice_cmp nat_cmp n (codes "items") ≡ Less → slice_cmp nat_cmp n (codes "minItems") ≡ Less → slice_cmp nat_cmp n (codes "prefixItems") ≡ Less → IsFirst n fs → IsFirst n (with_arrays arrays fs)
first_arrays n None fs items least prefix h = h
first_arrays n (Some arrays) fs items least prefix h =
    first_if n (codes "items") (is_some arrays.items) _ _ items (first_if n (codes "minItems") (some_listed arrays.prefix_items.items) _ _ least (first_if n (codes "prefixItems") (some_listed arrays.prefix_items.items) _ fs prefix h))

objects_made : (objects : Option WrittenObjects) (fs : json.Fields) → IsFirst (codes "properties") fs → IsFirst (codes "required") fs → objects_added objects fs ≡ with_objects objects fs
objects_made None fs properties required = refl
objects_made (Some objects) fs properties required =
    let has_needed = some_listed objects.required.items in
    let names = json.Array (trees.elements_view objects.required.items) in
    let has_fields = some_listed objects.properties.entries in
    let mentioned = json.Object (trees.entries_view objects.properties.entries) in
    ap (with_field_if has_fields (codes "properties") mentioned) (added_first has_needed (codes "required") names fs required)
    ∙ added_first has_fields (codes "properties") mentioned _ (first_if (codes "properties") (codes "required") has_needed names fs refl properties)

arrays_made : (arrays : Option WrittenArrays) (fs : json.Fields) → IsFirst (codes "items") fs → IsFirst (codes "minItems") fs → IsFirst (codes "prefixItems") fs → arrays_added arrays fs ≡ with_arrays arrays fs
arrays_made None fs items least prefix = refl
arrays_made (Some arrays) fs items least prefix =
    let has_first = some_listed arrays.prefix_items.items in
    let first = json.Array (trees.elements_view arrays.prefix_items.items) in
    let number = json.Integer (pos (length arrays.prefix_items.items)) in
    let has_items = is_some arrays.items in
    let further = items_written arrays.items in
    ap (λ gs. with_field_if has_items (codes "items") further (with_field_if has_first (codes "minItems") number gs)) (added_first has_first (codes "prefixItems") first fs prefix)
    ∙ ap (with_field_if has_items (codes "items") further) (added_first has_first (codes "minItems") number _ (first_if (codes "minItems") (codes "prefixItems") has_first first fs refl least))
    ∙ added_first has_items (codes "items") further _ (first_if (codes "items") (codes "minItems") has_first number _ refl (first_if (codes "items") (codes "prefixItems") has_first first fs refl items))

-- those for objects, put one after another
pub objects_put : (objects : WrittenObjects) (has_fields has_needed : Bool) (mentioned names : json.Tree) (old some more : json.Fields) → has_fields ≡ some_listed objects.properties.entries → has_needed ≡ some_listed objects.required.items → mentioned ≡ json.Object (trees.entries_view objects.properties.entries) → names ≡ json.Array (trees.elements_view objects.required.items) → some ≡ with_field_if has_needed (codes "required") names old → more ≡ with_field_if has_fields (codes "properties") mentioned some → more ≡ objects_added (Some objects) old
objects_put objects has_fields has_needed mentioned names old some more e f g h i j = rw (j, i, e, f, g, h) refl

-- and for arrays
pub arrays_put : (arrays : WrittenArrays) (has_items has_first : Bool) (items first number : json.Tree) (old some more all : json.Fields) → has_items ≡ is_some arrays.items → has_first ≡ some_listed arrays.prefix_items.items → items ≡ items_written arrays.items → first ≡ json.Array (trees.elements_view arrays.prefix_items.items) → number ≡ json.Integer (pos (length arrays.prefix_items.items)) → some ≡ with_field_if has_first (codes "prefixItems") first old → more ≡ with_field_if has_first (codes "minItems") number some → all ≡ with_field_if has_items (codes "items") items more → all ≡ arrays_added (Some arrays) old
arrays_put arrays has_items has_first items first number old some more all e f g h i j k l = rw (l, k, j, e, f, g, h, i) refl

pub items_shown : (items : Option Tree) → trees.view (unwrap_or items (tree.Bool true)) ≡ items_written items
items_shown None = view_truth true
items_shown (Some items) = refl

-- the keywords one after another, each in front
pub keywords_made : (closed : Bool) (names : List (List ℕ)) (arrays : Option WrittenArrays) (objects : Option WrittenObjects) (bare some more all : json.Fields) → bare ≡ type_field names → some ≡ objects_added objects bare → more ≡ arrays_added arrays some → all ≡ with_field_if closed (codes "additionalProperties") (json.Boolean false) more → all ≡ closed_first closed (with_arrays arrays (with_objects objects (type_field names)))
keywords_made closed names arrays objects bare some more all e f g h =
    let objects_are : some ≡ with_objects objects (type_field names) = f ∙ ap (objects_added objects) e ∙ objects_made objects (type_field names) refl refl in
    let arrays_are : more ≡ with_arrays arrays (with_objects objects (type_field names)) =
    g ∙ ap (arrays_added arrays) objects_are ∙ arrays_made arrays (with_objects objects (type_field names)) (first_objects (codes "items") objects (type_field names) refl refl refl) (first_objects (codes "minItems") objects (type_field names) refl refl refl) (first_objects (codes "prefixItems") objects (type_field names) refl refl refl) in
    h ∙ ap (with_field_if closed (codes "additionalProperties") (json.Boolean false)) arrays_are
    ∙ added_first closed (codes "additionalProperties") (json.Boolean false) _ (first_arrays (codes "additionalProperties") arrays _ refl refl refl (first_objects (codes "additionalProperties") objects (type_field names) refl refl refl))

-- ---- the names of the types

texts_shown : (ns : List (List ℕ)) → json.trees_of (map json.Text ns) ≡ as_texts ns
texts_shown [] = refl
texts_shown (n ∷ ns) = ap (json.AndTree (json.Text n)) (texts_shown ns)

name_first : (wanted : Bool) (n : List ℕ) (names : List (List ℕ)) (texts : List json.Tree) → texts ≡ map json.Text names → text_if wanted n ++ texts ≡ map json.Text (name_if wanted n names)
name_first true n names texts e = ap (λ ts. json.Text n ∷ ts) e
name_first false n names texts e = e

text_last : (wanted : Bool) (n : List ℕ) → text_if wanted n ≡ map json.Text (name_if wanted n [])
text_last true n = refl
text_last false n = refl

pub types_named : (written : Written) → types_listed written ≡ map json.Text (names_of written)
types_named written =
    name_first (is_some written.arrays) (codes "array") _ _ (name_first written.boolean (codes "boolean") _ _ (name_first written.integer (codes "integer") _ _ (name_first written.null (codes "null") _ _ (name_first (is_some written.objects) (codes "object") _ _ (text_last written.text (codes "string"))))))

-- names stand as a list, unless there is one alone
other_types : (ts : List Tree) (ns : List (List ℕ)) → (length ts ≡ 1 → ⊥) → map trees.view ts ≡ map json.Text ns → json.Array (trees.elements_view ts) ≡ type_written ns
other_types [] [] several e = refl
other_types [] (n ∷ ns) several e = absurd (cc)
other_types (t ∷ ts) [] several e = absurd (cc)
other_types (t ∷ []) (n ∷ ns) several e = absurd (several refl)
other_types (t ∷ (u ∷ ts)) (n ∷ []) several e = absurd (cc)
other_types (t ∷ (u ∷ ts)) (n ∷ (m ∷ ns)) several e = ap json.Array (ap json.trees_of e ∙ texts_shown (n ∷ (m ∷ ns)))

pub types_shown : (ts : Vec Tree Global) (ns : List (List ℕ)) → (length ts.items ≡ 1 → ⊥) → map trees.view ts.items ≡ map json.Text ns → trees.view (tree.List ts) ≡ type_written ns
types_shown ts ns several e = view_array ts ∙ other_types ts.items ns several e

-- ---- the whole

some_kinds : (ts : List Tree) (names : List (List ℕ)) (closed : Bool) (keywords : json.Fields) → some_listed ts ≡ true → map trees.view ts ≡ map json.Text names → written_kinds closed names keywords ≡ json.Object (closed_first closed keywords)
some_kinds [] names closed keywords some e = absurd (cc)
some_kinds (t ∷ ts) [] closed keywords some e = absurd (cc)
some_kinds (t ∷ ts) (n ∷ names) closed keywords some e = refl

pub kinds_tree : (ts : List Tree) (names : List (List ℕ)) (closed : Bool) (keywords : json.Fields) (all : BTreeMap (String Global) Tree) → some_listed ts ≡ true → map trees.view ts ≡ map json.Text names → trees.entries_view all.entries ≡ closed_first closed keywords → trees.view (tree.Object all) ≡ written_kinds closed names keywords
kinds_tree ts names closed keywords all some e made =
    view_members all ∙ ap json.Object made ∙ sym (some_kinds ts names closed keywords some e)

-- ---- elements

elements_shown : (ss : List Shape) → json.trees_of (map (λ s. written_shape (view s)) ss) ≡ written_shapes (shapes_view ss)
elements_shown [] = refl
elements_shown (s ∷ ss) = ap (json.AndTree (written_shape (view s))) (elements_shown ss)

pub shapes_written : (ts : List Tree) (ss : List Shape) → map trees.view ts ≡ map (λ s. written_shape (view s)) ss → trees.elements_view ts ≡ written_shapes (shapes_view ss)
shapes_written ts ss e = ap json.trees_of e ∙ elements_shown ss

how_many : (ts : List Tree) (ss : List Shape) → trees.elements_view ts ≡ written_shapes (shapes_view ss) → length ts ≡ how_many_shapes (shapes_view ss)
how_many [] [] e = refl
how_many [] (s ∷ ss) e = absurd (cc)
how_many (t ∷ ts) [] e = absurd (cc)
how_many (t ∷ ts) (s ∷ ss) e = ap suc (how_many ts ss (cc))

some_first : (ts : List Tree) (ss : List Shape) → trees.elements_view ts ≡ written_shapes (shapes_view ss) → some_listed ts ≡ some_shapes (shapes_view ss)
some_first [] [] e = refl
some_first [] (s ∷ ss) e = absurd (cc)
some_first (t ∷ ts) [] e = absurd (cc)
some_first (t ∷ ts) (s ∷ ss) e = refl

pub arrays_written : (first : List Shape) (rest : Shape) (ts : List Tree) (items : Option Tree) (others : json.Fields) → trees.elements_view ts ≡ written_shapes (shapes_view first) → is_some items ≡ not (is_any_shape (view rest)) → items_written items ≡ written_shape (view rest) → array_fields (is_some items) (some_listed ts) (items_written items) (length ts) (json.Array (trees.elements_view ts)) others ≡ with_written_arrays (model.ArraysOf (shapes_view first) (view rest)) others
arrays_written first rest ts items others e f g = rw (some_first ts first e, how_many ts first e, e, f, g) refl

-- ---- needed names

-- the names of the needed fields, each as a tree
abbrev pub needed_texts : List Mention → List json.Tree
needed_texts ms = map json.Text (needed_names (fields_view ms))

-- one more name
pub name_written : (ts new : List Tree) (m : Mention) (left now : List Mention) (k : String Global) (all : List json.Tree) → new ≡ ts ++ tree.Text k ∷ [] → now ≡ m ∷ left → m.1.needed ≡ true → string_bytes k ≡ string_bytes m.0 → map trees.view ts ++ needed_texts now ≡ all → map trees.view new ++ needed_texts left ≡ all
name_written ts new m left now k all pushed split needed named so_far =
    let rest = needed_texts left in
    let here : needed_texts (m ∷ left) ≡ json.Text (string_bytes m.0) ∷ rest = rw needed refl in
    rw pushed (ap (λ xs. xs ++ rest) (map-append trees.view ts (tree.Text k ∷ [])) ∙ append_assoc (map trees.view ts) (trees.view (tree.Text k) ∷ []) rest ∙ ap (λ t. map trees.view ts ++ (t ∷ rest)) (view_text k ∙ ap json.Text named) ∙ ap (λ xs. map trees.view ts ++ xs) (sym (ap needed_texts split ∙ here)) ∙ so_far)

-- the names gone through, to the end
pub names_written : (ts : List Tree) (ms left : List Mention) → left ≡ [] → map trees.view ts ++ needed_texts left ≡ needed_texts ms → trees.elements_view ts ≡ as_texts (needed_names (fields_view ms))
names_written ts ms left none e =
    let all : map trees.view ts ≡ needed_texts ms = sym (append-nil (map trees.view ts)) ∙ ap (λ ms. map trees.view ts ++ needed_texts ms) (sym none) ∙ e in
    ap json.trees_of all ∙ texts_shown (needed_names (fields_view ms))

-- ---- fields

-- a name that is above those before it goes last
written_last : (done : List Mention) (m : Mention) (more : List Mention) → IsStrictlySortedBy string_cmp (keys_of (done ++ m ∷ more)) → with_field (string_bytes m.0) (written_shape (view m.1.shape)) (written_fields (fields_view done)) ≡ written_fields (fields_view (done ++ m ∷ []))
unfolding IsStrictlySortedBy
written_last [] m more h = refl
written_last (first ∷ done) m more h =
    rw (after_first first done m more h.0) (ap (json.AndField (string_bytes first.0) (written_shape (view first.1.shape))) (written_last done m more h.1))

pub field_written : (done : List Mention) (m : Mention) (more : List Mention) (es : List Entry) (k : String Global) (t : Tree) → IsStrictlySortedBy string_cmp (keys_of (done ++ m ∷ more)) → trees.entries_view es ≡ written_fields (fields_view done) → string_bytes k ≡ string_bytes m.0 → trees.view t ≡ written_shape (view m.1.shape) → trees.entries_view (insert_entry string_cmp es k t) ≡ written_fields (fields_view (done ++ m ∷ []))
field_written done m more es k t sorted so_far named written =
    field_added es k t ∙ rw (named, written, so_far) (written_last done m more sorted)
