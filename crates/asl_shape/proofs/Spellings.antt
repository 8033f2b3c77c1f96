-- Reading the elements of a list and the fields of an object as shapes, one after another.
use Rattle.std.proofs.Common.{◌≡◌, ℕ, suc, List, [], ◌∷◌, ◌++◌, Bool, true, false, not, ◌&&◌, nat_eq, map, length, arith, Ordering, Less, Equal, Greater, String, string_bytes, refl, sym, ap, ◌∙◌}
use Rattle.std.specs.declared.alloc.Global.{Global}
use Rattle.std.specs.BTreeMap.{insert_entry}
use Rattle.std.specs.Cmp.Lexicographic.{slice_cmp}
use Rattle.std.specs.List.{AllByRecursion}
use Rattle.std.specs.List.Sorted.{IsStrictlySortedBy}
use Rattle.std.specs.Map.{keys_of}
use Rattle.std.specs.Ordering.{nat_cmp, match_ordering, ordering_reverse}
use Rattle.std.specs.String.{string_cmp}
use Rattle.std.proofs.lemmas.Cmp.{nat_list_cmp_total}
use Rattle.std.proofs.lemmas.List.{map-append}
use Rattle.asl_model.specs.Shape as model
use Rattle.asl_model.specs.ShapeSpelling.{is_type_list, are_texts, are_types, are_distinct, texts_among, shape_of, element_shapes, field_shapes, shape_faults, field_faults, element_faults}
use Rattle.asl_model.specs.Tree as json
use Rattle.asl_shape.specs.Spelled as trees
use Rattle.asl_tree.specs.declared.Tree.{Tree}
use Rattle.asl_shape.specs.declared.ShapeRefusal.{ShapeRefusal}
use Rattle.asl_shape.specs.declared.shape.Shape.{Shape}
use Rattle.asl_shape.specs.declared.shape.Field.{Field}
use Rattle.asl_shape.specs.Refusal.{Tells}
use Rattle.asl_shape.specs.View.{view, shapes_of, shapes_view, fields_view}
use Rattle.asl_shape.proofs.Telling.{told_same, told_left}

-- ---- elements

elements_shown : (ts : List Tree) → shapes_of (map (λ t. shape_of (trees.view t)) ts) ≡ element_shapes (trees.elements_view ts)
elements_shown [] = refl
elements_shown (t ∷ ts) = ap (model.AndShape (shape_of (trees.view t))) (elements_shown ts)

pub shapes_read : (ss : List Shape) (ts : List Tree) → map view ss ≡ map (λ t. shape_of (trees.view t)) ts → shapes_view ss ≡ element_shapes (trees.elements_view ts)
shapes_read ss ts e = ap shapes_of e ∙ elements_shown ts

-- an element that is read goes behind those before it
pub pushed_read : (ss new : List Shape) (front next : List Tree) (s : Shape) (item : Tree) → map view ss ≡ map (λ t. shape_of (trees.view t)) front → shape_of (trees.view item) ≡ view s → next ≡ front ++ item ∷ [] → new ≡ ss ++ s ∷ [] → map view new ≡ map (λ t. shape_of (trees.view t)) next
pushed_read ss new front next s item so_far is more pushed =
    let here : (map view ss ++ view s ∷ []) ≡ (map (λ t. shape_of (trees.view t)) front ++ shape_of (trees.view item) ∷ []) = rw (so_far, is) refl in
    ap (map view) pushed ∙ map-append view ss (s ∷ []) ∙ here ∙ sym (ap (map (λ t. shape_of (trees.view t))) more ∙ map-append (λ (t : Tree). shape_of (trees.view t)) front (item ∷ []))

pub elements_counted : (ts : List Tree) → length ts ≡ json.count (trees.elements_view ts)
elements_counted [] = refl
elements_counted (t ∷ ts) = ap suc (elements_counted ts)

and_assoc : (a b c : Bool) → (a && (b && c)) ≡ ((a && b) && c)
and_assoc true b c = refl
and_assoc false b c = refl

-- the elements are a list of types
pub type_list : (es : List Tree) → is_type_list (trees.elements_view es) ≡ (not (nat_eq (length es) 0) && ((are_texts (trees.elements_view es) && are_types (texts_among (trees.elements_view es))) && are_distinct (texts_among (trees.elements_view es))))
type_list [] = refl
type_list (e ∷ es) =
    let some : nat_eq (suc (length es)) 0 ≡ false = grind arith in
    let ts = trees.elements_view (e ∷ es) in
    rw some (and_assoc (are_texts ts) (are_types (texts_among ts)) (are_distinct (texts_among ts)))

-- ---- fields

abbrev Entry : Type 0
Entry = String Global × Tree

abbrev pub Mention : Type 0
Mention = String Global × Field

-- the mentions, with that one at its place
abbrev pub put : List ℕ → Bool → model.Shape → model.FieldShapes → model.FieldShapes
put n needed s model.NoFieldShapes = model.AndFieldShape n needed s model.NoFieldShapes
put n needed s (model.AndFieldShape m other r shapes) =
    match_ordering (slice_cmp nat_cmp n m) (model.AndFieldShape n needed s (model.AndFieldShape m other r shapes)) (model.AndFieldShape m needed s shapes) (model.AndFieldShape m other r (put n needed s shapes))

shown_by : (o : Ordering) (a b c : List Mention) → fields_view (match_ordering o a b c) ≡ match_ordering o (fields_view a) (fields_view b) (fields_view c)
shown_by Less a b c = refl
shown_by Equal a b c = refl
shown_by Greater a b c = refl

pub put_shown : (es : List Mention) (k : String Global) (f : Field) → fields_view (insert_entry string_cmp es k f) ≡ put (string_bytes k) f.needed (view f.shape) (fields_view es)
put_shown [] k f = refl
put_shown (e ∷ es) k f = shown_by (string_cmp k e.0) _ _ _ ∙ rw (put_shown es k f)

below_middle : (first : Entry) (es : List Entry) (e : Entry) (more : List Entry) → AllByRecursion (λ y. string_cmp first.0 y ≡ Less) (keys_of (es ++ e ∷ more)) → string_cmp first.0 e.0 ≡ Less
below_middle first [] e more h = h.0
below_middle first (x ∷ es) e more h = below_middle first es e more h.1

-- a name that is above those before it goes last
put_last : (done : List Entry) (e : Entry) (more : List Entry) → IsStrictlySortedBy string_cmp (keys_of (done ++ e ∷ more)) → put (string_bytes e.0) false (shape_of (trees.view e.1)) (field_shapes (trees.entries_view done)) ≡ field_shapes (trees.entries_view (done ++ e ∷ []))
unfolding IsStrictlySortedBy
put_last [] e more h = refl
put_last (first ∷ done) e more h =
    let above : slice_cmp nat_cmp (string_bytes e.0) (string_bytes first.0) ≡ Greater =
    nat_list_cmp_total.antisymm (string_bytes e.0) (string_bytes first.0) ∙ ap ordering_reverse (below_middle first done e more h.0) in
    rw above (ap (model.AndFieldShape (string_bytes first.0) false (shape_of (trees.view first.1))) (put_last done e more h.1))

pub member_read : (done : List Entry) (e : Entry) (more : List Entry) (fs : List Mention) (k : String Global) (f : Field) → IsStrictlySortedBy string_cmp (keys_of (done ++ e ∷ more)) → fields_view fs ≡ field_shapes (trees.entries_view done) → string_bytes k ≡ string_bytes e.0 → f.needed ≡ false → view f.shape ≡ shape_of (trees.view e.1) → fields_view (insert_entry string_cmp fs k f) ≡ field_shapes (trees.entries_view (done ++ e ∷ []))
member_read done e more fs k f sorted so_far named needed shape =
    put_shown fs k f ∙ rw (named, needed, shape, so_far) (put_last done e more sorted)

-- ---- faults

pub faults_step : (several : Bool) (e : Entry) (left now : List Entry) → now ≡ e ∷ left → shape_faults several (trees.view e.1) ≡ [] → field_faults several (trees.entries_view now) ≡ field_faults several (trees.entries_view left)
faults_step several e left now split right = ap (λ es. field_faults several (trees.entries_view es)) split ∙ ap (λ xs. xs ++ field_faults several (trees.entries_view left)) right

pub elements_step : (several : Bool) (left rest : List Tree) (t : Tree) → left ≡ t ∷ rest → shape_faults several (trees.view t) ≡ [] → element_faults several (trees.elements_view left) ≡ element_faults several (trees.elements_view rest)
elements_step several left rest t split right = ap (λ ts. element_faults several (trees.elements_view ts)) split ∙ ap (λ xs. xs ++ element_faults several (trees.elements_view rest)) right

pub element_told : (several : Bool) (e : ShapeRefusal) (all left rest : List Tree) (t : Tree) → element_faults several (trees.elements_view all) ≡ element_faults several (trees.elements_view left) → left ≡ t ∷ rest → Tells e (shape_faults several (trees.view t)) → Tells e (element_faults several (trees.elements_view all))
element_told several e all left rest t so_far split told =
    told_same e _ _ (told_left e (shape_faults several (trees.view t)) (element_faults several (trees.elements_view rest)) told) (sym (so_far ∙ ap (λ ts. element_faults several (trees.elements_view ts)) split))

pub member_told : (several : Bool) (e : ShapeRefusal) (all now left : List Entry) (m : Entry) → field_faults several (trees.entries_view all) ≡ field_faults several (trees.entries_view now) → now ≡ m ∷ left → Tells e (shape_faults several (trees.view m.1)) → Tells e (field_faults several (trees.entries_view all))
member_told several e all now left m so_far split told =
    told_same e _ _ (told_left e (shape_faults several (trees.view m.1)) (field_faults several (trees.entries_view left)) told) (sym (so_far ∙ ap (λ es. field_faults several (trees.entries_view es)) split))
