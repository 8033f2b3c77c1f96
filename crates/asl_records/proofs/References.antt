-- What is written over a list of shapes, part by part.
use Rattle.std.proofs.Common.{◌≡◌, ◌<◌, ◌≤◌, ◌^◌, ℕ, suc, pos, codes, not, List, [], ◌∷◌, ◌++◌, length, map, take, get_or, Bool, true, false, if◌then◌else◌, is_some, Option, Some, None, option_map, unwrap_or, String, Global, string_bytes, refl, sym, ap, ◌∙◌, append_assoc, arith}
use Rattle.std.specs.Prelude.{IfSome}
use Rattle.std.specs.List.{AllByRecursion}
use Rattle.std.proofs.lemmas.List.{append-nil, map-append, length-map, get_or_default, take_all}
use Rattle.asl_model.specs.Shape.{Shape, ArraysOf, IsProperShape}
use Rattle.asl_model.specs.Certificate.{StateShapes, Certificate}
use Rattle.asl_model.specs.RecordShapes.{HoldsForState, HoldsForCertificate}
use Rattle.asl_model.specs.ShapeFlow.{how_many_shapes}
use Rattle.asl_model.specs.ShapeOrder.{is_any_shape}
use Rattle.asl_model.specs.Tree as json
use Rattle.asl_model.specs.Written.{written_shape, written_list, written_entries, written_state, certificate_written, version_of, some_shapes, array_fields, needed_names, as_texts}
use Rattle.asl_model.specs.WrittenNumbered.{same_shape, place_of, shapes_listed, reference, referring, places_referring, fields_referring, with_arrays_over, written_over, written_numbered}
use Rattle.asl_numbered.specs.Expansion.{shape_at, shapes_at, fields_at, numbers_in}
use Rattle.asl_numbered.specs.TakenApart.{AreArraysIfAny, AreObjectsIfAny}
use Rattle.asl_numbered.specs.declared.kinds.NodeArrays.{NodeArrays}
use Rattle.asl_numbered.specs.declared.kinds.NodeObjects.{NodeObjects}
use Rattle.asl_numbered.specs.declared.node.NodeField.{NodeField}
use Rattle.asl_numbered.specs.Laws.{below-wider}
use Rattle.asl_tree.specs.View as trees
use Rattle.asl_tree.specs.declared.Tree.{Tree}
use Rattle.asl_tree.specs.declared.Tree as tree
use Rattle.asl_shape.specs.Adding.{some_listed, with_field}
use Rattle.asl_shape.specs.WrittenKinds.{items_written}
use Rattle.asl_shape.proofs.Views.{view_text}
use Rattle.asl_records.specs.Listing.{IsPlaced, listed_shapes}
use Rattle.asl_records.specs.Numbered.{numbered_view, numbered_entries}
use Rattle.asl_records.specs.Writing.{with_list}
use Rattle.asl_records.specs.WritingNumbered.{ArraysAreBelow, ObjectsAreBelow}
use Rattle.asl_records.specs.declared.listing.Listing.{Listing}
use Rattle.asl_records.specs.declared.records.NumberedCertificate.{NumberedCertificate}
use Rattle.asl_records.specs.Laws.{Entry}
use Rattle.std.specs.Rc.{rc_str_bytes}
use Rattle.asl_numbered.specs.Names.{Name}

-- a field that a node mentions
abbrev pub Mention : Type 0
Mention = Name × NodeField

-- ---- references

place_within : (s : Shape) (listed : List Shape) (i : ℕ) → place_of s listed ≡ Some i → i < length listed
place_within s [] i at = absurd (cc)
place_within s (t ∷ listed) i at = go (same_shape s t) (place_of s listed) (place_within s listed) i at
  where
    go : (b : Bool) (o : Option ℕ) → ((j : ℕ) → o ≡ Some j → j < length listed) → (i : ℕ) → (if b then Some 0 else option_map suc o) ≡ Some i → i < suc (length listed)
    go true o further i e = let first : 0 ≡ i = cc in omega (arith, first)
    go false None further i e = absurd (cc)
    go false (Some j) further i e = let next : suc j ≡ i = cc in omega (arith, next, further j refl)

module _ (table : List Shape) (listing : Listing) (placed : IsPlaced table listing) (n : ℕ) (within : n < length table) (read : Option ℕ) (is : read ≡ get_or listing.places.items n read) where
  abbrev shape : Shape
  shape = shape_at table n

  has_place : place_of shape (listed_shapes table listing) ≡ read
  has_place = sym (placed.places n within) ∙ (get_or_default listing.places.items n None read (omega (arith, within, placed.counted)) ∙ sym is)

  -- a place is a whole number that a tree can have
  pub place_fits : (place : ℕ) → read ≡ Some place → place < 2 ^ 63
  place_fits place some =
      let below = place_within shape (listed_shapes table listing) place (has_place ∙ some) in
      let counted = length-map listing.order.items (shape_at table) in
      omega (arith, below, counted, listing.order.ok.0, listing.order.ok.1, listing.order.small)

  pub refers : (place : ℕ) → read ≡ Some place → reference place ≡ referring (listed_shapes table listing) shape
  refers place some = sym (ap (λ o. unwrap_or (option_map reference o) (written_shape shape)) (has_place ∙ some))

-- ---- places and fields

pub places_referred : (listed : List Shape) (table : List Shape) (ns : List ℕ) → written_list (referring listed) (map (shape_at table) ns) ≡ places_referring listed (shapes_at table ns)
places_referred listed table [] = refl
places_referred listed table (n ∷ ns) = ap (json.AndTree (referring listed (shape_at table n))) (places_referred listed table ns)

pub fields_referred : (listed : List Shape) (table : List Shape) (fs : List Mention) → written_entries (referring listed) (map (λ f. (rc_str_bytes f.0, shape_at table f.1.shape)) fs) ≡ fields_referring listed (fields_at table fs)
fields_referred listed table [] = refl
fields_referred listed table (f ∷ fs) = ap (json.AndField (rc_str_bytes f.0) (referring listed (shape_at table f.1.shape))) (fields_referred listed table fs)

-- ---- elements

list_shown : (written : Shape → json.Tree) (table : List Shape) (ns : List ℕ) → json.trees_of (map (λ n. written (shape_at table n)) ns) ≡ written_list written (map (shape_at table) ns)
list_shown written table [] = refl
list_shown written table (n ∷ ns) = ap (json.AndTree (written (shape_at table n))) (list_shown written table ns)

-- the numbers gone through, to the end
pub numbers_written : (written : Shape → json.Tree) (table : List Shape) (ts : List Tree) (ns : List ℕ) (i : ℕ) → length ns ≤ i → map trees.view ts ≡ map (λ n. written (shape_at table n)) (take i ns) → trees.elements_view ts ≡ written_list written (map (shape_at table) ns)
numbers_written written table ts ns i end e = ap json.trees_of (e ∙ ap (map (λ n. written (shape_at table n))) (take_all i ns end)) ∙ list_shown written table ns

how_many : (written : Shape → json.Tree) (table : List Shape) (ts : List Tree) (ns : List ℕ) → trees.elements_view ts ≡ written_list written (map (shape_at table) ns) → length ts ≡ how_many_shapes (shapes_at table ns)
how_many written table [] [] e = refl
how_many written table [] (n ∷ ns) e = absurd (cc)
how_many written table (t ∷ ts) [] e = absurd (cc)
how_many written table (t ∷ ts) (n ∷ ns) e = ap suc (how_many written table ts ns (cc))

some_first : (written : Shape → json.Tree) (table : List Shape) (ts : List Tree) (ns : List ℕ) → trees.elements_view ts ≡ written_list written (map (shape_at table) ns) → some_listed ts ≡ some_shapes (shapes_at table ns)
some_first written table [] [] e = refl
some_first written table [] (n ∷ ns) e = absurd (cc)
some_first written table (t ∷ ts) [] e = absurd (cc)
some_first written table (t ∷ ts) (n ∷ ns) e = refl

-- the numbers of its parts are in the table, where that of the shape is

pub arrays_within : (table : List Shape) (bound n : ℕ) (arrays : Option NodeArrays) → n < bound → AreArraysIfAny table n arrays → IfSome arrays (ArraysAreBelow bound)
arrays_within table bound n None h at = tt
arrays_within table bound n (Some arrays) h at =
    record { first = below-wider arrays.number bound arrays.first.now (omega (arith, h, at.within)) at.first; rest = omega (arith, h, at.within, at.rest) }

pub objects_within : (table : List Shape) (bound n : ℕ) (objects : Option NodeObjects) → n < bound → AreObjectsIfAny table n objects → IfSome objects (ObjectsAreBelow bound)
objects_within table bound n None h at = tt
objects_within table bound n (Some objects) h at =
    record { fields = below-wider objects.number bound (numbers_in objects.fields.now.entries) (omega (arith, h, at.within)) at.fields }

-- the keywords for arrays over their parts
pub arrays_written : (listed table : List Shape) (first : List ℕ) (rest : ℕ) (ts : List Tree) (items : Option Tree) → trees.elements_view ts ≡ written_list (referring listed) (map (shape_at table) first) → is_some items ≡ not (is_any_shape (shape_at table rest)) → IfSome items (λ t. trees.view t ≡ referring listed (shape_at table rest)) → (others : json.Fields)
    → array_fields (is_some items) (some_listed ts) (items_written items) (length ts) (json.Array (trees.elements_view ts)) others ≡ with_arrays_over listed (ArraysOf (shapes_at table first) (shape_at table rest)) others
arrays_written listed table first rest ts None e some is others =
    rw (sym some, some_first (referring listed) table ts first e, how_many (referring listed) table ts first e, e, places_referred listed table first) refl
arrays_written listed table first rest ts (Some t) e some is others =
    rw (sym some, some_first (referring listed) table ts first e, how_many (referring listed) table ts first e, e, places_referred listed table first, is) refl

-- ---- needed names

needed_same : (table : List Shape) (fs : List Mention) → needed_names (fields_at table fs) ≡ needed_names (fields_at [] fs)
needed_same table [] = refl
needed_same table (f ∷ fs) = rw (needed_same table fs) refl

-- the names of the needed fields, each as a tree
abbrev pub needed_texts : List Mention → List json.Tree
needed_texts fs = map json.Text (needed_names (fields_at [] fs))

texts_shown : (ns : List (List ℕ)) → json.trees_of (map json.Text ns) ≡ as_texts ns
texts_shown [] = refl
texts_shown (n ∷ ns) = ap (json.AndTree (json.Text n)) (texts_shown ns)

-- one more name
pub name_written : (ts new : List Tree) (f : Mention) (left now : List Mention) (k : String Global) (all : List json.Tree) → new ≡ ts ++ tree.Text k ∷ [] → now ≡ f ∷ left → f.1.needed ≡ true → string_bytes k ≡ rc_str_bytes f.0 → map trees.view ts ++ needed_texts now ≡ all → map trees.view new ++ needed_texts left ≡ all
name_written ts new f left now k all pushed split needed named so_far =
    let rest = needed_texts left in
    let here : needed_texts (f ∷ left) ≡ json.Text (rc_str_bytes f.0) ∷ rest = rw needed refl in
    rw pushed (ap (λ xs. xs ++ rest) (map-append trees.view ts (tree.Text k ∷ [])) ∙ append_assoc (map trees.view ts) (trees.view (tree.Text k) ∷ []) rest ∙ ap (λ t. map trees.view ts ++ (t ∷ rest)) (view_text k ∙ ap json.Text named) ∙ ap (λ xs. map trees.view ts ++ xs) (sym (ap needed_texts split ∙ here)) ∙ so_far)

-- the names gone through, to the end
pub names_written : (ts : List Tree) (fs left : List Mention) → left ≡ [] → map trees.view ts ++ needed_texts left ≡ needed_texts fs → (table : List Shape) → trees.elements_view ts ≡ as_texts (needed_names (fields_at table fs))
names_written ts fs left none e table =
    let all : map trees.view ts ≡ needed_texts fs = sym (append-nil (map trees.view ts)) ∙ ap (λ fs. map trees.view ts ++ needed_texts fs) (sym none) ∙ e in
    ap json.trees_of all ∙ texts_shown (needed_names (fields_at [] fs)) ∙ ap as_texts (sym (needed_same table fs))

-- ---- the whole certificate

-- its fields, one after the other
pub certificate_made : (certificate : Certificate) (listed : List Shape) (none one two three four : json.Fields) → listed ≡ shapes_listed certificate → none ≡ json.NoFields → one ≡ with_field (codes "output") (referring listed certificate.output) none → two ≡ with_list (codes "shapes") (written_list (written_over listed) listed) one
    → three ≡ with_field (codes "states") (json.Object (written_entries (written_state (referring listed)) certificate.states)) two → four ≡ with_field (codes "version") (json.Integer (pos (version_of certificate))) three → json.Object four ≡ written_numbered certificate
certificate_made certificate listed none one two three four is e f g h i = rw (i, h, g, f, e, is) (by (shapes_listed certificate) (written_over (shapes_listed certificate)) (referring (shapes_listed certificate)))
  where
    by : (ss : List Shape) (as_listed written : Shape → json.Tree) →
        json.Object (with_field (codes "version") (json.Integer (pos (version_of certificate))) (with_field (codes "states") (json.Object (written_entries (written_state written) certificate.states)) (with_list (codes "shapes") (written_list as_listed ss) (with_field (codes "output") (written certificate.output) json.NoFields))))
        ≡ certificate_written as_listed ss written certificate
    by [] as_listed written = refl
    by (s ∷ ss) as_listed written = refl

-- all its shapes are proper
module _ (table : List Shape) (proper : (n : ℕ) → IsProperShape (shape_at table n)) where
  proper_list : (ns : List ℕ) → AllByRecursion IsProperShape (map (shape_at table) ns)
  proper_list [] = tt
  proper_list (n ∷ ns) = (proper n, proper_list ns)

  proper_item : (item : Option ℕ) → IfSome (option_map (shape_at table) item) IsProperShape
  proper_item None = tt
  proper_item (Some n) = proper n

  proper_states : (entries : List Entry) → AllByRecursion (λ (entry : List ℕ × StateShapes). HoldsForState IsProperShape entry.1) (numbered_entries table entries)
  proper_states [] = tt
  proper_states (e ∷ entries) = (record { input = proper e.1.input; output = proper e.1.output; branches = proper_list e.1.branches.items; item = proper_item e.1.item }, proper_states entries)

pub certificate_proper : (certificate : NumberedCertificate) → ((n : ℕ) → IsProperShape (shape_at certificate.shapes n)) → HoldsForCertificate IsProperShape (numbered_view certificate)
certificate_proper certificate proper = record { output = proper certificate.output; states = proper_states certificate.shapes proper certificate.states.entries }
