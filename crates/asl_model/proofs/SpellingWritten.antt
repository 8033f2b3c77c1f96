-- A proper shape is spelled by the tree that is written for it, and in the first version where none is of several kinds.
use Rattle.std.proofs.Common.{◌≡◌, ℕ, suc, pos, List, [], ◌∷◌, ◌++◌, Bool, true, false, not, ◌&&◌, ◌||◌, codes, Some, IsTrue, if◌then◌else◌, bytes_eq, Greater, refl, sym, ap, ap₂, ◌∙◌, arith}
use Rattle.std.specs.Ordering.{nat_cmp, int_eq, ordering_reverse}
use Rattle.std.specs.Cmp.Lexicographic.{slice_cmp}
use Rattle.std.proofs.lemmas.Bool.{and_from, and_parts, or_from, not_from_false, false≢true}
use Rattle.std.proofs.lemmas.Bool.Decides.{Decides-int_eq}
use Rattle.std.proofs.lemmas.Cmp.{nat_list_cmp_total, nat_list_eq_equiv}
use Rattle.asl_model.specs.Tree.{Array, Object, comes_before, count}
use Rattle.asl_model.specs.Shape.{Simple, Shape, Any, Never, OfKinds, Arrays, WithoutArrays, ArraysOf, Objects, WithoutObjects, ObjectsOf, has_arrays, has_objects, name_if, type_names, are_several, has_several, arrays_have_several, objects_have_several, some_has_several, field_has_several, Shapes, NoShapes, AndShape, FieldShapes, NoFieldShapes, AndFieldShape, mentions, before_mentions, insert_mention, IsProperShape, AreProperArrays, AreProperObjects, AreProperShapes, AreProperFields}
use Rattle.asl_model.specs.ShapeSpelling.{shape_of, element_shapes, properties_of, field_shapes, shape_faults, element_faults, properties_faults, field_faults, required_faults, texts_among, are_texts, are_distinct, is_among, types, types_in, type_faults, are_types, simple_named, with_mention_needed, with_needed, with_all_needed, unless, NotAShape, BadType, MinItems, SpellsShape, SpellsShapeV1}
use Rattle.asl_model.specs.ShapeFlow.{how_many_shapes}
use Rattle.asl_model.specs.Written.{some_fields, needed_names, some_names, as_texts, type_written, type_field, are_closed, written_kinds, written_shape, with_written_arrays, with_written_objects, written_shapes, written_fields}
use Rattle.asl_model.proofs.NamesInOrder.{before_more, comes_before-Less, comes_before-other, bytes_eq-comm}
use Rattle.asl_model.proofs.WrittenKeywords.{keywords, for_arrays, for_objects, arrays_read, objects_read, arrays_wrong, objects_wrong, as_keywords, reads, wrong, none_foreign}

-- the tree that is written for the shape spells it
abbrev pub IsSpelled : Shape → Type 0
IsSpelled s = SpellsShape (written_shape s) s

-- ---- arrays

counted : (first : Shapes) → count (written_shapes first) ≡ how_many_shapes first
counted NoShapes = refl
counted (AndShape s others) = ap suc (counted others)

-- the trees of shapes spell them
record SpellShapes (first : Shapes) : Type 0 where
  none_wrong : element_faults true (written_shapes first) ≡ []
  same : element_shapes (written_shapes first) ≡ first

number_right : (first : Shapes) → unless (int_eq (pos (how_many_shapes first)) (pos (count (written_shapes first)))) MinItems ≡ []
number_right first = rw (counted first, (Decides-int_eq (pos (how_many_shapes first)) (pos (how_many_shapes first))).1 refl) refl

-- what is written of the arrays spells them
record SpellArrays (arrays : Arrays) : Type 0 where
  none_wrong : (if has_arrays arrays then arrays_wrong true (for_arrays arrays) else []) ≡ []
  same : (if has_arrays arrays then arrays_read (for_arrays arrays) else WithoutArrays) ≡ arrays

array_spells : (first : Shapes) (rest : Shape) → SpellShapes first → IsSpelled rest → SpellArrays (ArraysOf first rest)
array_spells NoShapes Any f r = record { none_wrong = refl; same = refl }
array_spells NoShapes (OfKinds simple arrays objects) f r = record { none_wrong = rw r.none_wrong refl; same = ap (ArraysOf NoShapes) r.same }
array_spells (AndShape s others) Any f r = record { none_wrong = rw (f.none_wrong, number_right (AndShape s others)) refl; same = ap (λ first. ArraysOf first Any) f.same }
array_spells (AndShape s others) (OfKinds simple arrays objects) f r = record { none_wrong = rw (f.none_wrong, r.none_wrong, number_right (AndShape s others)) refl; same = ap₂ ArraysOf f.same r.same }

-- ---- objects

-- the fields, none of them needed
abbrev unneeded : FieldShapes → FieldShapes
unneeded NoFieldShapes = NoFieldShapes
unneeded (AndFieldShape n needed s shapes) = AndFieldShape n false s (unneeded shapes)

-- ---- the order of names

greater : (m n : List ℕ) → IsTrue (comes_before n m) → slice_cmp nat_cmp m n ≡ Greater
greater m n h = nat_list_cmp_total.antisymm m n ∙ ap ordering_reverse (comes_before-Less n m h)

-- the name comes before each of those
abbrev ComesBeforeAll : List ℕ → List (List ℕ) → Type 0
ComesBeforeAll n [] = Unit {0}
ComesBeforeAll n (m ∷ ms) = IsTrue (comes_before n m) × ComesBeforeAll n ms

before_needed : (n : List ℕ) (shapes : FieldShapes) → IsTrue (before_mentions n shapes) → AreProperFields shapes → ComesBeforeAll n (needed_names shapes)
before_needed n NoFieldShapes h p = tt
before_needed n (AndFieldShape m true s shapes) h p = (h, before_needed n shapes (before_more n m shapes h p.1) p.3)
before_needed n (AndFieldShape m false s shapes) h p = before_needed n shapes (before_more n m shapes h p.1) p.3

-- ---- needed names

front_in_both : (n : List ℕ) (b : Bool) (s : Shape) (test : Bool) (these others : FieldShapes) → (if test then AndFieldShape n b s these else AndFieldShape n b s others) ≡ AndFieldShape n b s (if test then these else others)
front_in_both n b s test these others = grind arith

-- a mention stays in front of the needed fields whose names come behind
past_one : (extra : Bool) (n : List ℕ) (b : Bool) (s : Shape) (m : List ℕ) (shapes : FieldShapes) → IsTrue (comes_before n m) → with_needed extra m (AndFieldShape n b s shapes) ≡ AndFieldShape n b s (with_needed extra m shapes)
past_one extra n b s m shapes h =
    rw (comes_before-other n m h, greater m n h) (front_in_both n b s (mentions m shapes) (with_mention_needed m shapes) (insert_mention m true (if extra then Any else Never) shapes))

-- so does one in front of several of them
past : (extra : Bool) (n : List ℕ) (b : Bool) (s : Shape) (ns : List (List ℕ)) (shapes : FieldShapes) → ComesBeforeAll n ns → with_all_needed extra ns (AndFieldShape n b s shapes) ≡ AndFieldShape n b s (with_all_needed extra ns shapes)
past extra n b s [] shapes h = refl
past extra n b s (m ∷ ns) shapes h = ap (with_all_needed extra ns) (past_one extra n b s m shapes h.0) ∙ past extra n b s ns (with_needed extra m shapes) h.1

-- a field that isn't needed becomes so where it stands
own : (extra : Bool) (n : List ℕ) (s : Shape) (shapes : FieldShapes) → with_needed extra n (AndFieldShape n false s shapes) ≡ AndFieldShape n true s shapes
own extra n s shapes = rw (nat_list_eq_equiv.refl n) refl

restored : (extra : Bool) (shapes : FieldShapes) → AreProperFields shapes → with_all_needed extra (needed_names shapes) (unneeded shapes) ≡ shapes
restored extra NoFieldShapes p = refl
restored extra (AndFieldShape n false s shapes) p = past extra n false s (needed_names shapes) (unneeded shapes) (before_needed n shapes p.1 p.3) ∙ ap (AndFieldShape n false s) (restored extra shapes p.3)
restored extra (AndFieldShape n true s shapes) p =
    ap (with_all_needed extra (needed_names shapes)) (own extra n s (unneeded shapes))
    ∙ past extra n true s (needed_names shapes) (unneeded shapes) (before_needed n shapes p.1 p.3)
    ∙ ap (AndFieldShape n true s) (restored extra shapes p.3)

texts_back : (ns : List (List ℕ)) → texts_among (as_texts ns) ≡ ns
texts_back [] = refl
texts_back (n ∷ ns) = ap (λ ms. n ∷ ms) (texts_back ns)

texts_right : (ns : List (List ℕ)) → are_texts (as_texts ns) ≡ true
texts_right [] = refl
texts_right (n ∷ ns) = texts_right ns

not_among : (n : List ℕ) (ns : List (List ℕ)) → ComesBeforeAll n ns → is_among n ns ≡ false
not_among n [] h = refl
not_among n (m ∷ ms) h = or_from (bytes_eq m n) (is_among n ms) (bytes_eq-comm n m (comes_before-other n m h.0)) (not_among n ms h.1)

distinct_needed : (shapes : FieldShapes) → AreProperFields shapes → are_distinct (needed_names shapes) ≡ true
distinct_needed NoFieldShapes p = refl
distinct_needed (AndFieldShape n false s shapes) p = distinct_needed shapes p.3
distinct_needed (AndFieldShape n true s shapes) p = and_from _ _ (not_from_false _ (not_among n (needed_names shapes) (before_needed n shapes p.1 p.3))) (distinct_needed shapes p.3)

names_back : (ns : List (List ℕ)) → (if some_names ns then texts_among (as_texts ns) else []) ≡ ns
names_back [] = refl
names_back (n ∷ ns) = texts_back (n ∷ ns)

names_right : (ns : List (List ℕ)) → are_distinct ns ≡ true → (if some_names ns then required_faults (Some (Array (as_texts ns))) else []) ≡ []
names_right [] d = refl
names_right (n ∷ ns) d = ap (λ b. unless b NotAShape) (and_from _ _ (texts_right (n ∷ ns)) (ap are_distinct (texts_back (n ∷ ns)) ∙ d))

-- the trees of the mentioned fields spell these
record SpellFields (shapes : FieldShapes) : Type 0 where
  none_wrong : field_faults true (written_fields shapes) ≡ []
  same : field_shapes (written_fields shapes) ≡ unneeded shapes

properties_back : (shapes : FieldShapes) → SpellFields shapes → (if some_fields shapes then properties_of (Object (written_fields shapes)) else NoFieldShapes) ≡ unneeded shapes
properties_back NoFieldShapes h = refl
properties_back (AndFieldShape n needed s shapes) h = h.same

properties_right : (shapes : FieldShapes) → SpellFields shapes → (if some_fields shapes then properties_faults true (Object (written_fields shapes)) else []) ≡ []
properties_right NoFieldShapes h = refl
properties_right (AndFieldShape n needed s shapes) h = h.none_wrong

-- what is written of the objects spells them
record SpellObjects (objects : Objects) : Type 0 where
  none_wrong : (if has_objects objects then objects_wrong true (for_objects objects) else []) ≡ []
  same : (if has_objects objects then objects_read (for_objects objects) else WithoutObjects) ≡ objects

twice : (extra : Bool) → not (not extra) ≡ extra
twice true = refl
twice false = refl

object_spells : (shapes : FieldShapes) (extra : Bool) → AreProperFields shapes → SpellFields shapes → SpellObjects (ObjectsOf shapes extra)
object_spells shapes extra p h =
    let ns = needed_names shapes in
    record {
      none_wrong = rw (properties_right shapes h, names_right ns (distinct_needed shapes p)) refl;
      same = rw (twice extra, names_back ns, properties_back shapes h, restored extra shapes p) refl;
    }

-- ---- the names of types

own_front : (n : List ℕ) (b : Bool) (names : List (List ℕ)) → bytes_eq n n ≡ true → is_among n names ≡ false → is_among n (name_if b n names) ≡ b
own_front n true names own further = rw own refl
own_front n false names own further = further

other_front : (n m : List ℕ) (b c : Bool) (names : List (List ℕ)) → bytes_eq m n ≡ false → is_among n names ≡ c → is_among n (name_if b m names) ≡ c
other_front n m true c names other further = rw other further
other_front n m false c names other further = further

type_front : (n : List ℕ) (b : Bool) (names : List (List ℕ)) → is_among n types ≡ true → are_types names ≡ true → are_types (name_if b n names) ≡ true
type_front n true names own further = and_from (is_among n types) (are_types names) own further
type_front n false names own further = further

distinct_front : (n : List ℕ) (b : Bool) (names : List (List ℕ)) → is_among n names ≡ false → are_distinct names ≡ true → are_distinct (name_if b n names) ≡ true
distinct_front n true names own further = and_from (not (is_among n names)) (are_distinct names) (not_from_false (is_among n names) own) further
distinct_front n false names own further = further

-- the names are those of distinct types, and say these kinds
record Say (simple : Simple) (arrays objects : Bool) (names : List (List ℕ)) : Type 0 where
  simple_same : simple_named names ≡ simple
  arrays_same : is_among (codes "array") names ≡ arrays
  objects_same : is_among (codes "object") names ≡ objects
  right : are_types names ≡ true
  distinct : are_distinct names ≡ true

module _ (simple : Simple) (arrays : Arrays) (objects : Objects) where
  -- the names from that of texts on, of objects, of null, of whole numbers, of truth values
  abbrev from_text : List (List ℕ)
  from_text = name_if simple.text (codes "string") []

  abbrev from_objects : List (List ℕ)
  from_objects = name_if (has_objects objects) (codes "object") from_text

  abbrev from_null : List (List ℕ)
  from_null = name_if simple.null (codes "null") from_objects

  abbrev from_integer : List (List ℕ)
  from_integer = name_if simple.integer (codes "integer") from_null

  abbrev from_boolean : List (List ℕ)
  from_boolean = name_if simple.boolean (codes "boolean") from_integer

  abbrev all_names : List (List ℕ)
  all_names = type_names simple arrays objects

  -- behind the names of types in front of it
  past_text : (n : List ℕ) → bytes_eq (codes "string") n ≡ false → is_among n from_text ≡ false
  past_text n e = other_front n (codes "string") simple.text false [] e refl

  past_objects : (n : List ℕ) (b : Bool) → bytes_eq (codes "object") n ≡ false → is_among n from_text ≡ b → is_among n from_objects ≡ b
  past_objects n b e further = other_front n (codes "object") (has_objects objects) b from_text e further

  past_null : (n : List ℕ) (b : Bool) → bytes_eq (codes "null") n ≡ false → is_among n from_objects ≡ b → is_among n from_null ≡ b
  past_null n b e further = other_front n (codes "null") simple.null b from_objects e further

  past_integer : (n : List ℕ) (b : Bool) → bytes_eq (codes "integer") n ≡ false → is_among n from_null ≡ b → is_among n from_integer ≡ b
  past_integer n b e further = other_front n (codes "integer") simple.integer b from_null e further

  past_boolean : (n : List ℕ) (b : Bool) → bytes_eq (codes "boolean") n ≡ false → is_among n from_integer ≡ b → is_among n from_boolean ≡ b
  past_boolean n b e further = other_front n (codes "boolean") simple.boolean b from_integer e further

  past_arrays : (n : List ℕ) (b : Bool) → bytes_eq (codes "array") n ≡ false → is_among n from_boolean ≡ b → is_among n all_names ≡ b
  past_arrays n b e further = other_front n (codes "array") (has_arrays arrays) b from_boolean e further

  -- no name stands behind itself
  no_object : is_among (codes "object") from_text ≡ false
  no_object = past_text (codes "object") refl

  no_null : is_among (codes "null") from_objects ≡ false
  no_null = past_objects (codes "null") false refl (past_text (codes "null") refl)

  no_integer : is_among (codes "integer") from_null ≡ false
  no_integer = past_null (codes "integer") false refl (past_objects (codes "integer") false refl (past_text (codes "integer") refl))

  no_boolean : is_among (codes "boolean") from_integer ≡ false
  no_boolean = past_integer (codes "boolean") false refl (past_null (codes "boolean") false refl (past_objects (codes "boolean") false refl (past_text (codes "boolean") refl)))

  no_array : is_among (codes "array") from_boolean ≡ false
  no_array = past_boolean (codes "array") false refl (past_integer (codes "array") false refl (past_null (codes "array") false refl (past_objects (codes "array") false refl (past_text (codes "array") refl))))

  boolean_said : is_among (codes "boolean") all_names ≡ simple.boolean
  boolean_said = past_arrays (codes "boolean") simple.boolean refl (own_front (codes "boolean") simple.boolean from_integer refl no_boolean)

  integer_said : is_among (codes "integer") all_names ≡ simple.integer
  integer_said =
      let b = simple.integer in
      past_arrays (codes "integer") b refl (past_boolean (codes "integer") b refl (own_front (codes "integer") b from_null refl no_integer))

  null_said : is_among (codes "null") all_names ≡ simple.null
  null_said =
      let b = simple.null in
      past_arrays (codes "null") b refl (past_boolean (codes "null") b refl (past_integer (codes "null") b refl (own_front (codes "null") b from_objects refl no_null)))

  objects_said : is_among (codes "object") all_names ≡ has_objects objects
  objects_said =
      let b = has_objects objects in
      past_arrays (codes "object") b refl (past_boolean (codes "object") b refl (past_integer (codes "object") b refl (past_null (codes "object") b refl (own_front (codes "object") b from_text refl no_object))))

  text_said : is_among (codes "string") all_names ≡ simple.text
  text_said =
      let b = simple.text in
      past_arrays (codes "string") b refl (past_boolean (codes "string") b refl (past_integer (codes "string") b refl (past_null (codes "string") b refl (past_objects (codes "string") b refl (own_front (codes "string") b [] refl refl)))))

  said : Say simple (has_arrays arrays) (has_objects objects) all_names
  said = record {
    simple_same = rw (null_said, boolean_said, integer_said, text_said) refl;
    arrays_same = own_front (codes "array") (has_arrays arrays) from_boolean refl no_array;
    objects_same = objects_said;
    right =
        type_front (codes "array") (has_arrays arrays) from_boolean refl
        (type_front (codes "boolean") simple.boolean from_integer refl
        (type_front (codes "integer") simple.integer from_null refl
        (type_front (codes "null") simple.null from_objects refl
        (type_front (codes "object") (has_objects objects) from_text refl
        (type_front (codes "string") simple.text [] refl refl)))));
    distinct =
        distinct_front (codes "array") (has_arrays arrays) from_boolean no_array
        (distinct_front (codes "boolean") simple.boolean from_integer no_boolean
        (distinct_front (codes "integer") simple.integer from_null no_integer
        (distinct_front (codes "null") simple.null from_objects no_null
        (distinct_front (codes "object") (has_objects objects) from_text no_object
        (distinct_front (codes "string") simple.text [] refl refl)))));
  }

  none_said : all_names ≡ [] → Never ≡ OfKinds simple arrays objects
  none_said e = grind arith

types_back : (names : List (List ℕ)) → types_in (Some (type_written names)) ≡ names
types_back [] = refl
types_back (n ∷ []) = refl
types_back (n ∷ m ∷ names) = texts_back (n ∷ m ∷ names)

type_right : (n : List ℕ) (names : List (List ℕ)) → are_types (n ∷ names) ≡ true → are_distinct (n ∷ names) ≡ true → type_faults true (type_written (n ∷ names)) ≡ []
type_right n [] right distinct = ap (λ b. unless b BadType) ((and_parts (is_among n types) true right).0)
type_right n (m ∷ names) right distinct =
    let ns = n ∷ m ∷ names in
    ap (λ b. unless b BadType) (and_from (are_texts (as_texts ns)) (are_types (texts_among (as_texts ns)) && are_distinct (texts_among (as_texts ns))) (texts_right ns)
    (and_from (are_types (texts_among (as_texts ns))) (are_distinct (texts_among (as_texts ns))) (ap are_types (texts_back ns) ∙ right) (ap are_distinct (texts_back ns) ∙ distinct)))

-- ---- all shapes

-- the tree for these names and keywords spells the shape
abbrev SpellKinds : Simple → Arrays → Objects → List (List ℕ) → Type 0
SpellKinds simple arrays objects names =
    SpellsShape (written_kinds (are_closed objects) names (with_written_arrays arrays (with_written_objects objects (type_field names)))) (OfKinds simple arrays objects)

kinds_spell : (simple : Simple) (arrays : Arrays) (objects : Objects) → SpellArrays arrays → SpellObjects objects → IsSpelled (OfKinds simple arrays objects)
kinds_spell simple arrays objects a o = go (type_names simple arrays objects) refl (said simple arrays objects)
  where
    go : (names : List (List ℕ)) → type_names simple arrays objects ≡ names → Say simple (has_arrays arrays) (has_objects objects) names → SpellKinds simple arrays objects names
    go [] e says = record { none_wrong = refl; same = none_said simple arrays objects e }
    go (n ∷ names) e says =
        let t = type_written (n ∷ names) in
        record {
          none_wrong =
              ap (λ fs. shape_faults true (Object fs)) (as_keywords arrays objects (n ∷ names))
              ∙ (wrong true (for_arrays arrays) (for_objects objects) t
              ∙ rw (type_right n names says.right says.distinct, types_back (n ∷ names), says.arrays_same, says.objects_same, none_foreign arrays objects t, a.none_wrong, o.none_wrong) refl);
          same =
              ap (λ fs. shape_of (Object fs)) (as_keywords arrays objects (n ∷ names))
              ∙ (reads (for_arrays arrays) (for_objects objects) t
              ∙ rw (types_back (n ∷ names), says.simple_same, says.arrays_same, says.objects_same, a.same, o.same) refl);
        }

mutual
  pub written_spells : (s : Shape) → IsProperShape s → IsSpelled s
  written_spells Any p = record { none_wrong = refl; same = refl }
  written_spells (OfKinds simple arrays objects) p = kinds_spell simple arrays objects (arrays_spell arrays p.0) (objects_spell objects p.1)

  arrays_spell : (arrays : Arrays) → AreProperArrays arrays → SpellArrays arrays
  arrays_spell WithoutArrays p = record { none_wrong = refl; same = refl }
  arrays_spell (ArraysOf first rest) p = array_spells first rest (shapes_spell first p.0) (written_spells rest p.1)

  objects_spell : (objects : Objects) → AreProperObjects objects → SpellObjects objects
  objects_spell WithoutObjects p = record { none_wrong = refl; same = refl }
  objects_spell (ObjectsOf shapes extra) p = object_spells shapes extra p (fields_spell shapes p)

  shapes_spell : (first : Shapes) → AreProperShapes first → SpellShapes first
  shapes_spell NoShapes p = record { none_wrong = refl; same = refl }
  shapes_spell (AndShape s others) p =
      let one = written_spells s p.0 in
      let more = shapes_spell others p.1 in
      record { none_wrong = rw (one.none_wrong, more.none_wrong) refl; same = ap₂ AndShape one.same more.same }

  fields_spell : (shapes : FieldShapes) → AreProperFields shapes → SpellFields shapes
  fields_spell NoFieldShapes p = record { none_wrong = refl; same = refl }
  fields_spell (AndFieldShape n needed s shapes) p =
      let one = written_spells s p.2 in
      let more = fields_spell shapes p.3 in
      record { none_wrong = rw (one.none_wrong, more.none_wrong) refl; same = ap₂ (AndFieldShape n false) one.same more.same }

-- ---- the first version

-- there may be several kinds, or there are none
abbrev pub May : Bool → Bool → Type 0
May several some = IsTrue (several || not some)

pub may_parts : (several a b : Bool) → May several (a || b) → May several a × May several b
may_parts true a b h = (refl, refl)
may_parts false true b h = absurd (false≢true h)
may_parts false false b h = (refl, h)

type_same : (several : Bool) (n : List ℕ) (names : List (List ℕ)) → May several (are_several (n ∷ names)) → type_faults several (type_written (n ∷ names)) ≡ type_faults true (type_written (n ∷ names))
type_same several n [] h = refl
type_same true n (m ∷ names) h = refl
type_same false n (m ∷ names) h = absurd (false≢true h)

-- as much is wrong with what is written of the arrays as where there may be several kinds; so of the objects
abbrev SameArrays : Bool → Arrays → Type 0
SameArrays several arrays = arrays_wrong several (for_arrays arrays) ≡ arrays_wrong true (for_arrays arrays)

abbrev SameObjects : Bool → Objects → Type 0
SameObjects several objects = objects_wrong several (for_objects objects) ≡ objects_wrong true (for_objects objects)

kinds_same : (several : Bool) (simple : Simple) (arrays : Arrays) (objects : Objects) → May several (are_several (type_names simple arrays objects)) → SameArrays several arrays → SameObjects several objects → shape_faults several (written_shape (OfKinds simple arrays objects)) ≡ shape_faults true (written_shape (OfKinds simple arrays objects))
kinds_same several simple arrays objects h a o = go (type_names simple arrays objects) h
  where
    go : (names : List (List ℕ)) → May several (are_several names) → shape_faults several (written_kinds (are_closed objects) names (with_written_arrays arrays (with_written_objects objects (type_field names)))) ≡ shape_faults true (written_kinds (are_closed objects) names (with_written_arrays arrays (with_written_objects objects (type_field names))))
    go [] h = refl
    go (n ∷ names) h =
        let t = type_written (n ∷ names) in
        let whole = keywords (for_arrays arrays) (for_objects objects) t in
        let same : shape_faults several (Object whole) ≡ shape_faults true (Object whole) = wrong several (for_arrays arrays) (for_objects objects) t ∙ (rw (type_same several n names h, a, o) refl ∙ sym (wrong true (for_arrays arrays) (for_objects objects) t)) in
        rw (as_keywords arrays objects (n ∷ names)) same

mutual
  -- where there may be several kinds or are none, as much is wrong with what is written as where there may be
  pub faults_same : (several : Bool) (s : Shape) → May several (has_several s) → shape_faults several (written_shape s) ≡ shape_faults true (written_shape s)
  faults_same several Any h = refl
  faults_same several (OfKinds simple arrays objects) h =
      let own = may_parts several (are_several (type_names simple arrays objects)) (arrays_have_several arrays || objects_have_several objects) h in
      let both = may_parts several (arrays_have_several arrays) (objects_have_several objects) own.1 in
      kinds_same several simple arrays objects own.0 (arrays_same several arrays both.0) (objects_same several objects both.1)

  arrays_same : (several : Bool) (arrays : Arrays) → May several (arrays_have_several arrays) → SameArrays several arrays
  arrays_same several WithoutArrays h = refl
  arrays_same several (ArraysOf first rest) h =
      let both = may_parts several (some_has_several first) (has_several rest) h in
      rw (elements_same several first both.0, faults_same several rest both.1) refl

  objects_same : (several : Bool) (objects : Objects) → May several (objects_have_several objects) → SameObjects several objects
  objects_same several WithoutObjects h = refl
  objects_same several (ObjectsOf shapes extra) h = rw (fields_same several shapes h) refl

  elements_same : (several : Bool) (first : Shapes) → May several (some_has_several first) → element_faults several (written_shapes first) ≡ element_faults true (written_shapes first)
  elements_same several NoShapes h = refl
  elements_same several (AndShape s others) h =
      let both = may_parts several (has_several s) (some_has_several others) h in
      ap₂ ◌++◌ (faults_same several s both.0) (elements_same several others both.1)

  fields_same : (several : Bool) (shapes : FieldShapes) → May several (field_has_several shapes) → field_faults several (written_fields shapes) ≡ field_faults true (written_fields shapes)
  fields_same several NoFieldShapes h = refl
  fields_same several (AndFieldShape n needed s shapes) h =
      let both = may_parts several (has_several s) (field_has_several shapes) h in
      ap₂ ◌++◌ (faults_same several s both.0) (fields_same several shapes both.1)

pub written_spells_v1 : (s : Shape) → IsProperShape s → IsTrue (not (has_several s)) → SpellsShapeV1 (written_shape s) s
written_spells_v1 s p h = record { none_wrong = faults_same false s h ∙ (written_spells s p).none_wrong; same = (written_spells s p).same }
