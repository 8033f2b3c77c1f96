-- Where `missing` answers a tree, it has the shape and the path names nothing in it; it answers one exactly where `look`
-- refuses.
use Rattle.std.proofs.Common.{◌≡◌, ◌↔◌, ℕ, zero, suc, List, [], ◌∷◌, Bool, true, false, ◌||◌, not, Option, Some, None, Result, Ok, Err, refl, sym, option_map, option_and_then, is_some, is_none, is_ok, arith}
use Rattle.std.specs.Prelude.{IsTrue, bytes_eq}
use Rattle.std.proofs.lemmas.Bool.{and_parts, and_from, false≢true}
use Rattle.std.proofs.lemmas.Option.{option_and_then_some}
use Rattle.std.proofs.lemmas.Slice.Eq.{bytes_eq-Decides}
use Rattle.asl_model.specs.Tree.{Tree, Null, Boolean, Integer, Text, Array, Object, Trees, NoTrees, AndTree, Fields, field_named, element}
use Rattle.asl_model.specs.Path.{Segment, Name, Index, child}
use Rattle.asl_model.specs.Placing.{placed, set_field, set_element}
use Rattle.asl_model.specs.Shape.{Shape, Any, OfKinds, Arrays, WithoutArrays, ArraysOf, Objects, WithoutObjects, ObjectsOf, Shapes, NoShapes, AndShape, FieldShapes, NoFieldShapes, AndFieldShape, Has, has, elements_have, fields_have, objects_have, there_and, mentions, all_mentioned, IsOrdered, AreOrderedFields, inhabited, some_array, some_object, all_inhabited, needed_inhabited}
use Rattle.asl_model.specs.ShapeOrder.{mention_of}
use Rattle.asl_model.specs.ShapeFlow.{look, look_at, through, one_further, part_at, place_at, place_in, field_in, arrays_alone, objects_alone, if_needed}
use Rattle.asl_model.specs.Examples.{example, examples, needed_examples}
use Rattle.asl_model.specs.Missing.{missing, missing_at, missing_behind, example_without, not_gone_into, IsMissing}
use Rattle.asl_model.proofs.ShapeInside.{all_mentioned-from, there-mentioned}
use Rattle.asl_model.proofs.ShapeFields.{field_named-set_same, field_named-set_other}
use Rattle.asl_model.proofs.NamesInOrder.{before_all, before-none, bytes_eq-comm}
use Rattle.asl_model.proofs.ShapeExample.{exampled, example-field, example-has}
use Rattle.asl_model.proofs.ShapeOrdered.{place-ordered, mention-ordered, alone_arrays-ordered, alone_objects-ordered}
use Rattle.asl_model.proofs.ShapeLook.{place-element, alone-array, alone-object}

-- The example of a shape whose trees are all of one kind

example-arrays : (s : Shape) (first : Shapes) (rest : Shape) → arrays_alone s ≡ ArraysOf first rest → IsTrue (inhabited s) → IsTrue (all_inhabited first) × (example s ≡ Array (examples first))
example-arrays Any first rest alone live = absurd (cc)
example-arrays (OfKinds simple arrays objects) first rest alone live =
    let is : arrays ≡ ArraysOf first rest = grind arith in
    let some : some_array arrays ≡ true = grind arith in
    (rw is at some, rw (some, is) refl)

example-objects : (s : Shape) (shapes : FieldShapes) (extra : Bool) → objects_alone s ≡ ObjectsOf shapes extra → IsTrue (inhabited s) → IsTrue (needed_inhabited shapes) × (example s ≡ Object (needed_examples shapes))
example-objects Any shapes extra alone live = absurd (cc)
example-objects (OfKinds simple arrays objects) shapes extra alone live =
    let is : objects ≡ ObjectsOf shapes extra = grind arith in
    let some : some_object objects ≡ true = grind arith in
    let none : some_array arrays ≡ false = grind arith in
    let no_boolean : simple.boolean ≡ false = grind arith in
    let no_integer : simple.integer ≡ false = grind arith in
    let no_null : simple.null ≡ false = grind arith in
    (rw is at some, rw (none, no_boolean, no_integer, no_null, some, is) refl)

example-element : (i : ℕ) (first : Shapes) → element i (examples first) ≡ option_map example (place_at i first)
example-element i NoShapes = refl
example-element zero (AndShape s others) = refl
example-element (suc i) (AndShape s others) = example-element i others

example-absent : (n : List ℕ) (shapes : FieldShapes) → AreOrderedFields shapes → if_needed (mention_of n shapes) ≡ None → field_named n (needed_examples shapes) ≡ None
example-absent n shapes ordered e = rw (example-field n shapes ordered) (go (mention_of n shapes) e)
  where
    go : (mention : Option (Bool × Shape)) → if_needed mention ≡ None → exampled mention ≡ None
    go None e' = refl
    go (Some (true, s)) e' = absurd (cc)
    go (Some (false, s)) e' = refl

-- What a segment names in every tree of an inhabited shape is inhabited

place-inhabited : (i : ℕ) (first : Shapes) (part : Shape) → place_at i first ≡ Some part → IsTrue (all_inhabited first) → IsTrue (inhabited part)
place-inhabited i NoShapes part e live = absurd (cc)
place-inhabited zero (AndShape s others) part e live =
    let is : s ≡ part = cc in
    rw is at (and_parts (inhabited s) (all_inhabited others) live).0
place-inhabited (suc i) (AndShape s others) part e live = place-inhabited i others part e (and_parts (inhabited s) (all_inhabited others) live).1

field-inhabited : (n : List ℕ) (shapes : FieldShapes) (part : Shape) → if_needed (mention_of n shapes) ≡ Some part → IsTrue (needed_inhabited shapes) → IsTrue (inhabited part)
field-inhabited n NoFieldShapes part e live = absurd (cc)
field-inhabited n (AndFieldShape m needed s shapes) part e live = go needed (bytes_eq m n) refl e both.0 (λ below. field-inhabited n shapes part below both.1)
  where
    both : IsTrue (not needed || inhabited s) × IsTrue (needed_inhabited shapes)
    both = and_parts (not needed || inhabited s) (needed_inhabited shapes) live

    go : (needed' same : Bool) → bytes_eq m n ≡ same → if_needed (mention_of n (AndFieldShape m needed' s shapes)) ≡ Some part → IsTrue (not needed' || inhabited s) → (if_needed (mention_of n shapes) ≡ Some part → IsTrue (inhabited part)) → IsTrue (inhabited part)
    go true true same e' here below =
        let found : Some s ≡ Some part = rw same at e' in
        let is : s ≡ part = cc in
        rw is at here
    go false true same e' here below =
        let found : None ≡ Some part = rw same at e' in
        absurd (cc)
    go needed' false apart e' here below = below (rw apart at e')

pub part-inhabited : (segment : Segment) (s part : Shape) → part_at segment s ≡ Some part → IsTrue (inhabited s) → IsTrue (inhabited part)
part-inhabited (Name n) s part e live = go (objects_alone s) refl e
  where
    go : (objects : Objects) → objects_alone s ≡ objects → field_in n objects ≡ Some part → IsTrue (inhabited part)
    go WithoutObjects alone e' = absurd (cc)
    go (ObjectsOf shapes extra) alone e' = field-inhabited n shapes part e' (example-objects s shapes extra alone live).0
part-inhabited (Index i) s part e live = go (arrays_alone s) refl e
  where
    go : (arrays : Arrays) → arrays_alone s ≡ arrays → place_in i arrays ≡ Some part → IsTrue (inhabited part)
    go WithoutArrays alone e' = absurd (cc)
    go (ArraysOf first rest) alone e' = place-inhabited i first part e' (example-arrays s first rest alone live).0

-- A tree is placed in the example where the segment names something in every tree

pub field-placed : (n : List ℕ) (t : Tree) (fs : Fields) → placed (Name n ∷ []) t (Object fs) ≡ Some (Object (set_field n t fs))
field-placed n t fs = go (field_named n fs) refl
  where
    go : (there : Option Tree) → field_named n fs ≡ there → placed (Name n ∷ []) t (Object fs) ≡ Some (Object (set_field n t fs))
    go None e = rw e refl
    go (Some u) e = rw e refl

pub element-placed : (i : ℕ) (t u : Tree) (ts : Trees) → element i ts ≡ Some u → placed (Index i ∷ []) t (Array ts) ≡ Some (Array (set_element i t ts))
element-placed i t u ts e = rw e refl

part-placed : (segment : Segment) (s part : Shape) (t : Tree) → part_at segment s ≡ Some part → IsTrue (inhabited s) → IsTrue (is_some (placed (segment ∷ []) t (example s)))
part-placed (Name n) s part t e live = go (objects_alone s) refl e
  where
    go : (objects : Objects) → objects_alone s ≡ objects → field_in n objects ≡ Some part → IsTrue (is_some (placed (Name n ∷ []) t (example s)))
    go WithoutObjects alone e' = absurd (cc)
    go (ObjectsOf shapes extra) alone e' = rw ((example-objects s shapes extra alone live).1, field-placed n t (needed_examples shapes)) refl
part-placed (Index i) s part t e live = go (arrays_alone s) refl e
  where
    go : (arrays : Arrays) → arrays_alone s ≡ arrays → place_in i arrays ≡ Some part → IsTrue (is_some (placed (Index i ∷ []) t (example s)))
    go WithoutArrays alone e' = absurd (cc)
    go (ArraysOf first rest) alone e' =
        let there : element i (examples first) ≡ Some (example part) = rw e' at (example-element i first) in
        rw ((example-arrays s first rest alone live).1, element-placed i t (example part) (examples first) there) refl

-- Where there is a tree

as-refused : (place : Tree → Option Tree) → ((t : Tree) → IsTrue (is_some (place t))) → (found : Option Tree) (r : Result Shape ℕ) → is_none found ≡ is_ok r → is_none (option_and_then place found) ≡ is_ok (one_further r)
as-refused place always None (Ok s) e = refl
as-refused place always None (Err at) e = absurd (cc)
as-refused place always (Some t) (Ok s) e = absurd (cc)
as-refused place always (Some t) (Err at) e = rw (always t) refl

missing_at-ok : (path : List Segment) (s : Shape) → IsTrue (inhabited s) → is_none (missing_at path s) ≡ is_ok (look_at path s)
missing_at-ok [] s live = refl
missing_at-ok (segment ∷ path) s live = go (part_at segment s) refl (missing_at-ok path)
  where
    go : (part : Option Shape) → part_at segment s ≡ part → ((s' : Shape) → IsTrue (inhabited s') → is_none (missing_at path s') ≡ is_ok (look_at path s')) → is_none (missing_behind (missing_at path) segment s part) ≡ is_ok (through (look_at path) part)
    go None at below = refl
    go (Some part) at below = as-refused (λ t. placed (segment ∷ []) t (example s)) (λ t. part-placed segment s part t at live) (missing_at path part) (look_at path part) (below part (part-inhabited segment s part at live))

-- no tree is told exactly where the path is found
pub missing-ok : (path : List Segment) (s : Shape) → is_none (missing path s) ≡ is_ok (look path s)
missing-ok path s = go (inhabited s) refl
  where
    go : (live : Bool) → inhabited s ≡ live → is_none (missing path s) ≡ is_ok (look path s)
    go true live = rw live (missing_at-ok path s live)
    go false none = rw none refl

pub missing-exactly : (path : List Segment) (s : Shape) → (missing path s ≡ None) ↔ IsTrue (is_ok (look path s))
missing-exactly path s = go (missing path s) (missing-ok path s)
  where
    go : (found : Option Tree) → is_none found ≡ is_ok (look path s) → (found ≡ None) ↔ IsTrue (is_ok (look path s))
    go None e = (λ none. sym e, λ ok. refl)
    go (Some t) e = (λ none. absurd (cc), λ ok. absurd (cc))

-- The tree has the shape

-- an array with one element set, in place of one that fits the same shape
set-elements : (i : ℕ) (first : Shapes) (part : Shape) (further : Tree → Bool) (t : Tree) (ts : Trees) → place_at i first ≡ Some part → IsTrue (elements_have first further ts) → Has part t → IsTrue (elements_have first further (set_element i t ts)) × (element i (set_element i t ts) ≡ Some t)
set-elements i NoShapes part further t ts e h fits = absurd (cc)
set-elements i (AndShape s others) part further t NoTrees e h fits = absurd (false≢true h)
set-elements zero (AndShape s others) part further t (AndTree u ts) e h fits =
    let is : s ≡ part = cc in
    (and_from (has s t) (elements_have others further ts) (rw is fits) (and_parts (has s u) (elements_have others further ts) h).1, refl)
set-elements (suc i) (AndShape s others) part further t (AndTree u ts) e h fits =
    let both = and_parts (has s u) (elements_have others further ts) h in
    let below = set-elements i others part further t ts e both.1 fits in
    (and_from (has s u) (elements_have others further (set_element i t ts)) both.0 below.0, below.1)

-- an object with one field set that fits the mention of its name
pub set-fields : (n : List ℕ) (t : Tree) (shapes : FieldShapes) (fs : Fields) → AreOrderedFields shapes → ((m : Bool × Shape) → mention_of n shapes ≡ Some m → Has m.1 t) → IsTrue (fields_have shapes fs) → IsTrue (fields_have shapes (set_field n t fs))
set-fields n t NoFieldShapes fs ordered fits h = refl
set-fields n t (AndFieldShape m needed s shapes) fs ordered fits h = go (bytes_eq m n) refl fits (set-fields n t shapes fs ordered.2)
  where
    both : IsTrue (there_and needed (has s) (field_named m fs)) × IsTrue (fields_have shapes fs)
    both = and_parts (there_and needed (has s) (field_named m fs)) (fields_have shapes fs) h

    go : (same : Bool) → bytes_eq m n ≡ same → ((k : Bool × Shape) → mention_of n (AndFieldShape m needed s shapes) ≡ Some k → Has k.1 t) → (((k : Bool × Shape) → mention_of n shapes ≡ Some k → Has k.1 t) → IsTrue (fields_have shapes fs) → IsTrue (fields_have shapes (set_field n t fs))) → IsTrue (fields_have (AndFieldShape m needed s shapes) (set_field n t fs))
    go true same fits' below =
        let is : m ≡ n = (bytes_eq-Decides m n).0 same in
        let first : mention_of n shapes ≡ None = before-none n shapes (before_all n shapes (rw is at ordered.0) ordered.2) in
        let there : field_named m (set_field n t fs) ≡ Some t = rw is (field_named-set_same n t fs) in
        and_from (there_and needed (has s) (field_named m (set_field n t fs))) (fields_have shapes (set_field n t fs)) (rw there (fits' (needed, s) (rw same refl))) (below (λ k at. absurd (cc)) both.1)
    go false apart fits' below =
        let there : field_named m (set_field n t fs) ≡ field_named m fs = field_named-set_other n m t fs (bytes_eq-comm m n apart) in
        and_from (there_and needed (has s) (field_named m (set_field n t fs))) (fields_have shapes (set_field n t fs)) (rw there both.0) (below (λ k at. fits' k (rw apart at)) both.1)

-- each field of it is mentioned, where its name is
pub set-all : (n : List ℕ) (t : Tree) (shapes : FieldShapes) (fs : Fields) (extra : Bool) → IsTrue (mentions n shapes) → IsTrue (extra || all_mentioned shapes fs) → IsTrue (extra || all_mentioned shapes (set_field n t fs))
set-all n t shapes fs true named all = refl
set-all n t shapes fs false named all = all_mentioned-from shapes (set_field n t fs) (λ k u at. go k u at (bytes_eq n k) refl)
  where
    go : (k : List ℕ) (u : Tree) → field_named k (set_field n t fs) ≡ Some u → (same : Bool) → bytes_eq n k ≡ same → IsTrue (mentions k shapes)
    go k u at true same =
        let is : n ≡ k = (bytes_eq-Decides n k).0 same in
        rw (← is) named
    go k u at false apart = there-mentioned k shapes fs u (rw (field_named-set_other n k t fs apart) at at) all

mention-mentioned : (n : List ℕ) (shapes : FieldShapes) (m : Bool × Shape) → mention_of n shapes ≡ Some m → IsTrue (mentions n shapes)
mention-mentioned n NoFieldShapes m e = absurd (cc)
mention-mentioned n (AndFieldShape k needed s shapes) m e = go (bytes_eq k n) refl e (mention-mentioned n shapes m)
  where
    go : (same : Bool) → bytes_eq k n ≡ same → mention_of n (AndFieldShape k needed s shapes) ≡ Some m → (mention_of n shapes ≡ Some m → IsTrue (mentions n shapes)) → IsTrue (mentions n (AndFieldShape k needed s shapes))
    go true same e' below = rw same refl
    go false apart e' below = rw apart (below (rw apart at e'))

if_needed-mention : (mention : Option (Bool × Shape)) (part : Shape) → if_needed mention ≡ Some part → mention ≡ Some (true, part)
if_needed-mention None part e = absurd (cc)
if_needed-mention (Some (true, s)) part e =
    let is : s ≡ part = cc in
    rw is refl
if_needed-mention (Some (false, s)) part e = absurd (cc)

-- what a segment names in every tree of a shape has its example in that of the shape
pub example-part : (segment : Segment) (s part : Shape) → part_at segment s ≡ Some part → IsOrdered s → IsTrue (inhabited s) → child segment (example s) ≡ Some (example part)
example-part (Name n) s part e ordered live = go (objects_alone s) refl e
  where
    go : (objects : Objects) → objects_alone s ≡ objects → field_in n objects ≡ Some part → child (Name n) (example s) ≡ Some (example part)
    go WithoutObjects alone e' = absurd (cc)
    go (ObjectsOf shapes extra) alone e' =
        let mention : mention_of n shapes ≡ Some (true, part) = if_needed-mention (mention_of n shapes) part e' in
        let there : field_named n (needed_examples shapes) ≡ Some (example part) = rw mention at (example-field n shapes (rw alone at (alone_objects-ordered s ordered))) in
        rw ((example-objects s shapes extra alone live).1) there
example-part (Index i) s part e ordered live = go (arrays_alone s) refl e
  where
    go : (arrays : Arrays) → arrays_alone s ≡ arrays → place_in i arrays ≡ Some part → child (Index i) (example s) ≡ Some (example part)
    go WithoutArrays alone e' = absurd (cc)
    go (ArraysOf first rest) alone e' =
        let there : element i (examples first) ≡ Some (example part) = rw e' at (example-element i first) in
        rw ((example-arrays s first rest alone live).1) there

-- of the arrays that alone a shape has, and of the objects
of-arrays : (s : Shape) (first : Shapes) (rest : Shape) (ts : Trees) → arrays_alone s ≡ ArraysOf first rest → IsTrue (elements_have first (has rest) ts) → Has s (Array ts)
of-arrays Any first rest ts alone h = refl
of-arrays (OfKinds simple arrays objects) first rest ts alone h =
    let is : arrays ≡ ArraysOf first rest = grind arith in
    rw is h

of-objects : (s : Shape) (shapes : FieldShapes) (extra : Bool) (fs : Fields) → objects_alone s ≡ ObjectsOf shapes extra → IsTrue (objects_have (ObjectsOf shapes extra) fs) → Has s (Object fs)
of-objects Any shapes extra fs alone h = refl
of-objects (OfKinds simple arrays objects) shapes extra fs alone h =
    let is : objects ≡ ObjectsOf shapes extra = grind arith in
    rw is h

placed-has : (segment : Segment) (s part : Shape) (inner v t : Tree) → part_at segment s ≡ Some part → IsOrdered s → Has part inner → Has s v → placed (segment ∷ []) inner v ≡ Some t → Has s t × (child segment t ≡ Some inner)
placed-has (Name n) s part inner v t e ordered fits h is = go (objects_alone s) refl e
  where
    fitting : (found : Option (Bool × Shape)) → found ≡ Some (true, part) → (m : Bool × Shape) → found ≡ Some m → Has m.1 inner
    fitting found at m at' =
        let is : (true, part) ≡ m = cc in
        rw (← is) fits

    go : (objects : Objects) → objects_alone s ≡ objects → field_in n objects ≡ Some part → Has s t × (child (Name n) t ≡ Some inner)
    go WithoutObjects alone e' = absurd (cc)
    go (ObjectsOf shapes extra) alone e' =
        let one = alone-object s shapes extra v alone h in
        let mention : mention_of n shapes ≡ Some (true, part) = if_needed-mention (mention_of n shapes) part e' in
        let given : Some (Object (set_field n inner one.0)) ≡ Some t = rw (one.1, field-placed n inner one.0) at is in
        let set : Object (set_field n inner one.0) ≡ t = cc in
        let fields = set-fields n inner shapes one.0 (rw alone at (alone_objects-ordered s ordered)) (fitting (mention_of n shapes) mention) one.2 in
        let all = set-all n inner shapes one.0 extra (mention-mentioned n shapes (true, part) mention) one.3 in
        (rw set at (of-objects s shapes extra (set_field n inner one.0) alone (and_from (fields_have shapes (set_field n inner one.0)) (extra || all_mentioned shapes (set_field n inner one.0)) fields all)), rw (← set) (field_named-set_same n inner one.0))
placed-has (Index i) s part inner v t e ordered fits h is = go (arrays_alone s) refl e
  where
    go : (arrays : Arrays) → arrays_alone s ≡ arrays → place_in i arrays ≡ Some part → Has s t × (child (Index i) t ≡ Some inner)
    go WithoutArrays alone e' = absurd (cc)
    go (ArraysOf first rest) alone e' =
        let one = alone-array s first rest v alone h in
        let there = place-element i first part (has rest) one.0 e' one.2 in
        let given : Some (Array (set_element i inner one.0)) ≡ Some t = rw (one.1, element-placed i inner there.0 one.0 there.1) at is in
        let set : Array (set_element i inner one.0) ≡ t = cc in
        let elements = set-elements i first part (has rest) inner one.0 e' one.2 fits in
        (rw set at (of-arrays s first rest (set_element i inner one.0) alone elements.0), rw (← set) elements.1)

-- The example without a segment

-- the shape without a kind is inside the shape
without-inside : (segment : Segment) (s : Shape) (v : Tree) → Has (not_gone_into segment s) v → Has s v
without-inside segment Any v h = refl
without-inside (Name n) (OfKinds simple arrays objects) Null h = h
without-inside (Name n) (OfKinds simple arrays objects) (Boolean b) h = h
without-inside (Name n) (OfKinds simple arrays objects) (Integer k) h = h
without-inside (Name n) (OfKinds simple arrays objects) (Text s) h = h
without-inside (Name n) (OfKinds simple arrays objects) (Array ts) h = h
without-inside (Name n) (OfKinds simple arrays objects) (Object fs) h = absurd (false≢true h)
without-inside (Index i) (OfKinds simple arrays objects) Null h = h
without-inside (Index i) (OfKinds simple arrays objects) (Boolean b) h = h
without-inside (Index i) (OfKinds simple arrays objects) (Integer k) h = h
without-inside (Index i) (OfKinds simple arrays objects) (Text s) h = h
without-inside (Index i) (OfKinds simple arrays objects) (Array ts) h = absurd (false≢true h)
without-inside (Index i) (OfKinds simple arrays objects) (Object fs) h = h

without-ordered : (segment : Segment) (s : Shape) → IsOrdered s → IsOrdered (not_gone_into segment s)
without-ordered segment Any ordered = tt
without-ordered (Name n) (OfKinds simple arrays objects) ordered = (ordered.0, tt)
without-ordered (Index i) (OfKinds simple arrays objects) ordered = (tt, ordered.1)

-- in a tree of it the segment names nothing
without-names : (segment : Segment) (s : Shape) → child segment (example (not_gone_into segment s)) ≡ None
without-names segment Any = refl
without-names (Name n) (OfKinds simple arrays objects) = grind arith
without-names (Index i) (OfKinds simple arrays objects) = grind arith

-- nor in the example of the shape, where that is of the kind that the segment goes into
alone-names : (segment : Segment) (s : Shape) → IsOrdered s → IsTrue (inhabited s) → inhabited (not_gone_into segment s) ≡ false → part_at segment s ≡ None → child segment (example s) ≡ None
alone-names segment Any ordered live none at = absurd (cc)
alone-names (Name n) (OfKinds simple arrays objects) ordered live none at =
    let alone : objects_alone (OfKinds simple arrays objects) ≡ objects = grind arith in
    go objects alone (rw alone at at)
  where
    go : (found : Objects) → objects_alone (OfKinds simple arrays objects) ≡ found → field_in n found ≡ None → child (Name n) (example (OfKinds simple arrays objects)) ≡ None
    go WithoutObjects alone e = absurd (grind arith)
    go (ObjectsOf shapes extra) alone e =
        let one = example-objects (OfKinds simple arrays objects) shapes extra alone live in
        rw (one.1) (example-absent n shapes (rw alone at (alone_objects-ordered (OfKinds simple arrays objects) ordered)) e)
alone-names (Index i) (OfKinds simple arrays objects) ordered live none at =
    let alone : arrays_alone (OfKinds simple arrays objects) ≡ arrays = grind arith in
    go arrays alone (rw alone at at)
  where
    go : (found : Arrays) → arrays_alone (OfKinds simple arrays objects) ≡ found → place_in i found ≡ None → child (Index i) (example (OfKinds simple arrays objects)) ≡ None
    go WithoutArrays alone e = absurd (grind arith)
    go (ArraysOf first rest) alone e =
        let one = example-arrays (OfKinds simple arrays objects) first rest alone live in
        rw (one.1) (rw e at (example-element i first))

refused-names : (segment : Segment) (path : List Segment) (s : Shape) → IsOrdered s → IsTrue (inhabited s) → part_at segment s ≡ None → IsMissing (segment ∷ path) s (example_without segment s)
refused-names segment path s ordered live at = go (inhabited (not_gone_into segment s)) refl
  where
    go : (other : Bool) → inhabited (not_gone_into segment s) ≡ other → IsMissing (segment ∷ path) s (example_without segment s)
    go true other = record { has = rw other (without-inside segment s (example (not_gone_into segment s)) (example-has (not_gone_into segment s) (without-ordered segment s ordered) other)); nothing = rw (other, without-names segment s) refl }
    go false none = record { has = rw none (example-has s ordered live); nothing = rw (none, alone-names segment s ordered live none at) refl }

-- Along a path

pub part-ordered : (segment : Segment) (s part : Shape) → part_at segment s ≡ Some part → IsOrdered s → IsOrdered part
part-ordered (Name n) s part e ordered = go (objects_alone s) refl e
  where
    go : (objects : Objects) → objects_alone s ≡ objects → field_in n objects ≡ Some part → IsOrdered part
    go WithoutObjects alone e' = absurd (cc)
    go (ObjectsOf shapes extra) alone e' = mention-ordered n shapes (true, part) (if_needed-mention (mention_of n shapes) part e') (rw alone at (alone_objects-ordered s ordered))
part-ordered (Index i) s part e ordered = go (arrays_alone s) refl e
  where
    go : (arrays : Arrays) → arrays_alone s ≡ arrays → place_in i arrays ≡ Some part → IsOrdered part
    go WithoutArrays alone e' = absurd (cc)
    go (ArraysOf first rest) alone e' = place-ordered i first part e' (rw alone at (alone_arrays-ordered s ordered)).0

missed_at : (path : List Segment) (s : Shape) (t : Tree) → IsOrdered s → IsTrue (inhabited s) → missing_at path s ≡ Some t → IsMissing path s t
missed_at [] s t ordered live e = absurd (cc)
missed_at (segment ∷ path) s t ordered live e = go (part_at segment s) refl e (missed_at path)
  where
    go : (part : Option Shape) → part_at segment s ≡ part → missing_behind (missing_at path) segment s part ≡ Some t → ((s' : Shape) (t' : Tree) → IsOrdered s' → IsTrue (inhabited s') → missing_at path s' ≡ Some t' → IsMissing path s' t') → IsMissing (segment ∷ path) s t
    go None at e' below =
        let is : example_without segment s ≡ t = cc in
        rw is at (refused-names segment path s ordered live at)
    go (Some part) at e' below = option_and_then_some (λ inner. placed (segment ∷ []) inner (example s)) (missing_at path part) t e' (λ inner found here. from inner (below part inner (part-ordered segment s part at ordered) (part-inhabited segment s part at live) found) here)
      where
        from : (inner : Tree) → IsMissing path part inner → placed (segment ∷ []) inner (example s) ≡ Some t → IsMissing (segment ∷ path) s t
        from inner one here =
            let replaced = placed-has segment s part inner (example s) t at ordered one.has (example-has s ordered live) here in
            record { has = replaced.0; nothing = rw (replaced.1) one.nothing }

-- a tree that is told has the shape, and the path names nothing in it
pub missed : (path : List Segment) (s : Shape) (t : Tree) → IsOrdered s → missing path s ≡ Some t → IsMissing path s t
missed path s t ordered e = go (inhabited s) refl
  where
    go : (live : Bool) → inhabited s ≡ live → IsMissing path s t
    go true live = missed_at path s t ordered live (rw live at e)
    go false none =
        let nothing : None ≡ Some t = rw none at e in
        absurd (cc)
