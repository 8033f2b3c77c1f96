-- Where `look` answers a shape, the path names in every tree of the first shape a tree of that one; and where the path
-- isn't doubtful, `look` answers.
use Rattle.std.proofs.Common.{◌≡◌, ℕ, zero, suc, List, [], ◌∷◌, Bool, true, false, ◌||◌, Option, Some, None, Result, Ok, Err, refl, ap, arith}
use Rattle.std.specs.Prelude.{IsTrue}
use Rattle.std.proofs.lemmas.Bool.{and_parts, false≢true}
use Rattle.asl_model.specs.Tree.{Tree, Array, Object, Trees, NoTrees, AndTree, Fields, field_named, element}
use Rattle.asl_model.specs.Path.{Segment, Name, Index, Names, names_itself, names_in_field, names_in_element}
use Rattle.asl_model.specs.Shape.{Shape, Any, OfKinds, Arrays, WithoutArrays, ArraysOf, Objects, WithoutObjects, ObjectsOf, Shapes, NoShapes, AndShape, FieldShapes, Has, has, elements_have, fields_have, there_and, all_mentioned}
use Rattle.asl_model.specs.ShapeOrder.{mention_of}
use Rattle.asl_model.specs.ShapeFlow.{look, or_doubtful, found, look_at, through, one_further, part_at, place_at, place_in, field_in, arrays_alone, objects_alone, if_needed}
use Rattle.asl_model.proofs.ShapeInhabited.{has-inhabited, arrays_have-inhabited, objects_have-inhabited}
use Rattle.asl_model.proofs.ShapeInside.{mention_holds}

-- what a segment names in a tree has the shape, and each path goes on from it
abbrev Reached : Segment → Shape → Tree → Type 0
Reached segment part v = (u : Tree) × Has part u × ((q : List Segment) (w : Tree) → Names q u w → Names (segment ∷ q) v w)

pub place-element : (i : ℕ) (first : Shapes) (part : Shape) (further : Tree → Bool) (ts : Trees) → place_at i first ≡ Some part → IsTrue (elements_have first further ts) → (u : Tree) × (element i ts ≡ Some u) × Has part u
place-element i NoShapes part further ts e h = absurd (cc)
place-element i (AndShape s others) part further NoTrees e h = absurd (false≢true h)
place-element zero (AndShape s others) part further (AndTree t ts) e h =
    let is : s ≡ part = cc in
    (t, refl, rw is at (and_parts (has s t) (elements_have others further ts) h).0)
place-element (suc i) (AndShape s others) part further (AndTree t ts) e h = place-element i others part further ts e (and_parts (has s t) (elements_have others further ts) h).1

-- a needed field that a mention has is there, with its shape
pub needed-there : (mention : Option (Bool × Shape)) (value : Option Tree) (part : Shape) → if_needed mention ≡ Some part → ((m : Bool × Shape) → mention ≡ Some m → IsTrue (there_and m.0 (has m.1) value)) → (u : Tree) × (value ≡ Some u) × Has part u
needed-there None value part e holds = absurd (cc)
needed-there (Some (true, s)) None part e holds = absurd (false≢true (holds (true, s) refl))
needed-there (Some (true, s)) (Some u) part e holds =
    let is : s ≡ part = cc in
    (u, refl, rw is at (holds (true, s) refl))
needed-there (Some (false, s)) value part e holds = absurd (cc)

-- each tree of a shape that arrays alone have is one of those
pub alone-array : (s : Shape) (first : Shapes) (rest : Shape) (v : Tree) → arrays_alone s ≡ ArraysOf first rest → Has s v → (ts : Trees) × (v ≡ Array ts) × IsTrue (elements_have first (has rest) ts)
alone-array Any first rest v e h = absurd (cc)
alone-array (OfKinds simple arrays objects) first rest (Array ts) e h =
    let is : arrays ≡ ArraysOf first rest = grind arith in
    (ts, refl, rw is at h)
alone-array (OfKinds simple arrays objects) first rest (Object fs) e h = absurd (grind (arith, objects_have-inhabited objects fs h))
alone-array (OfKinds simple arrays objects) first rest v e h = absurd (grind arith)

-- each of one that objects alone have, of those
pub alone-object : (s : Shape) (shapes : FieldShapes) (extra : Bool) (v : Tree) → objects_alone s ≡ ObjectsOf shapes extra → Has s v → (fs : Fields) × (v ≡ Object fs) × IsTrue (fields_have shapes fs) × IsTrue (extra || all_mentioned shapes fs)
alone-object Any shapes extra v e h = absurd (cc)
alone-object (OfKinds simple arrays objects) shapes extra (Object fs) e h =
    let is : objects ≡ ObjectsOf shapes extra = grind arith in
    let both = and_parts (fields_have shapes fs) (extra || all_mentioned shapes fs) (rw is at h) in
    (fs, refl, both.0, both.1)
alone-object (OfKinds simple arrays objects) shapes extra (Array ts) e h = absurd (grind (arith, arrays_have-inhabited arrays ts h))
alone-object (OfKinds simple arrays objects) shapes extra v e h = absurd (grind arith)

place-reached : (i : ℕ) (arrays : Arrays) (s part : Shape) (v : Tree) → arrays_alone s ≡ arrays → place_in i arrays ≡ Some part → Has s v → Reached (Index i) part v
place-reached i WithoutArrays s part v alone e h = absurd (cc)
place-reached i (ArraysOf first rest) s part v alone e h =
    let one = alone-array s first rest v alone h in
    let found = place-element i first part (has rest) one.0 e one.2 in
    (found.0, found.2, λ q w names. rw (one.1) (names_in_element found.1 names))

field-reached : (n : List ℕ) (objects : Objects) (s part : Shape) (v : Tree) → objects_alone s ≡ objects → field_in n objects ≡ Some part → Has s v → Reached (Name n) part v
field-reached n WithoutObjects s part v alone e h = absurd (cc)
field-reached n (ObjectsOf shapes extra) s part v alone e h =
    let one = alone-object s shapes extra v alone h in
    let found = needed-there (mention_of n shapes) (field_named n one.0) part e (λ m at. mention_holds n shapes one.0 m at one.2) in
    (found.0, found.2, λ q w names. rw (one.1) (names_in_field found.1 names))

part-reached : (segment : Segment) (s part : Shape) (v : Tree) → part_at segment s ≡ Some part → Has s v → Reached segment part v
part-reached (Name n) s part v e h = field-reached n (objects_alone s) s part v refl e h
part-reached (Index i) s part v e h = place-reached i (arrays_alone s) s part v refl e h

-- a refusal counted further stays one
pub further-Ok : (r : Result Shape ℕ) (t : Shape) → one_further r ≡ Ok t → r ≡ Ok t
further-Ok (Ok s) t e = e
further-Ok (Err at) t e = absurd (cc)

look_at-names : (path : List Segment) (s t : Shape) → look_at path s ≡ Ok t → (v : Tree) → Has s v → (w : Tree) × Names path v w × Has t w
look_at-names [] s t e v h =
    let is : s ≡ t = cc in
    (v, names_itself, rw is at h)
look_at-names (segment ∷ path) s t e v h = go (part_at segment s) refl e (look_at-names path)
  where
    go : (part : Option Shape) → part_at segment s ≡ part → through (look_at path) part ≡ Ok t → ((s' t' : Shape) → look_at path s' ≡ Ok t' → (v' : Tree) → Has s' v' → (w : Tree) × Names path v' w × Has t' w) → (w : Tree) × Names (segment ∷ path) v w × Has t w
    go None at e' below = absurd (cc)
    go (Some part) at e' below =
        let reached = part-reached segment s part v at h in
        let found = below part t (further-Ok (look_at path part) t e') reached.0 reached.1 in
        (found.0, reached.2 path found.0 found.1, found.2)

pub look-names : (path : List Segment) (s t : Shape) → look path s ≡ Ok t → (v : Tree) → Has s v → (w : Tree) × Names path v w × Has t w
look-names path s t e v h = look_at-names path s t (rw (has-inhabited s v h) at e) v h

undoubted : (path : List Segment) (s t : Shape) (r : Result Shape ℕ) → or_doubtful path s r ≡ Ok t → r ≡ Ok t
undoubted path s t (Ok part) e =
    let is : part ≡ t = cc in
    ap Ok is
undoubted path s t (Err at) e = absurd (cc)

-- what is found at a path is what `look` answers
pub found-looked : (path : List Segment) (s t : Shape) → found path s ≡ Ok t → look path s ≡ Ok t
found-looked path s t e = undoubted path s t (look path s) e
