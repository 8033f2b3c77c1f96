-- Where `put` answers a shape, placing every tree of the one shape in every tree of the other gives a tree of it.
use Rattle.std.proofs.Common.{◌≡◌, ℕ, zero, suc, List, [], ◌∷◌, Bool, true, false, ◌||◌, not, Option, Some, None, Result, Ok, Err, refl, subst}
use Rattle.std.specs.Prelude.{IsTrue, bytes_eq}
use Rattle.std.specs.Option.{option_map}
use Rattle.std.specs.Prelude.{option_and_then}
use Rattle.std.proofs.lemmas.Bool.{and_parts, and_from, false≢true}
use Rattle.std.proofs.lemmas.Slice.Eq.{bytes_eq-Decides}
use Rattle.asl_model.specs.Tree.{Tree, Array, Object, Trees, NoTrees, AndTree, Fields, field_named, element}
use Rattle.asl_model.specs.Path.{Segment, Name, Index}
use Rattle.asl_model.specs.Placing.{placed, built, only_field, in_or_built, set_field, set_element}
use Rattle.asl_model.specs.Shape.{Shape, Arrays, WithoutArrays, ArraysOf, Objects, WithoutObjects, ObjectsOf, ArrayShape, ObjectShape, Shapes, NoShapes, AndShape, FieldShapes, NoFieldShapes, AndFieldShape, Has, has, elements_have, fields_have, there_and, all_mentioned}
use Rattle.asl_model.specs.ShapeOrder.{mention_of, set_mention, join}
use Rattle.asl_model.specs.ShapeFlow.{arrays_alone, objects_alone, put, put_in_arrays, put_in_objects, put_in_place, put_mentioned, array_with, object_with, around, built_shape, join_results, set_place, place_at}
use Rattle.asl_model.proofs.ShapeInhabited.{has-inhabited}
use Rattle.asl_model.proofs.ShapeInside.{mention_holds, closed_absent}
use Rattle.asl_model.proofs.ShapeFields.{set-have, set-mentioned}
use Rattle.asl_model.proofs.ShapeJoin.{join_above}
use Rattle.asl_model.proofs.ShapeLook.{place-element, alone-array, alone-object}

-- there is a tree, and it has the shape
abbrev pub GivesOne : Shape → Option Tree → Type 0
GivesOne r value = (u : Tree) × (value ≡ Some u) × Has r u

-- what goes on from a place gives a tree of its answer, for each tree of each shape
abbrev Goes : (Shape → Result Shape ℕ) → (Tree → Option Tree) → Type 0
Goes go_on place = (s r : Shape) (v : Tree) → go_on s ≡ Ok r → Has s v → GivesOne r (place v)

-- what is built

object_of : (n : List ℕ) (s : Shape) (u : Tree) → Has s u → Has (ObjectShape (AndFieldShape n true s NoFieldShapes) false) (only_field n u)
object_of n s u m =
    let found : bytes_eq n n ≡ true = (bytes_eq-Decides n n).1 refl in
    rw (found, m) refl

built-gives : (path : List Segment) (w r : Shape) (x : Tree) → built_shape path w ≡ Ok r → Has w x → GivesOne r (built path x)
built-gives [] w r x e m =
    let is : w ≡ r = cc in
    (x, refl, rw is at m)
built-gives (Name n ∷ path) w r x e m = go (built_shape path w) refl e (λ s at. built-gives path w s x at m)
  where
    go : (inner : Result Shape ℕ) → built_shape path w ≡ inner → around n inner ≡ Ok r → ((s : Shape) → built_shape path w ≡ Ok s → GivesOne s (built path x)) → GivesOne r (built (Name n ∷ path) x)
    go (Ok s) at e' below =
        let found = below s at in
        let is : ObjectShape (AndFieldShape n true s NoFieldShapes) false ≡ r = cc in
        (only_field n found.0, rw (found.1) refl, subst (λ (z : Shape). Has z (only_field n found.0)) is (object_of n s found.0 found.2))
    go (Err k) at e' below = absurd (cc)
built-gives (Index i ∷ path) w r x e m = absurd (cc)

-- elements

set_element-has : (i : ℕ) (first : Shapes) (further : Tree → Bool) (s r : Shape) (u : Tree) (ts : Trees) → place_at i first ≡ Some s → IsTrue (elements_have first further ts) → Has r u → IsTrue (elements_have (set_place i r first) further (set_element i u ts))
set_element-has i NoShapes further s r u ts at h m = absurd (cc)
set_element-has i (AndShape o others) further s r u NoTrees at h m = absurd (false≢true h)
set_element-has zero (AndShape o others) further s r u (AndTree t ts) at h m = and_from (has r u) (elements_have others further ts) m (and_parts (has o t) (elements_have others further ts) h).1
set_element-has (suc i) (AndShape o others) further s r u (AndTree t ts) at h m =
    let both = and_parts (has o t) (elements_have others further ts) h in
    and_from (has o t) (elements_have (set_place i r others) further (set_element i u ts)) both.0 (set_element-has i others further s r u ts at both.1 m)

put_in_element : (go_on : Shape → Result Shape ℕ) (place : Tree → Option Tree) → Goes go_on place → (i : ℕ) (first : Shapes) (rest r : Shape) (ts : Trees) → put_in_place go_on i first rest (place_at i first) ≡ Ok r → IsTrue (elements_have first (has rest) ts) → GivesOne r (option_map (λ u. Array (set_element i u ts)) (option_and_then place (element i ts)))
put_in_element go_on place goes i first rest r ts e h = at_place (place_at i first) refl e
  where
    with_result : (s : Shape) (inner : Result Shape ℕ) → place_at i first ≡ Some s → go_on s ≡ inner → array_with i first rest inner ≡ Ok r → GivesOne r (option_map (λ u. Array (set_element i u ts)) (option_and_then place (element i ts)))
    with_result s (Ok w) at is e' =
        let found = place-element i first s (has rest) ts at h in
        let given = goes s w found.0 is found.2 in
        let whole : ArrayShape (set_place i w first) rest ≡ r = cc in
        let member : Has (ArrayShape (set_place i w first) rest) (Array (set_element i given.0 ts)) = set_element-has i first (has rest) s w given.0 ts at h given.2 in
        (Array (set_element i given.0 ts), rw (found.1, given.1) refl, subst (λ (z : Shape). Has z (Array (set_element i given.0 ts))) whole member)
    with_result s (Err k) at is e' = absurd (cc)

    at_place : (part : Option Shape) → place_at i first ≡ part → put_in_place go_on i first rest part ≡ Ok r → GivesOne r (option_map (λ u. Array (set_element i u ts)) (option_and_then place (element i ts)))
    at_place None at e' = absurd (cc)
    at_place (Some s) at e' = with_result s (go_on s) at refl e'

-- fields

-- what is placed in a field or built for it
join-gives : (inner outer : Result Shape ℕ) (r : Shape) → join_results inner outer ≡ Ok r → (s : Shape) × (t : Shape) × (inner ≡ Ok s) × (outer ≡ Ok t) × (join s t ≡ r)
join-gives (Ok s) (Ok t) r e =
    let is : join s t ≡ r = cc in
    (s, t, refl, refl, is)
join-gives (Ok s) (Err k) r e = absurd (cc)
join-gives (Err k) outer r e = absurd (cc)

field-gives : (go_on : Shape → Result Shape ℕ) (place : Tree → Option Tree) → Goes go_on place → (extra : Bool) (path : List Segment) (w : Shape) (x : Tree) (mention : Option (Bool × Shape)) (value : Option Tree) (r : Shape) → Has w x → ((t : Shape) (v : Tree) → path ≡ [] → w ≡ t → GivesOne t (place v)) → ((m : Bool × Shape) → mention ≡ Some m → IsTrue (there_and m.0 (has m.1) value)) → (mention ≡ None → IsTrue (not extra) → value ≡ None) → put_mentioned go_on extra path w mention ≡ Ok r → GivesOne r (in_or_built place (built path x) value)
field-gives go_on place goes extra [] w x None None r m itself holds absent e = built-gives [] w r x e m
field-gives go_on place goes extra [] w x None (Some v) r m itself holds absent e =
    let is : w ≡ r = cc in
    itself r v refl is
field-gives go_on place goes true (segment ∷ path) w x None value r m itself holds absent e = absurd (cc)
field-gives go_on place goes false (segment ∷ path) w x None value r m itself holds absent e = rw (absent refl refl) (built-gives (segment ∷ path) w r x e m)
field-gives go_on place goes extra path w x (Some (true, s)) None r m itself holds absent e = absurd (false≢true (holds (true, s) refl))
field-gives go_on place goes extra path w x (Some (true, s)) (Some v) r m itself holds absent e = goes s r v e (holds (true, s) refl)
field-gives go_on place goes extra path w x (Some (false, s)) None r m itself holds absent e =
    let parts = join-gives (go_on s) (built_shape path w) r e in
    let given = built-gives path w parts.1 x parts.3 m in
    (given.0, given.1, rw parts.4 at (join_above.right parts.0 parts.1 given.0 given.2))
field-gives go_on place goes extra path w x (Some (false, s)) (Some v) r m itself holds absent e =
    let parts = join-gives (go_on s) (built_shape path w) r e in
    let given = goes s parts.0 v parts.2 (holds (false, s) refl) in
    (given.0, given.1, rw parts.4 at (join_above.left parts.0 parts.1 given.0 given.2))

put_in_field : (n : List ℕ) (shapes : FieldShapes) (extra : Bool) (r : Shape) (inner : Result Shape ℕ) (value : Option Tree) (fs : Fields) → ((t : Shape) → inner ≡ Ok t → GivesOne t value) → object_with n shapes extra inner ≡ Ok r → IsTrue (fields_have shapes fs) → IsTrue (extra || all_mentioned shapes fs) → GivesOne r (option_map (λ u. Object (set_field n u fs)) value)
put_in_field n shapes extra r (Err k) value fs gives e h mentioned = absurd (cc)
put_in_field n shapes extra r (Ok w) value fs gives e h mentioned =
    let given = gives w refl in
    let whole : ObjectShape (set_mention n true w shapes) extra ≡ r = cc in
    let member : Has (ObjectShape (set_mention n true w shapes) extra) (Object (set_field n given.0 fs)) = and_from (fields_have (set_mention n true w shapes) (set_field n given.0 fs)) (extra || all_mentioned (set_mention n true w shapes) (set_field n given.0 fs)) (set-have n true w given.0 shapes fs h given.2) (others extra given.0 mentioned) in
    (Object (set_field n given.0 fs), rw (given.1) refl, subst (λ (z : Shape). Has z (Object (set_field n given.0 fs))) whole member)
  where
    others : (more : Bool) (u : Tree) → IsTrue (more || all_mentioned shapes fs) → IsTrue (more || all_mentioned (set_mention n true w shapes) (set_field n u fs))
    others true u all = refl
    others false u all = set-mentioned n true w u shapes fs all

-- placing at the empty path gives the tree itself
itself_placed : (path : List Segment) (w : Shape) (x : Tree) → Has w x → (t : Shape) (v : Tree) → path ≡ [] → w ≡ t → GivesOne t (placed path x v)
itself_placed [] w x m t v e is = (x, refl, rw is at m)
itself_placed (segment ∷ path) w x m t v e is = absurd (cc)

-- Trees under a segment

put_in_arrays-gives : (go_on : Shape → Result Shape ℕ) (i : ℕ) (path : List Segment) (arrays : Arrays) (s r : Shape) (x v : Tree) → Goes go_on (placed path x) → arrays_alone s ≡ arrays → put_in_arrays go_on i arrays ≡ Ok r → Has s v → GivesOne r (placed (Index i ∷ path) x v)
put_in_arrays-gives go_on i path WithoutArrays s r x v goes alone e h = absurd (cc)
put_in_arrays-gives go_on i path (ArraysOf first rest) s r x v goes alone e h =
    let one = alone-array s first rest v alone h in
    rw (one.1) (put_in_element go_on (placed path x) goes i first rest r one.0 e one.2)

put_in_objects-gives : (go_on : Shape → Result Shape ℕ) (n : List ℕ) (path : List Segment) (objects : Objects) (w s r : Shape) (x v : Tree) → Goes go_on (placed path x) → Has w x → objects_alone s ≡ objects → put_in_objects go_on n path w objects ≡ Ok r → Has s v → GivesOne r (placed (Name n ∷ path) x v)
put_in_objects-gives go_on n path WithoutObjects w s r x v goes m alone e h = absurd (cc)
put_in_objects-gives go_on n path (ObjectsOf shapes extra) w s r x v goes m alone e h =
    let one = alone-object s shapes extra v alone h in
    let mention = mention_of n shapes in
    let value = field_named n one.0 in
    let inner : (t : Shape) → put_mentioned go_on extra path w mention ≡ Ok t → GivesOne t (in_or_built (placed path x) (built path x) value) = λ t at. field-gives go_on (placed path x) goes extra path w x mention value t m (itself_placed path w x m) (λ found there. mention_holds n shapes one.0 found there one.2) (closed_absent n shapes extra one.0 one.3) at in
    rw (one.1) (put_in_field n shapes extra r (put_mentioned go_on extra path w mention) (in_or_built (placed path x) (built path x) value) one.0 inner e one.2 one.3)

pub put-gives : (path : List Segment) (w s r : Shape) (x v : Tree) → put path w s ≡ Ok r → Has w x → Has s v → GivesOne r (placed path x v)
put-gives [] w s r x v e m h =
    let found : Ok w ≡ Ok r = rw (has-inhabited s v h, has-inhabited w x m) at e in
    let is : w ≡ r = cc in
    (x, refl, rw is at m)
put-gives (Name n ∷ path) w s r x v e m h = put_in_objects-gives (put path w) n path (objects_alone s) w s r x v (λ s' r' v' e' h'. put-gives path w s' r' x v' e' m h') m refl (rw (has-inhabited s v h, has-inhabited w x m) at e) h
put-gives (Index i ∷ path) w s r x v e m h = put_in_arrays-gives (put path w) i path (arrays_alone s) s r x v (λ s' r' v' e' h'. put-gives path w s' r' x v' e' m h') refl (rw (has-inhabited s v h, has-inhabited w x m) at e) h
