-- Shapes by the kinds of their trees: which trees a shape of simple kinds alone has, what a test of a kind leaves of a
-- shape, and what a shape is with a narrowed part at a path that is found.
use Rattle.std.proofs.Common.{◌≡◌, ℕ, zero, suc, List, [], ◌∷◌, Bool, true, false, ◌&&◌, ◌||◌, Option, Some, None, Result, Ok, Err, refl, sym, ◌∙◌, subst, arith}
use Rattle.std.specs.Prelude.{IsTrue, if◌then◌else◌}
use Rattle.std.proofs.lemmas.Bool.{and_parts, and_from, false≢true}
use Rattle.asl_model.specs.Tree.{Tree, Null, Boolean, Integer, Text, Array, Object, Trees, NoTrees, AndTree, Fields, field_named, element}
use Rattle.asl_model.specs.Path.{Segment, Name, Index, named_by}
use Rattle.asl_model.specs.Test.{ValueKind, NullKind, NumericKind, StringKind, BooleanKind, is_of_kind, same_truth}
use Rattle.asl_model.specs.Shape.{Simple, Shape, Any, OfKinds, Never, ArrayShape, ObjectShape, Arrays, WithoutArrays, ArraysOf, Objects, WithoutObjects, ObjectsOf, Shapes, NoShapes, AndShape, FieldShapes, Has, has, elements_have, fields_have, all_mentioned, no_simple, some_array, some_object, inhabited}
use Rattle.asl_model.specs.ShapeOrder.{mention_of, set_mention}
use Rattle.asl_model.specs.ShapeFlow.{look, look_at, DoubtfulPath, found, through, if_needed, part_at, place_at, place_in, field_in, arrays_alone, objects_alone, put, put_under, put_in_arrays, put_in_objects, put_in_place, put_mentioned, object_with, set_place, is_only, is_boolean_shape, of_kind, not_of_kind, by_kind, narrowed_at}
use Rattle.asl_model.proofs.ShapeInhabited.{has-inhabited}
use Rattle.asl_model.proofs.ShapeInside.{mention_holds, all_mentioned-from, there-mentioned}
use Rattle.asl_model.proofs.ShapeFields.{have-set, mentions-set}
use Rattle.asl_model.proofs.ShapeLook.{place-element, needed-there, alone-array, alone-object, further-Ok, found-looked}

-- Kinds

-- where trees of these simple kinds alone have the shape, each of its trees is of one of them
pub only-has : (kinds : Simple) (s : Shape) (w : Tree) → IsTrue (is_only kinds s) → Has s w → Has (OfKinds kinds WithoutArrays WithoutObjects) w
only-has kinds Any w h m = absurd (false≢true h)
only-has kinds (OfKinds simple arrays objects) (Array ts) h m =
    let some : IsTrue (some_array arrays || false) = has-inhabited (OfKinds no_simple arrays WithoutObjects) (Array ts) m in
    grind arith
only-has kinds (OfKinds simple arrays objects) (Object fs) h m =
    let some : IsTrue (some_object objects) = has-inhabited (OfKinds no_simple WithoutArrays objects) (Object fs) m in
    grind arith
only-has kinds (OfKinds simple arrays objects) w h m = grind arith

-- a tree of a shape that truth values alone have is one
pub boolean-there : (s : Shape) (w : Tree) → IsTrue (is_boolean_shape s) → Has s w → (b : Bool) × (w ≡ Boolean b)
boolean-there s (Boolean b) h m = (b, refl)
boolean-there s w h m = absurd (false≢true (only-has (record no_simple { boolean = true }) s w h m))

-- a tree of that kind is kept
kind-kept : (kind : ValueKind) (s : Shape) (u : Tree) → Has s u → is_of_kind kind u ≡ true → Has (of_kind kind s) u
kind-kept NullKind Any Null h is = refl
kind-kept NullKind (OfKinds simple arrays objects) Null h is = h
kind-kept NumericKind Any (Integer n) h is = refl
kind-kept NumericKind (OfKinds simple arrays objects) (Integer n) h is = h
kind-kept StringKind Any (Text t) h is = refl
kind-kept StringKind (OfKinds simple arrays objects) (Text t) h is = h
kind-kept BooleanKind Any (Boolean b) h is = refl
kind-kept BooleanKind (OfKinds simple arrays objects) (Boolean b) h is = h
kind-kept kind s u h is = absurd (false≢true is)

-- a tree of another kind isn't dropped
kind-not_dropped : (kind : ValueKind) (s : Shape) (u : Tree) → Has s u → is_of_kind kind u ≡ false → Has (not_of_kind kind s) u
kind-not_dropped kind Any u h is = refl
kind-not_dropped NullKind (OfKinds simple arrays objects) Null h is = absurd (cc)
kind-not_dropped NumericKind (OfKinds simple arrays objects) (Integer n) h is = absurd (cc)
kind-not_dropped StringKind (OfKinds simple arrays objects) (Text t) h is = absurd (cc)
kind-not_dropped BooleanKind (OfKinds simple arrays objects) (Boolean b) h is = absurd (cc)
kind-not_dropped kind (OfKinds simple arrays objects) u h is = h

-- a tree of which the test of its kind is true stays
pub kind-stays : (kind : ValueKind) (expected : Bool) (s : Shape) (u : Tree) → Has s u → IsTrue (same_truth expected (is_of_kind kind u)) → Has (by_kind kind expected s) u
kind-stays kind true s u h is = kind-kept kind s u h is
kind-stays kind false s u h is = kind-not_dropped kind s u h (grind arith)

-- Parts

-- an element that has a further shape
pub set_place-has : (i : ℕ) (first : Shapes) (further : Tree → Bool) (r : Shape) (u : Tree) (ts : Trees) → element i ts ≡ Some u → IsTrue (elements_have first further ts) → Has r u → IsTrue (elements_have (set_place i r first) further ts)
set_place-has i NoShapes further r u ts at h m = h
set_place-has i (AndShape s others) further r u NoTrees at h m = absurd (false≢true h)
set_place-has zero (AndShape s others) further r u (AndTree t ts) at h m =
    let is : t ≡ u = cc in
    and_from (has r t) (elements_have others further ts) (subst (λ (z : Tree). Has r z) (sym is) m) (and_parts (has s t) (elements_have others further ts) h).1
set_place-has (suc i) (AndShape s others) further r u (AndTree t ts) at h m =
    let both = and_parts (has s t) (elements_have others further ts) h in
    and_from (has s t) (elements_have (set_place i r others) further ts) both.0 (set_place-has i others further r u ts at both.1 m)

-- the fields that are there are mentioned, with one mention more
pub all_mentioned-set : (n : List ℕ) (needed : Bool) (s : Shape) (shapes : FieldShapes) (fs : Fields) (extra : Bool) → IsTrue (extra || all_mentioned shapes fs) → IsTrue (extra || all_mentioned (set_mention n needed s shapes) fs)
all_mentioned-set n needed s shapes fs true h = refl
all_mentioned-set n needed s shapes fs false h = all_mentioned-from (set_mention n needed s shapes) fs (λ k t at. mentions-set n needed s shapes k (there-mentioned k shapes fs t at h))

-- Narrowing at a path

-- the placing answers a shape, which each tree of the other has in which the path names a tree of what is placed
abbrev Narrowed : List Segment → Shape → Shape → Result Shape ℕ → Type 0
Narrowed path w s result = (r : Shape) × (result ≡ Ok r) × ((v u : Tree) → Has s v → named_by path v ≡ Some u → Has w u → Has r v)

module _ (path : List Segment) (w part : Shape) (below : (t : Shape) → look_at path t ≡ Ok part → Narrowed path w t (put path w t)) where
  arrays-narrowed : (i : ℕ) (arrays : Arrays) (s : Shape) → arrays_alone s ≡ arrays → through (look_at path) (place_in i arrays) ≡ Ok part → Narrowed (Index i ∷ path) w s (put_in_arrays (put path w) i arrays)
  arrays-narrowed i WithoutArrays s alone e = absurd (cc)
  arrays-narrowed i (ArraysOf first rest) s alone e = go (place_at i first) refl e
    where
      go : (place : Option Shape) → place_at i first ≡ place → through (look_at path) place ≡ Ok part → Narrowed (Index i ∷ path) w s (put_in_place (put path w) i first rest place)
      go None at e' = absurd (cc)
      go (Some t) at e' = (ArrayShape (set_place i inner.0 first) rest, rw (inner.1) refl, has-placed)
        where
          inner : Narrowed path w t (put path w t)
          inner = below t (further-Ok (look_at path t) part e')

          has-placed : (v u : Tree) → Has s v → named_by (Index i ∷ path) v ≡ Some u → Has w u → Has (ArrayShape (set_place i inner.0 first) rest) v
          has-placed v u h named m =
              let one = alone-array s first rest v alone h in
              let there = place-element i first t (has rest) one.0 at one.2 in
              let further : named_by path there.0 ≡ Some u = rw there.1 at (rw (one.1) at named) in
              rw (one.1) (set_place-has i first (has rest) inner.0 there.0 one.0 there.1 one.2 (inner.2 there.0 u there.2 further m))

  objects-narrowed : (n : List ℕ) (objects : Objects) (s : Shape) → objects_alone s ≡ objects → through (look_at path) (field_in n objects) ≡ Ok part → Narrowed (Name n ∷ path) w s (put_in_objects (put path w) n path w objects)
  objects-narrowed n WithoutObjects s alone e = absurd (cc)
  objects-narrowed n (ObjectsOf shapes extra) s alone e = go (mention_of n shapes) refl e
    where
      go : (mention : Option (Bool × Shape)) → mention_of n shapes ≡ mention → through (look_at path) (if_needed mention) ≡ Ok part → Narrowed (Name n ∷ path) w s (object_with n shapes extra (put_mentioned (put path w) extra path w mention))
      go None at e' = absurd (cc)
      go (Some (false, t)) at e' = absurd (cc)
      go (Some (true, t)) at e' = (ObjectShape (set_mention n true inner.0 shapes) extra, rw (inner.1) refl, has-placed)
        where
          inner : Narrowed path w t (put path w t)
          inner = below t (further-Ok (look_at path t) part e')

          has-placed : (v u : Tree) → Has s v → named_by (Name n ∷ path) v ≡ Some u → Has w u → Has (ObjectShape (set_mention n true inner.0 shapes) extra) v
          has-placed v u h named m =
              let one = alone-object s shapes extra v alone h in
              let there = needed-there (Some (true, t)) (field_named n one.0) t refl (λ mention k. mention_holds n shapes one.0 mention (at ∙ k) one.2) in
              let further : named_by path there.0 ≡ Some u = rw there.1 at (rw (one.1) at named) in
              let held : Has inner.0 there.0 = inner.2 there.0 u there.2 further m in
              rw (one.1) (and_from (fields_have (set_mention n true inner.0 shapes) one.0) (extra || all_mentioned (set_mention n true inner.0 shapes) one.0) (have-set n true inner.0 shapes one.0 one.2 (rw there.1 held)) (all_mentioned-set n true inner.0 shapes one.0 extra one.3))

  under-narrowed : (segment : Segment) (s : Shape) → through (look_at path) (part_at segment s) ≡ Ok part → Narrowed (segment ∷ path) w s (put_under (put path w) segment path w s)
  under-narrowed (Name n) s e = objects-narrowed n (objects_alone s) s refl e
  under-narrowed (Index i) s e = arrays-narrowed i (arrays_alone s) s refl e

-- Where a path is found, any shape can be placed there.
pub narrows : (path : List Segment) (w s part : Shape) → look_at path s ≡ Ok part → Narrowed path w s (put path w s)
narrows [] w s part e = (_, refl, λ v u h named m. let is : v ≡ u = cc in rw (has-inhabited s v h, has-inhabited w u m) (subst (λ (z : Tree). Has w z) (sym is) m))
narrows (segment ∷ path) w s part e = go (inhabited s && inhabited w) refl (under-narrowed path w part (λ t found. narrows path w t part found) segment s e)
  where
    go : (live : Bool) → (inhabited s && inhabited w) ≡ live → Narrowed (segment ∷ path) w s (put_under (put path w) segment path w s) → Narrowed (segment ∷ path) w s (if live then put_under (put path w) segment path w s else Ok Never)
    go true some inner = inner
    go false none inner = (Never, refl, λ v u h named m. absurd (false≢true (sym none ∙ and_from (inhabited s) (inhabited w) (has-inhabited s v h) (has-inhabited w u m))))

-- what a test of a kind narrows to, where it narrows: the path is found, and each tree of which the test is true has it
pub kind-narrows : (path : List Segment) (kind : ValueKind) (expected : Bool) (s r : Shape) → narrowed_at path (by_kind kind expected) s (found path s) ≡ Ok r → (v : Tree) → Has s v
    → (part : Shape) × (found path s ≡ Ok part) × ((u : Tree) → named_by path v ≡ Some u → Has part u → IsTrue (same_truth expected (is_of_kind kind u)) → Has r v)
kind-narrows path kind expected s r e v h = go (found path s) refl e
  where
    go : (result : Result Shape DoubtfulPath) → found path s ≡ result → narrowed_at path (by_kind kind expected) s result ≡ Ok r → (part : Shape) × (result ≡ Ok part) × ((u : Tree) → named_by path v ≡ Some u → Has part u → IsTrue (same_truth expected (is_of_kind kind u)) → Has r v)
    go (Err doubtful) at e' = absurd (cc)
    go (Ok part) at e' =
        let looked : look path s ≡ Ok part = found-looked path s part at in
        let inner = narrows path (by_kind kind expected part) s part (rw (has-inhabited s v h) at looked) in
        let whole : Ok inner.0 ≡ Ok r = rw (inner.1) at e' in
        let is : inner.0 ≡ r = cc in
        (part, refl, λ u named m yes_true. rw is at (inner.2 v u h named (kind-stays kind expected part u m yes_true)))
