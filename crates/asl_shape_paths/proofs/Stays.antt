-- Objects stay as they are where a field is put that they have already.
use Rattle.std.proofs.Common.{◌≡◌, ℕ, List, Bool, true, false, Some, IsTrue, bytes_eq, refl, ap, subst}
use Rattle.std.proofs.lemmas.Slice.Eq.{bytes_eq-Decides}
use Rattle.asl_model.specs.Shape.{Shape, Any, OfKinds, ObjectShape, ObjectsOf, FieldShapes, NoFieldShapes, AndFieldShape, before_mentions, insert_mention, IsProperShape, AreProperObjects, AreProperFields}
use Rattle.asl_model.specs.ShapeFlow.{if_needed}
use Rattle.asl_model.specs.ShapeOrder.{mention_of, set_mention, without_mention}
use Rattle.asl_model.specs.Tree.{comes_before}
use Rattle.asl_model.proofs.ShapeWitness.{comes_before-trans, comes_before-other, bytes_eq-comm}
use Rattle.asl_model.proofs.TemplateGrammar.{one_way}
use Rattle.asl_shape_paths.specs.Changing.{with_field}
use Rattle.asl_numbered.specs.TakenApart.{objects_of}

-- a name before all mentions comes before that of one of them
before_mentioned : (m n : List ℕ) (w : Shape) (shapes : FieldShapes) → IsTrue (before_mentions m shapes) → AreProperFields shapes → if_needed (mention_of n shapes) ≡ Some w → IsTrue (comes_before m n)
before_mentioned m n w NoFieldShapes before proper there = absurd (cc)
before_mentioned m n w (AndFieldShape k needed s shapes) before proper there = go (bytes_eq k n) refl (before_mentioned k n w shapes proper.1 proper.3)
  where
    go : (same : Bool) → bytes_eq k n ≡ same → (if_needed (mention_of n shapes) ≡ Some w → IsTrue (comes_before k n)) → IsTrue (comes_before m n)
    go true is further = subst (λ x. IsTrue (comes_before m x)) ((bytes_eq-Decides k n).0 is) before
    go false is further = comes_before-trans m k n before (further (rw is at there))

-- a name that comes before a mention comes before those behind it
pub before_next : (n m : List ℕ) (shapes : FieldShapes) → IsTrue (comes_before n m) → IsTrue (before_mentions m shapes) → IsTrue (before_mentions n shapes)
before_next n m NoFieldShapes first second = refl
before_next n m (AndFieldShape k needed s shapes) first second = comes_before-trans n m k first second

-- a name before all mentions has none
pub unmentioned : (n : List ℕ) (shapes : FieldShapes) → IsTrue (before_mentions n shapes) → AreProperFields shapes → without_mention n shapes ≡ shapes
unmentioned n NoFieldShapes before proper = refl
unmentioned n (AndFieldShape m needed s shapes) before proper =
    rw (bytes_eq-comm n m (comes_before-other n m before), unmentioned n shapes (before_next n m shapes before proper.1) proper.3) refl

-- and goes in front of them
pub in_front : (n : List ℕ) (w : Shape) (shapes : FieldShapes) → IsTrue (before_mentions n shapes) → insert_mention n true w shapes ≡ AndFieldShape n true w shapes
in_front n w NoFieldShapes before = refl
in_front n w (AndFieldShape m needed s shapes) before = rw before refl

-- to set a mention that is there changes nothing
set_again : (n : List ℕ) (w : Shape) (shapes : FieldShapes) → AreProperFields shapes → if_needed (mention_of n shapes) ≡ Some w → set_mention n true w shapes ≡ shapes
set_again n w NoFieldShapes proper there = absurd (cc)
set_again n w (AndFieldShape m needed s shapes) proper there = go (bytes_eq m n) refl needed there (set_again n w shapes proper.3)
  where
    go : (same : Bool) → bytes_eq m n ≡ same → (must : Bool) → if_needed (mention_of n (AndFieldShape m must s shapes)) ≡ Some w → (if_needed (mention_of n shapes) ≡ Some w → set_mention n true w shapes ≡ shapes) → set_mention n true w (AndFieldShape m must s shapes) ≡ AndFieldShape m must s shapes
    go true is true named below =
        let same : m ≡ n = (bytes_eq-Decides m n).0 is in
        let own : s ≡ w = cc (rw is at named) in
        let before : IsTrue (before_mentions n shapes) = subst (λ x. IsTrue (before_mentions x shapes)) same proper.1 in
        rw (is, unmentioned n shapes before proper.3, in_front n w shapes before, same, own) refl
    go true is false named below = absurd (cc (rw is at named))
    go false is must named below =
        let further : if_needed (mention_of n shapes) ≡ Some w = rw is at named in
        let behind : comes_before n m ≡ false = one_way n m (before_mentioned m n w shapes proper.1 proper.3 further) in
        rw (is, behind) (ap (AndFieldShape m must s) (below further))

-- so for the field of the objects of a shape
pub field_stays : (n : List ℕ) (w s : Shape) (shapes : FieldShapes) (extra : Bool) → IsProperShape s → objects_of s ≡ ObjectsOf shapes extra → if_needed (mention_of n shapes) ≡ Some w → ObjectShape shapes extra ≡ with_field n w s
field_stays n w Any shapes extra proper objects there = absurd (cc)
field_stays n w (OfKinds simple arrays own) shapes extra proper objects there =
    let fields : AreProperFields shapes = subst AreProperObjects objects proper.1 in
    rw (objects, set_again n w shapes fields there) refl
