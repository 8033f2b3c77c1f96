-- Where `rule_shape` answers a shape, the rule's test is true or false of every tree, and those of which it is true
-- have that shape.
use Rattle.std.proofs.Common.{◌≡◌, ℕ, List, [], ◌∷◌, Bool, true, false, ◌||◌, not, Option, Some, None, Result, Ok, Err, refl, sym, ◌∙◌, subst, arith}
use Rattle.std.specs.Prelude.{IsTrue, is_some, option_and_then}
use Rattle.std.proofs.lemmas.Bool.{and_parts, and_from, false≢true}
use Rattle.asl_model.specs.Tree.{Tree, Array, Object, Trees, Fields, field_named, element}
use Rattle.asl_model.specs.Path.{Segment, Name, Index, child, named_by}
use Rattle.asl_model.specs.Test.{Test, And, Or, Not, Compare, StringMatches, IsOfKind, IsPresent, Tests, NoTests, AndTest, Operand, Constant, AtPath, truth, all_true, some_true, and_truth, or_truth, same_truth, operand_value, compares, matches, as_text, is_of_kind}
use Rattle.asl_model.specs.Shape.{Shape, Any, OfKinds, ArraysOf, ObjectsOf, ArrayShape, Shapes, FieldShapes, Has, has, fields_have, all_mentioned}
use Rattle.asl_model.specs.ShapeOrder.{mention_of, set_mention}
use Rattle.asl_model.specs.ShapeFlow.{DoubtfulPath, found, place_at, narrow_mention, narrow_place, narrow_under, where_present, where_found, operand_shape, where_inhabited, narrowed_by, true_of, each_true_of, each_found, rule_shape}
use Rattle.asl_model.proofs.ShapeInhabited.{has-inhabited}
use Rattle.asl_model.proofs.ShapeInside.{mention_holds, closed_absent}
use Rattle.asl_model.proofs.ShapeFields.{have-set}
use Rattle.asl_model.proofs.ShapeLook.{place-element}
use Rattle.asl_model.proofs.ShapeNarrow.{set_place-has, all_mentioned-set, kind-narrows}
use Rattle.asl_model.proofs.ShapeTemplate.{found-gives}

-- Presence

-- what a path goes on to from a tree
abbrev Keeps : (Shape → Shape) → (Tree → Bool) → Type 0
Keeps go_on present = (s : Shape) (v : Tree) → IsTrue (present v) → Has s v → Has (go_on s) v

place-narrowed : (go_on : Shape → Shape) (present : Tree → Bool) → Keeps go_on present → (i : ℕ) (first : Shapes) (rest : Shape) (u : Tree) (ts : Trees) → element i ts ≡ Some u → IsTrue (present u) → Has (ArrayShape first rest) (Array ts) → Has (narrow_place go_on i first rest (place_at i first)) (Array ts)
place-narrowed go_on present keeps i first rest u ts at here h = go (place_at i first) refl
  where
    go : (part : Option Shape) → place_at i first ≡ part → Has (narrow_place go_on i first rest part) (Array ts)
    go None none = h
    go (Some s) some =
        let there = place-element i first s (has rest) ts some h in
        let is : Some there.0 ≡ Some u = sym (there.1) ∙ at in
        let that : there.0 ≡ u = cc in
        set_place-has i first (has rest) (go_on s) u ts at h (keeps s u here (subst (λ (z : Tree). Has s z) that there.2))

mention-narrowed : (go_on : Shape → Shape) (present : Tree → Bool) → Keeps go_on present → (n : List ℕ) (shapes : FieldShapes) (extra : Bool) (u : Tree) (fs : Fields) → field_named n fs ≡ Some u → IsTrue (present u) → IsTrue (fields_have shapes fs) → IsTrue (extra || all_mentioned shapes fs) → Has (narrow_mention go_on n shapes extra (mention_of n shapes)) (Object fs)
mention-narrowed go_on present keeps n shapes extra u fs at here h mentioned = go (mention_of n shapes) refl extra mentioned (closed_absent n shapes extra fs mentioned)
  where
    go : (mention : Option (Bool × Shape)) → mention_of n shapes ≡ mention → (more : Bool) → IsTrue (more || all_mentioned shapes fs) → (mention_of n shapes ≡ None → IsTrue (not more) → field_named n fs ≡ None) → Has (narrow_mention go_on n shapes more mention) (Object fs)
    go None none true all absent = and_from (fields_have (set_mention n true Any shapes) fs) true (have-set n true Any shapes fs h (rw at refl)) refl
    go None none false all absent =
        let gone : field_named n fs ≡ None = absent none refl in
        absurd (cc)
    go (Some m) some more all absent =
        let held : Has m.1 u = rw at at (mention_holds n shapes fs m some h) in
        and_from (fields_have (set_mention n true (go_on m.1) shapes) fs) (more || all_mentioned (set_mention n true (go_on m.1) shapes) fs) (have-set n true (go_on m.1) shapes fs h (rw at (keeps m.1 u here held))) (all_mentioned-set n true (go_on m.1) shapes fs more all)

-- a tree in which the segment names nothing has no shape of presence to have
under-narrowed : (go_on : Shape → Shape) (present : Tree → Bool) → Keeps go_on present → (segment : Segment) (s : Shape) (v u : Tree) → child segment v ≡ Some u → IsTrue (present u) → Has s v → Has (narrow_under go_on segment s) v
under-narrowed go_on present keeps segment Any v u at here h = refl
under-narrowed go_on present keeps (Index i) (OfKinds simple (ArraysOf first rest) objects) (Array ts) u at here h = place-narrowed go_on present keeps i first rest u ts at here h
under-narrowed go_on present keeps (Name n) (OfKinds simple arrays (ObjectsOf shapes extra)) (Object fs) u at here h =
    let both = and_parts (fields_have shapes fs) (extra || all_mentioned shapes fs) h in
    mention-narrowed go_on present keeps n shapes extra u fs at here both.0 both.1
under-narrowed go_on present keeps segment s v u at here h = absurd (grind arith)

-- a tree in which the path names something keeps its shape narrowed
present-narrowed : (path : List Segment) (s : Shape) (v : Tree) → IsTrue (is_some (named_by path v)) → Has s v → Has (where_present path s) v
present-narrowed [] s v here h = h
present-narrowed (segment ∷ path) s v here h = go (child segment v) refl here (λ s' v' here' h'. present-narrowed path s' v' here' h')
  where
    go : (part : Option Tree) → child segment v ≡ part → IsTrue (is_some (option_and_then (named_by path) part)) → Keeps (where_present path) (λ u. is_some (named_by path u)) → Has (where_present (segment ∷ path) s) v
    go None at here' keeps = absurd (false≢true here')
    go (Some u) at here' keeps = under-narrowed (where_present path) (λ w. is_some (named_by path w)) keeps segment s v u at here' h

-- Truth

-- the test is decided, and where it is true the tree has the shape
abbrev pub Decided : Shape → Tree → Option Bool → Type 0
Decided r v value = (b : Bool) × (value ≡ Some b) × (IsTrue b → Has r v)

found-parts : (first second : Result Shape DoubtfulPath) (r : Shape) → where_found first second ≡ Ok r → (a : Shape) × (first ≡ Ok a) × (second ≡ Ok r)
found-parts (Ok a) second r e = (a, refl, e)
found-parts (Err doubtful) second r e = absurd (cc)

narrowed-parts : (go_on : Shape → Result Shape DoubtfulPath) (first : Result Shape DoubtfulPath) (r : Shape) → narrowed_by go_on first ≡ Ok r → (a : Shape) × (first ≡ Ok a) × (go_on a ≡ Ok r)
narrowed-parts go_on (Ok a) r e = (a, refl, e)
narrowed-parts go_on (Err doubtful) r e = absurd (cc)

-- a shape that a tree has is gone on with
inhabited-goes-on : (go_on : Shape → Result Shape DoubtfulPath) (s r : Shape) (v : Tree) → where_inhabited go_on s ≡ Ok r → Has s v → go_on s ≡ Ok r
inhabited-goes-on go_on s r v e h = rw (has-inhabited s v h) at e

operand-there : (operand : Operand) (s t : Shape) (v : Tree) → operand_shape operand s ≡ Ok t → Has s v → (u : Tree) × (operand_value operand v ≡ Some u)
operand-there (Constant t) s r v e h = (t, refl)
operand-there (AtPath path) s r v e h =
    let given = found-gives path s r v e h in
    (given.0, given.1)

-- a tree that has the whole shape has the answer, which is the same
whole-has : (s r : Shape) (v : Tree) → s ≡ r → Has s v → Has r v
whole-has s r v is h = subst (λ (z : Shape). Has z v) is h

present-decided : (path : List Segment) (expected : Bool) (s r : Shape) (v : Tree) → true_of (IsPresent path expected) s ≡ Ok r → Has s v → Decided r v (Some (same_truth expected (is_some (named_by path v))))
present-decided path true s r v e h =
    let is : where_present path s ≡ r = cc in
    (is_some (named_by path v), refl, λ here. whole-has (where_present path s) r v is (present-narrowed path s v here h))
present-decided path false s r v e h =
    let is : s ≡ r = cc in
    (not (is_some (named_by path v)), refl, λ absent. whole-has s r v is h)

and-decided : (r : Shape) (v : Tree) (first further : Option Bool) (b : Bool) → first ≡ Some b → (IsTrue b → Decided r v further) → Decided r v (and_truth first further)
and-decided r v first further true e tells =
    let rest = tells refl in
    (rest.0, rw e (rest.1), rest.2)
and-decided r v first further false e tells = (false, rw e refl, λ yes_true. absurd (false≢true yes_true))

or-decided : (first further : Option Bool) (a b : Bool) → first ≡ Some a → further ≡ Some b → (c : Bool) × (or_truth first further ≡ Some c)
or-decided first further true b e f = (true, rw e refl)
or-decided first further false b e f = (b, rw (e, f) refl)

mutual
  decided : (test : Test) (s r : Shape) (v : Tree) → true_of test s ≡ Ok r → Has s v → Decided r v (truth test v)
  decided (And tests) s r v e h = all-decided tests s r v e h
  decided (Or tests) s r v e h =
      let parts = found-parts (each_found tests s) (Ok s) r e in
      let some = some-decided tests s parts.0 v parts.1 h in
      let is : s ≡ r = cc (parts.2) in
      (some.0, some.1, λ yes_true. whole-has s r v is h)
  decided (Not test) s r v e h =
      let parts = found-parts (true_of test s) (Ok s) r e in
      let one = decided test s parts.0 v parts.1 h in
      let is : s ≡ r = cc (parts.2) in
      (not one.0, rw (one.1) refl, λ yes_true. whole-has s r v is h)
  decided (Compare path comparison operand) s r v e h =
      let parts = found-parts (found path s) (where_found (operand_shape operand s) (Ok s)) r e in
      let further = found-parts (operand_shape operand s) (Ok s) r parts.2 in
      let first = found-gives path s parts.0 v parts.1 h in
      let second = operand-there operand s further.0 v further.1 h in
      let is : s ≡ r = cc (further.2) in
      (compares comparison first.0 second.0, rw (first.1, second.1) refl, λ yes_true. whole-has s r v is h)
  decided (StringMatches path pattern) s r v e h =
      let parts = found-parts (found path s) (Ok s) r e in
      let first = found-gives path s parts.0 v parts.1 h in
      let is : s ≡ r = cc (parts.2) in
      (matches pattern (as_text first.0), rw (first.1) refl, λ yes_true. whole-has s r v is h)
  decided (IsOfKind path kind expected) s r v e h =
      let narrowed = kind-narrows path kind expected s r e v h in
      let named = found-gives path s narrowed.0 v narrowed.1 h in
      (same_truth expected (is_of_kind kind named.0), rw (named.1) refl, λ yes_true. narrowed.2 named.0 named.1 named.2 yes_true)
  decided (IsPresent path expected) s r v e h = present-decided path expected s r v e h

  all-decided : (tests : Tests) (s r : Shape) (v : Tree) → each_true_of tests s ≡ Ok r → Has s v → Decided r v (all_true tests v)
  all-decided NoTests s r v e h =
      let is : s ≡ r = cc in
      (true, refl, λ yes_true. whole-has s r v is h)
  all-decided (AndTest test others) s r v e h =
      let parts = narrowed-parts (each_true_of others) (where_inhabited (true_of test) s) r e in
      let first = decided test s parts.0 v (inhabited-goes-on (true_of test) s parts.0 v parts.1 h) h in
      and-decided r v (truth test v) (all_true others v) first.0 first.1 (λ yes_true. all-decided others parts.0 r v parts.2 (first.2 yes_true))

  some-decided : (tests : Tests) (s r : Shape) (v : Tree) → each_found tests s ≡ Ok r → Has s v → (b : Bool) × (some_true tests v ≡ Some b)
  some-decided NoTests s r v e h = (false, refl)
  some-decided (AndTest test others) s r v e h =
      let parts = found-parts (true_of test s) (each_found others s) r e in
      let first = decided test s parts.0 v parts.1 h in
      let further = some-decided others s r v parts.2 h in
      or-decided (truth test v) (some_true others v) first.0 further.0 first.1 further.1

pub rule-decided : (test : Test) (s r : Shape) (v : Tree) → rule_shape test s ≡ Ok r → Has s v → Decided r v (truth test v)
rule-decided test s r v e h = decided test s r v (inhabited-goes-on (true_of test) s r v e h) h
