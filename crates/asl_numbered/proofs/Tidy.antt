-- A shape in which nothing is left out where it is joined with itself is its join with itself.
use Rattle.std.proofs.Common.{◌≡◌, Bool, true, false, ◌&&◌, ◌||◌, not, List, refl, sym, ap, ap₂, ◌∙◌}
use Rattle.std.specs.Prelude.{IsTrue}
use Rattle.std.proofs.lemmas.Bool.{and_parts, and_from}
use Rattle.asl_model.specs.Shape.{Simple, Shape, Any, OfKinds, Never, Arrays, WithoutArrays, ArraysOf, Objects, WithoutObjects, ObjectsOf, Shapes, NoShapes, AndShape, FieldShapes, NoFieldShapes, AndFieldShape, inhabited, all_inhabited, needed_inhabited, mentions, IsProperShape, IsOrdered, AreOrderedArrays, AreOrderedObjects, AreOrderedShapes, AreOrderedFields}
use Rattle.asl_model.specs.ShapeOrder.{either, common_joins, further_places, joined_with_each, keep_joined, joined_fields, with_other_fields, with_optional_unless, join_arrays, join_objects, kept_arrays, kept_objects, join_kinds, join}
use Rattle.asl_model.proofs.JoinFuel.{join-first_uninhabited, join-inhabited}
use Rattle.asl_model.proofs.NamesInOrder.{AreFirst, ordered-first}
use Rattle.asl_model.proofs.ShapeExample.{proper-ordered}
use Rattle.asl_model.proofs.ShapeOutside.{mentions-some}
use Rattle.asl_numbered.specs.declared.pair.Pair.{Pair}
use Rattle.asl_numbered.specs.Comparison.{IsWithin}
use Rattle.asl_numbered.specs.Expansion.{shape_at, Shows}
use Rattle.asl_numbered.specs.Joins.{joint}
use Rattle.asl_numbered.specs.Kinds.{tidy, tidy_arrays, tidy_objects, tidy_places, tidy_fields}

or_itself : (a : Bool) → (a || a) ≡ a
or_itself true = refl
or_itself false = refl

and_itself : (a : Bool) → (a && a) ≡ a
and_itself true = refl
and_itself false = refl

or_always : (a : Bool) → (a || true) ≡ true
or_always true = refl
or_always false = refl

either_itself : (a : Simple) → either a a ≡ a
either_itself a = rw (or_itself a.null, or_itself a.boolean, or_itself a.integer, or_itself a.text) refl

-- ---- they are there

places-there : (first : Shapes) → IsTrue (tidy_places first) → IsTrue (all_inhabited first)
places-there NoShapes h = refl
places-there (AndShape s others) h =
    let both = and_parts (inhabited s) (tidy s && tidy_places others) h in
    let own = and_parts (tidy s) (tidy_places others) both.1 in
    and_from (inhabited s) (all_inhabited others) both.0 (places-there others own.1)

fields-there : (shapes : FieldShapes) → IsTrue (tidy_fields shapes) → IsTrue (needed_inhabited shapes)
fields-there NoFieldShapes h = refl
fields-there (AndFieldShape n needed s shapes) h =
    let both = and_parts (not needed || inhabited s) (tidy s && tidy_fields shapes) h in
    let own = and_parts (tidy s) (tidy_fields shapes) both.1 in
    and_from (not needed || inhabited s) (needed_inhabited shapes) both.0 (fields-there shapes own.1)

-- ---- neither has more than the other

further-none : (first : Shapes) → further_places first first ≡ NoShapes
further-none NoShapes = refl
further-none (AndShape s first) = further-none first

others-none : (whole : FieldShapes) (extra : Bool) (shapes kept : FieldShapes) → AreFirst whole shapes → with_other_fields whole extra shapes kept ≡ kept
others-none whole extra NoFieldShapes kept first = refl
others-none whole extra (AndFieldShape n needed s shapes) kept first =
    let mentioned : mentions n whole ≡ true = rw (mentions-some n whole, first.0) refl in
    ap (λ dropped. with_optional_unless dropped n s (with_other_fields whole extra shapes kept)) (ap (λ b. extra || b) mentioned ∙ or_always extra)
    ∙ others-none whole extra shapes kept first.1

-- ---- joined with themselves

by-kinds : (s : Shape) → (inhabited s ≡ true → join_kinds join s s ≡ s) → join s s ≡ s
by-kinds s same = go (inhabited s) refl
  where
    go : (live : Bool) → inhabited s ≡ live → join s s ≡ s
    go true some = join-inhabited s s some some ∙ same some
    go false none = join-first_uninhabited s s none

mutual
  pub join_itself : (s : Shape) → IsOrdered s → IsTrue (tidy s) → join s s ≡ s
  join_itself Any ordered h = join-inhabited Any Any refl refl
  join_itself (OfKinds simple arrays objects) ordered h =
      let both = and_parts (tidy_arrays arrays) (tidy_objects objects) h in
      let same_arrays = arrays_joined arrays ordered.0 both.0 in
      let same_objects = objects_joined objects ordered.1 both.1 in
      by-kinds (OfKinds simple arrays objects) (λ some. rw (either_itself simple, same_arrays, same_objects) refl)

  arrays_joined : (arrays : Arrays) → AreOrderedArrays arrays → IsTrue (tidy_arrays arrays) → join_arrays join (kept_arrays arrays) (kept_arrays arrays) ≡ arrays
  arrays_joined WithoutArrays ordered h = refl
  arrays_joined (ArraysOf first rest) ordered h =
      let both = and_parts (tidy_places first) (tidy rest) h in
      let further : join (join (joined_with_each join Never (further_places first first)) rest) rest ≡ rest = ap (λ more. join (join (joined_with_each join Never more) rest) rest) (further-none first) ∙ ap (λ s. join s rest) (join-first_uninhabited Never rest refl) ∙ join_itself rest ordered.1 both.1 in
      let same = places_joined first ordered.0 both.0 in
      rw (places-there first both.0) (ap₂ ArraysOf same further)

  places_joined : (first : Shapes) → AreOrderedShapes first → IsTrue (tidy_places first) → common_joins join first first ≡ first
  places_joined NoShapes ordered h = refl
  places_joined (AndShape s others) ordered h =
      let both = and_parts (inhabited s) (tidy s && tidy_places others) h in
      let own = and_parts (tidy s) (tidy_places others) both.1 in
      ap₂ AndShape (join_itself s ordered.0 own.0) (places_joined others ordered.1 own.1)

  objects_joined : (objects : Objects) → AreOrderedObjects objects → IsTrue (tidy_objects objects) → join_objects join (kept_objects objects) (kept_objects objects) ≡ objects
  objects_joined WithoutObjects ordered h = refl
  objects_joined (ObjectsOf shapes extra) ordered h =
      let first = ordered-first shapes ordered in
      let same = others-none shapes extra shapes (joined_fields join shapes shapes extra) first ∙ fields_joined shapes shapes extra first ordered h in
      rw (fields-there shapes h) (ap₂ ObjectsOf same (or_itself extra))

  fields_joined : (shapes whole : FieldShapes) (more : Bool) → AreFirst whole shapes → AreOrderedFields shapes → IsTrue (tidy_fields shapes) → joined_fields join shapes whole more ≡ shapes
  fields_joined NoFieldShapes whole more first ordered h = refl
  fields_joined (AndFieldShape n needed s shapes) whole more first ordered h =
      let both = and_parts (not needed || inhabited s) (tidy s && tidy_fields shapes) h in
      let own = and_parts (tidy s) (tidy_fields shapes) both.1 in
      ap (λ mention. keep_joined join n needed s more mention (joined_fields join shapes whole more)) first.0
      ∙ ap (λ both. AndFieldShape n both (join s s) (joined_fields join shapes whole more)) (and_itself needed)
      ∙ ap (λ same. AndFieldShape n needed same (joined_fields join shapes whole more)) (join_itself s ordered.1 own.0)
      ∙ ap (AndFieldShape n needed s) (fields_joined shapes whole more first.1 ordered.2 own.1)

-- the number of such a shape is that of its join with itself
pub itself_shown : (table : List Shape) (p : Pair) (all : Bool) → IsWithin table p → p.first ≡ p.second → IsProperShape (shape_at table p.second) → all ≡ tidy (shape_at table p.second) → all ≡ true → Shows table (joint table p) p.second
itself_shown table p all within same proper is holds =
    let s = shape_at table p.second in
    let joined : join s s ≡ s = join_itself s (proper-ordered s proper) (sym is ∙ holds) in
    record { within = within.second; same = sym (ap (λ n. join (shape_at table n) s) same ∙ joined) }
