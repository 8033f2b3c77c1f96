-- Two shapes are told the same exactly where they are.
use Rattle.std.proofs.Common.{◌≡◌, Bool, true, ◌&&◌, bytes_eq, refl, ap₂, arith}
use Rattle.std.proofs.lemmas.Bool.{and_parts, false≢true}
use Rattle.std.proofs.lemmas.Slice.Eq.{bytes_eq-Decides}
use Rattle.asl_model.specs.Shape.{Simple, Shape, Any, OfKinds, Arrays, WithoutArrays, ArraysOf, Objects, WithoutObjects, ObjectsOf, Shapes, NoShapes, AndShape, FieldShapes, NoFieldShapes, AndFieldShape}
use Rattle.asl_model.specs.ShapeOrder.{same_truth, same_simple}
use Rattle.asl_model.specs.WrittenNumbered.{same_shape, same_arrays, same_objects, same_shapes, same_fields}

same_truths : (a b : Bool) → same_truth a b ≡ true → a ≡ b
same_truths a b h = grind arith

truth_itself : (a : Bool) → same_truth a a ≡ true
truth_itself a = grind arith

same_simples : (a b : Simple) → same_simple a b ≡ true → a ≡ b
same_simples a b h = grind arith

simple_itself : (a : Simple) → same_simple a a ≡ true
simple_itself a = grind arith

mutual
  pub same_are : (s t : Shape) → same_shape s t ≡ true → s ≡ t
  same_are Any Any h = refl
  same_are Any (OfKinds simple arrays objects) h = absurd (false≢true h)
  same_are (OfKinds some others more) Any h = absurd (false≢true h)
  same_are (OfKinds some others more) (OfKinds simple arrays objects) h =
      let one = and_parts (same_simple some simple) (same_arrays others arrays && same_objects more objects) h in
      let both = and_parts (same_arrays others arrays) (same_objects more objects) one.1 in
      rw (same_simples some simple one.0, arrays_are others arrays both.0, objects_are more objects both.1) refl

  arrays_are : (others arrays : Arrays) → same_arrays others arrays ≡ true → others ≡ arrays
  arrays_are WithoutArrays WithoutArrays h = refl
  arrays_are WithoutArrays (ArraysOf places further) h = absurd (false≢true h)
  arrays_are (ArraysOf first rest) WithoutArrays h = absurd (false≢true h)
  arrays_are (ArraysOf first rest) (ArraysOf places further) h =
      let both = and_parts (same_shapes first places) (same_shape rest further) h in
      ap₂ ArraysOf (same_places first places both.0) (same_are rest further both.1)

  objects_are : (more objects : Objects) → same_objects more objects ≡ true → more ≡ objects
  objects_are WithoutObjects WithoutObjects h = refl
  objects_are WithoutObjects (ObjectsOf others more) h = absurd (false≢true h)
  objects_are (ObjectsOf fields extra) WithoutObjects h = absurd (false≢true h)
  objects_are (ObjectsOf fields extra) (ObjectsOf others more) h =
      let both = and_parts (same_fields fields others) (same_truth extra more) h in
      ap₂ ObjectsOf (same_mentions fields others both.0) (same_truths extra more both.1)

  same_places : (first places : Shapes) → same_shapes first places ≡ true → first ≡ places
  same_places NoShapes NoShapes h = refl
  same_places NoShapes (AndShape t others) h = absurd (false≢true h)
  same_places (AndShape s first) NoShapes h = absurd (false≢true h)
  same_places (AndShape s first) (AndShape t others) h =
      let both = and_parts (same_shape s t) (same_shapes first others) h in
      ap₂ AndShape (same_are s t both.0) (same_places first others both.1)

  same_mentions : (fields others : FieldShapes) → same_fields fields others ≡ true → fields ≡ others
  same_mentions NoFieldShapes NoFieldShapes h = refl
  same_mentions NoFieldShapes (AndFieldShape m more t others) h = absurd (false≢true h)
  same_mentions (AndFieldShape n needed s fields) NoFieldShapes h = absurd (false≢true h)
  same_mentions (AndFieldShape n needed s fields) (AndFieldShape m more t others) h =
      let named = and_parts (bytes_eq n m) (same_truth needed more && (same_shape s t && same_fields fields others)) h in
      let known = and_parts (same_truth needed more) (same_shape s t && same_fields fields others) named.1 in
      let both = and_parts (same_shape s t) (same_fields fields others) known.1 in
      rw ((bytes_eq-Decides n m).0 named.0, same_truths needed more known.0, same_are s t both.0, same_mentions fields others both.1) refl

mutual
  pub same_itself : (s : Shape) → same_shape s s ≡ true
  same_itself Any = refl
  same_itself (OfKinds simple arrays objects) = rw (simple_itself simple, arrays_themselves arrays, objects_themselves objects) refl

  arrays_themselves : (arrays : Arrays) → same_arrays arrays arrays ≡ true
  arrays_themselves WithoutArrays = refl
  arrays_themselves (ArraysOf first rest) = rw (places_themselves first, same_itself rest) refl

  objects_themselves : (objects : Objects) → same_objects objects objects ≡ true
  objects_themselves WithoutObjects = refl
  objects_themselves (ObjectsOf fields extra) = rw (mentions_themselves fields, truth_itself extra) refl

  places_themselves : (first : Shapes) → same_shapes first first ≡ true
  places_themselves NoShapes = refl
  places_themselves (AndShape s first) = rw (same_itself s, places_themselves first) refl

  mentions_themselves : (fields : FieldShapes) → same_fields fields fields ≡ true
  mentions_themselves NoFieldShapes = refl
  mentions_themselves (AndFieldShape n needed s fields) =
      rw ((bytes_eq-Decides n n).1 refl, truth_itself needed, same_itself s, mentions_themselves fields) refl
