-- `outside` finds a tree exactly where `sub` is false: both go through the parts of the two shapes alike.
use Rattle.std.proofs.Common.{◌≡◌, ℕ, List, Bool, true, false, ◌&&◌, ◌||◌, not, Option, Some, None, refl, sym, ◌∙◌, arith}
use Rattle.std.specs.Prelude.{IsTrue, ◌↔◌, bytes_eq, is_some, is_none, option_and_then}
use Rattle.std.specs.Bool.{then_some}
use Rattle.std.specs.Option.{option_map, option_or}
use Rattle.asl_model.specs.Tree.{Tree, Null, Trees, NoTrees, AndTree, Fields}
use Rattle.asl_model.specs.Placing.{set_field}
use Rattle.asl_model.specs.Shape.{all_simple, Simple, Shape, Any, OfKinds, Arrays, WithoutArrays, ArraysOf, Objects, WithoutObjects, ObjectsOf, Shapes, NoShapes, AndShape, FieldShapes, NoFieldShapes, AndFieldShape, mentions, all_inhabited, needed_inhabited}
use Rattle.asl_model.specs.ShapeOrder.{mention_of, simple_sub, each_shape, others_never_there, takes_all, takes_all_arrays, takes_all_objects, asks_nothing, mention_fits, sub, arrays_sub, objects_sub, elements_sub, fields_sub}
use Rattle.asl_model.specs.Examples.{example, examples, needed_examples, fresh_name, only_if, first_found, is_longer, with_first, further_outside, is_needed, needs_more, mentioned_shape, unmentioned_shape, unshared_outside, outside, arrays_outside, elements_outside, objects_outside, fields_outside}

-- What is found of several

or-none : {A : Type 0} (a b : Option A) → is_none (option_or a b) ≡ (is_none a && is_none b)
or-none None b = refl
or-none (Some a) b = refl

if-none : {A : Type 0} (holds : Bool) (a : A) → is_none (then_some holds a) ≡ not holds
if-none true a = refl
if-none false a = refl

only-none : {A : Type 0} (holds : Bool) (a : Option A) → is_none (only_if holds a) ≡ (not holds || is_none a)
only-none true a = refl
only-none false a = refl

map-none : {A B : Type 0} (f : A → B) (a : Option A) → is_none (option_map f a) ≡ is_none a
map-none f None = refl
map-none f (Some a) = refl

first-none : (found : Option Tree) (t : Tree) (ts : Trees) (later : Option Trees) → is_none (with_first found t ts later) ≡ (is_none found && is_none later)
first-none None t ts later = map-none (AndTree t) later
first-none (Some other) t ts later = refl

-- nothing is found kind by kind
kinds-none : (some simple : Simple) (elements : Option Trees) (fields : Option Fields) → is_none (first_found some simple elements fields) ≡ (simple_sub some simple && (is_none elements && is_none fields))
kinds-none some simple elements fields = grind arith

-- Arrays

further-none : (others : Shapes) (further : Shape) (found : Shape → Option Tree) (test : Shape → Bool) → ((s : Shape) → is_none (found s) ≡ test s) → is_none (further_outside others further found) ≡ (each_shape test others && test further)
further-none NoShapes further found test same = map-none (λ t. AndTree t NoTrees) (found further) ∙ same further
further-none (AndShape other others) further found test same =
    let below : is_none (further_outside others further found) ≡ (each_shape test others && test further) = further-none others further found test same in
    rw (first-none (found other) (example other) (examples others) (further_outside others further found), same other, below) (sym (and-assoc (test other) (each_shape test others) (test further)))
  where
    and-assoc : (x y z : Bool) → ((x && y) && z) ≡ (x && (y && z))
    and-assoc true y z = refl
    and-assoc false y z = refl

any-sub : (s : Shape) → sub Any s ≡ takes_all s
any-sub Any = refl
any-sub (OfKinds simple arrays objects) = refl

any-arrays : (arrays : Arrays) → arrays_sub (ArraysOf NoShapes Any) arrays ≡ takes_all_arrays arrays
any-arrays WithoutArrays = refl
any-arrays (ArraysOf NoShapes rest) = any-sub rest
any-arrays (ArraysOf (AndShape s first) rest) = refl

-- Objects

-- a name is mentioned where there is a first mention of it
pub mentions-some : (n : List ℕ) (shapes : FieldShapes) → mentions n shapes ≡ is_some (mention_of n shapes)
mentions-some n NoFieldShapes = refl
mentions-some n (AndFieldShape m needed s shapes) = go (bytes_eq m n) refl (mentions-some n shapes)
  where
    go : (same : Bool) → bytes_eq m n ≡ same → mentions n shapes ≡ is_some (mention_of n shapes) → mentions n (AndFieldShape m needed s shapes) ≡ is_some (mention_of n (AndFieldShape m needed s shapes))
    go true same below = rw same refl
    go false other below = rw other below

any-fields : (shapes : FieldShapes) → fields_sub NoFieldShapes true shapes ≡ asks_nothing shapes
any-fields NoFieldShapes = refl
any-fields (AndFieldShape n needed s shapes) =
    let below : fields_sub NoFieldShapes true shapes ≡ asks_nothing shapes = any-fields shapes in
    rw below (both needed (takes_all s) (asks_nothing shapes))
  where
    both : (needed' any others : Bool) → ((not needed' && (any || false)) && others) ≡ (not needed' && (any && others))
    both true any others = refl
    both false true others = refl
    both false false others = refl

any-objects : (objects : Objects) → objects_sub (ObjectsOf NoFieldShapes true) objects ≡ takes_all_objects objects
any-objects WithoutObjects = refl
any-objects (ObjectsOf shapes extra) = rw (any-fields shapes) (both extra (asks_nothing shapes))
  where
    both : (more free : Bool) → (free && (more || false)) ≡ (more && free)
    both true true = refl
    both true false = refl
    both false true = refl
    both false false = refl

unshared-none : (others shapes : FieldShapes) (fs : Fields) → is_none (unshared_outside others shapes fs) ≡ others_never_there shapes others
unshared-none NoFieldShapes shapes fs = refl
unshared-none (AndFieldShape n needed s others) shapes fs =
    let below : is_none (unshared_outside others shapes fs) ≡ others_never_there shapes others = unshared-none others shapes fs in
    grind arith

-- nothing is found of objects that both are there
objects-found : (live needs extra more : Bool) (fs fresh : Fields) (common new alone : Option Fields) → is_none (only_if live (option_or (then_some needs fs) (option_or common (option_or new (only_if (not extra) (option_or alone (then_some more fresh))))))) ≡ (not live || ((not needs && (is_none common && is_none new)) && (extra || (not more && is_none alone))))
objects-found live needs extra more fs fresh common new alone = grind arith

-- one mention: needed by the second alone, or with a tree found, as both mention it or as the second alone does
field-step : (n : List ℕ) (needed : Bool) (s : Shape) (others : FieldShapes) (more : Bool) → ((a : Shape) → is_none (outside a s) ≡ sub a s) → (not (needed && not (is_needed (mention_of n others))) && (is_none (option_and_then (λ a. outside a s) (mentioned_shape others n)) && is_none (option_and_then (λ a. outside a s) (unmentioned_shape others more n)))) ≡ mention_fits needed (λ other. sub other s) (takes_all s) more (mention_of n others)
field-step n needed s others more same = go (mention_of n others) refl more refl
  where
    truths : (needed' any : Bool) → (not (needed' && true) && (true && any)) ≡ (not needed' && (any || false))
    truths true any = refl
    truths false true = refl
    truths false false = refl

    shut : (needed' any : Bool) → (not (needed' && true) && true) ≡ (not needed' && (any || true))
    shut true any = refl
    shut false true = refl
    shut false false = refl

    mentioned : (needed' there fits : Bool) → (not (needed' && not there) && (fits && true)) ≡ ((not needed' || there) && fits)
    mentioned true true true = refl
    mentioned true true false = refl
    mentioned true false fits = refl
    mentioned false there true = refl
    mentioned false there false = refl

    go : (mention : Option (Bool × Shape)) → mention_of n others ≡ mention → (more' : Bool) → more ≡ more' → (not (needed && not (is_needed (mention_of n others))) && (is_none (option_and_then (λ a. outside a s) (mentioned_shape others n)) && is_none (option_and_then (λ a. outside a s) (unmentioned_shape others more n)))) ≡ mention_fits needed (λ other. sub other s) (takes_all s) more (mention_of n others)
    go None none true at = rw (mentions-some n others, none, at, same Any, any-sub s) (truths needed (takes_all s))
    go None none false at = rw (mentions-some n others, none, at) (shut needed (takes_all s))
    go (Some m) found true at = rw (mentions-some n others, found, at, same m.1) (mentioned needed m.0 (sub m.1 s))
    go (Some m) found false at = rw (mentions-some n others, found, at, same m.1) (mentioned needed m.0 (sub m.1 s))

mutual
  -- nothing is outside exactly where the first is seen to be inside the second
  pub outside-none : (a b : Shape) → is_none (outside a b) ≡ sub a b
  outside-none Any Any = refl
  outside-none (OfKinds some others more) Any = refl
  outside-none Any (OfKinds simple arrays objects) =
      let in_arrays : is_none (arrays_outside (ArraysOf NoShapes Any) arrays) ≡ takes_all_arrays arrays = arrays-none (ArraysOf NoShapes Any) arrays ∙ any-arrays arrays in
      let in_objects : is_none (objects_outside (ObjectsOf NoFieldShapes true) objects) ≡ takes_all_objects objects = objects-none (ObjectsOf NoFieldShapes true) objects ∙ any-objects objects in
      rw (kinds-none all_simple simple (arrays_outside (ArraysOf NoShapes Any) arrays) (objects_outside (ObjectsOf NoFieldShapes true) objects), in_arrays, in_objects) refl
  outside-none (OfKinds some others more) (OfKinds simple arrays objects) = rw (kinds-none some simple (arrays_outside others arrays) (objects_outside more objects), arrays-none others arrays, objects-none more objects) refl

  arrays-none : (others arrays : Arrays) → is_none (arrays_outside others arrays) ≡ arrays_sub others arrays
  arrays-none WithoutArrays arrays = refl
  arrays-none (ArraysOf others further) WithoutArrays = if-none (all_inhabited others) (examples others)
  arrays-none (ArraysOf others further) (ArraysOf first rest) =
      let each = elements-none others further first (λ s. outside s rest) (λ s. sub s rest) (λ s. outside-none s rest) in
      rw (only-none (all_inhabited others) (option_or (then_some (is_longer first others) (examples others)) (elements_outside others further first (λ s. outside s rest))), or-none (then_some (is_longer first others) (examples others)) (elements_outside others further first (λ s. outside s rest)), if-none (is_longer first others) (examples others), each) refl

  elements-none : (others : Shapes) (further : Shape) (first : Shapes) (found : Shape → Option Tree) (test : Shape → Bool) → ((s : Shape) → is_none (found s) ≡ test s) → (not (is_longer first others) && is_none (elements_outside others further first found)) ≡ elements_sub others further first test
  elements-none others further NoShapes found test same = further-none others further found test same
  elements-none NoShapes further (AndShape s first) found test same = refl
  elements-none (AndShape other others) further (AndShape s first) found test same =
      let below : (not (is_longer first others) && is_none (elements_outside others further first found)) ≡ elements_sub others further first test = elements-none others further first found test same in
      let here : is_none (outside other s) ≡ sub other s = outside-none other s in
      rw (first-none (outside other s) (example other) (examples others) (elements_outside others further first found), here, ← below) (swapped (not (is_longer first others)) (sub other s) (is_none (elements_outside others further first found)))
    where
      swapped : (x y z : Bool) → (x && (y && z)) ≡ (y && (x && z))
      swapped true true z = refl
      swapped true false z = refl
      swapped false true z = refl
      swapped false false z = refl

  objects-none : (others objects : Objects) → is_none (objects_outside others objects) ≡ objects_sub others objects
  objects-none WithoutObjects objects = refl
  objects-none (ObjectsOf others more) WithoutObjects = if-none (needed_inhabited others) (needed_examples others)
  objects-none (ObjectsOf others more) (ObjectsOf shapes extra) =
      let each = fields-none others more shapes (needed_examples others) in
      let alone = unshared-none others shapes (needed_examples others) in
      rw (objects-found (needed_inhabited others) (needs_more others shapes) extra more (needed_examples others) (set_field (fresh_name others shapes) Null (needed_examples others)) (fields_outside (mentioned_shape others) shapes (needed_examples others)) (fields_outside (unmentioned_shape others more) shapes (needed_examples others)) (unshared_outside others shapes (needed_examples others)), each, alone) refl

  fields-none : (others : FieldShapes) (more : Bool) (shapes : FieldShapes) (fs : Fields) → (not (needs_more others shapes) && (is_none (fields_outside (mentioned_shape others) shapes fs) && is_none (fields_outside (unmentioned_shape others more) shapes fs))) ≡ fields_sub others more shapes
  fields-none others more NoFieldShapes fs = refl
  fields-none others more (AndFieldShape n needed s shapes) fs =
      let below = fields-none others more shapes fs in
      let here = field-step n needed s others more (λ a. outside-none a s) in
      rw (or-none (option_map (λ t. set_field n t fs) (option_and_then (λ a. outside a s) (mentioned_shape others n))) (fields_outside (mentioned_shape others) shapes fs), or-none (option_map (λ t. set_field n t fs) (option_and_then (λ a. outside a s) (unmentioned_shape others more n))) (fields_outside (unmentioned_shape others more) shapes fs), map-none (λ t. set_field n t fs) (option_and_then (λ a. outside a s) (mentioned_shape others n)), map-none (λ t. set_field n t fs) (option_and_then (λ a. outside a s) (unmentioned_shape others more n)), ← here, ← below) (shuffled (needed && not (is_needed (mention_of n others))) (is_none (option_and_then (λ a. outside a s) (mentioned_shape others n))) (is_none (option_and_then (λ a. outside a s) (unmentioned_shape others more n))) (needs_more others shapes) (is_none (fields_outside (mentioned_shape others) shapes fs)) (is_none (fields_outside (unmentioned_shape others more) shapes fs)))
    where
      shuffled : (x y z u v w : Bool) → (not (x || u) && ((y && v) && (z && w))) ≡ ((not x && (y && z)) && (not u && (v && w)))
      shuffled x y z u v w = grind arith

-- the comparison is exact
pub outside-exactly : (a b : Shape) → (outside a b ≡ None) ↔ IsTrue (sub a b)
outside-exactly a b = (λ e. sym (outside-none a b) ∙ none e, λ h. gone (outside a b) (outside-none a b ∙ h))
  where
    none : {o : Option Tree} → o ≡ None → is_none o ≡ true
    none e = rw e refl

    gone : (o : Option Tree) → is_none o ≡ true → o ≡ None
    gone None h = refl
    gone (Some t) h = absurd (cc)
