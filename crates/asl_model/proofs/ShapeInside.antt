-- `sub` true means inside: every tree of the first shape has the second.
use Rattle.std.proofs.Common.{◌≡◌, ℕ, List, Bool, true, false, ◌&&◌, ◌||◌, not, Option, Some, None, refl, arith}
use Rattle.std.specs.Prelude.{IsTrue, bytes_eq}
use Rattle.std.proofs.lemmas.Bool.{and_parts, and_from, false≢true}
use Rattle.std.proofs.lemmas.Slice.Eq.{bytes_eq-Decides}
use Rattle.asl_model.specs.Tree.{Tree, Null, Boolean, Integer, Text, Array, Object, Trees, NoTrees, AndTree, Fields, NoFields, AndField, field_named}
use Rattle.asl_model.specs.Shape.{Simple, Shape, Any, OfKinds, Arrays, WithoutArrays, ArraysOf, Objects, WithoutObjects, ObjectsOf, Shapes, NoShapes, AndShape, FieldShapes, NoFieldShapes, AndFieldShape, Has, Inside, has, arrays_have, objects_have, elements_have, each_element, fields_have, there_and, mentions, all_mentioned, inhabited, all_inhabited, needed_inhabited}
use Rattle.asl_model.specs.ShapeOrder.{sub, simple_sub, arrays_sub, objects_sub, elements_sub, fields_sub, mention_fits, mention_of, each_shape, others_never_there, takes_all, takes_all_arrays, takes_all_objects, asks_nothing}
use Rattle.asl_model.proofs.ShapeInhabited.{arrays_have-inhabited, objects_have-inhabited, not_inhabited-has}

-- what is left of a choice whose first part fails
or_right : (x y : Bool) → IsTrue x → IsTrue (not x || y) → IsTrue y
or_right true y e h = h
or_right false y e h = absurd (false≢true e)

-- a field that isn't needed and may be every tree
optional_holds : (needed : Bool) (s : Shape) (value : Option Tree) → IsTrue (not needed) → ((t : Tree) → Has s t) → IsTrue (there_and needed (has s) value)
optional_holds needed s None free every = free
optional_holds needed s (Some t) free every = every t

every_element : (test : Tree → Bool) → ((t : Tree) → IsTrue (test t)) → (ts : Trees) → IsTrue (each_element test ts)
every_element test every NoTrees = refl
every_element test every (AndTree t ts) = and_from (test t) (each_element test ts) (every t) (every_element test every ts)

mutual
  -- every tree has a shape that takes all
  pub takes_all-has : (s : Shape) → IsTrue (takes_all s) → (t : Tree) → Has s t
  takes_all-has Any h t = refl
  takes_all-has (OfKinds simple arrays objects) h Null = grind arith
  takes_all-has (OfKinds simple arrays objects) h (Boolean b) = grind arith
  takes_all-has (OfKinds simple arrays objects) h (Integer n) = grind arith
  takes_all-has (OfKinds simple arrays objects) h (Text s) = grind arith
  takes_all-has (OfKinds simple arrays objects) h (Array ts) = takes_all-arrays arrays (grind arith) ts
  takes_all-has (OfKinds simple arrays objects) h (Object fs) = takes_all-objects objects (grind arith) fs

  takes_all-arrays : (arrays : Arrays) → IsTrue (takes_all_arrays arrays) → (ts : Trees) → IsTrue (arrays_have arrays ts)
  takes_all-arrays WithoutArrays h ts = absurd (false≢true h)
  takes_all-arrays (ArraysOf NoShapes rest) h ts = every_element (has rest) (takes_all-has rest h) ts
  takes_all-arrays (ArraysOf (AndShape s first) rest) h ts = absurd (false≢true h)

  takes_all-objects : (objects : Objects) → IsTrue (takes_all_objects objects) → (fs : Fields) → IsTrue (objects_have objects fs)
  takes_all-objects WithoutObjects h fs = absurd (false≢true h)
  takes_all-objects (ObjectsOf shapes extra) h fs =
      let free : IsTrue (fields_have shapes fs) = asks_nothing-have shapes (grind arith) fs in
      grind arith

  asks_nothing-have : (shapes : FieldShapes) → IsTrue (asks_nothing shapes) → (fs : Fields) → IsTrue (fields_have shapes fs)
  asks_nothing-have NoFieldShapes h fs = refl
  asks_nothing-have (AndFieldShape n needed s shapes) h fs = and_from (there_and needed (has s) (field_named n fs)) (fields_have shapes fs) (optional_holds needed s (field_named n fs) (grind arith) (takes_all-has s (grind arith))) (asks_nothing-have shapes (grind arith) fs)

-- each element has some shape that passes the test
further_inside : (test : Shape → Bool) (goal : Tree → Bool) → ((a : Shape) → IsTrue (test a) → (t : Tree) → Has a t → IsTrue (goal t)) → (others : Shapes) (further : Shape) (ts : Trees) → IsTrue (each_shape test others) → IsTrue (test further) → IsTrue (elements_have others (has further) ts) → IsTrue (each_element goal ts)
further_inside test goal inside NoShapes further NoTrees each last m = refl
further_inside test goal inside NoShapes further (AndTree t ts) each last m =
    let both = and_parts (has further t) (each_element (has further) ts) m in
    and_from (goal t) (each_element goal ts) (inside further last t both.0) (further_inside test goal inside NoShapes further ts each last both.1)
further_inside test goal inside (AndShape a others) further NoTrees each last m = absurd (false≢true m)
further_inside test goal inside (AndShape a others) further (AndTree t ts) each last m =
    let tests = and_parts (test a) (each_shape test others) each in
    let both = and_parts (has a t) (elements_have others (has further) ts) m in
    and_from (goal t) (each_element goal ts) (inside a tests.0 t both.0) (further_inside test goal inside others further ts tests.1 last both.1)

-- the first mention of a field holds
pub mention_holds : (n : List ℕ) (others : FieldShapes) (fs : Fields) (mention : Bool × Shape) → mention_of n others ≡ Some mention → IsTrue (fields_have others fs) → IsTrue (there_and mention.0 (has mention.1) (field_named n fs))
mention_holds n NoFieldShapes fs mention e h = absurd (cc)
mention_holds n (AndFieldShape m needed s others) fs mention e h = go (bytes_eq m n) refl (λ below. mention_holds n others fs mention below both.1)
  where
    both : IsTrue (there_and needed (has s) (field_named m fs)) × IsTrue (fields_have others fs)
    both = and_parts (there_and needed (has s) (field_named m fs)) (fields_have others fs) h

    go : (b : Bool) → bytes_eq m n ≡ b → (mention_of n others ≡ Some mention → IsTrue (there_and mention.0 (has mention.1) (field_named n fs))) → IsTrue (there_and mention.0 (has mention.1) (field_named n fs))
    go true same below =
        let named : m ≡ n = (bytes_eq-Decides m n).0 same in
        let found : Some (needed, s) ≡ Some mention = rw same at e in
        let is : (needed, s) ≡ mention = cc in
        rw (← is, ← named) both.0
    go false other below = below (rw other at e)

-- a name with a mention has a first one
pub mentions-mention : (n : List ℕ) (others : FieldShapes) → mention_of n others ≡ None → IsTrue (mentions n others) → ⊥
mentions-mention n NoFieldShapes e h = false≢true h
mentions-mention n (AndFieldShape m needed s others) e h = go (bytes_eq m n) refl (mentions-mention n others)
  where
    go : (b : Bool) → bytes_eq m n ≡ b → (mention_of n others ≡ None → IsTrue (mentions n others) → ⊥) → ⊥
    go true same below =
        let found : ◌≡◌ {A = Option (Bool × Shape)} (Some (needed, s)) None = rw same at e in
        absurd (cc)
    go false other below = below (rw other at e) (rw other at h)

-- a field that is there is mentioned where every field is
pub there-mentioned : (n : List ℕ) (others : FieldShapes) (fs : Fields) (t : Tree) → field_named n fs ≡ Some t → IsTrue (all_mentioned others fs) → IsTrue (mentions n others)
there-mentioned n others NoFields t e h = absurd (cc)
there-mentioned n others (AndField m u fs) t e h = go (bytes_eq m n) refl (λ below. there-mentioned n others fs t below both.1)
  where
    both : IsTrue (mentions m others) × IsTrue (all_mentioned others fs)
    both = and_parts (mentions m others) (all_mentioned others fs) h

    go : (b : Bool) → bytes_eq m n ≡ b → (field_named n fs ≡ Some t → IsTrue (mentions n others)) → IsTrue (mentions n others)
    go true same below = let named : m ≡ n = (bytes_eq-Decides m n).0 same in rw (← named) both.0
    go false other below = below (rw other at e)

-- a field without a mention isn't there where every field is mentioned
unmentioned-absent : (n : List ℕ) (others : FieldShapes) (fs : Fields) → mention_of n others ≡ None → IsTrue (all_mentioned others fs) → field_named n fs ≡ None
unmentioned-absent n others fs e h = go (field_named n fs) refl
  where
    go : (value : Option Tree) → field_named n fs ≡ value → field_named n fs ≡ None
    go None at = at
    go (Some t) at = absurd (mentions-mention n others e (there-mentioned n others fs t at h))

-- one field: the first object's mention of it holds, and fits the second's
field_inside : (needed : Bool) (s : Shape) (more : Bool) (mention : Option (Bool × Shape)) (value : Option Tree) → ((a : Shape) → IsTrue (sub a s) → (t : Tree) → Has a t → Has s t) → ((m : Bool × Shape) → mention ≡ Some m → IsTrue (there_and m.0 (has m.1) value)) → (mention ≡ None → IsTrue (not more) → value ≡ None) → IsTrue (mention_fits needed (λ other. sub other s) (takes_all s) more mention) → IsTrue (there_and needed (has s) value)
field_inside needed s more None None inside holds closed fits = (and_parts (not needed) (takes_all s || not more) fits).0
field_inside needed s more None (Some t) inside holds closed fits = go (takes_all s) refl
  where
    go : (any : Bool) → takes_all s ≡ any → Has s t
    go true any = takes_all-has s any t
    go false some =
        let gone : None ≡ None → IsTrue (not more) → Some t ≡ None = closed in
        absurd (cc (gone refl (rw some at (and_parts (not needed) (takes_all s || not more) fits).1)))
field_inside needed s more (Some m) None inside holds closed fits = go needed m.0 (and_parts (not needed || m.0) (sub m.1 s) fits).0 (holds m refl)
  where
    go : (here there : Bool) → IsTrue (not here || there) → IsTrue (not there) → IsTrue (not here)
    go false there h absent = refl
    go true true h absent = absent
    go true false h absent = h
field_inside needed s more (Some m) (Some t) inside holds closed fits = inside m.1 (and_parts (not needed || m.0) (sub m.1 s) fits).1 t (holds m refl)

-- a field that is there and has a mention in the first object alone has a shape that isn't inhabited
never_there : (n : List ℕ) (shapes others : FieldShapes) (fs : Fields) (t : Tree) → field_named n fs ≡ Some t → IsTrue (fields_have others fs) → IsTrue (others_never_there shapes others) → IsTrue (mentions n others) → IsTrue (mentions n shapes)
never_there n shapes NoFieldShapes fs t e h never there = absurd (false≢true there)
never_there n shapes (AndFieldShape m needed s others) fs t e h never there = go (bytes_eq m n) refl (λ below. never_there n shapes others fs t e both.1 each.1 below)
  where
    both : IsTrue (there_and needed (has s) (field_named m fs)) × IsTrue (fields_have others fs)
    both = and_parts (there_and needed (has s) (field_named m fs)) (fields_have others fs) h

    each : IsTrue (mentions m shapes || not (inhabited s)) × IsTrue (others_never_there shapes others)
    each = and_parts (mentions m shapes || not (inhabited s)) (others_never_there shapes others) never

    known : (b : Bool) → IsTrue (b || not (inhabited s)) → Has s t → IsTrue b
    known true h' m' = refl
    known false h' m' = absurd (not_inhabited-has s t h' m')

    go : (b : Bool) → bytes_eq m n ≡ b → (IsTrue (mentions n others) → IsTrue (mentions n shapes)) → IsTrue (mentions n shapes)
    go true same below =
        let named : m ≡ n = (bytes_eq-Decides m n).0 same in
        let value : field_named m fs ≡ Some t = rw named e in
        let member : Has s t = rw value at both.0 in
        rw (← named) (known (mentions m shapes) each.0 member)
    go false other below = below (rw other at there)

-- every field is mentioned where each name that names one is
pub all_mentioned-from : (shapes : FieldShapes) (fs : Fields) → ((n : List ℕ) (t : Tree) → field_named n fs ≡ Some t → IsTrue (mentions n shapes)) → IsTrue (all_mentioned shapes fs)
all_mentioned-from shapes NoFields each = refl
all_mentioned-from shapes (AndField m u fs) each = and_from (mentions m shapes) (all_mentioned shapes fs) (each m u (rw ((bytes_eq-Decides m m).1 refl) refl)) (all_mentioned-from shapes fs (λ n t e. go n t e (bytes_eq m n) refl))
  where
    go : (n : List ℕ) (t : Tree) → field_named n fs ≡ Some t → (b : Bool) → bytes_eq m n ≡ b → IsTrue (mentions n shapes)
    go n t e true same = each n u (rw same refl)
    go n t e false other = each n t (rw other e)

-- no field is there that the second object forbids
others_inside : (shapes others : FieldShapes) (extra more : Bool) (fs : Fields) → IsTrue (fields_have others fs) → IsTrue (more || all_mentioned others fs) → IsTrue (extra || (not more && others_never_there shapes others)) → IsTrue (extra || all_mentioned shapes fs)
others_inside shapes others true more fs h mentioned never = refl
others_inside shapes others false true fs h mentioned never = absurd (false≢true never)
others_inside shapes others false false fs h mentioned never = all_mentioned-from shapes fs (λ n t e. never_there n shapes others fs t e h never (there-mentioned n others fs t e mentioned))

-- where every field is mentioned, one without a mention isn't there
pub closed_absent : (n : List ℕ) (others : FieldShapes) (more : Bool) (fs : Fields) → IsTrue (more || all_mentioned others fs) → mention_of n others ≡ None → IsTrue (not more) → field_named n fs ≡ None
closed_absent n others true fs mentioned none shut = absurd (false≢true shut)
closed_absent n others false fs mentioned none shut = unmentioned-absent n others fs none mentioned

-- a simple kind of the first is one of the second
simple-inside : (a b : Simple) → IsTrue (simple_sub a b) → (IsTrue a.null → IsTrue b.null) × (IsTrue a.boolean → IsTrue b.boolean) × (IsTrue a.integer → IsTrue b.integer) × (IsTrue a.text → IsTrue b.text)
simple-inside a b h =
    let null = and_parts (not a.null || b.null) ((not a.boolean || b.boolean) && ((not a.integer || b.integer) && (not a.text || b.text))) h in
    let boolean = and_parts (not a.boolean || b.boolean) ((not a.integer || b.integer) && (not a.text || b.text)) null.1 in
    let integer = and_parts (not a.integer || b.integer) (not a.text || b.text) boolean.1 in
    (λ m. or_right a.null b.null m null.0, λ m. or_right a.boolean b.boolean m boolean.0, λ m. or_right a.integer b.integer m integer.0, λ m. or_right a.text b.text m integer.1)

-- a tree has the second shape by its kind
kinds_inside : (simple some : Simple) (arrays others : Arrays) (objects more : Objects) → (IsTrue some.null → IsTrue simple.null) × (IsTrue some.boolean → IsTrue simple.boolean) × (IsTrue some.integer → IsTrue simple.integer) × (IsTrue some.text → IsTrue simple.text) → (t : Tree) → ((ts : Trees) → IsTrue (arrays_have others ts) → IsTrue (arrays_have arrays ts)) → ((fs : Fields) → IsTrue (objects_have more fs) → IsTrue (objects_have objects fs)) → Has (OfKinds some others more) t → Has (OfKinds simple arrays objects) t
kinds_inside simple some arrays others objects more each Null in_arrays in_objects m = each.0 m
kinds_inside simple some arrays others objects more each (Boolean b) in_arrays in_objects m = each.1 m
kinds_inside simple some arrays others objects more each (Integer n) in_arrays in_objects m = each.2 m
kinds_inside simple some arrays others objects more each (Text s) in_arrays in_objects m = each.3 m
kinds_inside simple some arrays others objects more each (Array ts) in_arrays in_objects m = in_arrays ts m
kinds_inside simple some arrays others objects more each (Object fs) in_arrays in_objects m = in_objects fs m

mutual
  -- every tree of the first shape has the second, by the second's form
  inside : (b a : Shape) → IsTrue (sub a b) → (t : Tree) → Has a t → Has b t
  inside Any a h t m = refl
  inside (OfKinds simple arrays objects) Any h t m = takes_all-has (OfKinds simple arrays objects) h t
  inside (OfKinds simple arrays objects) (OfKinds some others more) h t m =
      let kinds = and_parts (simple_sub some simple) (arrays_sub others arrays && objects_sub more objects) h in
      let parts = and_parts (arrays_sub others arrays) (objects_sub more objects) kinds.1 in
      kinds_inside simple some arrays others objects more (simple-inside some simple kinds.0) t (λ ts. arrays_inside arrays others ts parts.0) (λ fs. objects_inside objects more fs parts.1) m

  arrays_inside : (arrays others : Arrays) (ts : Trees) → IsTrue (arrays_sub others arrays) → IsTrue (arrays_have others ts) → IsTrue (arrays_have arrays ts)
  arrays_inside arrays WithoutArrays ts h m = absurd (false≢true m)
  arrays_inside WithoutArrays (ArraysOf others further) ts h m =
      let live : IsTrue (all_inhabited others) = arrays_have-inhabited (ArraysOf others further) ts m in
      absurd (grind arith)
  arrays_inside (ArraysOf first rest) (ArraysOf others further) ts h m =
      let live : IsTrue (all_inhabited others) = arrays_have-inhabited (ArraysOf others further) ts m in
      elements_inside first others further ts (λ s. sub s rest) (has rest) (inside rest) (or_right (all_inhabited others) (elements_sub others further first (λ s. sub s rest)) live h) m

  objects_inside : (objects others : Objects) (fs : Fields) → IsTrue (objects_sub others objects) → IsTrue (objects_have others fs) → IsTrue (objects_have objects fs)
  objects_inside objects WithoutObjects fs h m = absurd (false≢true m)
  objects_inside WithoutObjects (ObjectsOf others more) fs h m =
      let live : IsTrue (needed_inhabited others) = objects_have-inhabited (ObjectsOf others more) fs m in
      absurd (grind arith)
  objects_inside (ObjectsOf shapes extra) (ObjectsOf others more) fs h m =
      let live : IsTrue (needed_inhabited others) = objects_have-inhabited (ObjectsOf others more) fs m in
      let tests = and_parts (fields_sub others more shapes) (extra || (not more && others_never_there shapes others)) (or_right (needed_inhabited others) (fields_sub others more shapes && (extra || (not more && others_never_there shapes others))) live h) in
      let both = and_parts (fields_have others fs) (more || all_mentioned others fs) m in
      and_from (fields_have shapes fs) (extra || all_mentioned shapes fs) (fields_inside shapes others more fs tests.0 both.0 both.1) (others_inside shapes others extra more fs both.0 both.1 tests.1)

  elements_inside : (first others : Shapes) (further : Shape) (ts : Trees) (test : Shape → Bool) (goal : Tree → Bool) → ((a : Shape) → IsTrue (test a) → (t : Tree) → Has a t → IsTrue (goal t)) → IsTrue (elements_sub others further first test) → IsTrue (elements_have others (has further) ts) → IsTrue (elements_have first goal ts)
  elements_inside NoShapes others further ts test goal last h m =
      let tests = and_parts (each_shape test others) (test further) h in
      further_inside test goal last others further ts tests.0 tests.1 m
  elements_inside (AndShape s first) NoShapes further ts test goal last h m = absurd (false≢true h)
  elements_inside (AndShape s first) (AndShape o others) further NoTrees test goal last h m = absurd (false≢true m)
  elements_inside (AndShape s first) (AndShape o others) further (AndTree t ts) test goal last h m =
      let tests = and_parts (sub o s) (elements_sub others further first test) h in
      let both = and_parts (has o t) (elements_have others (has further) ts) m in
      and_from (has s t) (elements_have first goal ts) (inside s o tests.0 t both.0) (elements_inside first others further ts test goal last tests.1 both.1)

  fields_inside : (shapes others : FieldShapes) (more : Bool) (fs : Fields) → IsTrue (fields_sub others more shapes) → IsTrue (fields_have others fs) → IsTrue (more || all_mentioned others fs) → IsTrue (fields_have shapes fs)
  fields_inside NoFieldShapes others more fs h m mentioned = refl
  fields_inside (AndFieldShape n needed s shapes) others more fs h m mentioned =
      let tests = and_parts (mention_fits needed (λ other. sub other s) (takes_all s) more (mention_of n others)) (fields_sub others more shapes) h in
      and_from (there_and needed (has s) (field_named n fs)) (fields_have shapes fs) (field_inside needed s more (mention_of n others) (field_named n fs) (λ a. inside s a) (λ mention e. mention_holds n others fs mention e m) (closed_absent n others more fs mentioned) tests.0) (fields_inside shapes others more fs tests.1 m mentioned)

-- where `sub` is true, every tree of the first shape has the second
pub sub-inside : (a b : Shape) → IsTrue (sub a b) → Inside a b
sub-inside a b h t m = inside b a h t m
