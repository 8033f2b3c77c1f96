-- A tree that is found outside has the first shape, where its names stand in order, and lacks the second.
use Rattle.std.proofs.Common.{◌≡◌, ℕ, List, [], Bool, true, false, ◌&&◌, ◌||◌, not, pos, Option, Some, None, refl, sym, ◌∙◌, ap}
use Rattle.std.specs.Prelude.{IsTrue, IfSome, bytes_eq, is_some, option_and_then}
use Rattle.std.specs.Bool.{then_some}
use Rattle.std.specs.Option.{option_map, option_or}
use Rattle.std.proofs.lemmas.Bool.{and_parts, and_from, or_left, or_right, or_parts, false≢true}
use Rattle.std.proofs.lemmas.Option.{IfSome_then}
use Rattle.std.proofs.lemmas.Slice.Eq.{bytes_eq-Decides}
use Rattle.asl_model.specs.Tree.{Tree, Null, Boolean, Integer, Text, Array, Object, Trees, AndTree, Fields, field_named}
use Rattle.asl_model.specs.Placing.{set_field}
use Rattle.asl_model.specs.Shape.{all_simple, Simple, Shape, Any, OfKinds, Arrays, WithoutArrays, ArraysOf, Objects, WithoutObjects, ObjectsOf, Shapes, NoShapes, AndShape, FieldShapes, NoFieldShapes, AndFieldShape, Has, Inside, has, arrays_have, objects_have, elements_have, each_element, fields_have, there_and, mentions, all_mentioned, IsOrdered, AreOrderedArrays, AreOrderedObjects, AreOrderedShapes, AreOrderedFields, inhabited, all_inhabited, needed_inhabited}
use Rattle.asl_model.specs.ShapeOrder.{mention_of, sub}
use Rattle.asl_model.specs.Examples.{example, examples, needed_examples, first_tree, fresh_name, only_if, first_found, is_longer, with_first, further_outside, is_needed, needs_more, mentioned_shape, unmentioned_shape, unshared_outside, forbidden_outside, outside, arrays_outside, elements_outside, objects_outside, fields_outside, IsOutside}
use Rattle.asl_model.proofs.FreshName.{fresh-unmentioned}
use Rattle.asl_model.proofs.NamesInOrder.{AreFirst, ordered-first}
use Rattle.asl_model.proofs.ShapeExample.{exampled, example-has, example-field, example-object_has, examples-have}
use Rattle.asl_model.proofs.ShapeFields.{field_named-set_same, field_named-set_other}
use Rattle.asl_model.proofs.ShapeInside.{all_mentioned-from, there-mentioned}
use Rattle.asl_model.proofs.ShapeOutside.{mentions-some, outside-exactly}

-- What holds of what is found

if-or : {A : Type 0} (P : A → Type 0) (a b : Option A) → IfSome a P → IfSome b P → IfSome (option_or a b) P
if-or P None b first second = second
if-or P (Some x) b first second = first

if-then : {A : Type 0} (P : A → Type 0) (holds : Bool) (a : A) → (IsTrue holds → P a) → IfSome (then_some holds a) P
if-then P true a each = each refl
if-then P false a each = tt

if-only : {A : Type 0} (P : A → Type 0) (holds : Bool) (a : Option A) → (IsTrue holds → IfSome a P) → IfSome (only_if holds a) P
if-only P true a each = each refl
if-only P false a each = tt

if-map : {A B : Type 0} (P : B → Type 0) (f : A → B) (a : Option A) → IfSome a (λ x. P (f x)) → IfSome (option_map f a) P
if-map P f None h = tt
if-map P f (Some x) h = h

if-next : {A B : Type 0} (P : B → Type 0) (f : A → Option B) (a : Option A) → ((x : A) → a ≡ Some x → IfSome (f x) P) → IfSome (option_and_then f a) P
if-next P f None each = tt
if-next P f (Some x) each = each x refl

if-first : (P : Trees → Type 0) (found : Option Tree) (t : Tree) (ts : Trees) (later : Option Trees) → IfSome found (λ u. P (AndTree u ts)) → IfSome later (λ us. P (AndTree t us)) → IfSome (with_first found t ts later) P
if-first P None t ts later here behind = if-map P (AndTree t) later behind
if-first P (Some u) t ts later here behind = here

not_both : (x : Bool) → IsTrue (not x) → IsTrue x → ⊥
not_both true absent h = false≢true absent
not_both false absent h = false≢true h

-- it passes the first test and not the second
abbrev Apart : {A : Type 0} → (A → Bool) → (A → Bool) → A → Type 0
Apart first second a = IsTrue (first a) × (IsTrue (second a) → ⊥)

-- the first tree that is found of a kind is outside, where the first shape has the trees of its kinds
kinds-outside : (a : Shape) (some simple : Simple) (arrays : Arrays) (objects : Objects) (elements : Option Trees) (fields : Option Fields) → (IsTrue some.boolean → Has a (Boolean false)) → (IsTrue some.integer → Has a (Integer (pos 0))) → (IsTrue some.null → Has a Null) → (IsTrue some.text → Has a (Text [])) → IfSome elements (λ ts. Has a (Array ts) × (IsTrue (arrays_have arrays ts) → ⊥)) → IfSome fields (λ fs. Has a (Object fs) × (IsTrue (objects_have objects fs) → ⊥)) → IfSome (first_found some simple elements fields) (IsOutside a (OfKinds simple arrays objects))
kinds-outside a some simple arrays objects elements fields boolean integer null text in_arrays in_objects =
    if-or P _ _ (if-map P _ _ (IfSome_then elements in_arrays (λ ts p. record { has = p.0; lacks = p.1 })))
    (if-or P _ _ (if-then P _ _ (λ h. record { has = boolean (and_parts some.boolean (not simple.boolean) h).0; lacks = not_both simple.boolean (and_parts some.boolean (not simple.boolean) h).1 }))
    (if-or P _ _ (if-then P _ _ (λ h. record { has = integer (and_parts some.integer (not simple.integer) h).0; lacks = not_both simple.integer (and_parts some.integer (not simple.integer) h).1 }))
    (if-or P _ _ (if-then P _ _ (λ h. record { has = null (and_parts some.null (not simple.null) h).0; lacks = not_both simple.null (and_parts some.null (not simple.null) h).1 }))
    (if-or P _ _ (if-map P _ _ (IfSome_then fields in_objects (λ fs p. record { has = p.0; lacks = p.1 })))
    (if-then P _ _ (λ h. record { has = text (and_parts some.text (not simple.text) h).0; lacks = not_both simple.text (and_parts some.text (not simple.text) h).1 }))))))
  where
    P : Tree → Type 0
    P = IsOutside a (OfKinds simple arrays objects)

-- Arrays

too_short : (first others : Shapes) (goal : Tree → Bool) → IsTrue (is_longer first others) → IsTrue (elements_have first goal (examples others)) → ⊥
too_short NoShapes others goal longer h = false≢true longer
too_short (AndShape s first) NoShapes goal longer h = false≢true h
too_short (AndShape s first) (AndShape other others) goal longer h = too_short first others goal longer (and_parts (has s (example other)) (elements_have first goal (examples others)) h).1

further-outside : (others : Shapes) (further : Shape) (found : Shape → Option Tree) (goal : Tree → Bool) → AreOrderedShapes others → IsOrdered further → IsTrue (all_inhabited others) → ((s : Shape) → IsOrdered s → IfSome (found s) (Apart (has s) goal)) → IfSome (further_outside others further found) (Apart (elements_have others (has further)) (each_element goal))
further-outside NoShapes further found goal ordered last live each = if-map (Apart (elements_have NoShapes (has further)) (each_element goal)) _ _ (IfSome_then (found further) (each further last) (λ t p. (and_from (has further t) true p.0 refl, λ h. p.1 (and_parts (goal t) true h).0)))
further-outside (AndShape other others) further found goal ordered last live each =
    let both = and_parts (inhabited other) (all_inhabited others) live in
    if-first (Apart (elements_have (AndShape other others) (has further)) (each_element goal)) _ _ _ _
    (IfSome_then (found other) (each other ordered.0) (λ u p. (and_from (has other u) (elements_have others (has further) (examples others)) p.0 (examples-have others (has further) ordered.1 both.1), λ h. p.1 (and_parts (goal u) (each_element goal (examples others)) h).0)))
    (IfSome_then (further_outside others further found) (further-outside others further found goal ordered.1 last both.1 each) (λ us p. (and_from (has other (example other)) (elements_have others (has further) us) (example-has other ordered.0 both.0) p.0, λ h. p.1 (and_parts (goal (example other)) (each_element goal us) h).1)))

-- Objects: one field set in an object of the first

mention-ordered : (n : List ℕ) (shapes : FieldShapes) (mention : Bool × Shape) → AreOrderedFields shapes → mention_of n shapes ≡ Some mention → IsOrdered mention.1
mention-ordered n NoFieldShapes mention ordered e = absurd (cc)
mention-ordered n (AndFieldShape m needed s shapes) mention ordered e = go (bytes_eq m n) refl (mention-ordered n shapes mention ordered.2)
  where
    go : (same : Bool) → bytes_eq m n ≡ same → (mention_of n shapes ≡ Some mention → IsOrdered mention.1) → IsOrdered mention.1
    go true same below =
        let found : Some (needed, s) ≡ Some mention = rw same at e in
        let is : (needed, s) ≡ mention = cc in
        rw (← is) ordered.1
    go false other below = below (rw other at e)

-- the tree has the shape that the mentions have for the field, where they have one
abbrev Fits : List ℕ → Tree → FieldShapes → Type 0
Fits n t shapes = (mention : Bool × Shape) → mention_of n shapes ≡ Some mention → Has mention.1 t

-- a field that fits its mention keeps the other mentions
set-keeps : (n : List ℕ) (t : Tree) (whole shapes : FieldShapes) (fs : Fields) → AreFirst whole shapes → Fits n t whole → IsTrue (fields_have shapes fs) → IsTrue (fields_have shapes (set_field n t fs))
set-keeps n t whole NoFieldShapes fs first fits h = refl
set-keeps n t whole (AndFieldShape m needed s shapes) fs first fits h = and_from (there_and needed (has s) (field_named m (set_field n t fs))) (fields_have shapes (set_field n t fs)) (go (bytes_eq n m) refl) (set-keeps n t whole shapes fs first.1 fits both.1)
  where
    both : IsTrue (there_and needed (has s) (field_named m fs)) × IsTrue (fields_have shapes fs)
    both = and_parts (there_and needed (has s) (field_named m fs)) (fields_have shapes fs) h

    go : (same : Bool) → bytes_eq n m ≡ same → IsTrue (there_and needed (has s) (field_named m (set_field n t fs)))
    go true same =
        let is : n ≡ m = (bytes_eq-Decides n m).0 same in
        let fit : Has s t = fits (needed, s) (rw is first.0) in
        let there : field_named m (set_field n t fs) ≡ Some t = rw (← is) (field_named-set_same n t fs) in
        rw there fit
    go false apart = rw (field_named-set_other n m t fs apart) both.0

set-all_mentioned : (n : List ℕ) (t : Tree) (shapes : FieldShapes) (fs : Fields) → IsTrue (mentions n shapes) → IsTrue (all_mentioned shapes fs) → IsTrue (all_mentioned shapes (set_field n t fs))
set-all_mentioned n t shapes fs mentioned h = all_mentioned-from shapes (set_field n t fs) (λ k u e. go k u e (bytes_eq n k) refl)
  where
    go : (k : List ℕ) (u : Tree) → field_named k (set_field n t fs) ≡ Some u → (same : Bool) → bytes_eq n k ≡ same → IsTrue (mentions k shapes)
    go k u e true same =
        let is : n ≡ k = (bytes_eq-Decides n k).0 same in
        rw (← is) mentioned
    go k u e false apart = there-mentioned k shapes fs u (rw (field_named-set_other n k t fs apart) at e) h

-- the example of objects with a field set that fits is one of them, where the field is mentioned or may be there anyway
set-has : (n : List ℕ) (t : Tree) (shapes : FieldShapes) (extra : Bool) → AreOrderedFields shapes → IsTrue (needed_inhabited shapes) → Fits n t shapes → IsTrue (extra || mentions n shapes) → IsTrue (objects_have (ObjectsOf shapes extra) (set_field n t (needed_examples shapes)))
set-has n t shapes extra ordered live fits known =
    let both = and_parts (fields_have shapes (needed_examples shapes)) (extra || all_mentioned shapes (needed_examples shapes)) (example-object_has (ObjectsOf shapes extra) ordered live) in
    and_from (fields_have shapes (set_field n t (needed_examples shapes))) (extra || all_mentioned shapes (set_field n t (needed_examples shapes))) (set-keeps n t shapes shapes (needed_examples shapes) (ordered-first shapes ordered) fits both.0) (go extra known both.1)
  where
    go : (more : Bool) → IsTrue (more || mentions n shapes) → IsTrue (more || all_mentioned shapes (needed_examples shapes)) → IsTrue (more || all_mentioned shapes (set_field n t (needed_examples shapes)))
    go true mentioned all = refl
    go false mentioned all = set-all_mentioned n t shapes (needed_examples shapes) mentioned all

-- a field that isn't mentioned fits
new-fits : (n : List ℕ) (t : Tree) (shapes : FieldShapes) → mentions n shapes ≡ false → Fits n t shapes
new-fits n t shapes none mention e =
    let there : mentions n shapes ≡ true = mentions-some n shapes ∙ ap is_some e in
    absurd (cc)

-- a tree of the mentioned shape fits
own-fits : (n : List ℕ) (t : Tree) (shapes : FieldShapes) (own : Bool × Shape) → mention_of n shapes ≡ Some own → Has own.1 t → Fits n t shapes
own-fits n t shapes own found fit mention e =
    let same : Some own ≡ Some mention = sym found ∙ e in
    let is : own ≡ mention = cc in
    rw (← is) fit

-- What each round finds

needs-lacks : (others shapes : FieldShapes) → AreOrderedFields others → IsTrue (needs_more others shapes) → IsTrue (fields_have shapes (needed_examples others)) → ⊥
needs-lacks others NoFieldShapes ordered more h = false≢true more
needs-lacks others (AndFieldShape n needed s shapes) ordered more h = go needed (mention_of n others) refl (needs-lacks others shapes ordered) more (and_parts (there_and needed (has s) (field_named n (needed_examples others))) (fields_have shapes (needed_examples others)) h)
  where
    field : (mention : Option (Bool × Shape)) → mention_of n others ≡ mention → field_named n (needed_examples others) ≡ exampled mention
    field mention e = example-field n others ordered ∙ ap exampled e

    go : (needed' : Bool) (mention : Option (Bool × Shape)) → mention_of n others ≡ mention → (IsTrue (needs_more others shapes) → IsTrue (fields_have shapes (needed_examples others)) → ⊥) → IsTrue ((needed' && not (is_needed (mention_of n others))) || needs_more others shapes) → IsTrue (there_and needed' (has s) (field_named n (needed_examples others))) × IsTrue (fields_have shapes (needed_examples others)) → ⊥
    go false mention e below more' both = below more' both.1
    go true None e below more' both = false≢true (rw (field None e) at both.0)
    go true (Some (false, other)) e below more' both = false≢true (rw (field (Some (false, other)) e) at both.0)
    go true (Some (true, other)) e below more' both = below (rw e at more') both.1

unshared-outside : (whole others shapes : FieldShapes) (fs : Fields) (test : Fields → Bool) → AreFirst whole others → AreOrderedFields others → ((n : List ℕ) (needed : Bool) (s : Shape) (t : Tree) → mention_of n whole ≡ Some (needed, s) → Has s t → IsTrue (test (set_field n t fs))) → IfSome (unshared_outside others shapes fs) (Apart test (all_mentioned shapes))
unshared-outside whole NoFieldShapes shapes fs test first ordered keeps = tt
unshared-outside whole (AndFieldShape n needed s others) shapes fs test first ordered keeps =
    let t = first_tree s in
    if-or (Apart test (all_mentioned shapes)) _ _ (if-then (Apart test (all_mentioned shapes)) _ _ (λ h. let both = and_parts (not (mentions n shapes)) (inhabited s) h in (keeps n needed s t first.0 (first-has s ordered.1 both.1), λ all. not_both (mentions n shapes) both.0 (there-mentioned n shapes (set_field n t fs) t (field_named-set_same n t fs) all))))
    (unshared-outside whole others shapes fs test first.1 ordered.2 keeps)
  where
    first-has : (a : Shape) → IsOrdered a → IsTrue (inhabited a) → Has a (first_tree a)
    first-has Any o live = refl
    first-has (OfKinds simple arrays objects) o live = example-has (OfKinds simple arrays objects) o live

forbidden-outside : (others : FieldShapes) (more : Bool) (shapes : FieldShapes) → AreOrderedFields others → IsTrue (needed_inhabited others) → IfSome (forbidden_outside others more shapes (needed_examples others)) (Apart (objects_have (ObjectsOf others more)) (all_mentioned shapes))
forbidden-outside others more shapes ordered live =
    let n = fresh_name others shapes in
    let fs = needed_examples others in
    if-or (Apart (objects_have (ObjectsOf others more)) (all_mentioned shapes)) _ _ (unshared-outside others others shapes fs (objects_have (ObjectsOf others more)) (ordered-first others ordered) ordered keeps)
    (if-then (Apart (objects_have (ObjectsOf others more)) (all_mentioned shapes)) _ _ (λ further. (set-has n Null others more ordered live (new-fits n Null others fresh.0) (or_left more (mentions n others) further), λ all. false≢true (sym fresh.1 ∙ there-mentioned n shapes (set_field n Null fs) Null (field_named-set_same n Null fs) all))))
  where
    fresh : (mentions (fresh_name others shapes) others ≡ false) × (mentions (fresh_name others shapes) shapes ≡ false)
    fresh = or_parts (mentions (fresh_name others shapes) others) (mentions (fresh_name others shapes) shapes) (fresh-unmentioned others shapes)

    keeps : (n : List ℕ) (needed : Bool) (s : Shape) (t : Tree) → mention_of n others ≡ Some (needed, s) → Has s t → IsTrue (objects_have (ObjectsOf others more) (set_field n t (needed_examples others)))
    keeps n needed s t e h = set-has n t others more ordered live (own-fits n t others (needed, s) e h) (rw (mentions-some n others, e) (or_right more true refl))

-- the shape of a field that both mention is ordered, and a tree of it fits
mentioned-has : (others : FieldShapes) (more : Bool) → AreOrderedFields others → IsTrue (needed_inhabited others) → (n : List ℕ) (a : Shape) → mentioned_shape others n ≡ Some a → IsOrdered a × ((t : Tree) → Has a t → IsTrue (objects_have (ObjectsOf others more) (set_field n t (needed_examples others))))
mentioned-has others more ordered live n a e = go (mention_of n others) refl
  where
    go : (mention : Option (Bool × Shape)) → mention_of n others ≡ mention → IsOrdered a × ((t : Tree) → Has a t → IsTrue (objects_have (ObjectsOf others more) (set_field n t (needed_examples others))))
    go None none =
        let nothing : ◌≡◌ {A = Option Shape} None (Some a) = rw none at e in
        absurd (cc)
    go (Some mention) found =
        let same : Some mention.1 ≡ Some a = rw found at e in
        let is : mention.1 ≡ a = cc in
        (rw (← is) (mention-ordered n others mention ordered found), λ t h. set-has n t others more ordered live (own-fits n t others mention found (rw is h)) (rw (mentions-some n others, found) (or_right more true refl)))

-- any tree fits a field that the first doesn't mention and may have
unmentioned-has : (others : FieldShapes) (more : Bool) → AreOrderedFields others → IsTrue (needed_inhabited others) → (n : List ℕ) (a : Shape) → unmentioned_shape others more n ≡ Some a → IsOrdered a × ((t : Tree) → Has a t → IsTrue (objects_have (ObjectsOf others more) (set_field n t (needed_examples others))))
unmentioned-has others more ordered live n a e = go more refl (mentions n others) refl
  where
    go : (more' : Bool) → more ≡ more' → (mentioned : Bool) → mentions n others ≡ mentioned → IsOrdered a × ((t : Tree) → Has a t → IsTrue (objects_have (ObjectsOf others more) (set_field n t (needed_examples others))))
    go true at false none =
        let same : Some Any ≡ Some a = rw (at, none) at e in
        let is : Any ≡ a = cc in
        (rw (← is) tt, λ t h. set-has n t others more ordered live (new-fits n t others none) (or_left more (mentions n others) at))
    go true at true there =
        let nothing : ◌≡◌ {A = Option Shape} None (Some a) = rw (at, there) at e in
        absurd (cc)
    go false at mentioned here =
        let nothing : ◌≡◌ {A = Option Shape} None (Some a) = rw at at e in
        absurd (cc)

-- fields that lack the second mentions aren't those of one of its objects
fields-apart : (shapes : FieldShapes) (extra : Bool) (others : FieldShapes) (more : Bool) (found : Option Fields) → IfSome found (Apart (objects_have (ObjectsOf others more)) (fields_have shapes)) → IfSome found (Apart (objects_have (ObjectsOf others more)) (objects_have (ObjectsOf shapes extra)))
fields-apart shapes extra others more found each = IfSome_then found each (λ fs p. (p.0, λ h. p.1 (and_parts (fields_have shapes fs) (extra || all_mentioned shapes fs) h).0))

-- nor are those that have a field that the second mentions don't allow
forbidden : (extra : Bool) (others shapes : FieldShapes) (more : Bool) (fs : Fields) → IsTrue (not extra) → Apart (objects_have (ObjectsOf others more)) (all_mentioned shapes) fs → Apart (objects_have (ObjectsOf others more)) (objects_have (ObjectsOf shapes extra)) fs
forbidden true others shapes more fs closed p = absurd (false≢true closed)
forbidden false others shapes more fs closed p = (p.0, λ h. p.1 (and_parts (fields_have shapes fs) (all_mentioned shapes fs) h).1)

mutual
  -- what is outside has the first shape and lacks the second
  pub outside-honest : (b a : Shape) → IsOrdered a → IfSome (outside a b) (IsOutside a b)
  outside-honest Any a ordered = tt
  outside-honest (OfKinds simple arrays objects) Any ordered = kinds-outside Any all_simple simple arrays objects (arrays_outside (ArraysOf NoShapes Any) arrays) (objects_outside (ObjectsOf NoFieldShapes true) objects) (λ h. refl) (λ h. refl) (λ h. refl) (λ h. refl) (IfSome_then (arrays_outside (ArraysOf NoShapes Any) arrays) (arrays-honest arrays (ArraysOf NoShapes Any) (tt, tt)) (λ ts p. (refl, p.1))) (IfSome_then (objects_outside (ObjectsOf NoFieldShapes true) objects) (objects-honest objects (ObjectsOf NoFieldShapes true) tt) (λ fs p. (refl, p.1)))
  outside-honest (OfKinds simple arrays objects) (OfKinds some others more) ordered = kinds-outside (OfKinds some others more) some simple arrays objects (arrays_outside others arrays) (objects_outside more objects) (λ h. h) (λ h. h) (λ h. h) (λ h. h) (arrays-honest arrays others ordered.0) (objects-honest objects more ordered.1)

  arrays-honest : (arrays others : Arrays) → AreOrderedArrays others → IfSome (arrays_outside others arrays) (Apart (arrays_have others) (arrays_have arrays))
  arrays-honest arrays WithoutArrays ordered = tt
  arrays-honest WithoutArrays (ArraysOf others further) ordered = if-then (Apart (arrays_have (ArraysOf others further)) (arrays_have WithoutArrays)) _ _ (λ live. (examples-have others (has further) ordered.0 live, λ h. false≢true h))
  arrays-honest (ArraysOf first rest) (ArraysOf others further) ordered =
      if-only (Apart (arrays_have (ArraysOf others further)) (arrays_have (ArraysOf first rest))) _ _ (λ live. if-or (Apart (arrays_have (ArraysOf others further)) (arrays_have (ArraysOf first rest))) _ _ (if-then (Apart (arrays_have (ArraysOf others further)) (arrays_have (ArraysOf first rest))) _ _ (λ longer. (examples-have others (has further) ordered.0 live, too_short first others (has rest) longer)))
      (elements-honest first others further (λ s. outside s rest) (has rest) ordered.0 ordered.1 live (λ s o. IfSome_then (outside s rest) (outside-honest rest s o) (λ t p. (p.has, p.lacks)))))

  elements-honest : (first others : Shapes) (further : Shape) (found : Shape → Option Tree) (goal : Tree → Bool) → AreOrderedShapes others → IsOrdered further → IsTrue (all_inhabited others) → ((s : Shape) → IsOrdered s → IfSome (found s) (Apart (has s) goal)) → IfSome (elements_outside others further first found) (Apart (elements_have others (has further)) (elements_have first goal))
  elements-honest NoShapes others further found goal ordered last live each = further-outside others further found goal ordered last live each
  elements-honest (AndShape s first) NoShapes further found goal ordered last live each = tt
  elements-honest (AndShape s first) (AndShape other others) further found goal ordered last live each =
      let both = and_parts (inhabited other) (all_inhabited others) live in
      if-first (Apart (elements_have (AndShape other others) (has further)) (elements_have (AndShape s first) goal)) _ _ _ _
      (IfSome_then (outside other s) (outside-honest s other ordered.0) (λ u p. (and_from (has other u) (elements_have others (has further) (examples others)) p.has (examples-have others (has further) ordered.1 both.1), λ h. p.lacks (and_parts (has s u) (elements_have first goal (examples others)) h).0)))
      (IfSome_then (elements_outside others further first found) (elements-honest first others further found goal ordered.1 last both.1 each) (λ us p. (and_from (has other (example other)) (elements_have others (has further) us) (example-has other ordered.0 both.0) p.0, λ h. p.1 (and_parts (has s (example other)) (elements_have first goal us) h).1)))

  objects-honest : (objects others : Objects) → AreOrderedObjects others → IfSome (objects_outside others objects) (Apart (objects_have others) (objects_have objects))
  objects-honest objects WithoutObjects ordered = tt
  objects-honest WithoutObjects (ObjectsOf others more) ordered = if-then (Apart (objects_have (ObjectsOf others more)) (objects_have WithoutObjects)) _ _ (λ live. (example-object_has (ObjectsOf others more) ordered live, λ h. false≢true h))
  objects-honest (ObjectsOf shapes extra) (ObjectsOf others more) ordered =
      let fs = needed_examples others in
      if-only (Apart (objects_have (ObjectsOf others more)) (objects_have (ObjectsOf shapes extra))) _ _ (λ live. if-or (Apart (objects_have (ObjectsOf others more)) (objects_have (ObjectsOf shapes extra))) _ _ (if-then (Apart (objects_have (ObjectsOf others more)) (objects_have (ObjectsOf shapes extra))) _ _ (λ lacking. (example-object_has (ObjectsOf others more) ordered live, λ h. needs-lacks others shapes ordered lacking (and_parts (fields_have shapes fs) (extra || all_mentioned shapes fs) h).0)))
      (if-or (Apart (objects_have (ObjectsOf others more)) (objects_have (ObjectsOf shapes extra))) _ _ (fields-apart shapes extra others more (fields_outside (mentioned_shape others) shapes fs) (fields-honest shapes others more (mentioned_shape others) (mentioned-has others more ordered live)))
      (if-or (Apart (objects_have (ObjectsOf others more)) (objects_have (ObjectsOf shapes extra))) _ _ (fields-apart shapes extra others more (fields_outside (unmentioned_shape others more) shapes fs) (fields-honest shapes others more (unmentioned_shape others more) (unmentioned-has others more ordered live)))
      (if-only (Apart (objects_have (ObjectsOf others more)) (objects_have (ObjectsOf shapes extra))) _ _ (λ closed. IfSome_then (forbidden_outside others more shapes fs) (forbidden-outside others more shapes ordered live) (λ gs p. forbidden extra others shapes more gs closed p))))))

  fields-honest : (shapes others : FieldShapes) (more : Bool) (other : List ℕ → Option Shape) → ((n : List ℕ) (a : Shape) → other n ≡ Some a → IsOrdered a × ((t : Tree) → Has a t → IsTrue (objects_have (ObjectsOf others more) (set_field n t (needed_examples others))))) → IfSome (fields_outside other shapes (needed_examples others)) (Apart (objects_have (ObjectsOf others more)) (fields_have shapes))
  fields-honest NoFieldShapes others more other each = tt
  fields-honest (AndFieldShape n needed s shapes) others more other each =
      let fs = needed_examples others in
      if-or (Apart (objects_have (ObjectsOf others more)) (fields_have (AndFieldShape n needed s shapes))) _ _ (if-map (Apart (objects_have (ObjectsOf others more)) (fields_have (AndFieldShape n needed s shapes))) _ _ (if-next (λ t. Apart (objects_have (ObjectsOf others more)) (fields_have (AndFieldShape n needed s shapes)) (set_field n t fs)) _ _ (λ a e. IfSome_then (outside a s) (outside-honest s a (each n a e).0) (λ t p. ((each n a e).1 t p.has, λ h. p.lacks (rw (field_named-set_same n t fs) at (and_parts (there_and needed (has s) (field_named n (set_field n t fs))) (fields_have shapes (set_field n t fs)) h).0))))))
      (IfSome_then (fields_outside other shapes fs) (fields-honest shapes others more other each) (λ gs p. (p.0, λ h. p.1 (and_parts (there_and needed (has s) (field_named n gs)) (fields_have shapes gs) h).1)))

-- a tree that is found is outside
pub found-outside : (a b : Shape) (t : Tree) → IsOrdered a → outside a b ≡ Some t → IsOutside a b t
found-outside a b t ordered e = rw e at (outside-honest b a ordered)

-- where every tree of the first shape has the second, the comparison is true
pub inside-sub : (a b : Shape) → IsOrdered a → Inside a b → IsTrue (sub a b)
inside-sub a b ordered inside = go (outside a b) refl
  where
    go : (found : Option Tree) → outside a b ≡ found → IsTrue (sub a b)
    go None e = (outside-exactly a b).0 e
    go (Some t) e =
        let apart : IsOutside a b t = found-outside a b t ordered e in
        absurd (apart.lacks (inside t apart.has))
