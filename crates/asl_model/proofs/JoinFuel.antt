-- The join of two shapes is the same however deep the shapes may be that it is made for, if only both are no deeper,
-- and it is no deeper than both. So it is by kinds with itself inside.
use Rattle.std.proofs.Common.{◌≡◌, ℕ, zero, suc, min, max, ◌≤◌, List, Bool, true, false, ◌&&◌, ◌||◌, Option, Some, None, refl, ap, ◌∙◌, arith}
use Rattle.std.specs.Prelude.{bytes_eq, if◌then◌else◌}
use Rattle.asl_model.specs.Tree.{comes_before}
use Rattle.asl_model.specs.Shape.{Shape, Any, OfKinds, Never, Arrays, WithoutArrays, ArraysOf, Objects, WithoutObjects, ObjectsOf, Shapes, NoShapes, AndShape, FieldShapes, NoFieldShapes, AndFieldShape, some_array, some_object, inhabited, mentions, insert_mention}
use Rattle.asl_model.specs.ShapeOrder.{mention_of, with_mention_unless, without_mention, depth, depth_of_arrays, depth_of_objects, depth_of_elements, depth_of_fields, common_joins, further_places, joined_with_each, keep_joined, joined_fields, with_optional_unless, with_other_fields, join_arrays, join_objects, kept_arrays, kept_objects, join_kinds, join_within, join}

pub one_deep : (s : Shape) → 1 ≤ depth s
one_deep Any = omega arith
one_deep (OfKinds simple arrays objects) = omega arith

-- a way to join two shapes that is no deeper than both
pub record Shallow (joined : Shape → Shape → Shape) : Type 0 where
  pub keeps : (k : ℕ) (a b : Shape) → depth a ≤ k → depth b ≤ k → depth (joined a b) ≤ k

-- the mention of a field, if there is one, is no deeper
abbrev MentionWithin : ℕ → Option (Bool × Shape) → Type 0
MentionWithin k None = Unit {0}
MentionWithin k (Some m) = depth m.1 ≤ k

mention-low : (k : ℕ) (n : List ℕ) (shapes : FieldShapes) → depth_of_fields shapes ≤ k → MentionWithin k (mention_of n shapes)
mention-low k n NoFieldShapes h = tt
mention-low k n (AndFieldShape m needed s shapes) h = go (bytes_eq m n) (mention-low k n shapes (omega arith))
  where
    go : (here : Bool) → MentionWithin k (mention_of n shapes) → MentionWithin k (if here then Some (needed, s) else mention_of n shapes)
    go true below = omega arith
    go false below = below

unless-low : (k : ℕ) (dropped : Bool) (n : List ℕ) (needed : Bool) (s : Shape) (shapes : FieldShapes) → depth s ≤ k → depth_of_fields shapes ≤ k → depth_of_fields (with_mention_unless dropped n needed s shapes) ≤ k
unless-low k true n needed s shapes h further = further
unless-low k false n needed s shapes h further = omega arith

without-low : (k : ℕ) (n : List ℕ) (shapes : FieldShapes) → depth_of_fields shapes ≤ k → depth_of_fields (without_mention n shapes) ≤ k
without-low k n NoFieldShapes h = h
without-low k n (AndFieldShape m needed s shapes) h = unless-low k (bytes_eq m n) m needed s (without_mention n shapes) (omega arith) (without-low k n shapes (omega arith))

insert-low : (k : ℕ) (n : List ℕ) (needed : Bool) (s : Shape) (shapes : FieldShapes) → depth s ≤ k → depth_of_fields shapes ≤ k → depth_of_fields (insert_mention n needed s shapes) ≤ k
insert-low k n needed s NoFieldShapes h further = omega arith
insert-low k n needed s (AndFieldShape m other t shapes) h further = go (comes_before n m) (insert-low k n needed s shapes h (omega arith))
  where
    go : (front : Bool) → depth_of_fields (insert_mention n needed s shapes) ≤ k → depth_of_fields (if front then AndFieldShape n needed s (AndFieldShape m other t shapes) else AndFieldShape m other t (insert_mention n needed s shapes)) ≤ k
    go true below = omega arith
    go false below = omega arith

-- the places that one alone has are no deeper
pub further-low : (k : ℕ) (first others : Shapes) → depth_of_elements first ≤ k → depth_of_elements others ≤ k → depth_of_elements (further_places first others) ≤ k
further-low k NoShapes others h further = further
further-low k (AndShape s first) NoShapes h further = h
further-low k (AndShape s first) (AndShape other others) h further = further-low k first others (omega arith) (omega arith)

optional-low : (k : ℕ) (dropped : Bool) (n : List ℕ) (s : Shape) (kept : FieldShapes) → depth s ≤ k → depth_of_fields kept ≤ k → depth_of_fields (with_optional_unless dropped n s kept) ≤ k
optional-low k true n s kept h further = further
optional-low k false n s kept h further = insert-low k n false s (without_mention n kept) h (without-low k n kept further)

others-low : (k : ℕ) (shapes : FieldShapes) (extra : Bool) (others kept : FieldShapes) → depth_of_fields others ≤ k → depth_of_fields kept ≤ k → depth_of_fields (with_other_fields shapes extra others kept) ≤ k
others-low k shapes extra NoFieldShapes kept h further = further
others-low k shapes extra (AndFieldShape n needed s others) kept h further = optional-low k (extra || mentions n shapes) n s (with_other_fields shapes extra others kept) (omega arith) (others-low k shapes extra others kept (omega arith) further)

-- the arrays that are kept are no deeper
pub kept_arrays-low : (k : ℕ) (arrays : Arrays) → depth_of_arrays arrays ≤ k → depth_of_arrays (kept_arrays arrays) ≤ k
kept_arrays-low k arrays h = go (some_array arrays)
  where
    go : (kept : Bool) → depth_of_arrays (if kept then arrays else WithoutArrays) ≤ k
    go true = h
    go false = omega arith

-- the objects that are kept are no deeper
pub kept_objects-low : (k : ℕ) (objects : Objects) → depth_of_objects objects ≤ k → depth_of_objects (kept_objects objects) ≤ k
kept_objects-low k objects h = go (some_object objects)
  where
    go : (kept : Bool) → depth_of_objects (if kept then objects else WithoutObjects) ≤ k
    go true = h
    go false = omega arith

module _ (joined : Shape → Shape → Shape) (low : Shallow joined) where
  each-low : (k : ℕ) (s : Shape) (others : Shapes) → depth s ≤ k → depth_of_elements others ≤ k → depth (joined_with_each joined s others) ≤ k
  each-low k s NoShapes h further = h
  each-low k s (AndShape other others) h further = each-low k (joined s other) others (low.keeps k s other h (omega arith)) (omega arith)

  common-low : (k : ℕ) (first others : Shapes) → depth_of_elements first ≤ k → depth_of_elements others ≤ k → depth_of_elements (common_joins joined first others) ≤ k
  common-low k NoShapes others h further = omega arith
  common-low k (AndShape s first) NoShapes h further = omega arith
  common-low k (AndShape s first) (AndShape other others) h further =
      let here : depth (joined s other) ≤ k = low.keeps k s other (omega arith) (omega arith) in
      let behind : depth_of_elements (common_joins joined first others) ≤ k = common-low k first others (omega arith) (omega arith) in
      omega arith

  rest-low : (k : ℕ) (further : Shapes) (rest last : Shape) → depth_of_elements further ≤ k → depth rest ≤ k → depth last ≤ k → depth (joined (joined (joined_with_each joined Never further) rest) last) ≤ k
  rest-low k further rest last h i j =
      let one : 1 ≤ k = omega (arith, one_deep rest) in
      low.keeps k (joined (joined_with_each joined Never further) rest) last (low.keeps k (joined_with_each joined Never further) rest (each-low k Never further one h) i) j

  arrays-low : (k : ℕ) (a b : Arrays) → depth_of_arrays a ≤ k → depth_of_arrays b ≤ k → depth_of_arrays (join_arrays joined a b) ≤ k
  arrays-low k WithoutArrays b h i = i
  arrays-low k (ArraysOf first rest) WithoutArrays h i = h
  arrays-low k (ArraysOf first rest) (ArraysOf others last) h i =
      let front : depth_of_elements (common_joins joined first others) ≤ k = common-low k first others (omega arith) (omega arith) in
      let behind : depth (joined (joined (joined_with_each joined Never (further_places first others)) rest) last) ≤ k = rest-low k (further_places first others) rest last (further-low k first others (omega arith) (omega arith)) (omega arith) (omega arith) in
      omega arith

  keep-low : (k : ℕ) (n : List ℕ) (needed : Bool) (s : Shape) (more : Bool) (mention : Option (Bool × Shape)) (kept : FieldShapes) → depth s ≤ k → MentionWithin k mention → depth_of_fields kept ≤ k → depth_of_fields (keep_joined joined n needed s more mention kept) ≤ k
  keep-low k n needed s more None kept h i j = unless-low k more n false s kept h j
  keep-low k n needed s more (Some m) kept h i j =
      let here : depth (joined s m.1) ≤ k = low.keeps k s m.1 h i in
      omega arith

  fields-low : (k : ℕ) (shapes others : FieldShapes) (more : Bool) → depth_of_fields shapes ≤ k → depth_of_fields others ≤ k → depth_of_fields (joined_fields joined shapes others more) ≤ k
  fields-low k NoFieldShapes others more h i = omega arith
  fields-low k (AndFieldShape n needed s shapes) others more h i = keep-low k n needed s more (mention_of n others) (joined_fields joined shapes others more) (omega arith) (mention-low k n others i) (fields-low k shapes others more (omega arith) i)

  objects-low : (k : ℕ) (a b : Objects) → depth_of_objects a ≤ k → depth_of_objects b ≤ k → depth_of_objects (join_objects joined a b) ≤ k
  objects-low k WithoutObjects b h i = i
  objects-low k (ObjectsOf shapes extra) WithoutObjects h i = h
  objects-low k (ObjectsOf shapes extra) (ObjectsOf others more) h i = others-low k shapes extra others (joined_fields joined shapes others more) i (fields-low k shapes others more h i)

  kinds-low : (k : ℕ) (a b : Shape) → depth a ≤ suc k → depth b ≤ suc k → depth (join_kinds joined a b) ≤ suc k
  kinds-low k Any b h i = omega arith
  kinds-low k (OfKinds some others more) Any h i = omega arith
  kinds-low k (OfKinds some others more) (OfKinds simple arrays objects) h i =
      let front : depth_of_arrays (join_arrays joined (kept_arrays others) (kept_arrays arrays)) ≤ k = arrays-low k (kept_arrays others) (kept_arrays arrays) (kept_arrays-low k others (omega arith)) (kept_arrays-low k arrays (omega arith)) in
      let behind : depth_of_objects (join_objects joined (kept_objects more) (kept_objects objects)) ≤ k = objects-low k (kept_objects more) (kept_objects objects) (kept_objects-low k more (omega arith)) (kept_objects-low k objects (omega arith)) in
      omega arith

either-low : (k : ℕ) (live other : Bool) (s a b : Shape) → depth s ≤ k → depth a ≤ k → depth b ≤ k → depth (if live then if other then s else a else b) ≤ k
either-low k true true s a b h i j = h
either-low k true false s a b h i j = i
either-low k false other s a b h i j = j

within-low : (n : ℕ) → Shallow (join_within n)
within-low zero = record { keeps = λ k a b h i. omega (arith, one_deep a) }
within-low (suc n) =
    let below : Shallow (join_within n) = within-low n in
    record { keeps = λ k a b h i. from n below k a b h i }
  where
    from : (n : ℕ) → Shallow (join_within n) → (k : ℕ) (a b : Shape) → depth a ≤ k → depth b ≤ k → depth (join_within (suc n) a b) ≤ k
    from n below zero a b h i = absurd (omega (arith, one_deep a))
    from n below (suc k) a b h i = either-low (suc k) (inhabited a) (inhabited b) (join_kinds (join_within n) a b) a b (kinds-low (join_within n) below k a b h i) h i

-- the join is no deeper than both
pub join-low : Shallow join
join-low = record { keeps = λ k a b h i. (within-low (max (depth a) (depth b))).keeps k a b h i }

-- and so are all that are joined one after the other
pub join_each-low : (k : ℕ) (s : Shape) (others : Shapes) → depth s ≤ k → depth_of_elements others ≤ k → depth (joined_with_each join s others) ≤ k
join_each-low k s others h i = each-low join join-low k s others h i

-- Two ways to join that are the same of shapes no deeper than that
record Agree (k : ℕ) (f g : Shape → Shape → Shape) : Type 0 where
  pub same : (a b : Shape) → depth a ≤ k → depth b ≤ k → f a b ≡ g a b

module _ (f g : Shape → Shape → Shape) (k : ℕ) (low : Shallow f) (agree : Agree k f g) where
  each-same : (s : Shape) (others : Shapes) → depth s ≤ k → depth_of_elements others ≤ k → joined_with_each f s others ≡ joined_with_each g s others
  each-same s NoShapes h i = refl
  each-same s (AndShape other others) h i =
      let fits : depth other ≤ k = omega arith in
      each-same (f s other) others (low.keeps k s other h fits) (omega arith) ∙ ap (λ x. joined_with_each g x others) (agree.same s other h fits)

  common-same : (first others : Shapes) → depth_of_elements first ≤ k → depth_of_elements others ≤ k → common_joins f first others ≡ common_joins g first others
  common-same NoShapes others h i = refl
  common-same (AndShape s first) NoShapes h i = refl
  common-same (AndShape s first) (AndShape other others) h i = rw (agree.same s other (omega arith) (omega arith), common-same first others (omega arith) (omega arith)) refl

  rest-same : (further : Shapes) (rest last : Shape) → depth_of_elements further ≤ k → depth rest ≤ k → depth last ≤ k → f (f (joined_with_each f Never further) rest) last ≡ g (g (joined_with_each g Never further) rest) last
  rest-same further rest last h i j =
      let one : 1 ≤ k = omega (arith, one_deep rest) in
      let inner : depth (joined_with_each f Never further) ≤ k = each-low f low k Never further one h in
      agree.same (f (joined_with_each f Never further) rest) last (low.keeps k (joined_with_each f Never further) rest inner i) j
      ∙ ap (λ x. g x last) (agree.same (joined_with_each f Never further) rest inner i ∙ ap (λ x. g x rest) (each-same Never further one h))

  arrays-same : (a b : Arrays) → depth_of_arrays a ≤ k → depth_of_arrays b ≤ k → join_arrays f a b ≡ join_arrays g a b
  arrays-same WithoutArrays b h i = refl
  arrays-same (ArraysOf first rest) WithoutArrays h i = refl
  arrays-same (ArraysOf first rest) (ArraysOf others last) h i = rw (common-same first others (omega arith) (omega arith), rest-same (further_places first others) rest last (further-low k first others (omega arith) (omega arith)) (omega arith) (omega arith)) refl

  keep-same : (n : List ℕ) (needed : Bool) (s : Shape) (more : Bool) (mention : Option (Bool × Shape)) (kept : FieldShapes) → depth s ≤ k → MentionWithin k mention → keep_joined f n needed s more mention kept ≡ keep_joined g n needed s more mention kept
  keep-same n needed s more None kept h i = refl
  keep-same n needed s more (Some m) kept h i = ap (λ x. AndFieldShape n (needed && m.0) x kept) (agree.same s m.1 h i)

  fields-same : (shapes others : FieldShapes) (more : Bool) → depth_of_fields shapes ≤ k → depth_of_fields others ≤ k → joined_fields f shapes others more ≡ joined_fields g shapes others more
  fields-same NoFieldShapes others more h i = refl
  fields-same (AndFieldShape n needed s shapes) others more h i =
      keep-same n needed s more (mention_of n others) (joined_fields f shapes others more) (omega arith) (mention-low k n others i)
      ∙ ap (keep_joined g n needed s more (mention_of n others)) (fields-same shapes others more (omega arith) i)

  objects-same : (a b : Objects) → depth_of_objects a ≤ k → depth_of_objects b ≤ k → join_objects f a b ≡ join_objects g a b
  objects-same WithoutObjects b h i = refl
  objects-same (ObjectsOf shapes extra) WithoutObjects h i = refl
  objects-same (ObjectsOf shapes extra) (ObjectsOf others more) h i = ap (λ kept. ObjectsOf (with_other_fields shapes extra others kept) (extra || more)) (fields-same shapes others more h i)

  kinds-same : (a b : Shape) → depth a ≤ suc k → depth b ≤ suc k → join_kinds f a b ≡ join_kinds g a b
  kinds-same Any b h i = refl
  kinds-same (OfKinds some others more) Any h i = refl
  kinds-same (OfKinds some others more) (OfKinds simple arrays objects) h i =
      let same_arrays : join_arrays f (kept_arrays others) (kept_arrays arrays) ≡ join_arrays g (kept_arrays others) (kept_arrays arrays) = arrays-same (kept_arrays others) (kept_arrays arrays) (kept_arrays-low k others (omega arith)) (kept_arrays-low k arrays (omega arith)) in
      let same_objects : join_objects f (kept_objects more) (kept_objects objects) ≡ join_objects g (kept_objects more) (kept_objects objects) = objects-same (kept_objects more) (kept_objects objects) (kept_objects-low k more (omega arith)) (kept_objects-low k objects (omega arith)) in
      rw (same_arrays, same_objects) refl

-- the depth for which a join is made doesn't matter, where neither shape is deeper
pub within-same : (n m : ℕ) (a b : Shape) → depth a ≤ n → depth b ≤ n → depth a ≤ m → depth b ≤ m → join_within n a b ≡ join_within m a b
within-same zero m a b h i h' i' = absurd (omega (arith, one_deep a))
within-same (suc n) zero a b h i h' i' = absurd (omega (arith, one_deep a))
within-same (suc n) (suc m) a b h i h' i' =
    let agree : Agree (min n m) (join_within n) (join_within m) = record { same = λ x y p q. within-same n m x y (omega arith) (omega arith) (omega arith) (omega arith) } in
    ap (λ s. if inhabited a then if inhabited b then s else a else b) (kinds-same (join_within n) (join_within m) (min n m) (within-low n) agree a b (omega arith) (omega arith))

-- The join without a depth

join-unfolds : (a b : Shape) → join a b ≡ (if inhabited a then if inhabited b then join_kinds join a b else a else b)
join-unfolds a b = go (max (depth a) (depth b)) refl
  where
    go : (n : ℕ) → max (depth a) (depth b) ≡ n → join_within n a b ≡ (if inhabited a then if inhabited b then join_kinds join a b else a else b)
    go zero at = absurd (omega (arith, one_deep a))
    go (suc n) at =
        let agree : Agree n (join_within n) join = record { same = λ x y p q. within-same n (max (depth x) (depth y)) x y p q (omega arith) (omega arith) } in
        ap (λ s. if inhabited a then if inhabited b then s else a else b) (kinds-same (join_within n) join n (within-low n) agree a b (omega arith) (omega arith))

-- where the first isn't inhabited, the join is the second
pub join-first_uninhabited : (a b : Shape) → inhabited a ≡ false → join a b ≡ b
join-first_uninhabited a b none = join-unfolds a b ∙ rw none refl

-- where the second alone isn't, it is the first
pub join-second_uninhabited : (a b : Shape) → inhabited a ≡ true → inhabited b ≡ false → join a b ≡ a
join-second_uninhabited a b some none = join-unfolds a b ∙ rw (some, none) refl

-- where both are, it goes by kinds
pub join-inhabited : (a b : Shape) → inhabited a ≡ true → inhabited b ≡ true → join a b ≡ join_kinds join a b
join-inhabited a b some also = join-unfolds a b ∙ rw (some, also) refl
