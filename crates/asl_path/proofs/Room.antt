-- Making room for a placing, and filling it.
use Rattle.std.proofs.Common.{◌≡◌, ◌↔◌, ℕ, zero, suc, ◌<◌, length, List, [], ◌∷◌, Option, Some, None, Result, Ok, Err, option_map, is_some, false, refl, sym, ap, ◌∙◌, subst, arith}
use Rattle.std.specs.Option.{IsSome}
use Rattle.std.proofs.lemmas.Slice.Eq.{bytes_eq-Decides}
use Rattle.asl_model.proofs.PlacingExactly.{comes_out, placed_so}
use Rattle.asl_model.proofs.RunOptions.{none_some, some_there}
use Rattle.asl_model.proofs.ShapeFields.{field_named-set_same}
use Rattle.asl_model.specs.Path.{Segment, Name, Index, named_by}
use Rattle.asl_model.specs.Placing.{Places, built, only_field, placed, set_element, set_field}
use Rattle.asl_model.specs.Tree.{Tree, Null, Array, Object, Trees, Fields, element, field_named}
use Rattle.asl_path.proofs.Fields.{element-set, set_element-same, set_element-twice, set_field-twice}
use Rattle.asl_path.specs.Placement.{HasNode, HasRoom, IsPlaced, MakesRoom, IsRefusedPlacing}
use Rattle.asl_path.specs.declared.placing.PlaceRefusal.{PlaceRefusal}
use Rattle.asl_path.specs.declared.placing.PlaceRefusal.TheVariants.{CannotPlace, OutOfMemory}
use Rattle.asl_tree.specs.View.{elements_view}
use Rattle.asl_tree.specs.declared.Tree as code

mapped : (f : Tree → Tree) (o : Option Tree) → IsSome o → IsSome (option_map f o)
mapped f None h = absurd (cc)
mapped f (Some u) h = refl

-- ---- where something stands at the first segment

same_in_field : (n : List ℕ) (u : Tree) (fs : Fields) (o : Option Tree) → option_map (λ x. Object (set_field n x (set_field n u fs))) o ≡ option_map (λ x. Object (set_field n x fs)) o
same_in_field n u fs None = refl
same_in_field n u fs (Some w) = ap (λ gs. Some (Object gs)) (set_field-twice n w u fs)

same_in_element : (i : ℕ) (u : Tree) (ts : Trees) (o : Option Tree) → option_map (λ x. Array (set_element i x (set_element i u ts))) o ≡ option_map (λ x. Array (set_element i x ts)) o
same_in_element i u ts None = refl
same_in_element i u ts (Some w) = ap (λ gs. Some (Array gs)) (set_element-twice i w u ts)

-- room in the value of a field is room in the object
pub room_in_field : (n : List ℕ) (p : List Segment) (t u : Tree) (fs : Fields) → field_named n fs ≡ Some t → HasRoom p t u → HasRoom (Name n ∷ p) (Object fs) (Object (set_field n u fs))
room_in_field n p t u fs found room = record {
  node = record { names = rw (field_named-set_same n u fs) room.node.names };
  same_placing = λ w. rw (field_named-set_same n u fs, found) (same_in_field n u fs (placed p w u) ∙ ap (option_map (λ x. Object (set_field n x fs))) (room.same_placing w));
}

-- room in an element is room in the array
pub room_in_element : (i : ℕ) (p : List Segment) (t u : Tree) (ts : Trees) → element i ts ≡ Some t → HasRoom p t u → HasRoom (Index i ∷ p) (Array ts) (Array (set_element i u ts))
room_in_element i p t u ts found room = record {
  node = record { names = rw (element-set i u t ts found) room.node.names };
  same_placing = λ w. rw (element-set i u t ts found, found) (same_in_element i u ts (placed p w u) ∙ ap (option_map (λ x. Array (set_element i x ts))) (room.same_placing w));
}

-- where the value of a field refuses, the object does
pub refused_in_field : (r : PlaceRefusal) (n : List ℕ) (p : List Segment) (t : Tree) (fs : Fields) → field_named n fs ≡ Some t → IsRefusedPlacing r p t → IsRefusedPlacing r (Name n ∷ p) (Object fs)
refused_in_field CannotPlace n p t fs found h = record { nothing = λ w. rw (found, h.nothing w) refl }
refused_in_field OutOfMemory n p t fs found h = record { something = λ w. rw found (mapped (λ u. Object (set_field n u fs)) (placed p w t) (h.something w)) }

-- where an element refuses, the array does
pub refused_in_element : (r : PlaceRefusal) (i : ℕ) (p : List Segment) (t : Tree) (ts : Trees) → element i ts ≡ Some t → IsRefusedPlacing r p t → IsRefusedPlacing r (Index i ∷ p) (Array ts)
refused_in_element CannotPlace i p t ts found h = record { nothing = λ w. rw (found, h.nothing w) refl }
refused_in_element OutOfMemory i p t ts found h = record { something = λ w. rw found (mapped (λ u. Array (set_element i u ts)) (placed p w t) (h.something w)) }

-- making room in the value of a field makes room in the object
pub room_made_in_field : {A : Type 0} (r : Result A PlaceRefusal) (n : List ℕ) (p : List Segment) (t u : Tree) (fs gs : Fields) → field_named n fs ≡ Some t → gs ≡ set_field n u fs → (u ≡ t → gs ≡ fs) → MakesRoom p t u r → MakesRoom (Name n ∷ p) (Object fs) (Object gs) r
room_made_in_field (Ok a) n p t u fs gs found set same h = record { room = rw set (room_in_field n p t u fs found h.room); refused = tt; unchanged = tt }
room_made_in_field (Err refusal) n p t u fs gs found set same h = record { room = tt; refused = refused_in_field refusal n p t fs found h.refused; unchanged = ap Object (same h.unchanged) }

-- making room in an element makes room in the array
pub room_made_in_element : {A : Type 0} (r : Result A PlaceRefusal) (i : ℕ) (p : List Segment) (t u : Tree) (ts us : Trees) → element i ts ≡ Some t → us ≡ set_element i u ts → MakesRoom p t u r → MakesRoom (Index i ∷ p) (Array ts) (Array us) r
room_made_in_element (Ok a) i p t u ts us found set h = record { room = rw set (room_in_element i p t u ts found h.room); refused = tt; unchanged = tt }
room_made_in_element (Err refusal) i p t u ts us found set h = record { room = tt; refused = refused_in_element refusal i p t ts found h.refused; unchanged = ap Array (set ∙ ap (λ x. set_element i x ts) h.unchanged ∙ set_element-same i t ts found) }

-- an array that is too short takes nothing
pub past_the_end : {A : Type 0} (i : ℕ) (p : List Segment) (ts : Trees) → None ≡ element i ts → MakesRoom {A = A} (Index i ∷ p) (Array ts) (Array ts) (Err CannotPlace)
past_the_end i p ts none = record { room = tt; refused = record { nothing = λ w. rw (← none) refl }; unchanged = refl }

-- ---- where nothing stands at the first segment

-- objects that are built for the names of a path: it names a node there, and placing gives what building gives
record IsBuilt (p : List Segment) (u : Tree) : Type 0 where
  names : IsSome (named_by p u)
  same_placing : (w : Tree) → placed p w u ≡ built p w

is_built : (p : List Segment) (u : Tree) → built p Null ≡ Some u → IsBuilt p u
is_built [] u e = record { names = refl; same_placing = λ w. refl }
is_built (Name n ∷ p) u e = go (built p Null) refl e (λ v f. is_built p v f)
  where
    whole : (v : Tree) → IsBuilt p v → IsBuilt (Name n ∷ p) (only_field n v)
    whole v inner = record {
      names = rw ((bytes_eq-Decides n n).1 refl) inner.names;
      same_placing = λ w. rw ((bytes_eq-Decides n n).1 refl) (ap (option_map (only_field n)) (inner.same_placing w));
    }

    go : (inner : Option Tree) → built p Null ≡ inner → option_map (only_field n) inner ≡ Some u → ((v : Tree) → built p Null ≡ Some v → IsBuilt p v) → IsBuilt (Name n ∷ p) u
    go None is f below = absurd (cc)
    go (Some v) is f below =
        let same : only_field n v ≡ u = cc in
        subst (IsBuilt (Name n ∷ p)) same (whole v (below v is))
is_built (Index i ∷ p) u e = absurd (cc)

-- room in a field that is created is room in the object
pub room_in_new_field : (n : List ℕ) (p : List Segment) (u : Tree) (fs : Fields) → field_named n fs ≡ None → built p Null ≡ Some u → HasRoom (Name n ∷ p) (Object fs) (Object (set_field n u fs))
room_in_new_field n p u fs none e =
    let inside = is_built p u e in
    record {
      node = record { names = rw (field_named-set_same n u fs) inside.names };
      same_placing = λ w. rw (field_named-set_same n u fs, none) (same_in_field n u fs (placed p w u) ∙ ap (option_map (λ x. Object (set_field n x fs))) (inside.same_placing w));
    }

-- whether something can be built doesn't depend on what is placed
built_alike : (p : List Segment) (v w : Tree) → is_some (built p v) ≡ is_some (built p w)
built_alike [] v w = refl
built_alike (Name n ∷ p) v w = mapped_alike (built p v) (built p w) (built_alike p v w)
  where
    mapped_alike : (a b : Option Tree) → is_some a ≡ is_some b → is_some (option_map (only_field n) a) ≡ is_some (option_map (only_field n) b)
    mapped_alike None None e = refl
    mapped_alike None (Some b) e = e
    mapped_alike (Some a) None e = e
    mapped_alike (Some a) (Some b) e = refl
built_alike (Index i ∷ p) v w = refl

no_tree : (o : Option Tree) → is_some o ≡ false → o ≡ None
no_tree None h = refl
no_tree (Some u) h = absurd (cc)

some_tree : (o : Option Tree) → ¬ (o ≡ None) → IsSome o
some_tree None h = absurd (h refl)
some_tree (Some u) h = refl

-- where building refuses, the object without that field does
pub refused_in_new_field : (r : PlaceRefusal) (n : List ℕ) (p : List Segment) (fs : Fields) → field_named n fs ≡ None → (r ≡ CannotPlace) ↔ (built p Null ≡ None) → IsRefusedPlacing r (Name n ∷ p) (Object fs)
refused_in_new_field CannotPlace n p fs none h =
    record { nothing = λ w. rw (none, no_tree (built p w) (built_alike p w Null ∙ ap is_some (h.0 refl))) refl }
refused_in_new_field OutOfMemory n p fs none h =
    let some = some_tree (built p Null) (λ e. absurd (let f = h.1 e in cc)) in
    record { something = λ w. rw none (mapped (λ u. Object (set_field n u fs)) (built p w) (built_alike p w Null ∙ some)) }

-- a field that is created makes room in the object
pub room_made_in_new_field : {A : Type 0} (a : A) (n : List ℕ) (p : List Segment) (u : Tree) (fs gs : Fields) → field_named n fs ≡ None → built p Null ≡ Some u → gs ≡ set_field n u fs → MakesRoom (Name n ∷ p) (Object fs) (Object gs) (Ok a)
room_made_in_new_field a n p u fs gs none e set = record { room = rw set (room_in_new_field n p u fs none e); refused = tt; unchanged = tt }

-- where nothing is built the object stays
pub room_refused : {A : Type 0} (r : Result A PlaceRefusal) (refusal : PlaceRefusal) (n : List ℕ) (p : List Segment) (fs : Fields) → r ≡ Err refusal → field_named n fs ≡ None → (refusal ≡ CannotPlace) ↔ (built p Null ≡ None) → MakesRoom (Name n ∷ p) (Object fs) (Object fs) r
room_refused r refusal n p fs is none h = rw is (record { room = tt; refused = refused_in_new_field refusal n p fs none h; unchanged = refl })

-- where memory is refused after something was built the object stays
pub room_without_memory : {A : Type 0} (r : Result A PlaceRefusal) (n : List ℕ) (p : List Segment) (u : Tree) (fs gs : Fields) → r ≡ Err OutOfMemory → field_named n fs ≡ None → built p Null ≡ Some u → gs ≡ fs → MakesRoom (Name n ∷ p) (Object fs) (Object gs) r
room_without_memory r n p u fs gs is none e same =
    rw (is, same) (record { room = tt; refused = refused_in_new_field OutOfMemory n p fs none ((λ h. absurd (cc)), (λ h. absurd (cc))); unchanged = refl })

-- ---- where the path names a node

pub named_in_field : (n : List ℕ) (p : List Segment) (t : Tree) (fs : Fields) → field_named n fs ≡ Some t → HasNode (Name n ∷ p) (Object fs) → HasNode p t
named_in_field n p t fs found h = record { names = rw found at h.names }

pub named_in_element : (i : ℕ) (p : List Segment) (t : Tree) (ts : Trees) → element i ts ≡ Some t → HasNode (Index i ∷ p) (Array ts) → HasNode p t
named_in_element i p t ts found h = record { names = rw found at h.names }

pub field_is_there : (n : List ℕ) (p : List Segment) (fs : Fields) → HasNode (Name n ∷ p) (Object fs) → field_named n fs ≡ None → ⊥
field_is_there n p fs h none = let f = rw none at h.names in absurd (cc)

within : (ts : List code.Tree) (i : ℕ) (p : List Segment) → IsSome (named_by (Index i ∷ p) (Array (elements_view ts))) → i < length ts
within [] i p h = absurd (cc)
within (t ∷ ts) zero p h = omega arith
within (t ∷ ts) (suc i) p h = let below = within ts i p h in omega arith

pub index_within : (ts : List code.Tree) (i : ℕ) (p : List Segment) → HasNode (Index i ∷ p) (Array (elements_view ts)) → i < length ts
index_within ts i p h = within ts i p h.names

pub filled_in_field : (n : List ℕ) (p : List Segment) (w t u : Tree) (fs gs : Fields) → field_named n fs ≡ Some t → gs ≡ set_field n u fs → IsPlaced p w t u → IsPlaced (Name n ∷ p) w (Object fs) (Object gs)
filled_in_field n p w t u fs gs found set e = record { is = rw (set, found, e.is) refl }

pub filled_in_element : (i : ℕ) (p : List Segment) (w t u : Tree) (ts us : Trees) → element i ts ≡ Some t → us ≡ set_element i u ts → IsPlaced p w t u → IsPlaced (Index i ∷ p) w (Array ts) (Array us)
filled_in_element i p w t u ts us found set e = record { is = rw (set, found, e.is) refl }

-- ---- the same facts of equal paths and trees

pub same_placed : {p q : List Segment} {w v v' u u' : Tree} → p ≡ q → v ≡ v' → u ≡ u' → IsPlaced p w v u → IsPlaced q w v' u'
same_placed path before after h = rw (← path, ← before, ← after) h

pub same_room_made : {A : Type 0} {p q : List Segment} {v v' u u' : Tree} (r : Result A PlaceRefusal) → p ≡ q → v ≡ v' → u ≡ u' → MakesRoom p v u r → MakesRoom q v' u' r
same_room_made r path before after h = rw (← path, ← before, ← after) h

-- ---- the answers

-- nothing can be placed exactly where the refusal says so
pub placing_refused : (r : PlaceRefusal) {p : List Segment} {v : Tree} (w : Tree) → IsRefusedPlacing r p v → (r ≡ CannotPlace) ↔ ((t : Tree) → ¬ Places p w v t)
placing_refused CannotPlace w h = ((λ is t places. none_some (sym (h.nothing w) ∙ comes_out places)), λ none. refl)
placing_refused OutOfMemory {p} {v} w h = ((λ is. absurd (cc)), λ none. absurd (let some = some_there (placed p w v) (h.something w) in none some.0 (placed_so p w v some.0 some.1)))
