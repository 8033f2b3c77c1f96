-- Placing a tree at a reference path (States Language, "Reference Paths" and "Input and Output Processing").
-- The profile chooses: objects are created for names that are missing, lists are never made longer.
use Rattle.std.specs.Prelude.{◌≡◌, ℕ, zero, suc, List, [], ◌∷◌, Option, Some, None}
use Rattle.std.specs.Prelude.{bytes_eq, if◌then◌else◌, option_and_then}
use Rattle.std.specs.Option.{option_map}
use Rattle.asl_model.specs.Names.{FieldName}
use Rattle.asl_model.specs.Tree.{Tree, Null, Boolean, Integer, Text, Array, Object, Trees, NoTrees, AndTree}
use Rattle.asl_model.specs.Tree.{Fields, NoFields, AndField, element, field_named, comes_before}
use Rattle.asl_model.specs.Path.{Segment, Name, Index}

-- the fields but those of that name
abbrev pub without_field : FieldName → Fields → Fields
without_field n NoFields = NoFields
without_field n (AndField m t fs) = if bytes_eq m n then without_field n fs else AndField m t (without_field n fs)

-- the fields with one more, in front of the first whose name is greater
abbrev pub insert_field : FieldName → Tree → Fields → Fields
insert_field n w NoFields = AndField n w NoFields
insert_field n w (AndField m t fs) =
    if comes_before n m then AndField n w (AndField m t fs) else AndField m t (insert_field n w fs)

-- the fields with that one created or replaced
abbrev pub set_field : FieldName → Tree → Fields → Fields
set_field n w fs = insert_field n w (without_field n fs)

-- the elements with the one at that position replaced
abbrev pub set_element : ℕ → Tree → Trees → Trees
set_element i w NoTrees = NoTrees
set_element zero w (AndTree t ts) = AndTree w ts
set_element (suc i) w (AndTree t ts) = AndTree t (set_element i w ts)

-- the object with that field alone
abbrev pub only_field : FieldName → Tree → Tree
only_field n w = Object (AndField n w NoFields)

-- w under objects that are built for the names of the path; no list is built
abbrev pub built : List Segment → Tree → Option Tree
built [] w = Some w
built (Name n ∷ p) w = option_map (only_field n) (built p w)
built (Index i ∷ p) w = None

-- what is placed in what stands there, or is built where nothing stands
abbrev pub in_or_built : (Tree → Option Tree) → Option Tree → Option Tree → Option Tree
in_or_built place b None = b
in_or_built place b (Some u) = place u

-- v with w placed at the path
abbrev pub placed : List Segment → Tree → Tree → Option Tree
placed [] w v = Some w
placed (s ∷ p) w Null = None
placed (s ∷ p) w (Boolean b) = None
placed (s ∷ p) w (Integer n) = None
placed (s ∷ p) w (Text t) = None
placed (Name n ∷ p) w (Array ts) = None
placed (Index i ∷ p) w (Array ts) =
    option_map (λ u. Array (set_element i u ts)) (option_and_then (placed p w) (element i ts))
placed (Name n ∷ p) w (Object fs) =
    option_map (λ u. Object (set_field n u fs)) (in_or_built (placed p w) (built p w) (field_named n fs))
placed (Index i ∷ p) w (Object fs) = None

-- u is w under objects that are built for the names of the path
pub data Builds : List Segment → Tree → Tree → Type 0 where
  builds_nothing : {w : Tree} → Builds [] w w
  builds_object : {n : FieldName} {p : List Segment} {w u : Tree} → Builds p w u
      → Builds (Name n ∷ p) w (only_field n u)

-- Placing w at the path in v gives u. At the empty path the result is w. A name needs an object: a field that is
-- there is replaced by the placing in it, one that isn't there is created, holding w under objects built for the
-- names that remain. An index needs a list that is longer than it. There is no other case.
pub data Places : List Segment → Tree → Tree → Tree → Type 0 where
  places_itself : {w v : Tree} → Places [] w v w
  places_in_field : {n : FieldName} {p : List Segment} {w v u : Tree} {fs : Fields} → field_named n fs ≡ Some v
      → Places p w v u → Places (Name n ∷ p) w (Object fs) (Object (set_field n u fs))
  places_new_field : {n : FieldName} {p : List Segment} {w u : Tree} {fs : Fields} → field_named n fs ≡ None
      → Builds p w u
      → Places (Name n ∷ p) w (Object fs) (Object (set_field n u fs))
  places_in_element : {i : ℕ} {p : List Segment} {w v u : Tree} {ts : Trees} → element i ts ≡ Some v → Places p w v u
      → Places (Index i ∷ p) w (Array ts) (Array (set_element i u ts))
