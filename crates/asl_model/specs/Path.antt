-- Reference paths, and what they name (States Language, "Paths" and "Reference Paths").
use Rattle.std.specs.Prelude.{◌≡◌, ℕ, List, [], ◌∷◌, Option, Some, None, option_and_then}
use Rattle.asl_model.specs.Names.{FieldName}
use Rattle.asl_model.specs.Tree.{Tree, Null, Boolean, Integer, Text, Array, Object, Trees, Fields, element, field_named}

-- a step into a field of an object, or to an element of an array
pub data Segment : Type 0 where
  Name : FieldName → Segment
  Index : ℕ → Segment

-- what one segment names in a tree
abbrev pub child : Segment → Tree → Option Tree
child s Null = None
child s (Boolean b) = None
child s (Integer n) = None
child s (Text t) = None
child (Name n) (Array ts) = None
child (Index i) (Array ts) = element i ts
child (Name n) (Object fs) = field_named n fs
child (Index i) (Object fs) = None

-- what a path names in a tree
abbrev pub named_by : List Segment → Tree → Option Tree
named_by [] v = Some v
named_by (s ∷ p) v = option_and_then (named_by p) (child s v)

-- The path names w in v: the empty path names v itself; a name then q names what q names in the value of that
-- field of an object; an index then q, what q names in that element of an array. There is no other case.
pub data Names : List Segment → Tree → Tree → Type 0 where
  names_itself : {v : Tree} → Names [] v v
  names_in_field : {n : FieldName} {q : List Segment} {fs : Fields} {u w : Tree} → field_named n fs ≡ Some u
      → Names q u w
      → Names (Name n ∷ q) (Object fs) w
  names_in_element : {i : ℕ} {q : List Segment} {ts : Trees} {u w : Tree} → element i ts ≡ Some u → Names q u w
      → Names (Index i ∷ q) (Array ts) w
