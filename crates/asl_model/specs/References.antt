-- References to listed shapes: where a certificate lists shapes, `{"shape": n}`, alone in its object, stands for the
-- n-th of them, counted from 0, wherever a shape may stand (the profile's own). A listed shape is here the tree that
-- spells it.
use Rattle.std.specs.Prelude.{ℕ, ℤ, pos, negsuc, List, Bool, true, false, ◌||◌, Option, Some, None}
use Rattle.std.specs.Prelude.{is_some, not, slice_get, if◌then◌else◌, bytes_eq, codes}
use Rattle.std.specs.Option.{unwrap_or}
use Rattle.asl_model.specs.Tree.{Tree, Null, Boolean, Integer, Text, Array, Object, Trees}
use Rattle.asl_model.specs.Tree.{NoTrees, AndTree, Fields, NoFields, AndField}

-- ---- a reference

-- what stands in the field `shape`, where there is no other
abbrev pub reference_among : Fields → Option Tree
reference_among NoFields = None
reference_among (AndField n t NoFields) = if bytes_eq n (codes "shape") then Some t else None
reference_among (AndField n t (AndField m u fs)) = None

-- the element at that place
abbrev pub element_at : {X : Type 0} → List X → ℤ → Option X
element_at xs (pos n) = slice_get xs n
element_at xs (negsuc n) = None

-- the element that a tree means by its place
abbrev pub meant_by : {X : Type 0} → List X → Tree → Option X
meant_by xs Null = None
meant_by xs (Boolean b) = None
meant_by xs (Integer n) = element_at xs n
meant_by xs (Text s) = None
meant_by xs (Array ts) = None
meant_by xs (Object fs) = None

-- ---- where a shape may stand

-- what a keyword of a spelling holds
pub data Held : Type 0 where
  -- a spelling
  OneShape : Held
  -- a list of spellings
  SeveralShapes : Held
  -- an object of spellings
  NamedShapes : Held
  NoShape : Held

-- what the keyword of that name holds
abbrev pub held_under : List ℕ → Held
held_under n =
    if bytes_eq n (codes "items") then OneShape else
    (if bytes_eq n (codes "prefixItems") then SeveralShapes else
    (if bytes_eq n (codes "properties") then NamedShapes else NoShape))

-- ---- spelled out

-- What a reference means, and that tree where it is none. Where it means none, `true`: that is told as a wrong number.
abbrev pub replaced : List Tree → Option Tree → Tree → Tree
replaced listed None t = t
replaced listed (Some n) t = unwrap_or (meant_by listed n) (Boolean true)

abbrev mutual
  -- a spelling with the listed tree in place of each reference
  pub spelled_out : List Tree → Tree → Tree
  spelled_out listed Null = Null
  spelled_out listed (Boolean b) = Boolean b
  spelled_out listed (Integer n) = Integer n
  spelled_out listed (Text s) = Text s
  spelled_out listed (Array ts) = Array ts
  spelled_out listed (Object fs) = replaced listed (reference_among fs) (Object (keywords_spelled_out listed fs))

  -- so for the keywords of a spelling
  pub keywords_spelled_out : List Tree → Fields → Fields
  keywords_spelled_out listed NoFields = NoFields
  keywords_spelled_out listed (AndField n t fs) =
      AndField n (elim (held_under n) [
        | OneShape ↦ spelled_out listed t
        | SeveralShapes ↦ list_spelled_out listed t
        | NamedShapes ↦ object_spelled_out listed t
        | NoShape ↦ t
      ])
      (keywords_spelled_out listed fs)

  -- for each element of a list
  pub list_spelled_out : List Tree → Tree → Tree
  list_spelled_out listed Null = Null
  list_spelled_out listed (Boolean b) = Boolean b
  list_spelled_out listed (Integer n) = Integer n
  list_spelled_out listed (Text s) = Text s
  list_spelled_out listed (Array ts) = Array (each_spelled_out listed ts)
  list_spelled_out listed (Object fs) = Object fs

  -- for each of the trees
  pub each_spelled_out : List Tree → Trees → Trees
  each_spelled_out listed NoTrees = NoTrees
  each_spelled_out listed (AndTree t ts) = AndTree (spelled_out listed t) (each_spelled_out listed ts)

  -- for each value of an object
  pub object_spelled_out : List Tree → Tree → Tree
  object_spelled_out listed Null = Null
  object_spelled_out listed (Boolean b) = Boolean b
  object_spelled_out listed (Integer n) = Integer n
  object_spelled_out listed (Text s) = Text s
  object_spelled_out listed (Array ts) = Array ts
  object_spelled_out listed (Object fs) = Object (values_spelled_out listed fs)

  -- for that of each field
  pub values_spelled_out : List Tree → Fields → Fields
  values_spelled_out listed NoFields = NoFields
  values_spelled_out listed (AndField n t fs) = AndField n (spelled_out listed t) (values_spelled_out listed fs)

-- ---- wrong numbers

-- a reference means none of the listed trees
abbrev pub means_none : List Tree → Option Tree → Bool
means_none listed None = false
means_none listed (Some n) = not (is_some (meant_by listed n))

abbrev mutual
  -- a reference in the spelling means none of the listed trees
  pub has_wrong_number : List Tree → Tree → Bool
  has_wrong_number listed Null = false
  has_wrong_number listed (Boolean b) = false
  has_wrong_number listed (Integer n) = false
  has_wrong_number listed (Text s) = false
  has_wrong_number listed (Array ts) = false
  has_wrong_number listed (Object fs) =
      means_none listed (reference_among fs)
      || (number_wrong_under listed (codes "items") fs
      || (number_wrong_under listed (codes "prefixItems") fs || number_wrong_under listed (codes "properties") fs))

  -- so in what the keyword of that name holds
  pub number_wrong_under : List Tree → List ℕ → Fields → Bool
  number_wrong_under listed n NoFields = false
  number_wrong_under listed n (AndField m t fs) =
      elim (bytes_eq m n) [
        | true ↦ elim (held_under n) [
          | OneShape ↦ has_wrong_number listed t
          | SeveralShapes ↦ an_element_has_wrong_number listed t
          | NamedShapes ↦ a_value_has_wrong_number listed t
          | NoShape ↦ false
        ]
        | false ↦ number_wrong_under listed n fs
      ]

  -- in an element of a list
  pub an_element_has_wrong_number : List Tree → Tree → Bool
  an_element_has_wrong_number listed Null = false
  an_element_has_wrong_number listed (Boolean b) = false
  an_element_has_wrong_number listed (Integer n) = false
  an_element_has_wrong_number listed (Text s) = false
  an_element_has_wrong_number listed (Array ts) = one_has_wrong_number listed ts
  an_element_has_wrong_number listed (Object fs) = false

  -- in one of the trees
  pub one_has_wrong_number : List Tree → Trees → Bool
  one_has_wrong_number listed NoTrees = false
  one_has_wrong_number listed (AndTree t ts) = has_wrong_number listed t || one_has_wrong_number listed ts

  -- in a value of an object
  pub a_value_has_wrong_number : List Tree → Tree → Bool
  a_value_has_wrong_number listed Null = false
  a_value_has_wrong_number listed (Boolean b) = false
  a_value_has_wrong_number listed (Integer n) = false
  a_value_has_wrong_number listed (Text s) = false
  a_value_has_wrong_number listed (Array ts) = false
  a_value_has_wrong_number listed (Object fs) = a_field_has_wrong_number listed fs

  -- in that of one of the fields
  pub a_field_has_wrong_number : List Tree → Fields → Bool
  a_field_has_wrong_number listed NoFields = false
  a_field_has_wrong_number listed (AndField n t fs) = has_wrong_number listed t || a_field_has_wrong_number listed fs
