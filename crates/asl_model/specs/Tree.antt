-- Trees: the JSON values that definitions, inputs and answers are made of (States Language, "Data"; RFC 8259).
-- The profile chooses: every number is whole. Texts and field names are their UTF-8 bytes, and an object is a
-- list of fields; one that comes from a JSON text has each name once, in byte order. No definition rests on that.
use Rattle.std.specs.Prelude.{ℕ, zero, suc, ℤ, List, [], ◌∷◌, Bool, true, false, IsTrue}
use Rattle.std.specs.Prelude.{IsUtf8, Option, Some, None, bytes_eq, if◌then◌else◌}
use Rattle.std.specs.Ordering.{nat_cmp, match_ordering}
use Rattle.std.specs.Cmp.Lexicographic.{slice_cmp}
use Rattle.asl_model.specs.Names.{FieldName, Bytes}

mutual
  -- a JSON value
  pub data Tree : Type 0 where
    Null : Tree
    Boolean : Bool → Tree
    Integer : ℤ → Tree
    Text : Bytes → Tree
    Array : Trees → Tree
    Object : Fields → Tree

  -- the elements of an array
  pub data Trees : Type 0 where
    NoTrees : Trees
    AndTree : Tree → Trees → Trees

  -- the fields of an object, each with its name
  pub data Fields : Type 0 where
    NoFields : Fields
    AndField : FieldName → Tree → Fields → Fields

-- the elements, as the array that has them
abbrev pub trees_of : List Tree → Trees
trees_of [] = NoTrees
trees_of (t ∷ ts) = AndTree t (trees_of ts)

-- the fields, as the object that has them
abbrev pub fields_of : List (FieldName × Tree) → Fields
fields_of [] = NoFields
fields_of (f ∷ fs) = AndField f.0 f.1 (fields_of fs)

-- how many elements there are
abbrev pub count : Trees → ℕ
count NoTrees = 0
count (AndTree t ts) = suc (count ts)

-- the element at a position, counted from 0
abbrev pub element : ℕ → Trees → Option Tree
element i NoTrees = None
element zero (AndTree t ts) = Some t
element (suc i) (AndTree t ts) = element i ts

-- the value of the first field of that name
abbrev pub field_named : FieldName → Fields → Option Tree
field_named n NoFields = None
field_named n (AndField m t fs) = if bytes_eq m n then Some t else field_named n fs

-- one name comes before another, by UTF-8 bytes
abbrev pub comes_before : Bytes → Bytes → Bool
comes_before m n = match_ordering (slice_cmp nat_cmp m n) true false false

-- the name comes before that of the first field
abbrev pub before_fields : FieldName → Fields → Bool
before_fields n NoFields = true
before_fields n (AndField m t fs) = comes_before n m

abbrev mutual
  -- its texts are UTF-8, and each object has its names once, in byte order; numbers and depth have no limit here
  pub IsProper : Tree → Type 0
  IsProper Null = Unit {0}
  IsProper (Boolean b) = Unit {0}
  IsProper (Integer n) = Unit {0}
  IsProper (Text s) = IsUtf8 s
  IsProper (Array ts) = AreProper ts
  IsProper (Object fs) = HasProperFields fs

  -- so are the elements
  pub AreProper : Trees → Type 0
  AreProper NoTrees = Unit {0}
  AreProper (AndTree t ts) = IsProper t × AreProper ts

  -- so are the fields: their names are UTF-8 and stand in byte order, each once
  pub HasProperFields : Fields → Type 0
  HasProperFields NoFields = Unit {0}
  HasProperFields (AndField n t fs) = IsUtf8 n × IsTrue (before_fields n fs) × IsProper t × HasProperFields fs
