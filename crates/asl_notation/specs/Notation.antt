-- The short notation of shapes.
use Rattle.std.specs.Prelude.{ℕ, zero, suc, List, [], ◌∷◌, ◌++◌, Bool, false, ◌&&◌, ◌||◌, not, ◌==◌, Option, Some, None, codes, if◌then◌else◌}
use Rattle.std.specs.Char.{is_ascii_alphanumeric, is_ascii_digit}
use Rattle.std.specs.List.{join_by, list_all}
use Rattle.asl_model.specs.Names.{Bytes}
use Rattle.asl_model.specs.Printed.{quoted_name}
use Rattle.asl_model.specs.Shape.{Shape, Any, OfKinds, Simple, Arrays, WithoutArrays, ArraysOf, Objects, WithoutObjects, ObjectsOf}
use Rattle.asl_model.specs.Shape.{Shapes, NoShapes, AndShape, FieldShapes, NoFieldShapes, AndFieldShape, inhabited, some_array, some_object}
use Rattle.asl_model.specs.ShapeOrder.{takes_all}

-- ---- names

-- a letter of ASCII, a digit, or an underscore
abbrev pub is_word_byte : ℕ → Bool
is_word_byte b = is_ascii_alphanumeric b || (b == 95)

-- there is a first byte, and it is no digit
abbrev pub begins_word : Bytes → Bool
begins_word [] = false
begins_word (b ∷ n) = not (is_ascii_digit b)

-- there are such bytes alone, one or more, and the first is no digit
abbrev pub is_word : Bytes → Bool
is_word n = begins_word n && list_all is_word_byte n

-- the name as it stands, or as a JSON text
abbrev pub name_noted : Bytes → Bytes
name_noted n = if is_word n then n else quoted_name n

-- ---- parts

-- what stands for what isn't told: U+2026
abbrev pub untold : Bytes
untold = 226 ∷ 128 ∷ 166 ∷ []

-- the word, where it is wanted
abbrev pub word_if : Bool → Bytes → List Bytes
word_if wanted word = if wanted then word ∷ [] else []

-- the texts with that between them
abbrev pub between : Bytes → List Bytes → Bytes
between separator parts = join_by (λ part. part) separator parts

-- the parts with commas between them, inside two marks
abbrev pub enclosed : Bytes → List Bytes → Bytes → Bytes
enclosed opening parts closing = opening ++ (between (codes ", ") parts ++ closing)

-- ---- one level, where the function tells what is in lists and objects, if that is told

-- the first elements, so many
abbrev pub places_noted : (Shape → Bytes) → ℕ → Shapes → List Bytes
places_noted told left NoShapes = []
places_noted told zero (AndShape s others) = untold ∷ []
places_noted told (suc left) (AndShape s others) = told s ∷ places_noted told left others

-- the elements of lists
abbrev pub elements_noted : Option (Shape → Bytes) → ℕ → Shapes → Shape → List Bytes
elements_noted None width NoShapes rest = word_if (inhabited rest) untold
elements_noted None width (AndShape s others) rest = untold ∷ []
elements_noted (Some told) width first rest =
    places_noted told width first ++ word_if (inhabited rest) (codes ".." ++ told rest)

-- the lists, where there are any
abbrev pub arrays_noted : Option (Shape → Bytes) → ℕ → Arrays → List Bytes
arrays_noted below width WithoutArrays = []
arrays_noted below width (ArraysOf first rest) =
    word_if (some_array (ArraysOf first rest)) (enclosed (codes "[") (elements_noted below width first rest) (codes "]"))

-- a field: its name, whether it may lack, its shape
abbrev pub field_noted : (Shape → Bytes) → Bytes → Bool → Shape → Bytes
field_noted told n needed s = name_noted n ++ ((if needed then codes ": " else codes "?: ") ++ told s)

-- the first fields, so many
abbrev pub fields_noted : (Shape → Bytes) → ℕ → FieldShapes → List Bytes
fields_noted told left NoFieldShapes = []
fields_noted told zero (AndFieldShape n needed s shapes) = untold ∷ []
fields_noted told (suc left) (AndFieldShape n needed s shapes) =
    field_noted told n needed s ∷ fields_noted told left shapes

-- the fields of objects, and whether there may be others
abbrev pub members_noted : Option (Shape → Bytes) → ℕ → FieldShapes → Bool → List Bytes
members_noted None width NoFieldShapes extra = word_if extra (codes "..")
members_noted None width (AndFieldShape n needed s shapes) extra = untold ∷ []
members_noted (Some told) width shapes extra = fields_noted told width shapes ++ word_if extra (codes "..")

-- the objects, where there are any
abbrev pub objects_noted : Option (Shape → Bytes) → ℕ → Objects → List Bytes
objects_noted below width WithoutObjects = []
objects_noted below width (ObjectsOf shapes extra) =
    word_if (some_object (ObjectsOf shapes extra))
    (enclosed (codes "{") (members_noted below width shapes extra) (codes "}"))

-- the kinds of which there are trees
abbrev pub kinds_noted : Option (Shape → Bytes) → ℕ → Simple → Arrays → Objects → List Bytes
kinds_noted below width simple arrays objects =
    word_if simple.boolean (codes "boolean")
    ++ (word_if simple.integer (codes "integer")
    ++ (word_if simple.text (codes "string")
    ++ (arrays_noted below width arrays
    ++ (objects_noted below width objects ++ word_if simple.null (codes "null")))))

-- a shape that doesn't take every tree, kind by kind
abbrev pub parts_noted : Option (Shape → Bytes) → ℕ → Shape → Bytes
parts_noted below width Any = codes "any"
parts_noted below width (OfKinds simple arrays objects) =
    between (codes " | ") (kinds_noted below width simple arrays objects)

-- a shape
abbrev pub level_noted : Option (Shape → Bytes) → ℕ → Shape → Bytes
level_noted below width s =
    if takes_all s then codes "any" else (if inhabited s then parts_noted below width s else codes "nothing")

-- ---- all levels

-- the notation of a shape, of so many levels, with so many parts of each
abbrev pub noted : ℕ → ℕ → Shape → Bytes
noted zero width = level_noted None width
noted (suc depth) width = level_noted (Some (noted depth width)) width

-- that of what is in its lists and objects, if that is told
abbrev pub noted_below : ℕ → ℕ → Option (Shape → Bytes)
noted_below zero width = None
noted_below (suc depth) width = Some (noted depth width)
