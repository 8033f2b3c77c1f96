-- Intrinsic function calls, and their values (States Language, "Intrinsic Functions" and "Appendix B: List of
-- Intrinsic Functions"). The profile has three functions. It chooses: an escape other than those of the standard is
-- refused on reading, so a literal text is here its pieces with the holes between them; a wrong number of arguments
-- and a value of a wrong kind are failures of evaluation.
use Rattle.std.specs.Prelude.{◌≡◌, IsFalse, ◌||◌, ℕ, zero, suc, ◌+◌, ◌/◌, ◌%◌, ℤ, pos, negsuc, List}
use Rattle.std.specs.Prelude.{[], ◌∷◌, ◌++◌, drop, Bool, true, false, ◌&&◌, nat_eq, nat_lt}
use Rattle.std.specs.Prelude.{if◌then◌else◌, Option, Some, None, option_and_then, codes}
use Rattle.std.specs.Option.{option_map}
use Rattle.asl_model.specs.Names.{Bytes}
use Rattle.asl_model.specs.Tree.{Tree, Null, Boolean, Integer, Text, Array, Object, Trees, NoTrees, AndTree, count}
use Rattle.asl_model.specs.Path.{Segment, named_by}

-- what a path in a template or in a call begins at, and the segments that follow
pub data Reference : Type 0 where
  -- `$`: the template's input
  InInput : List Segment → Reference
  -- `$$.Map.Item.Index`: the number of the item that a Map takes at hand
  ItemIndex : Reference
  -- `$$.Map.Item.Value`: that item
  InItem : List Segment → Reference

-- the functions of the profile
pub data Function : Type 0 where
  StatesArray : Function
  StatesArrayLength : Function
  StatesFormat : Function

-- a text with holes `{}`: what stands in front of the first, and what stands behind each up to the next
pub record Pieces : Type 0 where
  pub first : Bytes
  pub after_holes : List Bytes

mutual
  -- a call: its function and its arguments
  pub data Call : Type 0 where
    CallOf : Function → Arguments → Call

  -- a literal, a path or a nested call
  pub data Argument : Type 0 where
    NullArgument : Argument
    BooleanArgument : Bool → Argument
    IntegerArgument : ℤ → Argument
    -- a literal text, its escapes undone
    TextArgument : Pieces → Argument
    PathArgument : Reference → Argument
    CallArgument : Call → Argument

  -- the arguments of a call, in order
  pub data Arguments : Type 0 where
    NoArguments : Arguments
    AndArgument : Argument → Arguments → Arguments

-- the item that a Map's `ItemSelector` is evaluated for: its number, which a Map counts from 0, and the item
pub record Item : Type 0 where
  pub number : ℤ
  pub value : Tree

-- what a path in a template or in a call names, for the template's input and the item at hand
abbrev pub referred : Reference → Tree → Option Item → Option Tree
referred (InInput p) input item = named_by p input
referred ItemIndex input item = option_map (λ i. Integer i.number) item
referred (InItem p) input item = option_and_then (λ i. named_by p i.value) item

-- the digits of n in front of the text; n has at most that many
abbrev pub digits_before : ℕ → ℕ → Bytes → Bytes
digits_before zero n text = text
digits_before (suc most) n text =
    elim (nat_lt n 10) [ true ↦ (48 + n) ∷ text | false ↦ digits_before most (n / 10) ((48 + n % 10) ∷ text) ]

-- a whole number in decimal
abbrev pub decimal_text : ℤ → Bytes
decimal_text (pos n) = digits_before (suc n) n []
decimal_text (negsuc n) = 45 ∷ digits_before (suc (suc n)) (suc n) []

-- a truth value as a word
abbrev pub truth_text : Bool → Bytes
truth_text true = codes "true"
truth_text false = codes "false"

-- what `States.Format` writes for a value in place of a hole
abbrev pub format_text : Tree → Option Bytes
format_text Null = Some (codes "null")
format_text (Boolean b) = Some (truth_text b)
format_text (Integer n) = Some (decimal_text n)
format_text (Text t) = Some t
format_text (Array ts) = None
format_text (Object fs) = None

-- the text: its pieces with `{}` between them
abbrev pub joined_by_holes : Bytes → List Bytes → Bytes
joined_by_holes first [] = first
joined_by_holes first (piece ∷ pieces) = first ++ (codes "{}" ++ joined_by_holes piece pieces)

-- the text begins with that byte
abbrev pub begins_with : ℕ → Bytes → Bool
begins_with b [] = false
begins_with b (c ∷ cs) = nat_eq b c

-- one byte in front of a text that is cut at its holes: `{` in front of `}` makes one more hole
abbrev pub byte_before : ℕ → Pieces → Pieces
byte_before b pieces = if nat_eq b 123 && begins_with 125 pieces.first
    then record { first = []; after_holes = drop 1 pieces.first ∷ pieces.after_holes }
    else record { first = b ∷ pieces.first; after_holes = pieces.after_holes }

-- a text cut at each `{}` in it
abbrev pub cut_at_holes : Bytes → Pieces
cut_at_holes [] = record { first = []; after_holes = [] }
cut_at_holes (b ∷ bs) = byte_before b (cut_at_holes bs)

-- a text has `{` directly in front of `}` somewhere
abbrev pub has_hole : Bytes → Bool
has_hole [] = false
has_hole (b ∷ bs) = (nat_eq b 123 && begins_with 125 bs) || has_hole bs

-- none of the texts has a hole
abbrev pub NoneHasHole : List Bytes → Type 0
NoneHasHole [] = Unit {0}
NoneHasHole (piece ∷ pieces) = IsFalse (has_hole piece) × NoneHasHole pieces

-- the pieces are those of the text: joined by `{}` they give it, and none of them has a hole in it
pub record ArePiecesOf (text : Bytes) (pieces : Pieces) : Type 0 where
  pub whole : joined_by_holes pieces.first pieces.after_holes ≡ text
  pub first_is_whole : IsFalse (has_hole pieces.first)
  pub others_are_whole : NoneHasHole pieces.after_holes

-- piece 0, the word of value 1, piece 1, and so on; there is one value a hole
abbrev pub holes_filled : Bytes → List Bytes → Trees → Option Bytes
holes_filled first [] NoTrees = Some first
holes_filled first [] (AndTree t ts) = None
holes_filled first (piece ∷ pieces) NoTrees = None
holes_filled first (piece ∷ pieces) (AndTree t ts) =
    option_and_then (λ word. option_map (λ further. first ++ (word ++ further)) (holes_filled piece pieces ts))
    (format_text t)

-- the pieces of the text that is a call's first argument, where it is a literal one
abbrev pub literal_pieces : Arguments → Option Pieces
literal_pieces NoArguments = None
literal_pieces (AndArgument NullArgument others) = None
literal_pieces (AndArgument (BooleanArgument b) others) = None
literal_pieces (AndArgument (IntegerArgument n) others) = None
literal_pieces (AndArgument (TextArgument pieces) others) = Some pieces
literal_pieces (AndArgument (PathArgument r) others) = None
literal_pieces (AndArgument (CallArgument c) others) = None

-- the pieces of a literal text, or else of a value, where it is a text: there each `{}` is a hole
abbrev pub pieces_of : Option Pieces → Tree → Option Pieces
pieces_of (Some pieces) t = Some pieces
pieces_of None Null = None
pieces_of None (Boolean b) = None
pieces_of None (Integer n) = None
pieces_of None (Text t) = Some (cut_at_holes t)
pieces_of None (Array ts) = None
pieces_of None (Object fs) = None

-- `States.Format`, for the pieces of its first argument where that is a literal text
abbrev pub formatted : Option Pieces → Trees → Option Tree
formatted literal NoTrees = None
formatted literal (AndTree t ts) =
    option_map Text (option_and_then (λ pieces. holes_filled pieces.first pieces.after_holes ts) (pieces_of literal t))

-- how long an array is
abbrev pub length_of : Tree → Option Tree
length_of Null = None
length_of (Boolean b) = None
length_of (Integer n) = None
length_of (Text t) = None
length_of (Array ts) = Some (Integer (pos (count ts)))
length_of (Object fs) = None

-- `States.ArrayLength`: it takes one argument
abbrev pub array_length : Trees → Option Tree
array_length NoTrees = None
array_length (AndTree t NoTrees) = length_of t
array_length (AndTree t (AndTree u ts)) = None

-- the function's value for the values of its arguments
abbrev pub applied : Function → Option Pieces → Trees → Option Tree
applied StatesArray literal values = Some (Array values)
applied StatesArrayLength literal values = array_length values
applied StatesFormat literal values = formatted literal values

abbrev mutual
  -- the value of a call, for the template's input and the item at hand; None is an intrinsic failure
  pub call_value : Call → Tree → Option Item → Option Tree
  call_value (CallOf function arguments) input item =
      option_and_then (applied function (literal_pieces arguments)) (argument_values arguments input item)

  -- the value of an argument
  pub argument_value : Argument → Tree → Option Item → Option Tree
  argument_value NullArgument input item = Some Null
  argument_value (BooleanArgument b) input item = Some (Boolean b)
  argument_value (IntegerArgument n) input item = Some (Integer n)
  argument_value (TextArgument pieces) input item = Some (Text (joined_by_holes pieces.first pieces.after_holes))
  argument_value (PathArgument reference) input item = referred reference input item
  argument_value (CallArgument call) input item = call_value call input item

  -- the values of all arguments
  pub argument_values : Arguments → Tree → Option Item → Option Trees
  argument_values NoArguments input item = Some NoTrees
  argument_values (AndArgument argument others) input item =
      option_and_then (λ t. option_map (AndTree t) (argument_values others input item))
      (argument_value argument input item)
