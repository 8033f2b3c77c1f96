-- The grammar of intrinsic calls (States Language, "Intrinsic Functions" and "The Context Object"): which text writes
-- which call, which call a written one means, and how a text is refused, a case for each rule. The functions that read
-- calls are those of CallSpelling, and give exactly this.
use Rattle.std.specs.Prelude.{◌≢◌, ◌^◌, ◌<◌, ◌≤◌, ℕ, suc, ℤ, pos, List, [], ◌∷◌, ◌++◌, ◌==◌}
use Rattle.std.specs.Prelude.{Bool, true, false, ◌&&◌, not, IsTrue, IsFalse, codes}
use Rattle.std.specs.Char.{is_ascii_digit}
use Rattle.std.specs.Str.Parse.{digits_value}
use Rattle.asl_model.specs.Path.{Segment}
use Rattle.asl_model.specs.Intrinsic.{Reference, InInput, ItemIndex, InItem, Function, StatesArray}
use Rattle.asl_model.specs.Intrinsic.{StatesArrayLength, StatesFormat, Pieces, begins_with, Call, CallOf}
use Rattle.asl_model.specs.Intrinsic.{Argument, NullArgument, BooleanArgument, IntegerArgument, TextArgument}
use Rattle.asl_model.specs.Intrinsic.{PathArgument, CallArgument, Arguments, NoArguments, AndArgument}
use Rattle.asl_model.specs.PathSpelling.{is_one_of, Begins, Spells}
use Rattle.asl_model.specs.CallSpelling.{in_function_name, negated, WrittenCall, WrittenAs, WrittenArgument}
use Rattle.asl_model.specs.CallSpelling.{WrittenNull, WrittenBoolean, WrittenInteger, WrittenText}
use Rattle.asl_model.specs.CallSpelling.{WrittenPath, WrittenNested, WrittenArguments, NoneWritten}
use Rattle.asl_model.specs.CallSpelling.{AndWritten, CallFault, Malformed, UnknownFunction, BadPath}

-- ---- bytes

-- each byte of the text passes the test
pub data ConsistsOf (test : ℕ → Bool) : List ℕ → Type 0 where
  no_byte_is_left : ConsistsOf test []
  and_byte : {b : ℕ} {text : List ℕ} → IsTrue (test b) → ConsistsOf test text → ConsistsOf test (b ∷ text)

-- a space
abbrev pub is_space : ℕ → Bool
is_space b = b == 32

-- ---- numbers

-- `0`, or decimal digits without a leading zero
pub data IsWhole : List ℕ → Type 0 where
  zero_is_whole : IsWhole (codes "0")
  digits_are_whole : {d : ℕ} {digits : List ℕ} → IsTrue (is_ascii_digit d) → d ≢ 48 → ConsistsOf is_ascii_digit digits
      → IsWhole (d ∷ digits)

-- the digits spell the number, from 0 on, or behind a minus sign from 0 down; 64 bits hold it
pub data WritesNumber : List ℕ → ℤ → Type 0 where
  from_zero_on : {digits : List ℕ} → IsWhole digits → digits_value 10 digits < 2 ^ 63
      → WritesNumber digits (pos (digits_value 10 digits))
  from_zero_down : {digits : List ℕ} → IsWhole digits → digits_value 10 digits ≤ 2 ^ 63
      → WritesNumber (45 ∷ digits) (negated (digits_value 10 digits))

-- ---- texts

-- What stands between apostrophes writes the pieces of a text: a backslash in front of `'`, `{`, `}` or another one is
-- lost; `{}` is a hole; any other byte but an apostrophe or a backslash is itself.
pub data WritesPieces : List ℕ → Pieces → Type 0 where
  nothing_is_left : WritesPieces [] (record { first = []; after_holes = [] })
  escaped_byte : {b : ℕ} {text : List ℕ} {pieces : Pieces} → IsTrue (is_one_of (codes "'{}\\") b)
      → WritesPieces text pieces
      → WritesPieces (92 ∷ b ∷ text) (record { first = b ∷ pieces.first; after_holes = pieces.after_holes })
  hole_in_text : {text : List ℕ} {pieces : Pieces} → WritesPieces text pieces
      → WritesPieces (123 ∷ 125 ∷ text) (record { first = []; after_holes = pieces.first ∷ pieces.after_holes })
  plain_byte : {b : ℕ} {text : List ℕ} {pieces : Pieces} → b ≢ 39 → b ≢ 92 → IsFalse (b == 123 && begins_with 125 text)
      → WritesPieces text pieces
      → WritesPieces (b ∷ text) (record { first = b ∷ pieces.first; after_holes = pieces.after_holes })

-- ---- paths

-- a byte that isn't that quote
abbrev pub is_not : ℕ → ℕ → Bool
is_not quote b = not (b == quote)

-- what follows the `$` of a path: parts in apostrophes or quotes, and bytes between them but comma, `)` and space
pub data GoesOn : List ℕ → Type 0 where
  path_is_over : GoesOn []
  byte_of_path : {b : ℕ} {text : List ℕ} → IsFalse (is_one_of (codes ",) '\"") b) → GoesOn text → GoesOn (b ∷ text)
  quoted_in_path : {quote : ℕ} {inside text : List ℕ} → IsTrue (is_one_of (codes "'\"") quote)
      → ConsistsOf (is_not quote) inside → GoesOn text → GoesOn (quote ∷ (inside ++ (quote ∷ text)))

-- ---- calls

mutual
  -- the text writes a call, in which calls nest at most that deep: a name that isn't empty, `(`, what stands inside,
  -- `)`
  pub data WritesCall : ℕ → List ℕ → WrittenCall → Type 0 where
    writes_call : {depth b : ℕ} {name inside : List ℕ} {arguments : WrittenArguments}
        → ConsistsOf in_function_name (b ∷ name) → WritesInside depth inside arguments
        → WritesCall (suc depth) ((b ∷ name) ++ (40 ∷ (inside ++ codes ")"))) (WrittenAs (b ∷ name) arguments)

  -- inside the parentheses stand spaces alone, or arguments
  pub data WritesInside : ℕ → List ℕ → WrittenArguments → Type 0 where
    writes_none : {depth : ℕ} {text : List ℕ} → ConsistsOf is_space text → WritesInside depth text NoneWritten
    writes_some : {depth : ℕ} {text : List ℕ} {arguments : WrittenArguments} → WritesArguments depth text arguments
        → WritesInside depth text arguments

  -- one argument, or one, a comma and further ones
  pub data WritesArguments : ℕ → List ℕ → WrittenArguments → Type 0 where
    writes_last : {depth : ℕ} {text : List ℕ} {argument : WrittenArgument} → WritesSpaced depth text argument
        → WritesArguments depth text (AndWritten argument NoneWritten)
    writes_further : {depth : ℕ} {text further : List ℕ} {argument : WrittenArgument} {others : WrittenArguments}
        → WritesSpaced depth text argument → WritesArguments depth further others
        → WritesArguments depth (text ++ (44 ∷ further)) (AndWritten argument others)

  -- an argument with spaces round it
  pub data WritesSpaced : ℕ → List ℕ → WrittenArgument → Type 0 where
    writes_spaced : {depth : ℕ} {before text behind : List ℕ} {argument : WrittenArgument} → ConsistsOf is_space before
        → WritesArgument depth text argument → ConsistsOf is_space behind
        → WritesSpaced depth (before ++ (text ++ behind)) argument

  -- an argument: a word, a number, a text in apostrophes, a path, or a call
  pub data WritesArgument : ℕ → List ℕ → WrittenArgument → Type 0 where
    writes_null : {depth : ℕ} → WritesArgument depth (codes "null") WrittenNull
    writes_true : {depth : ℕ} → WritesArgument depth (codes "true") (WrittenBoolean true)
    writes_false : {depth : ℕ} → WritesArgument depth (codes "false") (WrittenBoolean false)
    writes_number : {depth : ℕ} {text : List ℕ} {z : ℤ} → WritesNumber text z
        → WritesArgument depth text (WrittenInteger z)
    writes_text : {depth : ℕ} {inside : List ℕ} {pieces : Pieces} → WritesPieces inside pieces
        → WritesArgument depth (39 ∷ (inside ++ codes "'")) (WrittenText pieces)
    writes_path : {depth : ℕ} {text : List ℕ} → GoesOn text → WritesArgument depth (36 ∷ text) (WrittenPath (36 ∷ text))
    writes_nested : {depth : ℕ} {text : List ℕ} {call : WrittenCall} → WritesCall depth text call
        → WritesArgument depth text (WrittenNested call)

-- ---- what a written call means

-- the functions of the profile
pub data NamesFunction : List ℕ → Function → Type 0 where
  names_array : NamesFunction (codes "States.Array") StatesArray
  names_array_length : NamesFunction (codes "States.ArrayLength") StatesArrayLength
  names_format : NamesFunction (codes "States.Format") StatesFormat

-- The text spells a path in a template: one into the template's input; and, where paths to a Map's item are allowed,
-- the item's number, or a path into the item.
pub data SpellsReference (item : Bool) : List ℕ → Reference → Type 0 where
  spells_in_input : {text : List ℕ} {p : List Segment} → Spells text p → SpellsReference item text (InInput p)
  spells_item_index : IsTrue item → SpellsReference item (codes "$$.Map.Item.Index") ItemIndex
  spells_in_item : {segments : List ℕ} {p : List Segment} → IsTrue item → Begins p segments []
      → SpellsReference item (codes "$$.Map.Item.Value" ++ segments) (InItem p)

mutual
  -- a written call means one of the profile's functions on what its arguments mean
  pub data MeansCall (item : Bool) : WrittenCall → Call → Type 0 where
    means_call : {n : List ℕ} {function : Function} {written : WrittenArguments} {arguments : Arguments}
        → NamesFunction n function → MeansArguments item written arguments
        → MeansCall item (WrittenAs n written) (CallOf function arguments)

  -- an argument means itself, the path that it spells, or a call
  pub data MeansArgument (item : Bool) : WrittenArgument → Argument → Type 0 where
    means_null : MeansArgument item WrittenNull NullArgument
    means_boolean : {b : Bool} → MeansArgument item (WrittenBoolean b) (BooleanArgument b)
    means_integer : {z : ℤ} → MeansArgument item (WrittenInteger z) (IntegerArgument z)
    means_text : {pieces : Pieces} → MeansArgument item (WrittenText pieces) (TextArgument pieces)
    means_path : {text : List ℕ} {r : Reference} → SpellsReference item text r
        → MeansArgument item (WrittenPath text) (PathArgument r)
    means_nested : {written : WrittenCall} {c : Call} → MeansCall item written c
        → MeansArgument item (WrittenNested written) (CallArgument c)

  -- so in order
  pub data MeansArguments (item : Bool) : WrittenArguments → Arguments → Type 0 where
    means_none : MeansArguments item NoneWritten NoArguments
    means_further : {written : WrittenArgument} {argument : Argument} {others : WrittenArguments}
        {arguments : Arguments}
        → MeansArgument item written argument → MeansArguments item others arguments
        → MeansArguments item (AndWritten written others) (AndArgument argument arguments)

-- the text spells a call, in which calls nest at most 32 deep
pub record SpellsCall (item : Bool) (text : List ℕ) (c : Call) : Type 0 where
  pub written : WrittenCall
  pub as_written : WritesCall 32 text written
  pub meaning : MeansCall item written c

-- ---- refusals

mutual
  -- a call, or one in it, has a name that is no function of the profile
  pub data HasUnknownFunction : WrittenCall → Type 0 where
    own_is_unknown : {n : List ℕ} {arguments : WrittenArguments}
        → ((function : Function) → NamesFunction n function → ⊥) → HasUnknownFunction (WrittenAs n arguments)
    one_inside_is_unknown : {n : List ℕ} {arguments : WrittenArguments} → HaveUnknownFunction arguments
        → HasUnknownFunction (WrittenAs n arguments)

  -- so for one of the arguments
  pub data HaveUnknownFunction : WrittenArguments → Type 0 where
    unknown_in_this : {c : WrittenCall} {others : WrittenArguments} → HasUnknownFunction c
        → HaveUnknownFunction (AndWritten (WrittenNested c) others)
    unknown_in_later : {argument : WrittenArgument} {others : WrittenArguments} → HaveUnknownFunction others
        → HaveUnknownFunction (AndWritten argument others)

mutual
  -- a call, or one in it, has a path that spells none, or one to a Map's item where that isn't allowed
  pub data HasBadPath (item : Bool) : WrittenCall → Type 0 where
    one_inside_is_bad : {n : List ℕ} {arguments : WrittenArguments} → HaveBadPath item arguments
        → HasBadPath item (WrittenAs n arguments)

  -- so for one of the arguments
  pub data HaveBadPath (item : Bool) : WrittenArguments → Type 0 where
    this_is_bad : {text : List ℕ} {others : WrittenArguments} → ((r : Reference) → SpellsReference item text r → ⊥)
        → HaveBadPath item (AndWritten (WrittenPath text) others)
    bad_in_this : {c : WrittenCall} {others : WrittenArguments} → HasBadPath item c
        → HaveBadPath item (AndWritten (WrittenNested c) others)
    bad_in_later : {argument : WrittenArgument} {others : WrittenArguments} → HaveBadPath item others
        → HaveBadPath item (AndWritten argument others)

-- How a text is refused as a call: it writes none; or a function is unknown; or, where all are known, a path is
-- refused.
pub data IsRefusedCall (item : Bool) (text : List ℕ) : CallFault → Type 0 where
  is_malformed : ((written : WrittenCall) → WritesCall 32 text written → ⊥) → IsRefusedCall item text Malformed
  has_unknown_function : {written : WrittenCall} → WritesCall 32 text written → HasUnknownFunction written
      → IsRefusedCall item text UnknownFunction
  has_bad_path : {written : WrittenCall} → WritesCall 32 text written → (HasUnknownFunction written → ⊥)
      → HasBadPath item written → IsRefusedCall item text BadPath
