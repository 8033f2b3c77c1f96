-- How intrinsic calls, and the paths in templates, are spelled (States Language, "Intrinsic Functions").
-- A call is a name, `(`, arguments with commas between them, `)`. Spaces may stand round arguments and between empty
-- parentheses. An argument is a text in apostrophes, a whole number, `null`, `true`, `false`, a path, or a call.
-- The profile chooses: calls nest at most 32 deep; a text has the escapes `\'`, `\{`, `\}`, `\\` and no other; a path
-- goes to the first comma, `)` or space that isn't inside apostrophes or quotes; and which refusal comes first.
use Rattle.std.specs.Prelude.{◌^◌, ℕ, zero, suc, ℤ, pos, negsuc, List, [], ◌∷◌, length, take, drop, slice_index}
use Rattle.std.specs.Prelude.{nat_lt, nat_le, ◌==◌, Bool, true, false, ◌&&◌, ◌||◌, not, is_some, if◌then◌else◌, Option}
use Rattle.std.specs.Prelude.{Some, None, option_map, option_and_then, Result, Ok, Err, bytes_eq, codes}
use Rattle.std.specs.Char.{is_ascii_digit, is_ascii_alphanumeric}
use Rattle.std.specs.Str.Parse.{digits_value}
use Rattle.asl_model.specs.Intrinsic.{Reference, InInput, ItemIndex, InItem, Function, StatesArray}
use Rattle.asl_model.specs.Intrinsic.{StatesArrayLength, StatesFormat, Pieces, Call, CallOf, Argument}
use Rattle.asl_model.specs.Intrinsic.{NullArgument, BooleanArgument, IntegerArgument, TextArgument}
use Rattle.asl_model.specs.Intrinsic.{PathArgument, CallArgument, Arguments, NoArguments, AndArgument}
use Rattle.asl_model.specs.PathSpelling.{is_one_of, after, front_length, segments_of, path_of}

-- ---- paths in templates

-- what follows behind that front of a text
abbrev pub behind : List ℕ → List ℕ → Option (List ℕ)
behind [] text = Some text
behind (b ∷ bs) text = option_and_then (behind bs) (after b text)

-- a context path: the item's number, or the item and segments into it
abbrev pub context_of : List ℕ → Option Reference
context_of text =
    if bytes_eq text (codes "$$.Map.Item.Index") then Some ItemIndex
    else option_map InItem (option_and_then (λ rest. segments_of (length rest) rest) (behind (codes "$$.Map.Item.Value")
    text))

-- the text begins as a context path does
abbrev pub is_context : List ℕ → Bool
is_context text = is_some (behind (codes "$$") text)

-- the path in a template that a text spells; the first argument says whether paths to a Map's item are allowed
abbrev pub reference_of : Bool → List ℕ → Option Reference
reference_of item text =
    if is_context text then (if item then context_of text else None) else option_map InInput (path_of text)

-- ---- calls as they are written

mutual
  -- a call with any name, its paths as they stand
  pub data WrittenCall : Type 0 where
    WrittenAs : List ℕ → WrittenArguments → WrittenCall

  -- an argument as it is written
  pub data WrittenArgument : Type 0 where
    WrittenNull : WrittenArgument
    WrittenBoolean : Bool → WrittenArgument
    WrittenInteger : ℤ → WrittenArgument
    WrittenText : Pieces → WrittenArgument
    WrittenPath : List ℕ → WrittenArgument
    WrittenNested : WrittenCall → WrittenArgument

  -- the arguments of a call as they are written
  pub data WrittenArguments : Type 0 where
    NoneWritten : WrittenArguments
    AndWritten : WrittenArgument → WrittenArguments → WrittenArguments

-- a part that a text begins with, and the rest behind it
abbrev pub Cut : Type 0 → Type 0
Cut A = Option (A × List ℕ)

-- the text behind its leading spaces
abbrev pub without_spaces : List ℕ → List ℕ
without_spaces [] = []
without_spaces (x ∷ rest) = if x == 32 then without_spaces rest else x ∷ rest

-- a letter or digit, a dot or an underscore
abbrev pub in_function_name : ℕ → Bool
in_function_name b = is_ascii_alphanumeric b || b == 46 || b == 95

-- ---- texts

-- one more byte in front of what was cut
abbrev pub byte_in_front : ℕ → Pieces × List ℕ → Pieces × List ℕ
byte_in_front b c = (record { first = b ∷ c.0.first; after_holes = c.0.after_holes }, c.1)

-- a hole in front of it
abbrev pub hole_in_front : Pieces × List ℕ → Pieces × List ℕ
hole_in_front c = (record { first = []; after_holes = c.0.first ∷ c.0.after_holes }, c.1)

-- the text ends here, and this is left
abbrev pub end_of_text : List ℕ → Pieces × List ℕ
end_of_text rest = (record { first = []; after_holes = [] }, rest)

-- a text behind its opening apostrophe: up to the next apostrophe; a backslash escapes what follows, and `{` that
-- stands right before `}` makes a hole
abbrev pub cut_pieces : List ℕ → Cut Pieces
cut_pieces [] = None
cut_pieces (x ∷ []) = if x == 39 then Some (end_of_text []) else None
cut_pieces (x ∷ y ∷ rest) =
    elim (x == 39) [
      | true ↦ Some (end_of_text (y ∷ rest))
      | false ↦ elim (x == 92) [
        | true ↦ elim (is_one_of (codes "'{}\\") y)
            [ true ↦ option_map (byte_in_front y) (cut_pieces rest) | false ↦ None ]
        | false ↦ elim (x == 123 && y == 125) [
          | true ↦ option_map hole_in_front (cut_pieces rest)
          | false ↦ option_map (byte_in_front x) (cut_pieces (y ∷ rest))
        ]
      ]
    ]

-- ---- numbers and words

-- `0`, or decimal digits without a leading zero
abbrev pub is_whole : List ℕ → Bool
is_whole digits =
    not (length digits == 0) && (front_length is_ascii_digit digits == length digits)
    && (length digits == 1 || not (slice_index digits 0 == 48))

-- the number below zero
abbrev pub negated : ℕ → ℤ
negated zero = pos 0
negated (suc n) = negsuc n

-- a whole number from 0 on, or from 0 down; 64 bits hold it
abbrev pub whole_number : List ℕ → Option ℤ
whole_number digits =
    if is_whole digits && nat_lt (digits_value 10 digits) (2 ^ 63) then Some (pos (digits_value 10 digits)) else None

-- the number that digits behind a minus sign spell, where it is in range
abbrev pub negative_of : List ℕ → Option ℤ
negative_of digits =
    if is_whole digits && nat_le (digits_value 10 digits) (2 ^ 63) then Some (negated (digits_value 10 digits))
    else None

-- null, a truth value, or a number that isn't negative
abbrev pub literal_argument : List ℕ → Option WrittenArgument
literal_argument word =
    if bytes_eq word (codes "null") then Some WrittenNull else
    (if bytes_eq word (codes "true") then Some (WrittenBoolean true) else
    (if bytes_eq word (codes "false") then Some (WrittenBoolean false) else
    option_map WrittenInteger (whole_number word)))

-- the part that was cut, with what is left
abbrev pub followed_by : {A : Type 0} → List ℕ → A → A × List ℕ
followed_by rest a = (a, rest)

-- a number behind its minus sign
abbrev pub cut_negative : List ℕ → Cut WrittenArgument
cut_negative text =
    let n = front_length is_ascii_digit text in option_map (λ z. followed_by (drop n text) (WrittenInteger z))
    (negative_of (take n text))

-- ---- paths

-- the path ends before a byte, where that quote is open: 0 is none
abbrev pub ends_path : ℕ → ℕ → Bool
ends_path quote b = quote == 0 && is_one_of (codes ",) ") b

-- the quote that is open behind a byte, 0 where none is
abbrev pub open_quote : ℕ → ℕ → ℕ
open_quote quote b =
    if quote == 0 then (if is_one_of (codes "'\"") b then b else 0) else (if b == quote then 0 else quote)

-- how many bytes belong to the path that a text begins with
abbrev pub path_length : ℕ → List ℕ → ℕ
path_length quote [] = 0
path_length quote (x ∷ rest) = if ends_path quote x then 0 else suc (path_length (open_quote quote x) rest)

-- a path, up to where it ends
abbrev pub cut_path : List ℕ → Cut WrittenArgument
cut_path text = let n = path_length 0 text in Some (followed_by (drop n text) (WrittenPath (take n text)))

-- ---- arguments and calls

-- a word, or a call where `(` follows
abbrev pub cut_word : (List ℕ → Cut WrittenCall) → List ℕ → Cut WrittenArgument
cut_word nested text =
    let n = front_length in_function_name text in
    elim (slice_index (drop n text) 0 == 40) [
      | true ↦ option_map (λ c. followed_by c.1 (WrittenNested c.0)) (nested text)
      | false ↦ option_map (followed_by (drop n text)) (literal_argument (take n text))
    ]

-- an argument, for the calls that may stand in it
abbrev pub cut_argument : (List ℕ → Cut WrittenCall) → List ℕ → Cut WrittenArgument
cut_argument nested [] = None
cut_argument nested (x ∷ rest) =
    elim (x == 39) [
      | true ↦ option_map (λ c. followed_by c.1 (WrittenText c.0)) (cut_pieces rest)
      | false ↦ elim (x == 36) [
        | true ↦ cut_path (x ∷ rest)
        | false ↦ elim (x == 45) [
          | true ↦ cut_negative rest
          | false ↦ cut_word nested (x ∷ rest)
        ]
      ]
    ]

-- behind an argument stands `)`, or a comma and further arguments
abbrev pub after_argument : (List ℕ → Cut WrittenArguments) → WrittenArgument → List ℕ → Cut WrittenArguments
after_argument further argument [] = None
after_argument further argument (x ∷ rest) =
    elim (x == 41) [
      | true ↦ Some (AndWritten argument NoneWritten, rest)
      | false ↦ elim (x == 44) [ true ↦ option_map (λ c. (AndWritten argument c.0, c.1)) (further rest) | false ↦ None ]
    ]

-- arguments, at least one, up to `)`; there are at most as many as the number
abbrev pub cut_arguments : (List ℕ → Cut WrittenCall) → ℕ → List ℕ → Cut WrittenArguments
cut_arguments nested zero text = None
cut_arguments nested (suc n) text =
    option_and_then (λ c. after_argument (λ rest. cut_arguments nested n rest) c.0 (without_spaces c.1))
    (cut_argument nested (without_spaces text))

-- what stands behind `(`
abbrev pub cut_parentheses : (List ℕ → Cut WrittenCall) → List ℕ → Cut WrittenArguments
cut_parentheses nested [] = None
cut_parentheses nested (x ∷ rest) =
    elim (x == 41) [ true ↦ Some (NoneWritten, rest) | false ↦ cut_arguments nested (length (x ∷ rest)) (x ∷ rest) ]

-- the call that a text begins with, in which calls nest at most that deep
abbrev pub cut_call : ℕ → List ℕ → Cut WrittenCall
cut_call zero text = None
cut_call (suc n) text =
    let k = front_length in_function_name text in
    elim (not (k == 0) && slice_index (drop k text) 0 == 40) [
      | true ↦ option_map (λ c. (WrittenAs (take k text) c.0, c.1))
          (cut_parentheses (λ rest. cut_call n rest) (without_spaces (drop (suc k) text)))
      | false ↦ None
    ]

-- the call that is the whole text
abbrev pub whole_call : WrittenCall × List ℕ → Option WrittenCall
whole_call c = if length c.1 == 0 then Some c.0 else None

-- the call that a whole text writes
abbrev pub written_call : List ℕ → Option WrittenCall
written_call text = option_and_then whole_call (cut_call 32 text)

-- ---- what a written call means

-- the function of that name
abbrev pub function_named : List ℕ → Option Function
function_named n =
    if bytes_eq n (codes "States.Array") then Some StatesArray else
    (if bytes_eq n (codes "States.ArrayLength") then Some StatesArrayLength else
    (if bytes_eq n (codes "States.Format") then Some StatesFormat else None))

abbrev mutual
  -- every function of a call, and of the calls in it, is one of the profile's
  pub knows_functions : WrittenCall → Bool
  knows_functions (WrittenAs n arguments) = is_some (function_named n) && know_functions arguments

  -- every function in an argument is one of those served
  pub knows_functions_in : WrittenArgument → Bool
  knows_functions_in WrittenNull = true
  knows_functions_in (WrittenBoolean b) = true
  knows_functions_in (WrittenInteger n) = true
  knows_functions_in (WrittenText pieces) = true
  knows_functions_in (WrittenPath p) = true
  knows_functions_in (WrittenNested c) = knows_functions c

  -- so for the arguments
  pub know_functions : WrittenArguments → Bool
  know_functions NoneWritten = true
  know_functions (AndWritten argument others) = knows_functions_in argument && know_functions others

abbrev mutual
  -- the call, where its functions are known and its paths are paths
  pub call_of : Bool → WrittenCall → Option Call
  call_of item (WrittenAs n arguments) =
      option_and_then (λ f. option_map (CallOf f) (arguments_of item arguments)) (function_named n)

  -- the argument that a written one means; the first argument says whether paths to a Map's item are allowed
  pub argument_of : Bool → WrittenArgument → Option Argument
  argument_of item WrittenNull = Some NullArgument
  argument_of item (WrittenBoolean b) = Some (BooleanArgument b)
  argument_of item (WrittenInteger n) = Some (IntegerArgument n)
  argument_of item (WrittenText pieces) = Some (TextArgument pieces)
  argument_of item (WrittenPath p) = option_map PathArgument (reference_of item p)
  argument_of item (WrittenNested c) = option_map CallArgument (call_of item c)

  -- so for the arguments in order
  pub arguments_of : Bool → WrittenArguments → Option Arguments
  arguments_of item NoneWritten = Some NoArguments
  arguments_of item (AndWritten argument others) =
      option_and_then (λ a. option_map (AndArgument a) (arguments_of item others)) (argument_of item argument)

-- how a text is refused as a call; the first of these that stands
pub data CallFault : Type 0 where
  -- it isn't written as a call, or a number is out of range
  Malformed : CallFault
  UnknownFunction : CallFault
  -- a path that is none, or a context path that isn't allowed
  BadPath : CallFault

-- the call, or that a path in it is refused
abbrev pub call_or_bad_path : Option Call → Result Call CallFault
call_or_bad_path None = Err BadPath
call_or_bad_path (Some c) = Ok c

-- the call that a written one means, or what is wrong with it
abbrev pub call_or_fault : Bool → Option WrittenCall → Result Call CallFault
call_or_fault item None = Err Malformed
call_or_fault item (Some c) = if knows_functions c then call_or_bad_path (call_of item c) else Err UnknownFunction

-- the call that a text spells, or its refusal
abbrev pub call_from : Bool → List ℕ → Result Call CallFault
call_from item text = call_or_fault item (written_call text)
