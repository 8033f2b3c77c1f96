-- A call that a text writes is the one that is read from it.
use Rattle.std.proofs.Common.{◌≡◌, ◌≢◌, ◌<◌, ◌≤◌, ◌^◌, ℕ, zero, suc, ℤ, pos, List, [], ◌∷◌, ◌++◌, length, take, drop, slice_index, nat_lt, nat_le, ◌==◌, Bool, true, false, ◌&&◌, ◌||◌, not, IsTrue, IsFalse, if◌then◌else◌, Some, None, option_map, option_and_then, bytes_eq, codes, refl, sym, ap, ap₂, subst, ◌∙◌, ◌⊎◌, inl, inr, arith, append_assoc, length-append}
use Rattle.std.specs.Char.{is_ascii_digit}
use Rattle.std.specs.Int.{is_in_range}
use Rattle.std.specs.Str.Parse.{digits_value}
use Rattle.std.proofs.Math.Seq.{drop-append_seam, take-append_seam}
use Rattle.std.proofs.lemmas.Bool.{and_from, and_right, or_cases, or_parts, or_right, eqb-true, eq-eqb, ne_eqb, lt-ltb, le-leb, false≢true, true≢false, not-true}
use Rattle.std.proofs.lemmas.Slice.Eq.{bytes_eq-Decides}
use Rattle.asl_model.specs.Intrinsic.{Pieces}
use Rattle.asl_model.specs.PathSpelling.{is_one_of, front_length}
use Rattle.asl_model.specs.CallSpelling.{Cut, in_function_name, negated, without_spaces, byte_in_front, hole_in_front, cut_pieces, is_whole, whole_number, negative_of, literal_argument, followed_by, cut_negative, open_quote, path_length, cut_path, cut_word, cut_argument, after_argument, cut_arguments, cut_parentheses, cut_call, WrittenCall, WrittenAs, WrittenArgument, WrittenNull, WrittenBoolean, WrittenInteger, WrittenText, WrittenPath, WrittenNested, WrittenArguments, NoneWritten, AndWritten}
use Rattle.asl_model.specs.CallGrammar.{ConsistsOf, no_byte_is_left, and_byte, is_space, IsWhole, zero_is_whole, digits_are_whole, WritesNumber, from_zero_on, from_zero_down, WritesPieces, nothing_is_left, escaped_byte, hole_in_text, plain_byte, is_not, GoesOn, path_is_over, byte_of_path, quoted_in_path, WritesCall, writes_call, WritesInside, writes_none, writes_some, WritesArguments, writes_last, writes_further, WritesSpaced, writes_spaced, WritesArgument, writes_null, writes_true, writes_false, writes_number, writes_text, writes_path, writes_nested}

-- ---- bytes

-- one number equals itself
same_numbers : {m n : ℕ} → m ≡ n → (m == n) ≡ true
same_numbers {m} {n} e = eq-eqb m n e

-- a byte that passes a test isn't one that fails it
pub apart : (test : ℕ → Bool) (b k : ℕ) → IsTrue (test b) → test k ≡ false → (b == k) ≡ false
apart test b k h n = go (b == k) refl
  where
    go : (same : Bool) → (b == k) ≡ same → (b == k) ≡ false
    go true e = absurd (true≢false (sym h ∙ (ap test (eqb-true b k e) ∙ n)))
    go false e = e

-- the longest front whose bytes pass a test goes on to a rest that doesn't begin with one
front_ends : (test : ℕ → Bool) {text : List ℕ} → ConsistsOf test text → (rest : List ℕ) → front_length test rest ≡ 0 → front_length test (text ++ rest) ≡ length text
front_ends test no_byte_is_left rest stop = stop
front_ends test (and_byte {b = b} {text = text} h further) rest stop = ap (λ t. if t then suc (front_length test (text ++ rest)) else 0) h ∙ ap suc (front_ends test further rest stop)

-- so for the whole text
front_whole : (test : ℕ → Bool) {text : List ℕ} → ConsistsOf test text → front_length test text ≡ length text
front_whole test no_byte_is_left = refl
front_whole test (and_byte {b = b} {text = text} h further) = ap (λ t. if t then suc (front_length test text) else 0) h ∙ ap suc (front_whole test further)

-- spaces are skipped
spaces_skipped : {text : List ℕ} → ConsistsOf is_space text → (rest : List ℕ) → without_spaces (text ++ rest) ≡ without_spaces rest
spaces_skipped no_byte_is_left rest = refl
spaces_skipped (and_byte {b = b} {text = text} h further) rest = ap (λ t. if t then without_spaces (text ++ rest) else b ∷ (text ++ rest)) h ∙ spaces_skipped further rest

-- what follows an argument: a space, a comma or `)`
data EndsArgument : List ℕ → Type 0 where
  ends_by_space : {rest : List ℕ} → EndsArgument (32 ∷ rest)
  ends_by_comma : {rest : List ℕ} → EndsArgument (44 ∷ rest)
  ends_by_parenthesis : {rest : List ℕ} → EndsArgument (41 ∷ rest)

-- none of these is a byte of a name
no_name_byte : {rest : List ℕ} → EndsArgument rest → front_length in_function_name rest ≡ 0
no_name_byte ends_by_space = refl
no_name_byte ends_by_comma = refl
no_name_byte ends_by_parenthesis = refl

-- or a digit
no_digit : {rest : List ℕ} → EndsArgument rest → front_length is_ascii_digit rest ≡ 0
no_digit ends_by_space = refl
no_digit ends_by_comma = refl
no_digit ends_by_parenthesis = refl

-- or `(`
no_opening : {rest : List ℕ} → EndsArgument rest → (slice_index rest 0 == 40) ≡ false
no_opening ends_by_space = refl
no_opening ends_by_comma = refl
no_opening ends_by_parenthesis = refl

-- or a byte of a path
no_path_byte : {rest : List ℕ} → EndsArgument rest → path_length 0 rest ≡ 0
no_path_byte ends_by_space = refl
no_path_byte ends_by_comma = refl
no_path_byte ends_by_parenthesis = refl

-- ---- words

-- a word or a call, for what stands in front of the rest
abbrev word_at : (List ℕ → Cut WrittenCall) → List ℕ → List ℕ → List ℕ → Cut WrittenArgument
word_at nested text front rest = elim (slice_index rest 0 == 40) [ true ↦ option_map (λ c. followed_by c.1 (WrittenNested c.0)) (nested text) | false ↦ option_map (followed_by rest) (literal_argument front) ]

-- a name in front of something else is cut off
word_split : (nested : List ℕ → Cut WrittenCall) {front : List ℕ} → ConsistsOf in_function_name front → (rest : List ℕ) → front_length in_function_name rest ≡ 0 → cut_word nested (front ++ rest) ≡ word_at nested (front ++ rest) front rest
word_split nested {front} name rest stop =
    ap (λ n. word_at nested (front ++ rest) (take n (front ++ rest)) (drop n (front ++ rest))) (front_ends in_function_name name rest stop)
    ∙ ap₂ (word_at nested (front ++ rest)) (take-append_seam front rest) (drop-append_seam front rest)

-- a name in front of an argument's end is a word
word_ends : (nested : List ℕ → Cut WrittenCall) {front rest : List ℕ} → ConsistsOf in_function_name front → EndsArgument rest → cut_word nested (front ++ rest) ≡ option_map (followed_by rest) (literal_argument front)
word_ends nested {front} {rest} name ends =
    word_split nested name rest (no_name_byte ends)
    ∙ ap (λ (t : Bool). elim t as (λ _. Cut WrittenArgument) [ true ↦ option_map (λ c. followed_by c.1 (WrittenNested c.0)) (nested (front ++ rest)) | false ↦ option_map (followed_by rest) (literal_argument front) ]) (no_opening ends)

-- ---- numbers

-- a whole number is digits, the first of which is one
whole_digits : {text : List ℕ} → IsWhole text → ConsistsOf is_ascii_digit text
whole_digits zero_is_whole = and_byte refl no_byte_is_left
whole_digits (digits_are_whole h apart further) = and_byte h further

-- its first byte is a digit
whole_first : {text : List ℕ} → IsWhole text → IsTrue (is_ascii_digit (slice_index text 0))
whole_first zero_is_whole = refl
whole_first (digits_are_whole h apart further) = h

-- digits may stand in a name
digit_in_name : (b : ℕ) → IsTrue (is_ascii_digit b) → IsTrue (in_function_name b)
digit_in_name b h = ap (λ t. t || is_in_range 65 90 b || is_in_range 97 122 b || b == 46 || b == 95) h

-- so for each of them
digits_in_name : {text : List ℕ} → ConsistsOf is_ascii_digit text → ConsistsOf in_function_name text
digits_in_name no_byte_is_left = no_byte_is_left
digits_in_name (and_byte {b = b} h further) = and_byte (digit_in_name b h) (digits_in_name further)

-- what is whole passes the test
whole_passes : {text : List ℕ} → IsWhole text → is_whole text ≡ true
whole_passes zero_is_whole = refl
whole_passes (digits_are_whole {d = d} {digits = digits} h apart further) =
    and_from (not (length (d ∷ digits) == 0) && (front_length is_ascii_digit (d ∷ digits) == length (d ∷ digits))) (length (d ∷ digits) == 1 || not (d == 48))
    (and_from (not (length (d ∷ digits) == 0)) (front_length is_ascii_digit (d ∷ digits) == length (d ∷ digits)) (ap not (ne_eqb (suc (length digits)) 0 (λ e. absurd (omega (arith, e))))) (same_numbers (front_whole is_ascii_digit (and_byte {b = d} h further))))
    (or_right (length (d ∷ digits) == 1) (not (d == 48)) (ap not (ne_eqb d 48 apart)))

-- a whole number in range is read
number_read : {digits : List ℕ} → IsWhole digits → digits_value 10 digits < 2 ^ 63 → whole_number digits ≡ Some (pos (digits_value 10 digits))
number_read {digits} whole small = ap (λ b. if b then Some (pos (digits_value 10 digits)) else None) (and_from (is_whole digits) (nat_lt (digits_value 10 digits) (2 ^ 63)) (whole_passes whole) (lt-ltb (digits_value 10 digits) (2 ^ 63) small))

-- so below zero
negative_read : {digits : List ℕ} → IsWhole digits → digits_value 10 digits ≤ 2 ^ 63 → negative_of digits ≡ Some (negated (digits_value 10 digits))
negative_read {digits} whole small = ap (λ b. if b then Some (negated (digits_value 10 digits)) else None) (and_from (is_whole digits) (nat_le (digits_value 10 digits) (2 ^ 63)) (whole_passes whole) (le-leb (digits_value 10 digits) (2 ^ 63) small))

-- a whole number isn't a word
not_a_word : (word : List ℕ) {digits : List ℕ} → IsWhole digits → is_ascii_digit (slice_index word 0) ≡ false → bytes_eq digits word ≡ false
not_a_word word {digits} whole letter = go (bytes_eq digits word) refl
  where
    go : (same : Bool) → bytes_eq digits word ≡ same → bytes_eq digits word ≡ false
    go true e = absurd (true≢false (sym (whole_first whole) ∙ (ap (λ text. is_ascii_digit (slice_index text 0)) ((bytes_eq-Decides digits word).0 e) ∙ letter)))
    go false e = e

-- a whole number is read as a word
number_word : {digits : List ℕ} → IsWhole digits → digits_value 10 digits < 2 ^ 63 → literal_argument digits ≡ Some (WrittenInteger (pos (digits_value 10 digits)))
number_word {digits} whole small =
    ap (λ b. if b then Some WrittenNull else (if bytes_eq digits (codes "true") then Some (WrittenBoolean true) else (if bytes_eq digits (codes "false") then Some (WrittenBoolean false) else option_map WrittenInteger (whole_number digits)))) (not_a_word (codes "null") whole refl)
    ∙ (ap (λ b. if b then Some (WrittenBoolean true) else (if bytes_eq digits (codes "false") then Some (WrittenBoolean false) else option_map WrittenInteger (whole_number digits))) (not_a_word (codes "true") whole refl)
    ∙ (ap (λ b. if b then Some (WrittenBoolean false) else option_map WrittenInteger (whole_number digits)) (not_a_word (codes "false") whole refl)
    ∙ ap (option_map WrittenInteger) (number_read whole small)))

-- what digits behind a minus sign give, in front of the rest
abbrev negative_at : List ℕ → List ℕ → Cut WrittenArgument
negative_at front rest = option_map (λ z. followed_by rest (WrittenInteger z)) (negative_of front)

-- so one below zero, in front of an argument's end
negative_ends : {digits rest : List ℕ} → IsWhole digits → digits_value 10 digits ≤ 2 ^ 63 → EndsArgument rest → cut_negative (digits ++ rest) ≡ Some (WrittenInteger (negated (digits_value 10 digits)), rest)
negative_ends {digits} {rest} whole small ends =
    ap (λ n. negative_at (take n (digits ++ rest)) (drop n (digits ++ rest))) (front_ends is_ascii_digit (whole_digits whole) rest (no_digit ends))
    ∙ (ap₂ negative_at (take-append_seam digits rest) (drop-append_seam digits rest)
    ∙ ap (option_map (λ z. followed_by rest (WrittenInteger z))) (negative_read whole small))

-- ---- texts

-- a comparison of bytes either way round
pub same_way : (m n : ℕ) → (m == n) ≡ (n == m)
same_way m n = go (m == n) refl
  where
    go : (same : Bool) → (m == n) ≡ same → (m == n) ≡ (n == m)
    go true e = e ∙ sym (same_numbers (sym (eqb-true m n e)))
    go false e = e ∙ sym (ne_eqb n m (λ f. true≢false (sym (same_numbers (sym f)) ∙ e)))

-- what is cut of a text that begins with these two bytes
abbrev pub pieces_at : ℕ → ℕ → List ℕ → Bool → Bool → Bool → Cut Pieces
pieces_at x y rest closes escapes holes =
    elim closes [
      | true ↦ Some ((record { first = []; after_holes = [] }, y ∷ rest))
      | false ↦ elim escapes [
        | true ↦ elim (is_one_of (codes "'{}\\") y) [ true ↦ option_map (byte_in_front y) (cut_pieces rest) | false ↦ None ]
        | false ↦ elim holes [
          | true ↦ option_map hole_in_front (cut_pieces rest)
          | false ↦ option_map (byte_in_front x) (cut_pieces (y ∷ rest))
        ]
      ]
    ]

-- a plain byte stands for itself
plain_piece : (b y : ℕ) (rest : List ℕ) → b ≢ 39 → b ≢ 92 → (b == 123 && y == 125) ≡ false → cut_pieces (b ∷ y ∷ rest) ≡ option_map (byte_in_front b) (cut_pieces (y ∷ rest))
plain_piece b y rest n m h =
    ap (λ t. pieces_at b y rest t (b == 92) (b == 123 && y == 125)) (ne_eqb b 39 n)
    ∙ (ap (λ t. pieces_at b y rest false t (b == 123 && y == 125)) (ne_eqb b 92 m)
    ∙ ap (λ t. pieces_at b y rest false false t) h)

-- what writes pieces is cut into them, up to the apostrophe
pieces_read : {inside : List ℕ} {pieces : Pieces} → WritesPieces inside pieces → (rest : List ℕ) → cut_pieces (inside ++ (39 ∷ rest)) ≡ Some (pieces, rest)
pieces_read nothing_is_left [] = refl
pieces_read nothing_is_left (y ∷ rest) = refl
pieces_read (escaped_byte {b = b} {text = text} h further) rest =
    ap (λ (t : Bool). elim t as (λ _. Cut Pieces) [ true ↦ option_map (byte_in_front b) (cut_pieces (text ++ (39 ∷ rest))) | false ↦ None ]) h
    ∙ ap (option_map (byte_in_front b)) (pieces_read further rest)
pieces_read (hole_in_text further) rest = ap (option_map hole_in_front) (pieces_read further rest)
pieces_read (plain_byte {b = b} {text = []} n m h further) rest =
    plain_piece b 39 rest n m (and_right (b == 123) false refl)
    ∙ ap (option_map (byte_in_front b)) (pieces_read further rest)
pieces_read (plain_byte {b = b} {text = y ∷ text} n m h further) rest =
    plain_piece b y (text ++ (39 ∷ rest)) n m (ap (λ t. b == 123 && t) (same_way y 125) ∙ h)
    ∙ ap (option_map (byte_in_front b)) (pieces_read further rest)

-- ---- paths

-- how many bytes are taken of a text that begins with this byte
abbrev pub path_at : ℕ → ℕ → List ℕ → Bool → ℕ → ℕ
path_at quote x rest ends opened = if ends then 0 else suc (path_length opened rest)

-- a byte that ends no path and opens no quote
plain_in_path : (b : ℕ) (rest : List ℕ) → IsFalse (is_one_of (codes ",) '\"") b) → path_length 0 (b ∷ rest) ≡ suc (path_length 0 rest)
plain_in_path b rest h =
    let comma = or_parts (b == 44) (b == 41 || (b == 32 || (b == 39 || (b == 34 || false)))) h in
    let close = or_parts (b == 41) (b == 32 || (b == 39 || (b == 34 || false))) comma.1 in
    let space = or_parts (b == 32) (b == 39 || (b == 34 || false)) close.1 in
    ap (λ t. path_at 0 b rest t (open_quote 0 b)) (ap₂ ◌||◌ comma.0 (ap₂ ◌||◌ close.0 (ap (λ t. t || false) space.0)))
    ∙ ap (λ (t : Bool). suc (path_length (if t then b else 0) rest)) space.1

-- the bytes of a quoted part, and what is taken behind it
quoted_length : (quote : ℕ) → (quote == 0) ≡ false → {inside : List ℕ} → ConsistsOf (is_not quote) inside → (text rest : List ℕ) → path_length 0 (text ++ rest) ≡ length text → path_length quote ((inside ++ (quote ∷ text)) ++ rest) ≡ length (inside ++ (quote ∷ text))
quoted_length quote some no_byte_is_left text rest h =
    ap (λ t. path_at quote quote (text ++ rest) (t && is_one_of (codes ",) ") quote) (if t then (if is_one_of (codes "'\"") quote then quote else 0) else (if quote == quote then 0 else quote))) some
    ∙ (ap (λ (t : Bool). suc (path_length (if t then 0 else quote) (text ++ rest))) (same_numbers {m = quote} refl)
    ∙ ap suc h)
quoted_length quote some (and_byte {b = b} {text = inside} n further) text rest h =
    ap (λ t. path_at quote b ((inside ++ (quote ∷ text)) ++ rest) (t && is_one_of (codes ",) ") b) (if t then (if is_one_of (codes "'\"") b then b else 0) else (if b == quote then 0 else quote))) some
    ∙ (ap (λ (t : Bool). suc (path_length (if t then 0 else quote) ((inside ++ (quote ∷ text)) ++ rest))) (not-true (b == quote) n)
    ∙ ap suc (quoted_length quote some further text rest h))

-- an apostrophe or a quote opens a quoted part
opens : (quote : ℕ) (rest : List ℕ) → IsTrue (is_one_of (codes "'\"") quote) → path_length 0 (quote ∷ rest) ≡ suc (path_length quote rest)
opens quote rest h = go (or_cases (quote == 39) (quote == 34 || false) h)
  where
    here : IsTrue (quote == 34) ⊎ (false ≡ true) → path_length 0 (quote ∷ rest) ≡ suc (path_length quote rest)
    here (inl e) = subst (λ q. path_length 0 (q ∷ rest) ≡ suc (path_length q rest)) (sym (eqb-true quote 34 e)) refl
    here (inr e) = absurd (false≢true e)

    go : IsTrue (quote == 39) ⊎ IsTrue (quote == 34 || false) → path_length 0 (quote ∷ rest) ≡ suc (path_length quote rest)
    go (inl e) = subst (λ q. path_length 0 (q ∷ rest) ≡ suc (path_length q rest)) (sym (eqb-true quote 39 e)) refl
    go (inr e) = here (or_cases (quote == 34) false e)

-- a path is taken up to an argument's end
goes_length : {text rest : List ℕ} → GoesOn text → EndsArgument rest → path_length 0 (text ++ rest) ≡ length text
goes_length path_is_over ends = no_path_byte ends
goes_length {rest = rest} (byte_of_path {b = b} {text = text} h further) ends = plain_in_path b (text ++ rest) h ∙ ap suc (goes_length further ends)
goes_length {rest = rest} (quoted_in_path {quote = quote} {inside = inside} {text = text} h bytes further) ends =
    opens quote ((inside ++ (quote ∷ text)) ++ rest) h
    ∙ ap suc (quoted_length quote (apart (is_one_of (codes "'\"")) quote 0 h refl) bytes text rest (goes_length further ends))

-- and is read
path_read : {text rest : List ℕ} → GoesOn text → EndsArgument rest → cut_path (36 ∷ (text ++ rest)) ≡ Some (WrittenPath (36 ∷ text), rest)
path_read {text} {rest} goes ends =
    ap (λ n. Some (followed_by (drop (suc n) (36 ∷ (text ++ rest))) (WrittenPath (take (suc n) (36 ∷ (text ++ rest)))))) (goes_length goes ends)
    ∙ ap₂ (λ front back. Some (followed_by back (WrittenPath (36 ∷ front)))) (take-append_seam text rest) (drop-append_seam text rest)

-- ---- the first byte of an argument

-- what is cut of a text that begins with this byte
abbrev pub argument_at : (List ℕ → Cut WrittenCall) → ℕ → List ℕ → Bool → Bool → Bool → Cut WrittenArgument
argument_at nested x rest text path minus =
    elim text [
      | true ↦ option_map (λ c. followed_by c.1 (WrittenText c.0)) (cut_pieces rest)
      | false ↦ elim path [
        | true ↦ cut_path (x ∷ rest)
        | false ↦ elim minus [ true ↦ cut_negative rest | false ↦ cut_word nested (x ∷ rest) ]
      ]
    ]

-- a byte of a name begins a word or a call
name_first : (nested : List ℕ → Cut WrittenCall) (x : ℕ) (rest : List ℕ) → IsTrue (in_function_name x) → cut_argument nested (x ∷ rest) ≡ cut_word nested (x ∷ rest)
name_first nested x rest h =
    ap (λ t. argument_at nested x rest t (x == 36) (x == 45)) (apart in_function_name x 39 h refl)
    ∙ (ap (λ t. argument_at nested x rest false t (x == 45)) (apart in_function_name x 36 h refl)
    ∙ ap (λ t. argument_at nested x rest false false t) (apart in_function_name x 45 h refl))

-- so does a whole number
number_first : (nested : List ℕ → Cut WrittenCall) {digits : List ℕ} → IsWhole digits → (rest : List ℕ) → cut_argument nested (digits ++ rest) ≡ cut_word nested (digits ++ rest)
number_first nested zero_is_whole rest = refl
number_first nested (digits_are_whole {d = d} {digits = digits} h apart further) rest = name_first nested d (digits ++ rest) (digit_in_name d h)

-- the text begins with a byte that is neither a space nor `)`
record BeginsArgument (text : List ℕ) : Type 0 where
  first : ℕ
  others : List ℕ
  whole : text ≡ first ∷ others
  no_space : (first == 32) ≡ false
  no_end : (first == 41) ≡ false

-- a name begins so
name_begins : (b : ℕ) (text : List ℕ) → IsTrue (in_function_name b) → BeginsArgument (b ∷ text)
name_begins b text h = record { first = b; others = text; whole = refl; no_space = apart in_function_name b 32 h refl; no_end = apart in_function_name b 41 h refl }

-- so does a whole number
whole_begins : {digits : List ℕ} → IsWhole digits → BeginsArgument digits
whole_begins zero_is_whole = name_begins 48 [] refl
whole_begins (digits_are_whole {d = d} {digits = digits} h apart further) = name_begins d digits (digit_in_name d h)

-- and one below zero
number_begins : {text : List ℕ} {z : ℤ} → WritesNumber text z → BeginsArgument text
number_begins (from_zero_on whole small) = whole_begins whole
number_begins (from_zero_down {digits = digits} whole small) = record { first = 45; others = digits; whole = refl; no_space = refl; no_end = refl }

-- the first byte of a name
pub first_in_name : {b : ℕ} {name : List ℕ} → ConsistsOf in_function_name (b ∷ name) → IsTrue (in_function_name b)
first_in_name (and_byte h further) = h

-- a call begins so
call_begins : {depth : ℕ} {text : List ℕ} {c : WrittenCall} → WritesCall depth text c → BeginsArgument text
call_begins (writes_call {b = b} {name = name} {inside = inside} bytes within) = name_begins b (name ++ (40 ∷ (inside ++ codes ")"))) (first_in_name bytes)

-- and each argument
argument_begins : {depth : ℕ} {text : List ℕ} {argument : WrittenArgument} → WritesArgument depth text argument → BeginsArgument text
argument_begins writes_null = record { first = 110; others = codes "ull"; whole = refl; no_space = refl; no_end = refl }
argument_begins writes_true = record { first = 116; others = codes "rue"; whole = refl; no_space = refl; no_end = refl }
argument_begins writes_false = record { first = 102; others = codes "alse"; whole = refl; no_space = refl; no_end = refl }
argument_begins (writes_number number) = number_begins number
argument_begins (writes_text {inside = inside} pieces) = record { first = 39; others = inside ++ codes "'"; whole = refl; no_space = refl; no_end = refl }
argument_begins (writes_path {text = text} goes) = record { first = 36; others = text; whole = refl; no_space = refl; no_end = refl }
argument_begins (writes_nested call) = call_begins call

-- no space is skipped in front of an argument
none_skipped : {text : List ℕ} → BeginsArgument text → (rest : List ℕ) → without_spaces (text ++ rest) ≡ text ++ rest
none_skipped {text} begins rest =
    ap (λ t. without_spaces (t ++ rest)) begins.whole
    ∙ (ap (λ t. if t then without_spaces (begins.others ++ rest) else begins.first ∷ (begins.others ++ rest)) begins.no_space
    ∙ ap (λ t. t ++ rest) (sym begins.whole))

-- also in front of something else
begins_more : {text : List ℕ} → BeginsArgument text → (rest : List ℕ) → BeginsArgument (text ++ rest)
begins_more begins rest = record { first = begins.first; others = begins.others ++ rest; whole = ap (λ t. t ++ rest) begins.whole; no_space = begins.no_space; no_end = begins.no_end }

-- an argument behind spaces
pub spaced_whole : (before text behind rest : List ℕ) → (before ++ (text ++ behind)) ++ rest ≡ before ++ (text ++ (behind ++ rest))
spaced_whole before text behind rest = append_assoc before (text ++ behind) rest ∙ ap (λ t. before ++ t) (append_assoc text behind rest)

-- what stands behind the spaces in front of an argument
spaced_skipped : {before text : List ℕ} → ConsistsOf is_space before → BeginsArgument text → (behind rest : List ℕ) → without_spaces ((before ++ (text ++ behind)) ++ rest) ≡ text ++ (behind ++ rest)
spaced_skipped {before} {text} spaces begins behind rest =
    ap without_spaces (spaced_whole before text behind rest)
    ∙ (spaces_skipped spaces (text ++ (behind ++ rest))
    ∙ none_skipped begins (behind ++ rest))

-- an argument begins behind its spaces
spaced_begins : {depth : ℕ} {text : List ℕ} {argument : WrittenArgument} → WritesSpaced depth text argument → (rest : List ℕ) → BeginsArgument (without_spaces (text ++ rest))
spaced_begins (writes_spaced {behind = behind} spaces argument after) rest = subst BeginsArgument (sym (spaced_skipped spaces (argument_begins argument) behind rest)) (begins_more (argument_begins argument) (behind ++ rest))

-- so do arguments
arguments_begin : {depth : ℕ} {text : List ℕ} {arguments : WrittenArguments} → WritesArguments depth text arguments → (rest : List ℕ) → BeginsArgument (without_spaces (text ++ rest))
arguments_begin (writes_last spaced) rest = spaced_begins spaced rest
arguments_begin (writes_further {text = text} {further = further} spaced others) rest = subst (λ t. BeginsArgument (without_spaces t)) (sym (append_assoc text (44 ∷ further) rest)) (spaced_begins spaced ((44 ∷ further) ++ rest))

-- ---- how many arguments there are

-- the number of arguments
abbrev how_many : WrittenArguments → ℕ
how_many NoneWritten = 0
how_many (AndWritten argument others) = suc (how_many others)

-- skipping spaces makes no text longer
skipped_shorter : (text : List ℕ) → length (without_spaces text) ≤ length text
skipped_shorter [] = omega arith
skipped_shorter (x ∷ text) = go (x == 32) (skipped_shorter text)
  where
    go : (t : Bool) → length (without_spaces text) ≤ length text → length (if t then without_spaces text else x ∷ text) ≤ suc (length text)
    go true h = omega arith
    go false h = omega arith

-- what stands from a byte on that is no space isn't skipped
skipped_to : (text : List ℕ) (b : ℕ) (rest : List ℕ) → (b == 32) ≡ false → suc (length rest) ≤ length (without_spaces (text ++ (b ∷ rest)))
skipped_to [] b rest h = subst (λ t. suc (length rest) ≤ length t) (sym (ap (λ t. if t then without_spaces rest else b ∷ rest) h)) (omega arith)
skipped_to (x ∷ text) b rest h = go (x == 32) (skipped_to text b rest h)
  where
    go : (t : Bool) → suc (length rest) ≤ length (without_spaces (text ++ (b ∷ rest))) → suc (length rest) ≤ length (if t then without_spaces (text ++ (b ∷ rest)) else x ∷ (text ++ (b ∷ rest)))
    go true l = l
    go false l = omega (arith, length-append text (b ∷ rest))

-- there are no more arguments than bytes
how_many_fit : {depth : ℕ} {text : List ℕ} {arguments : WrittenArguments} → WritesArguments depth text arguments → (rest : List ℕ) → how_many arguments ≤ length (without_spaces (text ++ (41 ∷ rest)))
how_many_fit (writes_last {text = text} spaced) rest = omega (arith, skipped_to text 41 rest refl)
how_many_fit (writes_further {text = text} {further = further} {others = arguments} spaced others) rest =
    subst (λ t. suc (how_many arguments) ≤ length (without_spaces t)) (sym (append_assoc text (44 ∷ further) (41 ∷ rest)))
    (omega (arith, how_many_fit others rest, skipped_shorter (further ++ (41 ∷ rest)), skipped_to text 44 (further ++ (41 ∷ rest)) refl))

-- ---- arguments and calls

-- skipped once, skipped twice
skipped_twice : (text : List ℕ) → without_spaces (without_spaces text) ≡ without_spaces text
skipped_twice [] = refl
skipped_twice (x ∷ text) = go (x == 32) refl (skipped_twice text)
  where
    go : (t : Bool) → (x == 32) ≡ t → without_spaces (without_spaces text) ≡ without_spaces text → without_spaces (if t then without_spaces text else x ∷ text) ≡ (if t then without_spaces text else x ∷ text)
    go true e h = h
    go false e h = ap (λ t. if t then without_spaces text else x ∷ text) e

-- arguments are cut behind spaces
pub arguments_skip : (nested : List ℕ → Cut WrittenCall) (n : ℕ) (text : List ℕ) → cut_arguments nested n (without_spaces text) ≡ cut_arguments nested n text
arguments_skip nested zero text = refl
arguments_skip nested (suc n) text = ap (λ t. option_and_then (λ c. after_argument (λ rest. cut_arguments nested n rest) c.0 (without_spaces c.1)) (cut_argument nested t)) (skipped_twice text)

-- where arguments are cut, so is what stands inside the parentheses
parentheses_hold : (nested : List ℕ → Cut WrittenCall) (text : List ℕ) (arguments : WrittenArguments) (rest : List ℕ) → BeginsArgument (without_spaces text) → cut_arguments nested (length (without_spaces text)) text ≡ Some (arguments, rest) → cut_parentheses nested (without_spaces text) ≡ Some (arguments, rest)
parentheses_hold nested text arguments rest begins h = go (without_spaces text) begins.whole (arguments_skip nested (length (without_spaces text)) text ∙ h)
  where
    go : (t : List ℕ) → t ≡ begins.first ∷ begins.others → cut_arguments nested (length t) t ≡ Some (arguments, rest) → cut_parentheses nested t ≡ Some (arguments, rest)
    go t e cut =
        ap (cut_parentheses nested) e
        ∙ (ap (λ (x : Bool). elim x as (λ _. Cut WrittenArguments) [ true ↦ Some (NoneWritten, begins.others) | false ↦ cut_arguments nested (length (begins.first ∷ begins.others)) (begins.first ∷ begins.others) ]) begins.no_end
        ∙ (ap (λ u. cut_arguments nested (length u) u) (sym e)
        ∙ cut))

-- what stands behind a front and one more byte
behind_byte : (front : List ℕ) (b : ℕ) (rest : List ℕ) → drop (suc (length front)) (front ++ (b ∷ rest)) ≡ rest
behind_byte [] b rest = refl
behind_byte (x ∷ front) b rest = behind_byte front b rest

-- what is cut of a text of which that many bytes are a name
abbrev call_at : ℕ → List ℕ → ℕ → Cut WrittenCall
call_at depth text k =
    elim (not (k == 0) && slice_index (drop k text) 0 == 40) [
      | true ↦ option_map (λ c. (WrittenAs (take k text) c.0, c.1)) (cut_parentheses (λ rest. cut_call depth rest) (without_spaces (drop (suc k) text)))
      | false ↦ None
    ]

-- a name and `(`
call_opens : (depth b : ℕ) (name : List ℕ) → ConsistsOf in_function_name (b ∷ name) → (rest : List ℕ) → cut_call (suc depth) ((b ∷ name) ++ (40 ∷ rest)) ≡ option_map (λ c. (WrittenAs (b ∷ name) c.0, c.1)) (cut_parentheses (λ r. cut_call depth r) (without_spaces rest))
call_opens depth b name bytes rest =
    ap (call_at depth text) (front_ends in_function_name bytes (40 ∷ rest) refl)
    ∙ (ap (λ (t : Bool). elim t as (λ _. Cut WrittenCall) [ true ↦ cut (take (length (b ∷ name)) text) (drop (suc (length (b ∷ name))) text) | false ↦ None ]) (and_from (not (suc (length name) == 0)) (slice_index (drop (length (b ∷ name)) text) 0 == 40) (ap not (ne_eqb (suc (length name)) 0 (λ e. absurd (omega (arith, e))))) (ap (λ t. slice_index t 0 == 40) (drop-append_seam (b ∷ name) (40 ∷ rest))))
    ∙ ap₂ cut (take-append_seam (b ∷ name) (40 ∷ rest)) (behind_byte (b ∷ name) 40 rest))
  where
    text : List ℕ
    text = (b ∷ name) ++ (40 ∷ rest)

    cut : List ℕ → List ℕ → Cut WrittenCall
    cut front back = option_map (λ c. (WrittenAs front c.0, c.1)) (cut_parentheses (λ r. cut_call depth r) (without_spaces back))

-- a call in front of a rest
pub call_whole : (name inside rest : List ℕ) → (name ++ (40 ∷ (inside ++ codes ")"))) ++ rest ≡ name ++ (40 ∷ (inside ++ (41 ∷ rest)))
call_whole name inside rest = append_assoc name (40 ∷ (inside ++ codes ")")) rest ∙ ap (λ t. name ++ (40 ∷ t)) (append_assoc inside (codes ")") rest)

-- a call that is cut is cut as an argument
nested_argument : {depth : ℕ} {text : List ℕ} {c : WrittenCall} → WritesCall depth text c → (nested : List ℕ → Cut WrittenCall) (rest : List ℕ) → nested (text ++ rest) ≡ Some (c, rest) → cut_argument nested (text ++ rest) ≡ Some (WrittenNested c, rest)
nested_argument (writes_call {b = b} {name = name} {inside = inside} bytes within) nested rest h =
    ap (cut_argument nested) (call_whole (b ∷ name) inside rest)
    ∙ (name_first nested b (name ++ more) (first_in_name bytes)
    ∙ (word_split nested bytes more refl
    ∙ ap (option_map (λ c. followed_by c.1 (WrittenNested c.0))) (ap nested (sym (call_whole (b ∷ name) inside rest)) ∙ h)))
  where
    more : List ℕ
    more = 40 ∷ (inside ++ (41 ∷ rest))

-- behind an argument may stand spaces
behind_ends : {behind rest : List ℕ} → ConsistsOf is_space behind → EndsArgument rest → EndsArgument (behind ++ rest)
behind_ends no_byte_is_left ends = ends
behind_ends {rest = rest} (and_byte {b = b} {text = behind} h further) ends = subst (λ x. EndsArgument (x ∷ (behind ++ rest))) (sym (eqb-true b 32 h)) ends_by_space

-- a number is cut in front of an argument's end
number_cut : (nested : List ℕ → Cut WrittenCall) {text rest : List ℕ} {z : ℤ} → WritesNumber text z → EndsArgument rest → cut_argument nested (text ++ rest) ≡ Some (WrittenInteger z, rest)
number_cut nested {rest = rest} (from_zero_on whole small) ends =
    number_first nested whole rest
    ∙ (word_ends nested (digits_in_name (whole_digits whole)) ends
    ∙ ap (option_map (followed_by rest)) (number_word whole small))
number_cut nested (from_zero_down whole small) ends = negative_ends whole small ends

-- an argument and what stands behind it, with room for as many arguments as there are
one_cut : (depth : ℕ) (argument : WrittenArgument) (n : ℕ) (text tail : List ℕ) (others : WrittenArguments) (rest : List ℕ) → suc (how_many others) ≤ n → ((r : List ℕ) × (cut_argument (λ t. cut_call depth t) (without_spaces (text ++ tail)) ≡ Some (argument, r)) × (without_spaces r ≡ tail)) → ((m : ℕ) → how_many others ≤ m → after_argument (λ t. cut_arguments (λ u. cut_call depth u) m t) argument tail ≡ Some (AndWritten argument others, rest)) → cut_arguments (λ t. cut_call depth t) n (text ++ tail) ≡ Some (AndWritten argument others, rest)
one_cut depth argument zero text tail others rest l s further = absurd (omega arith)
one_cut depth argument (suc m) text tail others rest l s further =
    ap (option_and_then (λ c. after_argument (λ t. cut_arguments (λ u. cut_call depth u) m t) c.0 (without_spaces c.1))) s.1
    ∙ (ap (after_argument (λ t. cut_arguments (λ u. cut_call depth u) m t) argument) s.2
    ∙ further m (omega arith))

mutual
  -- a written call is cut off a text
  pub call_read : {depth : ℕ} {text : List ℕ} {c : WrittenCall} → WritesCall depth text c → (rest : List ℕ) → cut_call depth (text ++ rest) ≡ Some (c, rest)
  call_read (writes_call {depth = depth} {b = b} {name = name} {inside = inside} bytes within) rest =
      ap (cut_call (suc depth)) (call_whole (b ∷ name) inside rest)
      ∙ (call_opens depth b name bytes (inside ++ (41 ∷ rest))
      ∙ ap (option_map (λ c. (WrittenAs (b ∷ name) c.0, c.1))) (inside_read within rest))

  -- so is what stands inside its parentheses
  inside_read : {depth : ℕ} {text : List ℕ} {arguments : WrittenArguments} → WritesInside depth text arguments → (rest : List ℕ) → cut_parentheses (λ r. cut_call depth r) (without_spaces (text ++ (41 ∷ rest))) ≡ Some (arguments, rest)
  inside_read (writes_none {depth = depth} spaces) rest = ap (cut_parentheses (λ r. cut_call depth r)) (spaces_skipped spaces (41 ∷ rest))
  inside_read (writes_some {depth = depth} {text = text} {arguments = arguments} some) rest =
      parentheses_hold (λ r. cut_call depth r) (text ++ (41 ∷ rest)) arguments rest (arguments_begin some (41 ∷ rest)) (arguments_read some rest (length (without_spaces (text ++ (41 ∷ rest)))) (how_many_fit some rest))

  -- so are its arguments, with room for them
  arguments_read : {depth : ℕ} {text : List ℕ} {arguments : WrittenArguments} → WritesArguments depth text arguments → (rest : List ℕ) (n : ℕ) → how_many arguments ≤ n → cut_arguments (λ r. cut_call depth r) n (text ++ (41 ∷ rest)) ≡ Some (arguments, rest)
  arguments_read (writes_last {depth = depth} {text = text} {argument = argument} spaced) rest n l =
      one_cut depth argument n text (41 ∷ rest) NoneWritten rest l (spaced_read spaced (41 ∷ rest) ends_by_parenthesis refl) (λ m k. refl)
  arguments_read (writes_further {depth = depth} {text = text} {further = further} {argument = argument} {others = others} spaced some) rest n l =
      ap (cut_arguments (λ r. cut_call depth r) n) (append_assoc text (44 ∷ further) (41 ∷ rest))
      ∙ one_cut depth argument n text (44 ∷ (further ++ (41 ∷ rest))) others rest l (spaced_read spaced (44 ∷ (further ++ (41 ∷ rest))) ends_by_comma refl) (λ m k. ap (option_map (λ c. (AndWritten argument c.0, c.1))) (arguments_read some rest m k))

  -- so is an argument with spaces round it
  spaced_read : {depth : ℕ} {text : List ℕ} {argument : WrittenArgument} → WritesSpaced depth text argument → (rest : List ℕ) → EndsArgument rest → without_spaces rest ≡ rest → (r : List ℕ) × (cut_argument (λ t. cut_call depth t) (without_spaces (text ++ rest)) ≡ Some (argument, r)) × (without_spaces r ≡ rest)
  spaced_read (writes_spaced {depth = depth} {behind = behind} before written after) rest ends still = (
    behind ++ rest,
    ap (cut_argument (λ t. cut_call depth t)) (spaced_skipped before (argument_begins written) behind rest) ∙ argument_read written (behind ++ rest) (behind_ends after ends),
    spaces_skipped after rest ∙ still,
  )

  -- so is an argument
  argument_read : {depth : ℕ} {text : List ℕ} {argument : WrittenArgument} → WritesArgument depth text argument → (rest : List ℕ) → EndsArgument rest → cut_argument (λ t. cut_call depth t) (text ++ rest) ≡ Some (argument, rest)
  argument_read (writes_null {depth = depth}) rest ends = word_ends (λ t. cut_call depth t) {front = codes "null"} (and_byte refl (and_byte refl (and_byte refl (and_byte refl no_byte_is_left)))) ends
  argument_read (writes_true {depth = depth}) rest ends = word_ends (λ t. cut_call depth t) {front = codes "true"} (and_byte refl (and_byte refl (and_byte refl (and_byte refl no_byte_is_left)))) ends
  argument_read (writes_false {depth = depth}) rest ends = word_ends (λ t. cut_call depth t) {front = codes "false"} (and_byte refl (and_byte refl (and_byte refl (and_byte refl (and_byte refl no_byte_is_left))))) ends
  argument_read (writes_number {depth = depth} number) rest ends = number_cut (λ t. cut_call depth t) number ends
  argument_read (writes_text {inside = inside} {pieces = pieces} written) rest ends =
      ap (λ t. option_map (λ c. followed_by c.1 (WrittenText c.0)) (cut_pieces t)) (append_assoc inside (codes "'") rest)
      ∙ ap (option_map (λ c. followed_by c.1 (WrittenText c.0))) (pieces_read written rest)
  argument_read (writes_path goes) rest ends = path_read goes ends
  argument_read (writes_nested {depth = depth} call) rest ends = nested_argument call (λ t. cut_call depth t) rest (call_read call rest)
