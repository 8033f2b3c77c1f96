-- How reference paths are spelled and printed (States Language, "Reference Paths"), on the bytes of a text.
-- A path is `$` and then segments: `.name`, `['name']`, `["name"]`, `[n]`. The profile chooses which names stand
-- behind a dot, that quoted names have no escapes, and how a text that spells no path is refused.
use Rattle.std.specs.Prelude.{◌≡◌, ◌+◌, ◌^◌, List, [], ◌∷◌, ◌++◌, ℕ, zero, suc, length, take, drop, slice_index}
use Rattle.std.specs.Prelude.{nat_lt, ◌==◌, Bool, true, false, ◌&&◌, ◌||◌, not, IsTrue, IsFalse, if◌then◌else◌}
use Rattle.std.specs.Prelude.{Option, Some, None, option_map, option_and_then, codes, decimal}
use Rattle.std.specs.Char.{is_ascii_digit}
use Rattle.std.specs.Str.Parse.{digits_value}
use Rattle.asl_model.specs.Path.{Segment, Name, Index}

-- the byte is one of those
abbrev pub is_one_of : List ℕ → ℕ → Bool
is_one_of [] b = false
is_one_of (x ∷ xs) b = b == x || is_one_of xs b

-- what is left of a text behind its first byte, where that is b
abbrev pub after : ℕ → List ℕ → Option (List ℕ)
after b [] = None
after b (x ∷ rest) = if x == b then Some rest else None

-- how long the longest front of a text is whose bytes all pass the test
abbrev pub front_length : (ℕ → Bool) → List ℕ → ℕ
front_length test [] = 0
front_length test (x ∷ rest) = if test x then suc (front_length test rest) else 0

-- ---- segments

-- a byte of a name behind a dot: none of . [ ] ( ) * ? @ , : ' " \ $, no space, no control character
abbrev pub in_dot_name : ℕ → Bool
in_dot_name b = nat_lt 32 b && not (b == 127) && not (is_one_of (codes ".[]()*?@,:'\"\\$") b)

-- a byte of a name between quotes: neither that quote nor a backslash
abbrev pub in_quoted_name : ℕ → ℕ → Bool
in_quoted_name quote b = not (b == quote) && not (b == 92)

-- `0`, or decimal digits without a leading zero, at most 4294967295
abbrev pub is_index : List ℕ → Bool
is_index digits =
    not (length digits == 0) && (length digits == 1 || not (slice_index digits 0 == 48))
    && nat_lt (digits_value 10 digits) (2 ^ 32)

-- the name that a text begins with, at least one byte and as long as possible, and what is behind it
abbrev pub cut_dot_name : List ℕ → Option (Segment × List ℕ)
cut_dot_name text =
    let n = front_length in_dot_name text in if n == 0 then None else Some (Name (take n text), drop n text)

-- the name up to that quote and `]`, and what is behind them
abbrev pub cut_quoted_name : ℕ → List ℕ → Option (Segment × List ℕ)
cut_quoted_name quote text =
    let n = front_length (in_quoted_name quote) text in
    option_map (λ rest. (Name (take n text), rest)) (option_and_then (after 93) (after quote (drop n text)))

-- the index up to `]`, and what is behind that
abbrev pub cut_index : List ℕ → Option (Segment × List ℕ)
cut_index text =
    let n = front_length is_ascii_digit text in
    if is_index (take n text)
    then option_map (λ rest. (Index (digits_value 10 (take n text)), rest)) (after 93 (drop n text)) else None

-- what stands behind `[`: a name in apostrophes or in quotes, or an index
abbrev pub cut_bracket : List ℕ → Option (Segment × List ℕ)
cut_bracket [] = None
cut_bracket (x ∷ rest) =
    if x == 39 then cut_quoted_name 39 rest else (if x == 34 then cut_quoted_name 34 rest else cut_index (x ∷ rest))

-- the segment that a text begins with, and what is behind it
abbrev pub cut_segment : List ℕ → Option (Segment × List ℕ)
cut_segment [] = None
cut_segment (x ∷ rest) = if x == 46 then cut_dot_name rest else (if x == 91 then cut_bracket rest else None)

-- ---- paths

-- the text begins with the segments of the path, and the rest stands behind them
abbrev pub Begins : List Segment → List ℕ → List ℕ → Type 0
Begins [] text rest = text ≡ rest
Begins (s ∷ p) text rest = (behind : List ℕ) × (cut_segment text ≡ Some (s, behind)) × Begins p behind rest

-- the text is `$` and the segments of the path
pub record Spells (text : List ℕ) (p : List Segment) : Type 0 where
  pub segments : List ℕ
  pub dollar : text ≡ 36 ∷ segments
  pub all : Begins p segments []

-- the path that a text spells; no text has more segments than bytes
abbrev pub segments_of : ℕ → List ℕ → Option (List Segment)
segments_of n [] = Some []
segments_of zero (x ∷ rest) = None
segments_of (suc n) (x ∷ rest) =
    option_and_then (λ c. option_map (λ p. c.0 ∷ p) (segments_of n c.1)) (cut_segment (x ∷ rest))

-- the path that a text spells
abbrev pub path_of : List ℕ → Option (List Segment)
path_of text = option_and_then (λ rest. segments_of (length rest) rest) (after 36 text)

-- ---- refusals

-- at byte b of the text stands its first rest that isn't empty and doesn't begin with a segment
pub record StopsAt (text : List ℕ) (b : ℕ) (rest : List ℕ) : Type 0 where
  pub segments : List ℕ
  pub before : List Segment
  pub dollar : text ≡ 36 ∷ segments
  pub front : Begins before segments rest
  pub some : IsFalse (length rest == 0)
  pub none : cut_segment rest ≡ None
  pub place : b + length rest ≡ length text

-- a byte of what the profile leaves out: * ? @ , : ( or a dot before a dot
abbrev pub has_left_out : List ℕ → Bool
has_left_out [] = false
has_left_out (x ∷ rest) = is_one_of (codes "*?@,:(") x || (x == 46 && slice_index rest 0 == 46) || has_left_out rest

-- how a text is refused: with no `$`; or at a byte, because of what is left out, or otherwise
pub data PathFault : Type 0 where
  NoDollar : PathFault
  BadSegment : ℕ → PathFault
  LeftOut : ℕ → PathFault

-- why a text spells no path, and at which of its bytes
abbrev pub IsRefusedPath : List ℕ → PathFault → Type 0
IsRefusedPath text NoDollar = after 36 text ≡ None
IsRefusedPath text (BadSegment b) = (rest : List ℕ) × StopsAt text b rest × IsFalse (has_left_out rest)
IsRefusedPath text (LeftOut b) = (rest : List ℕ) × StopsAt text b rest × IsTrue (has_left_out rest)

-- ---- printing

-- the whole text can stand behind a dot
abbrev pub is_dot_name : List ℕ → Bool
is_dot_name n = not (length n == 0) && front_length in_dot_name n == length n

-- the text has that byte
abbrev pub has_byte : ℕ → List ℕ → Bool
has_byte b [] = false
has_byte b (x ∷ rest) = x == b || has_byte b rest

-- `.name` where the name is a dot name, else `['name']` where it has no apostrophe, else `["name"]`
abbrev pub printed_segment : Segment → List ℕ
printed_segment (Name n) =
    if is_dot_name n then codes "." ++ n
    else (if has_byte 39 n then codes "[\"" ++ (n ++ codes "\"]") else codes "['" ++ (n ++ codes "']"))
printed_segment (Index i) = codes "[" ++ (decimal i ++ codes "]")

-- the printed form of each segment, in order
abbrev pub printed_segments : List Segment → List ℕ
printed_segments [] = []
printed_segments (s ∷ p) = printed_segment s ++ printed_segments p

-- the printed form of a path
abbrev pub printed_path : List Segment → List ℕ
printed_path p = codes "$" ++ printed_segments p

-- a segment that some text spells: a name without a backslash that lacks apostrophes or quotes, or an index in range
abbrev pub has_spelling : Segment → Bool
has_spelling (Name n) = not (has_byte 92 n) && (not (has_byte 39 n) || not (has_byte 34 n))
has_spelling (Index i) = nat_lt i (2 ^ 32)

-- each segment has a spelling
abbrev pub have_spellings : List Segment → Bool
have_spellings [] = true
have_spellings (s ∷ p) = has_spelling s && have_spellings p
