-- Texts as they stand in a line, and what is told of coverage.
use Rattle.std.specs.Prelude.{ℕ, ◌-◌, List, [], ◌∷◌, ◌++◌, length, ◌==◌, ◌&&◌, ◌||◌, Bool, false, Option, Some, None, String, codes, encode_utf8, if◌then◌else◌, nat_le, nat_lt, replicate, string_bytes}
use Rattle.std.specs.Fmt.{digits}
use Rattle.std.specs.List.{flat_map}
use Rattle.std.specs.Option.{unwrap_or}
use Rattle.std.specs.Str.{chars}
use Rattle.std.specs.declared.alloc.Global.{Global}
use Rattle.asl_model.specs.Names.{Bytes}
use Rattle.asl_model.specs.Printed.{line_break}

-- a control character (U+0000 to U+001F, U+007F to U+009F), or one that separates lines or paragraphs (U+2028, U+2029)
abbrev pub needs_escape : ℕ → Bool
needs_escape c = nat_lt c 32 || ((nat_le 127 c && nat_le c 159) || ((c == 8232) || (c == 8233)))

-- the short escape of a line feed, a carriage return or a tab
unfoldable pub short_escape : ℕ → Option Bytes
short_escape c =
    if c == 10 then Some (codes "\\n") else
    (if c == 13 then Some (codes "\\r") else
    (if c == 9 then Some (codes "\\t") else None))

-- a number in hexadecimal, with zeros in front where it has less than four digits
abbrev pub four_digits : ℕ → Bytes
four_digits n = replicate (4 - length (digits 16 false n)) 48 ++ digits 16 false n

-- a character, or `\u` and its number where it needs an escape
unfoldable pub long_escape : ℕ → Bytes
long_escape c = if needs_escape c then codes "\\u" ++ four_digits c else encode_utf8 c

-- a character as it stands in a line: by its short escape where it has one
abbrev pub line_char : ℕ → Bytes
line_char c = unwrap_or (short_escape c) (long_escape c)

-- a text with each character so: it stays in its line
abbrev pub in_line : Bytes → Bytes
in_line text = flat_map line_char (chars text)

-- ---- coverage

-- `not covered: LINE`
abbrev pub lacking_line : String Global → Bytes
lacking_line line = codes "not covered: " ++ (in_line (string_bytes line) ++ line_break)

-- a line for each thing that isn't covered, or one line where there is none
abbrev pub coverage_text : List (String Global) → Bytes
coverage_text [] = codes "everything is covered\n"
coverage_text (line ∷ lines) = flat_map lacking_line (line ∷ lines)
