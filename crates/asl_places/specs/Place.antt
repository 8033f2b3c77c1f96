-- Lines and columns, counted from 1.
use Rattle.std.specs.Prelude.{◌≡◌, ℕ, ◌+◌, ◌*◌, ◌/◌, ◌==◌, ◌&&◌, List, length, Bool, Some, count_by, nat_le, nat_lt, not, slice_get, take}
use Rattle.std.specs.List.{after_last}
use Rattle.asl_places.specs.declared.place.Place.{Place}

-- the byte ends a line
abbrev pub is_break : ℕ → Bool
is_break byte = byte == 10

-- the byte begins a character in UTF-8: it continues none (RFC 3629)
abbrev pub begins_character : ℕ → Bool
begins_character byte = not (nat_le 128 byte && nat_lt byte 192)

-- the line of what stands behind the bytes: one more than the breaks among them
abbrev pub line_behind : List ℕ → ℕ
line_behind bytes = 1 + count_by is_break bytes

-- its column: one more than the characters that begin behind the last break
abbrev pub column_behind : List ℕ → ℕ
column_behind bytes = 1 + count_by begins_character (after_last is_break bytes)

-- ---- for private clauses

-- the place of the byte at that offset
pub record IsPlaceAt (bytes : List ℕ) (offset : ℕ) (place : Place) : Type 0 where
  pub line : place.line ≡ line_behind (take offset bytes)
  pub column : place.column ≡ column_behind (take offset bytes)

-- each is the place of the byte at its multiple of 1024
abbrev pub AreMarked : List ℕ → List Place → Type 0
AreMarked bytes marks = (number : ℕ) (place : Place) → slice_get marks number ≡ Some place → IsPlaceAt bytes (number * 1024) place

-- the places of the bytes at the multiples of 1024
pub record AreMarks (bytes : List ℕ) (marks : List Place) : Type 0 where
  pub many : length marks ≡ 1 + length bytes / 1024
  pub marked : AreMarked bytes marks
