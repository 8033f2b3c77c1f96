-- A number that is printed with zeros in front.
use Rattle.std.proofs.Common.{◌≡◌, ℕ, ◌-◌, ◌^◌, false, List, [], ◌++◌, length, append-nil}
use Rattle.std.proofs.Math.Nat.{sub-zero}
use Rattle.std.specs.Prelude.{replicate}
use Rattle.std.specs.Fmt.{char_count, format_spec, padded_integral}

-- what `{:04x}` writes: the digits, with zeros in front up to four
pub padded_to_four : (digits : List ℕ) → padded_integral (format_spec 32 0 4 4 (2 ^ 64 - 1)) false [] digits ≡ replicate (4 - length digits) 48 ++ digits
unfolding padded_integral char_count
padded_to_four digits = simp (sub-zero, append-nil)
