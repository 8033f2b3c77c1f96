-- Texts that are one byte, again and again.
use Rattle.std.specs.Prelude.{◌≡◌, ℕ, List, length, replicate}

-- each byte of the text is that one
abbrev pub Repeats : ℕ → List ℕ → Type 0
Repeats byte text = text ≡ replicate (length text) byte
