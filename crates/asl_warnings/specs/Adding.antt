-- What is added to marks. No public clause cites this module.
use Rattle.std.specs.Prelude.{◌≡◌, ◌<◌, ◌⊎◌, ℕ, List, length, Bool, true, Some, slice_get, Contains}
use Rattle.asl_warnings.specs.Marks.{mark_at}
use Rattle.asl_warnings.specs.declared.marks.Marks.{Marks}

-- the state of that number is marked
abbrev pub is_marked : Marks → ℕ → Bool
is_marked marks number = mark_at marks.marks.items number

-- those of these numbers that are states are marked, too, and no others
pub record Adds (before after : Marks) (numbers : List ℕ) : Type 0 where
  pub many : length after.marks.items ≡ length before.marks.items
  pub keeps : (number : ℕ) → is_marked before number ≡ true → is_marked after number ≡ true
  pub begins : (place number : ℕ) → slice_get before.order.items place ≡ Some number
      → slice_get after.order.items place ≡ Some number
  pub marks : (number : ℕ) → Contains numbers number → number < length before.marks.items
      → is_marked after number ≡ true
  pub only : (number : ℕ) → is_marked after number ≡ true
      → (is_marked before number ≡ true) ⊎ Contains numbers number
