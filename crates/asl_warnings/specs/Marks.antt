-- Marks on states. No public clause cites this module.
use Rattle.std.specs.Prelude.{◌≡◌, ◌||◌, ℕ, suc, List, [], ◌∷◌, length, Bool, true, false, Some, slice_get, unwrap_or, nat_eq, if◌then◌else◌}

-- the mark of that number, if there is one
abbrev pub mark_at : List Bool → ℕ → Bool
mark_at marks number = unwrap_or (slice_get marks number) false

-- how many are marked
abbrev pub marked_in : List Bool → ℕ
marked_in [] = 0
marked_in (mark ∷ marks) = if mark then suc (marked_in marks) else marked_in marks

-- the number stands in the order
abbrev pub stands_in : ℕ → List ℕ → Bool
stands_in number [] = false
stands_in number (other ∷ others) = nat_eq other number || stands_in number others

-- the numbers are those that are marked, each once
pub record AreListed (marks : List Bool) (order : List ℕ) : Type 0 where
  pub each_stands : (number : ℕ) → mark_at marks number ≡ true → stands_in number order ≡ true
  pub each_marked : (place number : ℕ) → slice_get order place ≡ Some number → mark_at marks number ≡ true
  pub many : length order ≡ marked_in marks
