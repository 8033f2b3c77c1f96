-- Names of states by their numbers.
use Rattle.std.specs.Prelude.{ℕ, List, [], ◌∷◌, ◌++◌, slice_get}
use Rattle.std.specs.Option.{unwrap_or}

-- a text that is longer than each of these names, so none of them
abbrev pub no_name : List (List ℕ) → List ℕ
no_name [] = []
no_name (n ∷ names) = 0 ∷ (n ++ no_name names)

-- the name of the state of that number; where there is none, a text that is no state's name
abbrev pub name_in : List (List ℕ) → ℕ → List ℕ
name_in names i = unwrap_or (slice_get names i) (no_name names)
