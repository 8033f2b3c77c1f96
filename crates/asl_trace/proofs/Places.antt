-- The tokens of a place, written one after another.
use Rattle.std.proofs.Common.{◌≡◌, ◌≤◌, ℕ, List, [], ◌∷◌, ◌++◌, length, drop, sym, ap, ◌∙◌}
use Rattle.std.proofs.lemmas.List.{drop_all}
use Rattle.json.specs.Token.{Token, end_array}
use Rattle.json.specs.Tree.{items_tokens}
use Rattle.serde_json.specs.Written.{items_outline}
use Rattle.asl_model.specs.Json.{items_of}
use Rattle.asl_model.specs.TracePrinted.{numbers}

-- the tokens of these numbers, with the end of the list
abbrev pub number_tokens : List ℕ → List Token
number_tokens ns = items_tokens (items_outline (items_of (numbers ns)))

pub numbers_written : (place : List ℕ) (i : ℕ) (so_far whole : List Token) → length place ≤ i → so_far ++ number_tokens (drop i place) ≡ whole → so_far ++ end_array ∷ [] ≡ whole
numbers_written place i so_far whole end to_come = ap (λ ns. so_far ++ number_tokens ns) (sym (drop_all i place end)) ∙ to_come
