-- The rows of a table of states are these states, in their order.
use Rattle.std.proofs.Common.{◌≡◌, refl, ap, ◌∙◌, ℕ, zero, suc, length, List, [], ◌∷◌, ◌++◌, slice_get, Option, Some, None, option_map}
use Rattle.std.proofs.lemmas.List.{length-map}
use Rattle.std.proofs.lemmas.Option.{slice_get-map}
use Rattle.asl_model.specs.Numbering.{Standing, table_among, placement_of}
use Rattle.asl_model.specs.Finding.{Breach, Finding}
use Rattle.asl_check.specs.Rules.{Row, row_of, row_at, found_in, found_from, found_in_all}

-- what is found of each of the states
abbrev pub found_of_each : (Standing → List Finding) → List Standing → List Finding
found_of_each found [] = []
found_of_each found (s ∷ states) = found s ++ found_of_each found states

-- the row of a state among those
abbrev pub row_among : List Standing → Standing → Row
row_among states s = record { name = s.name; state = s.state; placement = placement_of states s }

-- the numbers after the first are those of the rest
from-next : (found : ℕ → List Finding) (left i : ℕ) → found_from found left (suc i) ≡ found_from (λ j. found (suc j)) left i
from-next found zero i = refl
from-next found (suc left) i = ap (λ rest. found (suc i) ++ rest) (from-next found left (suc i))

-- what is found is the same where it is the same of each number
from-same : (f g : ℕ → List Finding) → ((i : ℕ) → f i ≡ g i) → (left i : ℕ) → found_from f left i ≡ found_from g left i
from-same f g same zero i = refl
from-same f g same (suc left) i = ap (λ here. here ++ found_from f left (suc i)) (same i) ∙ ap (λ rest. g i ++ rest) (from-same f g same left (suc i))

-- number by number, or state by state
of-numbers : (found : Option Standing → List Finding) (states : List Standing) → found_from (λ i. found (slice_get states i)) (length states) 0 ≡ found_of_each (λ s. found (Some s)) states
of-numbers found [] = refl
of-numbers found (s ∷ states) = ap (λ rest. found (Some s) ++ rest) (from-next (λ i. found (slice_get (s ∷ states) i)) (length states) 0 ∙ of-numbers found states)

-- the row of a number is that of its state
three : (states : List Standing) (o : Option Standing) → row_of (option_map (λ (s : Standing). s.name) o) (option_map (λ (s : Standing). s.state) o) (option_map (placement_of states) o) ≡ option_map (row_among states) o
three states None = refl
three states (Some s) = refl

row-is : (states : List Standing) (i : ℕ) → row_at (table_among states) i ≡ option_map (row_among states) (slice_get states i)
row-is states i = rw (slice_get-map (λ (s : Standing). s.name) states i, slice_get-map (λ (s : Standing). s.state) states i, slice_get-map (placement_of states) states i) (three states (slice_get states i))

-- what rules find in a table of states, they find of these states
pub found-in-table : (rules : Row → List Breach) (states : List Standing) → found_in_all rules (table_among states) ≡ found_of_each (λ s. found_in rules (Some (row_among states s))) states
found-in-table rules states =
    ap (λ n. found_from (λ i. found_in rules (row_at (table_among states) i)) n 0) (length-map states (λ (s : Standing). s.state))
    ∙ (from-same (λ i. found_in rules (row_at (table_among states) i)) (λ i. found_in rules (option_map (row_among states) (slice_get states i))) (λ i. ap (found_in rules) (row-is states i)) (length states) 0
    ∙ of-numbers (λ o. found_in rules (option_map (row_among states) o)) states)
