-- What stands in a field of a definition, found by a walk over the fields, is what the look-up of the field gives.
use Rattle.std.proofs.Common.{◌≡◌, ℕ, List, Bool, true, false, Some, option_map, unwrap_or, bytes_eq, refl, sym, ap, ◌∙◌, is_eq, Ordering, Less, Equal, Greater}
use Rattle.std.specs.Ordering.{nat_cmp, match_ordering}
use Rattle.std.specs.Cmp.Lexicographic.{slice_cmp}
use Rattle.std.proofs.lemmas.Map.Text.{is_eq-slice_cmp}
use Rattle.serde_json.specs.Data as json
use Rattle.serde_json.specs.Data.{Data, Members}
use Rattle.serde_json.specs.Find.{get_member}
use Rattle.asl_model.specs.Machine.{NoStates}
use Rattle.asl_model.specs.StandsFor.{states_under, states_in}

found : {A : Type 0} (o : Ordering) (here further : A) → match_ordering o further here further ≡ (elim (is_eq o) [ true ↦ here | false ↦ further ])
found Less here further = refl
found Equal here further = refl
found Greater here further = refl

-- the look-up finds the first member of that name, or what it finds in the others
pub first_member : (field n : List ℕ) (v : Data) (ms : Members) → get_member field (json.member n v ms) ≡ (elim (bytes_eq field n) [ true ↦ Some v | false ↦ get_member field ms ])
first_member field n v ms = found (slice_cmp nat_cmp field n) (Some v) (get_member field ms) ∙ ap (λ here. elim here [ true ↦ Some v | false ↦ get_member field ms ]) (is_eq-slice_cmp field n)

-- the step of each: the value of the first field of that name, or what stands in the others
step : {A : Type 0} (f : Data → A) (d : A) (field n : List ℕ) (v : Data) (ms : Members) (rest : A) → rest ≡ unwrap_or (option_map f (get_member field ms)) d → (elim (bytes_eq field n) [ true ↦ f v | false ↦ rest ]) ≡ unwrap_or (option_map f (get_member field (json.member n v ms))) d
step f d field n v ms rest e = by (bytes_eq field n) ∙ ap (λ o. unwrap_or (option_map f o) d) (sym (first_member field n v ms))
  where
    by : (here : Bool) → (elim here [ true ↦ f v | false ↦ rest ]) ≡ unwrap_or (option_map f (elim here [ true ↦ Some v | false ↦ get_member field ms ])) d
    by true = refl
    by false = e

pub states_under-get_member : (field : List ℕ) (ms : Members) → states_under field ms ≡ unwrap_or (option_map states_in (get_member field ms)) NoStates
states_under-get_member field json.no_members = refl
states_under-get_member field (json.member n v ms) = step states_in NoStates field n v ms (states_under field ms) (states_under-get_member field ms)
