-- Names of states by their numbers.
use Rattle.std.proofs.Common.{◌≡◌, refl, sym, ap, ◌∙◌, ℕ, zero, suc, ◌<◌, length, List, [], ◌∷◌, slice_get, Option, Some, None, arith}
use Rattle.std.specs.Option.{unwrap_or}
use Rattle.std.proofs.lemmas.List.{length-append}
use Rattle.asl_model.proofs.RunOptions.{some_inj, none_some}
use Rattle.asl_run.specs.Standing.{no_name, name_in}

-- each name is shorter than that which is none of them
shorter : (names : List (List ℕ)) (i : ℕ) (n : List ℕ) → slice_get names i ≡ Some n → length n < length (no_name names)
shorter [] i n e = none_some e
shorter (m ∷ names) zero n e = let same : m ≡ n = some_inj e in omega (arith, ap length same, length-append m (no_name names))
shorter (m ∷ names) (suc i) n e = omega (arith, shorter names i n e, length-append m (no_name names))

-- a number whose name is that of a state is a state's
pub stands_at : (names : List (List ℕ)) (i number : ℕ) → slice_get names number ≡ Some (name_in names i) → slice_get names i ≡ Some (name_in names i)
stands_at names i number e = by (slice_get names i) refl
  where
    by : (o : Option (List ℕ)) → slice_get names i ≡ o → slice_get names i ≡ Some (name_in names i)
    by (Some n) f = f ∙ ap Some (sym (ap (λ p. unwrap_or p (no_name names)) f))
    by None f = let less : length (no_name names) < length (no_name names) = shorter names number (no_name names) (e ∙ ap (λ p. Some (unwrap_or p (no_name names))) f) in absurd (omega arith)
