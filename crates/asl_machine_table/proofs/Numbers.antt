-- The number of a name in a machine's table.
use Rattle.std.proofs.Common.{◌≡◌, refl, sym, ap, ◌∙◌, cond, ℕ, zero, suc, ◌+◌, length, List, [], ◌∷◌, Bool, true, false, not, bytes_eq, nat_lt, lt-ltb, position, slice_get, Some, None, arith}
use Rattle.std.specs.List.{position_or_len}
use Rattle.std.proofs.lemmas.Bool.{and_parts}
use Rattle.std.proofs.lemmas.Option.{slice_get_within}
use Rattle.std.proofs.lemmas.Slice.Eq.{bytes_eq-Decides}
use Rattle.asl_model.specs.Machine.{Scope}
use Rattle.asl_model.specs.Numbering.{Table, standing}
use Rattle.asl_model.specs.ShapeSpelling.{are_distinct, is_among}
use Rattle.asl_model.proofs.Numbering.{names_of_standing, outlined_names}
use Rattle.asl_model.proofs.NumberedRows.{one_number}
use Rattle.asl_model.proofs.RunOptions.{some_inj, none_some}
use Rattle.asl_machine_table.specs.Held.{Held}
use Rattle.asl_machine_table.specs.Table.{Shows}

-- where no name stands twice, as many stand in front of the first of that name as in front of this one
in_front : (names : List (List ℕ)) (i : ℕ) (n : List ℕ) → are_distinct names ≡ true → slice_get names i ≡ Some n → position_or_len (bytes_eq n) names ≡ i
in_front [] i n distinct e = none_some e
in_front (m ∷ names) zero n distinct e = ap (λ b. cond (not b) (1 + position_or_len (bytes_eq n) names) 0) ((bytes_eq-Decides n m).1 (sym (some_inj e)))
in_front (m ∷ names) (suc i) n distinct e = by (bytes_eq n m) refl (in_front names i n (and_parts (not (is_among m names)) (are_distinct names) distinct).1 e)
  where
    by : (b : Bool) → bytes_eq n m ≡ b → position_or_len (bytes_eq n) names ≡ i → position_or_len (bytes_eq n) (m ∷ names) ≡ suc i
    by true f behind = absurd (let twice : 0 ≡ suc i = one_number (m ∷ names) 0 (suc i) n distinct (ap Some (sym ((bytes_eq-Decides n m).0 f))) e in omega (arith, twice))
    by false f behind = ap (λ b. cond (not b) (1 + position_or_len (bytes_eq n) names) 0) f ∙ (ap (λ k. 1 + k) behind ∙ omega arith)

-- a name that stands at a number in the table of a machine has that number
pub number_at : (m : Held) (machine : Scope) → Shows m machine → (i : ℕ) (n : List ℕ) → slice_get m.names i ≡ Some n → Some i ≡ position (bytes_eq n) m.names
number_at m machine shown i n e = sym (
    ap (λ k. cond (nat_lt k (length m.names)) (Some k) None) (in_front m.names i n distinct e)
    ∙ ap (λ b. cond b (Some i) None) (lt-ltb i (length m.names) (slice_get_within m.names i n e))
    )
  where
    distinct : are_distinct m.names ≡ true
    distinct = ap (λ (t : Table). are_distinct t.names) shown.table ∙ ap are_distinct (outlined_names (standing machine) ∙ names_of_standing None machine) ∙ shown.well_named.distinct
