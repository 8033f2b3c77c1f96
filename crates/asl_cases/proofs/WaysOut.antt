-- How a Choice is left: the first of its rules that isn't false decides.
use Rattle.std.proofs.Common.{◌≡◌, ◌⊎◌, ℕ, zero, suc, Bool, true, false, not, ◌&&◌, List, [], ◌∷◌, take, refl, sym, ap, ◌∙◌, arith, inl, inr, Option, Some, None}
use Rattle.std.specs.Prelude.{nat_eq, slice_get}
use Rattle.std.specs.Option.{option_map_or}
use Rattle.std.proofs.lemmas.Bool.{and_parts, and_right, cases_eq, eq-eqb, ne_eqb, false≢true}
use Rattle.std.proofs.lemmas.Option.{none-some, same_Some}
use Rattle.asl_model.specs.Test.{Rule, truth}
use Rattle.asl_model.specs.Tree.{Tree}
use Rattle.asl_cases.specs.Coverage.{are_false, has_truth, is_first_true}

-- ---- one rule

pub true_rule : (input : Tree) (rule : Rule) → truth rule.test input ≡ Some true → (has_truth true input rule ≡ true) × (has_truth false input rule ≡ false)
true_rule input rule h = (ap (λ t. option_map_or (λ b. b) t false) h, ap (λ t. option_map_or (λ b. not b) t false) h)

pub false_rule : (input : Tree) (rule : Rule) → truth rule.test input ≡ Some false → (has_truth true input rule ≡ false) × (has_truth false input rule ≡ true)
false_rule input rule h = (ap (λ t. option_map_or (λ b. b) t false) h, ap (λ t. option_map_or (λ b. not b) t false) h)

pub open_rule : (input : Tree) (rule : Rule) → truth rule.test input ≡ None → (has_truth true input rule ≡ false) × (has_truth false input rule ≡ false)
open_rule input rule h = (ap (λ t. option_map_or (λ b. b) t false) h, ap (λ t. option_map_or (λ b. not b) t false) h)

-- a rule that is false isn't true
not_both : (t : Option Bool) → option_map_or (λ b. not b) t false ≡ true → option_map_or (λ b. b) t false ≡ false
not_both None h = refl
not_both (Some true) h = absurd (false≢true h)
not_both (Some false) h = refl

isnt_true : (input : Tree) (rule : Rule) → has_truth false input rule ≡ true → has_truth true input rule ≡ false
isnt_true input rule h = not_both (truth rule.test input) h

-- ---- numbers

same_suc : (m i : ℕ) → (m ≡ i) ⊎ (m ≡ i → ⊥) → nat_eq (suc m) (suc i) ≡ nat_eq m i
same_suc m i (inl e) = eq-eqb (suc m) (suc i) (ap suc e) ∙ sym (eq-eqb m i e)
same_suc m i (inr ne) = ne_eqb (suc m) (suc i) (λ e. ne (omega arith)) ∙ sym (ne_eqb m i ne)

-- ---- all rules

-- behind a rule that is false
further : (input : Tree) (rule : Rule) (rules : List Rule) (i : ℕ) → has_truth false input rule ≡ true → is_first_true (rule ∷ rules) (suc i) input ≡ is_first_true rules i input
further input rule rules i h =
    ap (λ b. option_map_or (has_truth true input) (slice_get rules i) false && (b && are_false (take i rules) input)) h

-- behind one that isn't
never_further : (input : Tree) (rule : Rule) (rules : List Rule) (i : ℕ) → has_truth false input rule ≡ false → is_first_true (rule ∷ rules) (suc i) input ≡ false
never_further input rule rules i h =
    and_right (option_map_or (has_truth true input) (slice_get rules i) false) (has_truth false input rule && are_false (take i rules) input)
    (ap (λ b. b && are_false (take i rules) input) h)

-- the rule of number m is true, those before it are false
pub first_is : (input : Tree) (rules : List Rule) (m i : ℕ) (rule : Rule) → are_false (take m rules) input ≡ true → slice_get rules m ≡ Some rule → truth rule.test input ≡ Some true → is_first_true rules i input ≡ nat_eq m i
first_is input [] m i rule h at is = absurd (none-some rule at)
first_is input (r ∷ rules) zero zero rule h at is =
    ap (λ b. b && true) (ap (has_truth true input) (same_Some r rule at) ∙ (true_rule input rule is).0)
first_is input (r ∷ rules) zero (suc i) rule h at is =
    never_further input r rules i (ap (has_truth false input) (same_Some r rule at) ∙ (true_rule input rule is).1)
    ∙ sym (ne_eqb 0 (suc i) (λ e. omega arith))
first_is input (r ∷ rules) (suc m) zero rule h at is =
    ap (λ b. b && true) (isnt_true input r (and_parts (has_truth false input r) (are_false (take m rules) input) h).0)
    ∙ sym (ne_eqb (suc m) 0 (λ e. omega arith))
first_is input (r ∷ rules) (suc m) (suc i) rule h at is =
    let parts = and_parts (has_truth false input r) (are_false (take m rules) input) h in
    further input r rules i parts.0
    ∙ (first_is input rules m i rule parts.1 at is ∙ sym (same_suc m i (cases_eq m i)))

-- the rule of number m isn't decided, those before it are false
pub none_is : (input : Tree) (rules : List Rule) (m i : ℕ) (rule : Rule) → are_false (take m rules) input ≡ true → slice_get rules m ≡ Some rule → truth rule.test input ≡ None → is_first_true rules i input ≡ false
none_is input [] m i rule h at is = absurd (none-some rule at)
none_is input (r ∷ rules) zero zero rule h at is =
    ap (λ b. b && true) (ap (has_truth true input) (same_Some r rule at) ∙ (open_rule input rule is).0)
none_is input (r ∷ rules) zero (suc i) rule h at is =
    never_further input r rules i (ap (has_truth false input) (same_Some r rule at) ∙ (open_rule input rule is).1)
none_is input (r ∷ rules) (suc m) zero rule h at is =
    ap (λ b. b && true) (isnt_true input r (and_parts (has_truth false input r) (are_false (take m rules) input) h).0)
none_is input (r ∷ rules) (suc m) (suc i) rule h at is =
    let parts = and_parts (has_truth false input r) (are_false (take m rules) input) h in
    further input r rules i parts.0 ∙ none_is input rules m i rule parts.1 at is

-- all rules are false
pub none_of_false : (input : Tree) (rules : List Rule) (i : ℕ) → are_false rules input ≡ true → is_first_true rules i input ≡ false
none_of_false input [] i h = refl
none_of_false input (r ∷ rules) zero h =
    ap (λ b. b && true) (isnt_true input r (and_parts (has_truth false input r) (are_false rules input) h).0)
none_of_false input (r ∷ rules) (suc i) h =
    let parts = and_parts (has_truth false input r) (are_false rules input) h in
    further input r rules i parts.0 ∙ none_of_false input rules i parts.1

-- the rule of number m isn't false
pub not_all_false : (input : Tree) (rules : List Rule) (m : ℕ) (rule : Rule) → slice_get rules m ≡ Some rule → has_truth false input rule ≡ false → are_false rules input ≡ false
not_all_false input [] m rule at h = absurd (none-some rule at)
not_all_false input (r ∷ rules) zero rule at h =
    ap (λ b. b && are_false rules input) (ap (has_truth false input) (same_Some r rule at) ∙ h)
not_all_false input (r ∷ rules) (suc m) rule at h =
    and_right (has_truth false input r) (are_false rules input) (not_all_false input rules m rule at h)

-- one more rule is false
pub one_more_false : (input : Tree) (rules : List Rule) (m : ℕ) (rule : Rule) → are_false (take m rules) input ≡ true → slice_get rules m ≡ Some rule → has_truth false input rule ≡ true → are_false (take (suc m) rules) input ≡ true
one_more_false input [] m rule h at is = absurd (none-some rule at)
one_more_false input (r ∷ rules) zero rule h at is =
    ap (λ b. b && true) (ap (has_truth false input) (same_Some r rule at) ∙ is)
one_more_false input (r ∷ rules) (suc m) rule h at is =
    let parts = and_parts (has_truth false input r) (are_false (take m rules) input) h in
    ap (λ b. b && are_false (take (suc m) rules) input) parts.0 ∙ one_more_false input rules m rule parts.1 at is
