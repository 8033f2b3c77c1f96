-- How lists of rules are gone through, member by member.
use Rattle.std.proofs.Common.{◌≡◌, ◌<◌, ◌≤◌, ◌+◌, ◌-◌, ℕ, suc, List, [], ◌∷◌, ◌++◌, map, Option, Some, None, String, string_bytes, sym, ap, ◌∙◌, subst, append_assoc, arith, add-one}
use Rattle.std.specs.declared.alloc.Global.{Global}
use Rattle.std.proofs.lemmas.List.{append-nil}
use Rattle.asl_model.specs.Finding.{Breach, Finding, found_at}
use Rattle.asl_model.specs.Shape.{Shape}
use Rattle.asl_numbered.specs.Expansion.{Keeps}
use Rattle.asl_numbered.specs.Laws.{keeps_same}
use Rattle.asl_check.specs.Listing.{Adds}
use Rattle.asl_check.specs.Rules.{Row, found_by, found_in, found_from}
use Rattle.asl_check.specs.declared.listed.Listed.{Listed}
use Rattle.asl_check.proofs.Adding.{adds_none, adds_same, adds_then}

-- those that are added so far and those that are left make up the whole
pub record AreLeft (table : List Shape) (before now : List Listed) (whole left : List Finding) : Type 0 where
  pub so_far : List Finding
  pub adds : Adds table before now so_far
  pub rest : so_far ++ left ≡ whole

-- at first all are left
pub all_left : (table : List Shape) (rules : List Listed) (whole left : List Finding) → left ≡ whole → AreLeft table rules rules whole left
all_left table rules whole left is = record { so_far = []; adds = adds_none table rules; rest = is }

-- some fewer are left
pub left_less : (old new : List Shape) (before now next : List Listed) (whole xs left : List Finding) → Keeps old new → AreLeft old before now whole (xs ++ left) → Adds new now next xs → AreLeft new before next whole left
left_less old new before now next whole xs left keeps l a = record {
  so_far = l.so_far ++ xs;
  adds = adds_then old new before now next l.so_far xs keeps l.adds a;
  rest = append_assoc l.so_far xs left ∙ l.rest;
}

-- at last none is
pub left_none : (table : List Shape) (before now : List Listed) (whole left : List Finding) → left ≡ [] → AreLeft table before now whole left → Adds table before now whole
left_none table before now whole left none l = adds_same table before now l.so_far whole (sym (append-nil l.so_far) ∙ (ap (λ rest. l.so_far ++ rest) (sym none) ∙ l.rest)) l.adds

-- ---- names

-- one name fewer is left
pub left_named : (table : List Shape) (rule : List ℕ → List Breach) (before now next : List Listed) (whole : List Finding) (names left : List (String Global)) (name : String Global) (told : List Breach) → names ≡ name ∷ left → told ≡ rule (string_bytes name)
    → AreLeft table before now whole (found_by rule (map string_bytes names)) → Adds table now next (found_at (string_bytes name) told) → AreLeft table before next whole (found_by rule (map string_bytes left))
left_named table rule before now next whole names left name told is by l a =
    left_less table table before now next whole (found_at (string_bytes name) (rule (string_bytes name))) (found_by rule (map string_bytes left)) (keeps_same table) (subst (λ ns. AreLeft table before now whole (found_by rule (map string_bytes ns))) is l) (subst (λ breaches. Adds table now next (found_at (string_bytes name) breaches)) by a)

-- ---- rows of a table

module _ (found : ℕ → List Finding) (n : ℕ) where
  -- at first all are left
  pub all_rows : (table : List Shape) (rules : List Listed) → AreLeft table rules rules (found_from found n 0) (found_from found (n - 0) 0)
  all_rows table rules =
      let is : n - 0 ≡ n = omega arith in
      all_left table rules (found_from found n 0) (found_from found (n - 0) 0) (ap (λ k. found_from found k 0) is)

  -- one number fewer is left
  pub left_row : (old new : List Shape) (i : ℕ) (before now next : List Listed) (whole : List Finding) → i < n → Keeps old new → AreLeft old before now whole (found_from found (n - i) i) → Adds new now next (found i) → AreLeft new before next whole (found_from found (n - (i + 1)) (i + 1))
  left_row old new i before now next whole within keeps l a =
      let is : n - i ≡ suc (n - suc i) = omega (arith, within) in
      rw add-one (left_less old new before now next whole (found i) (found_from found (n - suc i) (suc i)) keeps (subst (λ k. AreLeft old before now whole (found_from found k i)) is l) a)

  -- none is left
  pub rows_added : (table : List Shape) (i : ℕ) (before now : List Listed) (whole : List Finding) → n ≤ i → AreLeft table before now whole (found_from found (n - i) i) → Adds table before now whole
  rows_added table i before now whole past l =
      let none : n - i ≡ 0 = omega (arith, past) in
      left_none table before now whole (found_from found (n - i) i) (ap (λ k. found_from found k i) none) l

-- those of a row that is there
pub row_added : (table : List Shape) (rules : Row → List Breach) (row : Row) (o : Option Row) (now next : List Listed) → Some row ≡ o → Adds table now next (found_at row.name (rules row)) → Adds table now next (found_in rules o)
row_added table rules row o now next is a = subst (λ r. Adds table now next (found_in rules r)) is a

-- where there is no row, none
pub no_row : (table : List Shape) (rules : Row → List Breach) (o : Option Row) (now : List Listed) → None ≡ o → Adds table now now (found_in rules o)
no_row table rules o now is = subst (λ r. Adds table now now (found_in rules r)) is (adds_none table now)
