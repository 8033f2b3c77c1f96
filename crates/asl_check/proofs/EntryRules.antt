-- What is listed of a state's entry, and of the start.
use Rattle.std.proofs.Common.{◌≡◌, ℕ, List, ◌++◌, Bool, true, false, not, ◌||◌, None, sym, subst}
use Rattle.std.proofs.lemmas.List.{map-append}
use Rattle.asl_model.specs.Certificate.{Declared, Certificate}
use Rattle.asl_model.specs.Finding.{Breach, found_at}
use Rattle.asl_model.specs.Numbering.{Table}
use Rattle.asl_model.specs.Shape.{Shape}
use Rattle.asl_numbered.specs.Laws.{keeps_same}
use Rattle.asl_check.specs.Listing.{Adds}
use Rattle.asl_check.specs.Rules.{found_at_start, found_of_start, start_in}
use Rattle.asl_check.specs.declared.listed.Listed.{Listed}
use Rattle.asl_check.proofs.Adding.{adds_none, adds_same, adds_then}

-- what isn't a Task needs no declaration
pub undeclared_passed : (task known declared : Bool) → task ≡ false → declared ≡ true → declared ≡ (not task || known)
undeclared_passed false known declared e is = is
undeclared_passed true known declared e is = absurd (cc)

-- a Task needs one
pub task_declared : (task known declared : Bool) → task ≡ true → declared ≡ known → declared ≡ (not task || known)
task_declared true known declared e is = is
task_declared false known declared e is = absurd (cc)

-- rules of a name, and others of it behind them
pub both_added : (table : List Shape) (n : List ℕ) (before middle after : List Listed) (xs ys : List Breach) → Adds table before middle (found_at n xs) → Adds table middle after (found_at n ys) → Adds table before after (found_at n (xs ++ ys))
both_added table n before middle after xs ys a b =
    adds_same table before after (found_at n xs ++ found_at n ys) (found_at n (xs ++ ys)) (sym (map-append (λ (c : Breach). record { state = n; field = c.field; fault = c.fault; example = c.example }) xs ys)) (adds_then table table before middle after (found_at n xs) (found_at n ys) (keeps_same table) a b)

-- without a start there is no rule on it
pub no_start : (shapes : List Shape) (table : Table) (declared : Declared) (certificate : Certificate) (rules : List Listed) → None ≡ start_in table → Adds shapes rules rules (found_at_start table declared certificate)
no_start shapes table declared certificate rules is = subst (λ start. Adds shapes rules rules (found_of_start table declared certificate start)) is (adds_none shapes rules)
