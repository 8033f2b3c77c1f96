-- What a rule with `Variable` spells, once its path is read.
use Rattle.std.proofs.Common.{◌≡◌, ℕ, List, [], Option, Some, None, Result, Ok, Err, refl, sym, ap, ◌∙◌, append-nil}
use Rattle.std.specs.Prelude.{IfOk, IfErr}
use Rattle.asl_model.specs.Tree as model
use Rattle.asl_model.specs.Path.{Segment}
use Rattle.asl_model.specs.PathSpelling.{path_of}
use Rattle.asl_model.specs.Test.{as_text}
use Rattle.asl_model.specs.RuleSpelling.{BadPath, named_test, fault_of, test_or_none, variable_path_faults}
use Rattle.asl_choice.specs.declared.refusal.RuleRefusal.{RuleRefusal}
use Rattle.asl_choice.specs.declared.rule.Test.{Test}
use Rattle.asl_choice.specs.Refusal.{Tells, missing}
use Rattle.asl_choice.specs.Single.{one_variable_faults, variable_test}
use Rattle.asl_choice.specs.View.{view}
use Rattle.asl_choice.proofs.Telling.{told_same, told_left}

-- a path that can't be read
pub variable_told : (e : RuleRefusal) (v : model.Tree) (n : List ℕ) (t : model.Tree) (s : List ℕ) → Some s ≡ as_text v → Tells e (missing BadPath (path_of s)) → Tells e (one_variable_faults v n t)
variable_told e v n t s is told = told_left e _ _ (told_same e _ _ told (same (path_of s) refl ∙ ap variable_path_faults is))
  where
    same : (o : Option (List Segment)) → path_of s ≡ o → missing BadPath (path_of s) ≡ variable_path_faults (Some s)
    same None is = rw is refl
    same (Some p) is = rw is refl

-- with its path, the operator's faults are left
faults_left : (v : model.Tree) (n : List ℕ) (t : model.Tree) (s : List ℕ) (p : List Segment) → Some s ≡ as_text v → path_of s ≡ Some p → one_variable_faults v n t ≡ fault_of (named_test p n t)
faults_left v n t s p is path = rw (← is, path) (append-nil (fault_of (named_test p n t)))

test_left : (v : model.Tree) (n : List ℕ) (t : model.Tree) (s : List ℕ) (p : List Segment) → Some s ≡ as_text v → path_of s ≡ Some p → variable_test v n t ≡ test_or_none (named_test p n t)
test_left v n t s p is path = rw (← is, path) refl

pub operator_right : (v : model.Tree) (n : List ℕ) (t : model.Tree) (s : List ℕ) (p : List Segment) (r : Result Test RuleRefusal) → Some s ≡ as_text v → path_of s ≡ Some p → IfOk r (λ test. named_test p n t ≡ Ok (view test)) → IfOk r (λ _. one_variable_faults v n t ≡ [])
operator_right v n t s p (Ok test) is path given = faults_left v n t s p is path ∙ ap fault_of given
operator_right v n t s p (Err e) is path given = tt

pub operator_test : (v : model.Tree) (n : List ℕ) (t : model.Tree) (s : List ℕ) (p : List Segment) (r : Result Test RuleRefusal) → Some s ≡ as_text v → path_of s ≡ Some p → IfOk r (λ test. named_test p n t ≡ Ok (view test)) → IfOk r (λ test. view test ≡ variable_test v n t)
operator_test v n t s p (Ok test) is path given = sym (test_left v n t s p is path ∙ ap test_or_none given)
operator_test v n t s p (Err e) is path given = tt

pub operator_told : (v : model.Tree) (n : List ℕ) (t : model.Tree) (s : List ℕ) (p : List Segment) (r : Result Test RuleRefusal) → Some s ≡ as_text v → path_of s ≡ Some p → IfErr r (λ e. Tells e (fault_of (named_test p n t))) → IfErr r (λ e. Tells e (one_variable_faults v n t))
operator_told v n t s p (Ok test) is path given = tt
operator_told v n t s p (Err e) is path given = told_same e _ _ given (sym (faults_left v n t s p is path))
