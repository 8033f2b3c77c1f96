-- What an object with one field beside `Variable`, `Next` and `Comment` spells as a test. No public clause cites this
-- module.
use Rattle.std.specs.Prelude.{ℕ, List, [], ◌∷◌, ◌++◌, Bool, ◌||◌, if◌then◌else◌, bytes_eq, codes, option_and_then}
use Rattle.std.specs.Option.{unwrap_or}
use Rattle.asl_model.specs.Tree.{Tree}
use Rattle.asl_model.specs.Path.{Segment}
use Rattle.asl_model.specs.PathSpelling.{path_of}
use Rattle.asl_model.specs.Test.{Test, And, Or, Not, as_text}
use Rattle.asl_model.specs.RuleSpelling.{RuleFault, no_test, test_of, tests_of, list_faults, nested_faults, joined_faults, first_test, variable_path_faults, operator_faults}

-- a field of that name stands beside the one that says what is tested
abbrev pub is_beside : List ℕ → Bool
is_beside n = bytes_eq n (codes "Variable") || (bytes_eq n (codes "Next") || bytes_eq n (codes "Comment"))

-- the test without `Variable`
abbrev pub joined_test : List ℕ → Tree → Test
joined_test n t =
    if bytes_eq n (codes "And") then And (tests_of t) else
    (if bytes_eq n (codes "Or") then Or (tests_of t) else Not (if bytes_eq n (codes "Not") then test_of t else no_test))

-- what is wrong with it
abbrev pub one_joined_faults : List ℕ → Tree → List RuleFault
one_joined_faults n t = joined_faults ((n, t) ∷ []) (list_faults t) (list_faults t) (nested_faults t)

-- the path in `Variable`
abbrev pub variable_path : Tree → List Segment
variable_path v = unwrap_or (option_and_then path_of (as_text v)) []

-- the test with `Variable`
abbrev pub variable_test : Tree → List ℕ → Tree → Test
variable_test v n t = first_test (variable_path v) ((n, t) ∷ [])

-- what is wrong with it
abbrev pub one_variable_faults : Tree → List ℕ → Tree → List RuleFault
one_variable_faults v n t = variable_path_faults (as_text v) ++ operator_faults (variable_path v) ((n, t) ∷ [])
