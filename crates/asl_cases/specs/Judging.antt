-- When a case has passed: what its run tells is what is expected.
use Rattle.std.specs.Prelude.{◌≡◌, ℕ, List, [], if◌then◌else◌, bytes_eq, map, filter_map, All}
use Rattle.std.specs.Prelude.{Option, Some, None, IfSome, string_bytes}
use Rattle.asl_model.specs.Run.{Entry, Entered, Asked, Ended, Outcome, Output, FailedWith}
use Rattle.asl_model.specs.Tree.{Tree}
use Rattle.asl_run.specs.Driving.{Told}
use Rattle.asl_suites.specs.declared.suites.Expected.{Expected}
use Rattle.asl_suites.specs.declared.suites.ExpectedEnd.{ExpectedEnd}
use Rattle.asl_suites.specs.declared.suites.ExpectedEnd.TheVariants as expects
use Rattle.asl_suites.specs.declared.suites.ExpectedPayloads.{ExpectedPayloads}
use Rattle.asl_tree.specs.View.{view}
use Rattle.asl_cases.specs.Asking.{last_of}

-- the name of the state that an entry tells is entered; none where it tells something else
abbrev pub entered_in : List ℕ × Entry → Option (List ℕ)
entered_in (place, Entered n input) = Some n
entered_in other = None

-- the names of the states that are entered, in their order
abbrev pub path_of : Told → List (List ℕ)
path_of told = filter_map entered_in told

-- the payload with which an entry tells that the task of that state is asked; none where it tells something else
abbrev pub asked_in : List ℕ → List ℕ × Entry → Option Tree
asked_in name (place, Asked n payload) = if bytes_eq n name then Some payload else None
asked_in name other = None

-- the payloads with which the task of that state is asked, in their order
abbrev pub payloads_of : List ℕ → Told → List Tree
payloads_of name told = filter_map (asked_in name) told

-- An outcome is the end that is expected: that output; or that error, with that cause where one is expected.
abbrev pub IsEnd : ExpectedEnd → Outcome → Type 0
IsEnd (expects.Output expected) (Output output) = output ≡ view expected
IsEnd (expects.Output expected) (FailedWith error cause) = ⊥
IsEnd (expects.Error expected expected_cause) (Output output) = ⊥
IsEnd (expects.Error expected expected_cause) (FailedWith error cause) =
    (error ≡ string_bytes expected) × IfSome expected_cause (λ c. cause ≡ string_bytes c)

-- the task of the state is asked with the payloads that are expected, in their order, and with no others
abbrev pub AreAsked : Told → ExpectedPayloads → Type 0
AreAsked told expected = payloads_of (string_bytes expected.state) told ≡ map view expected.payloads.items

-- A case has passed: its run has ended, as the last entry tells, with the end that is expected; the states that are
-- entered are those of the path that is expected; and the task of each state with expected payloads is asked with these.
-- What isn't expected may be any.
pub record HasPassed (expected : Expected) (told : Told) : Type 0 where
  pub outcome : Outcome
  pub ended : last_of told ≡ Some ([], Ended outcome)
  pub end : IfSome expected.end (λ end. IsEnd end outcome)
  pub path : IfSome expected.path (λ path. path_of told ≡ map string_bytes path.items)
  pub payloads : All (AreAsked told) expected.payloads.items

-- ---- the end of a run

-- The outcome of the run, where an entry tells that it has ended. No public clause cites this.
abbrev pub outcome_in : List ℕ × Entry → Option Outcome
outcome_in ([], Ended outcome) = Some outcome
outcome_in other = None
