-- Which cases passed, and how many.
use Rattle.std.specs.Prelude.{ℕ, Bool, List, is_none, is_some, length}
use Rattle.std.specs.List.{count_by, flat_map}
use Rattle.asl_results.specs.declared.CaseResult.{CaseResult}
use Rattle.asl_results.specs.declared.counting.Counts.{Counts}
use Rattle.asl_results.specs.declared.SuiteResult.{SuiteResult}

-- a case failed where a difference is told of it
abbrev pub is_failed : CaseResult → Bool
is_failed c = is_some c.difference

-- and else it passed
abbrev pub is_passed : CaseResult → Bool
is_passed c = is_none c.difference

-- how many of the cases failed
abbrev pub failed_in : List CaseResult → ℕ
failed_in cases = count_by is_failed cases

-- how many passed
abbrev pub passed_in : List CaseResult → ℕ
passed_in cases = count_by is_passed cases

-- the cases of a suite
abbrev pub cases_of : SuiteResult → List CaseResult
cases_of s = s.cases.items

-- those of several, in their order
abbrev pub all_cases : List SuiteResult → List CaseResult
all_cases suites = flat_map cases_of suites

-- ---- for private clauses

-- how many cases these are, and how many of them failed
abbrev pub counts_of : List CaseResult → Counts
counts_of cases = record { cases = length cases; failed = failed_in cases }
