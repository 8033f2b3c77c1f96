-- The lines of no suites or of several.
use Rattle.std.proofs.Common.{◌≡◌, ◌<◌, ◌≤◌, List, [], ◌∷◌, length, refl, arith}
use Rattle.std.specs.List.{flat_map}
use Rattle.asl_results.specs.Text.{named_suite, suites_lines}
use Rattle.asl_results.specs.declared.SuiteResult.{SuiteResult}

pub suites_lines_none : (suites : List SuiteResult) → length suites < 1 → suites_lines suites ≡ flat_map named_suite suites
suites_lines_none [] h = refl
suites_lines_none (s ∷ rest) h = absurd (omega arith)

pub suites_lines_several : (suites : List SuiteResult) → 2 ≤ length suites → suites_lines suites ≡ flat_map named_suite suites
suites_lines_several [] h = absurd (omega arith)
suites_lines_several (s ∷ []) h = absurd (omega arith)
suites_lines_several (s ∷ t ∷ others) h = refl
