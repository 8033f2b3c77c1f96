-- The lines for people.
use Rattle.std.specs.Prelude.{List, [], ◌∷◌, ◌++◌, Option, Some, None, String, Vec, codes, decimal, string_bytes}
use Rattle.std.specs.List.{flat_map}
use Rattle.std.specs.declared.alloc.Global.{Global}
use Rattle.asl_model.specs.Names.{Bytes}
use Rattle.asl_model.specs.Printed.{line_break}
use Rattle.asl_results.specs.Counted.{all_cases, failed_in, passed_in}
use Rattle.asl_results.specs.Line.{coverage_text, in_line}
use Rattle.asl_results.specs.declared.CaseResult.{CaseResult}
use Rattle.asl_results.specs.declared.SuiteResult.{SuiteResult}

-- `ok    NAME`, or `FAIL  NAME: DIFFERENCE` where there is one
abbrev pub outcome_line : Bytes → Option (String Global) → Bytes
outcome_line name None = codes "ok    " ++ (in_line name ++ line_break)
outcome_line name (Some difference) =
    codes "FAIL  " ++ (in_line name ++ (codes ": " ++ (in_line (string_bytes difference) ++ line_break)))

-- the line of a case
abbrev pub case_line : CaseResult → Bytes
case_line c = outcome_line (string_bytes c.name) c.difference

-- the lines on coverage, where it was asked for
abbrev pub coverage_lines : Option (Vec (String Global) Global) → Bytes
coverage_lines None = []
coverage_lines (Some lacking) = coverage_text lacking.items

-- the lines of a suite
abbrev pub suite_lines : SuiteResult → Bytes
suite_lines s = flat_map case_line s.cases.items ++ coverage_lines s.lacking

-- with its name in front of them, and an empty line behind
abbrev pub named_suite : SuiteResult → Bytes
named_suite s = in_line (string_bytes s.name) ++ (line_break ++ (suite_lines s ++ line_break))

-- those of a suite alone, or of several, each with its name
abbrev pub suites_lines : List SuiteResult → Bytes
suites_lines [] = []
suites_lines (s ∷ []) = suite_lines s
suites_lines (s ∷ t ∷ others) = flat_map named_suite (s ∷ t ∷ others)

-- behind them `N passed, M failed`
abbrev pub text_report : List SuiteResult → Bytes
text_report suites =
    suites_lines suites
    ++ (decimal (passed_in (all_cases suites)) ++ (codes " passed, "
    ++ (decimal (failed_in (all_cases suites)) ++ codes " failed\n")))
