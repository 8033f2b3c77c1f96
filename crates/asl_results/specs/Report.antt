-- What a report of suites is, in each format.
use Rattle.std.specs.Prelude.{List}
use Rattle.asl_model.specs.Names.{Bytes}
use Rattle.asl_results.specs.Json.{json_report}
use Rattle.asl_results.specs.Junit.{junit_report}
use Rattle.asl_results.specs.Text.{text_report}
use Rattle.asl_results.specs.declared.Format.{Format}
use Rattle.asl_results.specs.declared.Format.TheVariants as format
use Rattle.asl_results.specs.declared.SuiteResult.{SuiteResult}

-- the bytes of the report
abbrev pub report_text : Format → List SuiteResult → Bytes
report_text format.Text suites = text_report suites
report_text format.Json suites = json_report suites
report_text format.Junit suites = junit_report suites
