use Rattle.std.proofs.Common.{◌≡◌, ◌++◌, drop, string_bytes}
use Rattle.asl_model.specs.Printed.{finding_lines}
use Rattle.asl_check.specs.View.{findings_view}
use Rattle.asl_texts.proofs.printing.findings_text.Given as goal

-- the lines of all findings are those so far and those of the findings left
abbrev pub invariant-loop-finding : goal.invariant-loop-finding
invariant-loop-finding l = finding_lines (findings_view l.findings.items) ≡ string_bytes l.text ++ finding_lines (findings_view (drop l.finding-index l.findings.items))
