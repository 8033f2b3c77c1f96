-- Which rules are known to be broken.
use Rattle.std.specs.Prelude.{List}
use Rattle.asl_model.specs.Finding.{Finding}
use Rattle.asl_check.specs.View.{findings_of}
use Rattle.asl_causes.specs.declared.known.Known.{Known}

-- each broken rule that is known, in the order in which the checker goes over them
abbrev pub broken_rules : Known → List Finding
broken_rules known = findings_of known.facts.findings.items
