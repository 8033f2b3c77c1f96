-- What a diagnostic says, in a line.
use Rattle.std.specs.Prelude.{[], ◌++◌, Option, Some, None, String, codes, option_map, string_bytes}
use Rattle.std.specs.declared.alloc.Global.{Global}
use Rattle.asl_model.specs.Names.{Bytes}
use Rattle.asl_model.specs.Printed.{in_line, quoted_name, example_text}
use Rattle.asl_tree.specs.View.{view}
use Rattle.asl_diagnostics.specs.declared.Diagnostic.{Diagnostic}
use Rattle.asl_diagnostics.specs.declared.Severity.{Severity}
use Rattle.asl_diagnostics.specs.declared.Severity.TheVariants as severity

-- the severity as a word
abbrev pub severity_name : Severity → Bytes
severity_name severity.Error = codes "error"
severity_name severity.Warning = codes "warning"

-- the state's name as a JSON text, and a space; nothing where there is none
abbrev pub state_text : Option (String Global) → Bytes
state_text None = []
state_text (Some state) = quoted_name (string_bytes state) ++ codes " "

-- so the field, as it stands in a line
abbrev pub field_text : Option (String Global) → Bytes
field_text None = []
field_text (Some field) = in_line (string_bytes field) ++ codes " "

-- `STATE FIELD RULE: MESSAGE`
abbrev pub sentence : Diagnostic → Bytes
sentence d =
    state_text d.state
    ++ (field_text d.field ++ (d.rule.now.id.now ++ (codes ": " ++ in_line (string_bytes d.message))))

-- `STATE FIELD RULE: MESSAGE EXAMPLE`
abbrev pub statement : Diagnostic → Bytes
statement d = sentence d ++ example_text (option_map view d.example)
