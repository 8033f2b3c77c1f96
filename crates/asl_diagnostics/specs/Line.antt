-- The lines for people.
use Rattle.std.specs.Prelude.{List, [], ◌∷◌, ◌++◌, codes, decimal, string_bytes}
use Rattle.asl_model.specs.Names.{Bytes}
use Rattle.asl_model.specs.Printed.{in_line, line_break}
use Rattle.asl_diagnostics.specs.Statement.{severity_name, statement}
use Rattle.asl_diagnostics.specs.declared.Diagnostic.{Diagnostic}

-- `FILE:LINE:COLUMN: SEVERITY: STATEMENT`
abbrev pub text_line : Diagnostic → Bytes
text_line d =
    in_line (string_bytes d.file)
    ++ (codes ":" ++ (decimal d.place.line ++ (codes ":" ++ (decimal d.place.column
    ++ (codes ": " ++ (severity_name d.severity ++ (codes ": " ++ (statement d ++ line_break))))))))

-- a line for each
abbrev pub text_lines : List Diagnostic → Bytes
text_lines [] = []
text_lines (d ∷ ds) = text_line d ++ text_lines ds
