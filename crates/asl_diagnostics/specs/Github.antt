-- The commands by which a workflow of GitHub is told of diagnostics, with the escapes of its toolkit.
use Rattle.std.specs.Prelude.{ℕ, List, [], ◌∷◌, ◌++◌, ◌==◌, Option, Some, None, codes, decimal, encode_utf8, if◌then◌else◌, string_bytes}
use Rattle.std.specs.List.{flat_map}
use Rattle.std.specs.Option.{unwrap_or}
use Rattle.std.specs.Str.{chars}
use Rattle.asl_model.specs.Names.{Bytes}
use Rattle.asl_model.specs.Printed.{line_break}
use Rattle.asl_diagnostics.specs.Statement.{severity_name, statement}
use Rattle.asl_diagnostics.specs.declared.Diagnostic.{Diagnostic}
use Rattle.asl_diagnostics.specs.declared.github.Part.{Part}
use Rattle.asl_diagnostics.specs.declared.github.Part.TheVariants as part

-- the escape of a character anywhere: `%`, carriage return, line feed
abbrev pub data_escape : ℕ → Option Bytes
data_escape c =
    if c == 37 then Some (codes "%25") else
    (if c == 13 then Some (codes "%0D") else
    (if c == 10 then Some (codes "%0A") else None))

-- in a property also of `:` and `,`
abbrev pub escape_of : Part → ℕ → Option Bytes
escape_of part.Message c = data_escape c
escape_of part.Property c =
    if c == 58 then Some (codes "%3A") else (if c == 44 then Some (codes "%2C") else data_escape c)

-- a character, or its escape
abbrev pub escaped_char : Part → ℕ → Bytes
escaped_char part c = unwrap_or (escape_of part c) (encode_utf8 c)

-- a text with each character so
abbrev pub escaped : Part → Bytes → Bytes
escaped part text = flat_map (escaped_char part) (chars text)

-- `::SEVERITY file=FILE,line=LINE,col=COLUMN,title=TITLE::STATEMENT`
abbrev pub github_line : Diagnostic → Bytes
github_line d =
    codes "::" ++ (severity_name d.severity
    ++ (codes " file=" ++ (escaped part.Property (string_bytes d.file)
    ++ (codes ",line=" ++ (decimal d.place.line
    ++ (codes ",col=" ++ (decimal d.place.column
    ++ (codes ",title=" ++ (escaped part.Property d.rule.now.short.now
    ++ (codes "::" ++ (escaped part.Message (statement d) ++ line_break)))))))))))

-- a line for each
abbrev pub github_lines : List Diagnostic → Bytes
github_lines [] = []
github_lines (d ∷ ds) = github_line d ++ github_lines ds
