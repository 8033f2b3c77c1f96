-- The order of diagnostics: by file, line, column.
use Rattle.std.specs.Prelude.{Bool, string_bytes}
use Rattle.std.specs.Ordering.{nat_cmp, ordering_then, is_lt}
use Rattle.std.specs.declared.cmp.Ordering.{Ordering}
use Rattle.std.specs.String.{string_cmp}
use Rattle.asl_diagnostics.specs.declared.Diagnostic.{Diagnostic}

-- files in the order of their bytes
abbrev pub place_cmp : Diagnostic → Diagnostic → Ordering
place_cmp d e =
    ordering_then (string_cmp d.file e.file)
    (ordering_then (nat_cmp d.place.line e.place.line) (nat_cmp d.place.column e.place.column))

-- one stands in front of the other
abbrev pub stands_before : Diagnostic → Diagnostic → Bool
stands_before d e = is_lt (place_cmp d e)
