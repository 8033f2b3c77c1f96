-- The bytes of each part of a path's text.
use Rattle.std.specs.Prelude.{ℕ, Bool}
use Rattle.std.specs.Char.{is_ascii_digit}
use Rattle.asl_model.specs.PathSpelling.{in_dot_name, in_quoted_name}
use Rattle.asl_path.specs.declared.scanning.Part.{Part}
use Rattle.asl_path.specs.declared.scanning.Part.TheVariants.{DotName, QuotedName, Digits}

-- the byte may stand in the part
abbrev pub may_stand_in : Part → ℕ → Bool
may_stand_in DotName b = in_dot_name b
may_stand_in (QuotedName quote) b = in_quoted_name quote b
may_stand_in Digits b = is_ascii_digit b
