-- The bytes of each part of a call's text.
use Rattle.std.specs.Prelude.{ℕ, ◌==◌, Bool, ◌&&◌, not}
use Rattle.std.specs.Char.{is_ascii_digit}
use Rattle.asl_model.specs.CallSpelling.{in_function_name}
use Rattle.asl_intrinsic.specs.declared.scanning.Part.{Part}
use Rattle.asl_intrinsic.specs.declared.scanning.Part.TheVariants.{Spaces, Word, Digits, Plain}

-- the byte may stand in the part
abbrev pub may_stand_in : Part → ℕ → Bool
may_stand_in Spaces b = b == 32
may_stand_in Word b = in_function_name b
may_stand_in Digits b = is_ascii_digit b
may_stand_in Plain b = not (b == 39) && not (b == 92) && not (b == 123)
