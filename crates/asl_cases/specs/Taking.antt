-- What an entry takes, as the code finds it. No public clause cites this module.
use Rattle.std.specs.Prelude.{ℕ, Bool, true, false, nat_eq, Option, Some, None, slice_set}
use Rattle.asl_cases.specs.Coverage.{Flags}
use Rattle.asl_cases.specs.declared.covered.Taken.{Taken}
use Rattle.asl_cases.specs.declared.covered.Taken.TheVariants as ways

-- a Choice is left by the rule of that number
abbrev pub is_rule : ℕ → Option Taken → Bool
is_rule i None = false
is_rule i (Some (ways.Rule number)) = nat_eq number i
is_rule i (Some ways.Default) = false

-- a Choice is left by `Default`
abbrev pub is_default : Option Taken → Bool
is_default None = false
is_default (Some (ways.Rule number)) = false
is_default (Some ways.Default) = true

-- what is noted of a state once it was entered, and left so if it is a Choice
abbrev pub left_by : Option Taken → Flags → Flags
left_by None flags = record flags { entered = true }
left_by (Some (ways.Rule number)) flags =
    record flags { entered = true; rules = slice_set flags.rules number true }
left_by (Some ways.Default) flags = record flags { entered = true; default = true }
