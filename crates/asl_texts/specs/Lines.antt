-- Lines that are taken from known bytes.
use Rattle.std.specs.Prelude.{◌≡◌, ◌⊎◌, List, ℕ, Option, None, Some, Bool, IsTrue, IsFalse, ⊤}
use Rattle.asl_model.specs.Printed.{first_line, further_lines, definition_line, declared_line, certificate_line}
use Rattle.asl_model.specs.Printed.{is_too_long}
use Rattle.asl_texts.specs.declared.refusals.RunFault.{RunFault}
use Rattle.asl_texts.specs.declared.refusals.RunFault.TheVariants as run

-- known bytes begin with that line, and lose it and its break
abbrev pub TakesLine : Option (List ℕ) → Option (List ℕ) → List ℕ → Type 0
TakesLine None new line = ⊤
TakesLine (Some xs) None line = ⊥
TakesLine (Some xs) (Some ys) line = (line ≡ first_line xs) × (ys ≡ further_lines xs)

-- the first line of known bytes is too long
abbrev pub HasLongLine : Option (List ℕ) → Type 0
HasLongLine None = ⊤
HasLongLine (Some xs) = IsTrue (is_too_long (first_line xs))

-- why the next line of known bytes isn't taken: it is too long, or a read failed, or there was no memory
abbrev pub LineFaultStands : Option (List ℕ) → Bool → RunFault → Type 0
LineFaultStands known failed (run.Text refusal) = ⊥
LineFaultStands known failed run.TooLong = HasLongLine known
LineFaultStands known failed run.Read = IsTrue failed
LineFaultStands known failed run.Write = ⊥
LineFaultStands known failed run.OutOfMemory = ⊤

-- these are the first three lines of known bytes
abbrev pub AreLines : Option (List ℕ) → List ℕ → List ℕ → List ℕ → Type 0
AreLines None definition declared certificate = ⊤
AreLines (Some xs) definition declared certificate = (definition ≡ definition_line xs)
    × (declared ≡ declared_line xs) × (certificate ≡ certificate_line xs)

-- one of the first three lines of known bytes is too long
abbrev pub SomeLineIsLong : Option (List ℕ) → Type 0
SomeLineIsLong None = ⊤
SomeLineIsLong (Some xs) = IsTrue (is_too_long (definition_line xs))
    ⊎ IsTrue (is_too_long (declared_line xs)) ⊎ IsTrue (is_too_long (certificate_line xs))

-- none of them is
abbrev pub NoLineIsLong : Option (List ℕ) → Type 0
NoLineIsLong None = ⊤
NoLineIsLong (Some xs) = IsFalse (is_too_long (definition_line xs))
    × IsFalse (is_too_long (declared_line xs)) × IsFalse (is_too_long (certificate_line xs))

-- why the first three lines of known bytes aren't taken
abbrev pub LinesFaultStands : Option (List ℕ) → Bool → RunFault → Type 0
LinesFaultStands known failed (run.Text refusal) = ⊥
LinesFaultStands known failed run.TooLong = SomeLineIsLong known
LinesFaultStands known failed run.Read = IsTrue failed
LinesFaultStands known failed run.Write = ⊥
LinesFaultStands known failed run.OutOfMemory = ⊤
