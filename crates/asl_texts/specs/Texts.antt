-- Texts that known bytes are, as a whole.
use Rattle.std.specs.Prelude.{◌≡◌, List, ℕ, Option, None, Some, Bool, IsTrue, IsFalse, ⊤}
use Rattle.asl_model.specs.Printed.{is_too_long}
use Rattle.asl_texts.specs.declared.refusals.RunFault.{RunFault}
use Rattle.asl_texts.specs.declared.refusals.RunFault.TheVariants as run

-- known bytes are this text, which isn't too long
abbrev pub AreText : Option (List ℕ) → List ℕ → Type 0
AreText None text = ⊤
AreText (Some xs) text = (text ≡ xs) × IsFalse (is_too_long xs)

-- known bytes are more than a text may have
abbrev pub AreTooLong : Option (List ℕ) → Type 0
AreTooLong None = ⊤
AreTooLong (Some xs) = IsTrue (is_too_long xs)

-- why known bytes aren't read as a text: they are too long, or a read failed, or there was no memory
abbrev pub TextUnreadStands : Option (List ℕ) → Bool → RunFault → Type 0
TextUnreadStands known failed (run.Text refusal) = ⊥
TextUnreadStands known failed run.TooLong = AreTooLong known
TextUnreadStands known failed run.Read = IsTrue failed
TextUnreadStands known failed run.Write = ⊥
TextUnreadStands known failed run.OutOfMemory = ⊤
