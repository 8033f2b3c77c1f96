-- What a write of several steps leaves.
use Rattle.std.specs.Prelude.{◌≡◌, ℕ, List, ◌++◌, Option, Bool, IsTrue}
use Rattle.std.specs.Io.KnownBytes.{Appends, Keeps}
use Rattle.asl_model.specs.Verdict.{Verdict}
use Rattle.asl_model.specs.Headline.{IsVerdictOn}
use Rattle.asl_model.specs.Printed.{verdict_text}
use Rattle.asl_texts.specs.Lines.{SomeLineIsLong, NoLineIsLong}
use Rattle.asl_texts.specs.Verifying.{OfLines}
use Rattle.asl_texts.specs.declared.refusals.RunFault.{RunFault}
use Rattle.asl_texts.specs.declared.refusals.RunFault.TheVariants as run

-- What a call leaves of the source that it reads and of the sink that it writes to: the bytes that the sink held before
-- and holds after it, where they are known, and whether a read or a write has failed.
pub record Streams : Type 0 where
  pub before : Option (List ℕ)
  pub after : Option (List ℕ)
  pub read_failed : Bool
  pub write_failed : Bool

-- these four
abbrev pub streams_of : Option (List ℕ) → Option (List ℕ) → Bool → Bool → Streams
streams_of before after read_failed write_failed = record {
  before = before;
  after = after;
  read_failed = read_failed;
  write_failed = write_failed;
}

-- known bytes grow by a front of bs, perhaps by all of it
pub record AppendsFront (old new : Option (List ℕ)) (bs : List ℕ) : Type 0 where
  pub front : List ℕ
  pub back : List ℕ
  pub parts : bs ≡ front ++ back
  pub appended : Appends old new front

-- why the check of three lines of known bytes ends without a verdict, and what the sink holds then: a failed write
-- leaves a front of the lines of the verdict there, every other fault what it held before
abbrev pub CheckFaultStands : Option (List ℕ) → Bool → Option (List ℕ) → Option (List ℕ) → Bool
    → RunFault → Type 0
CheckFaultStands known read_failed old new write_failed (run.Text refusal) =
    NoLineIsLong known × Keeps old new
CheckFaultStands known read_failed old new write_failed run.TooLong =
    SomeLineIsLong known × Keeps old new
CheckFaultStands known read_failed old new write_failed run.Read = IsTrue read_failed × Keeps old new
CheckFaultStands known read_failed old new write_failed run.Write = NoLineIsLong known
    × IsTrue write_failed
    × ((verdict : Verdict)
    × OfLines known (λ definition declared certificate. IsVerdictOn definition declared certificate verdict)
    × AppendsFront old new (verdict_text verdict))
CheckFaultStands known read_failed old new write_failed run.OutOfMemory = Keeps old new
