-- What a verdict on the first three lines of known bytes tells: what the verdict on three texts tells of these lines.
use Rattle.std.specs.Prelude.{List, ℕ, Option}
use Rattle.asl_model.specs.Headline.{AreClosed, AreRejected, NeverFaults, WhereAccepted, WhereRejected}
use Rattle.asl_model.specs.Verdict.{Verdict}
use Rattle.asl_check.specs.View.{verdict_view}
use Rattle.asl_check.specs.declared.verdicts.Verdict as code
use Rattle.asl_texts.specs.Verifying.{OfLines}

-- that holds of the three lines and the verdict; of three lines, where the bytes aren't known
abbrev pub OfLinesTells : Option (List ℕ) → (List ℕ → List ℕ → List ℕ → Verdict → Type 0) → code.Verdict → Type 0
OfLinesTells known Tells told =
    OfLines known (λ definition declared certificate. Tells definition declared certificate (verdict_view told))

-- where it is yes, the certificate is closed
abbrev pub AreClosedWhereYes : List ℕ → List ℕ → List ℕ → Verdict → Type 0
AreClosedWhereYes definition declared certificate = WhereAccepted (AreClosed definition declared certificate)

-- where it is yes, no run meets a fault
abbrev pub NeverFaultWhereYes : List ℕ → List ℕ → List ℕ → Verdict → Type 0
NeverFaultWhereYes definition declared certificate = WhereAccepted (NeverFaults definition declared certificate)

-- where it is no, the findings are right
abbrev pub AreRejectedWhereNo : List ℕ → List ℕ → List ℕ → Verdict → Type 0
AreRejectedWhereNo definition declared certificate = WhereRejected (AreRejected definition declared certificate)
