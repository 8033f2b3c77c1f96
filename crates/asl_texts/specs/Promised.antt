-- What is promised of the verdict on three texts, as the code has it.
use Rattle.std.specs.Prelude.{ℕ, List}
use Rattle.asl_check.specs.View.{verdict_view}
use Rattle.asl_check.specs.declared.verdicts.Verdict.{Verdict}
use Rattle.asl_model.specs.Headline.{IsVerdictOn}
use Rattle.asl_texts.specs.FirstTold.{TellsFirstOn}
use Rattle.asl_texts.specs.OfLines.{AreClosedWhereYes, AreRejectedWhereNo, NeverFaultWhereYes}
use Rattle.asl_texts.specs.Verifying.{IsRefused}
use Rattle.asl_texts.specs.View.{which_view, text_fault_view}
use Rattle.asl_texts.specs.declared.refusals.TextRefusal.{TextRefusal}

-- the verdict is right of what the texts read as
abbrev pub IsVerdictOf : List ℕ → List ℕ → List ℕ → Verdict → Type 0
IsVerdictOf definition declared certificate verdict =
    IsVerdictOn definition declared certificate (verdict_view verdict)

-- it tells of each name the first rule that is broken
abbrev pub IsOfFirst : List ℕ → List ℕ → List ℕ → Verdict → Type 0
IsOfFirst definition declared certificate verdict =
    TellsFirstOn definition declared certificate (verdict_view verdict)

-- where it is yes, the certificate is closed
abbrev pub ClosedIfYes : List ℕ → List ℕ → List ℕ → Verdict → Type 0
ClosedIfYes definition declared certificate verdict =
    AreClosedWhereYes definition declared certificate (verdict_view verdict)

-- where it is yes, no run raises a data-flow fault, and every shape is as it is certified
abbrev pub NoFaultIfYes : List ℕ → List ℕ → List ℕ → Verdict → Type 0
NoFaultIfYes definition declared certificate verdict =
    NeverFaultWhereYes definition declared certificate (verdict_view verdict)

-- where it is no, the findings that it tells are of broken rules, and of each name that has one
abbrev pub RejectedIfNo : List ℕ → List ℕ → List ℕ → Verdict → Type 0
RejectedIfNo definition declared certificate verdict =
    AreRejectedWhereNo definition declared certificate (verdict_view verdict)

-- why one of the texts is refused
abbrev pub IsRefusalOf : List ℕ → List ℕ → List ℕ → TextRefusal → Type 0
IsRefusalOf definition declared certificate refusal =
    IsRefused definition declared certificate (which_view refusal.which) (text_fault_view refusal.fault)
