-- What is told of a certificate that is inferred of two texts, a definition and declared shapes.
use Rattle.std.specs.Prelude.{ℕ, List, Bool, ⊤}
use Rattle.asl_model.specs.Certificate.{Declared, Certificate, IsClosed, Obeys, TellsNoFault, RunIsAsCertified}
use Rattle.asl_model.specs.Finding as finding
use Rattle.asl_model.specs.Headline.{IsVerdictOn}
use Rattle.asl_model.specs.Machine.{Scope}
use Rattle.asl_model.specs.Numbering.{table_of}
use Rattle.asl_model.specs.Run.{Event, run_of, trace}
use Rattle.asl_model.specs.Texts.{ReadsAsMachine, ReadsAsDeclared}
use Rattle.asl_model.specs.Tree.{Tree}
use Rattle.asl_model.specs.Verdict.{Accepted, IsRight}
use Rattle.asl_draft_laws.specs.Drafts.{IsInferred}
use Rattle.asl_check.specs.View.{finding_view}
use Rattle.asl_tool.specs.Inferred.{IsWrittenFor}
use Rattle.asl_tool.specs.declared.inferring.Verified.{Verified}
use Rattle.asl_tool.specs.declared.inferring.Verified.TheVariants.{Yes, Finding, NotSettled}

-- the two texts read, and no rule is broken by the certificate that is inferred in so many rounds of what they read as
pub record IsAcceptedAsInferred (rounds : ℕ) (definition declared : List ℕ) : Type 0 where
  pub machine : Scope
  pub shapes : Declared
  pub certified : Certificate
  pub as_machine : ReadsAsMachine definition machine
  pub as_declared : ReadsAsDeclared declared shapes
  pub inferred : IsInferred (table_of machine) shapes rounds certified
  pub right : IsRight machine shapes certified Accepted

-- yes is the right verdict on each text that may be written of the certificate that is inferred in so many rounds, as in a
-- check of the three texts
abbrev pub IsAcceptedAsWritten : ℕ → List ℕ → List ℕ → Type 0
IsAcceptedAsWritten rounds definition declared = (numbered : Bool) (text : List ℕ)
    → IsWrittenFor numbered rounds definition declared text
    → IsVerdictOn definition declared text Accepted

-- The two texts read, and for every input of the declared shape and every list of moves and task answers, branches and
-- iterations interleaved in any way, each answer a failure or of its declared shape, the run raises none of the six
-- data-flow faults, and every state's input, every task's payload and every output has its shape by the certificate that is
-- inferred in so many rounds.
pub record NeverFaultsAsInferred (rounds : ℕ) (definition declared : List ℕ) : Type 0 where
  pub machine : Scope
  pub shapes : Declared
  pub certified : Certificate
  pub as_machine : ReadsAsMachine definition machine
  pub as_declared : ReadsAsDeclared declared shapes
  pub inferred : IsInferred (table_of machine) shapes rounds certified
  pub closed : IsClosed shapes certified machine
  pub tells_no_fault : (input : Tree) (events : List Event) → Obeys shapes machine input events
      → TellsNoFault (trace (run_of machine input events))
  pub as_certified : (input : Tree) (events : List Event) → Obeys shapes machine input events
      → RunIsAsCertified shapes certified machine input events

-- what holds where it is yes
abbrev pub WhereYes : Type 0 → Verified → Type 0
WhereYes promise Yes = promise
WhereYes promise (Finding found) = ⊤
WhereYes promise NotSettled = ⊤

-- what holds of the finding where one is told instead, and where the shapes haven't settled
abbrev pub Tells : (finding.Finding → Type 0) → Type 0 → Verified → Type 0
Tells of_finding unsettled Yes = ⊤
Tells of_finding unsettled (Finding found) = of_finding (finding_view found)
Tells of_finding unsettled NotSettled = unsettled
