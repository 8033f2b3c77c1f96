-- What is inferred of two texts, a definition and declared shapes.
use Rattle.std.specs.Prelude.{◌≡◌, ◌*◌, ◌≤◌, ℕ, List, Bool, string_bytes, ⊤}
use Rattle.asl_model.specs.Certificate as model
use Rattle.asl_model.specs.Certificate.{Declared, IsClosed}
use Rattle.asl_model.specs.Finding as finding
use Rattle.asl_model.specs.Headline.{ReadAs}
use Rattle.asl_model.specs.Json.{compact_text}
use Rattle.asl_model.specs.Machine.{Scope}
use Rattle.asl_model.specs.Numbering.{table_of}
use Rattle.asl_model.specs.Texts.{ReadsAsMachine, ReadsAsDeclared}
use Rattle.asl_draft_laws.specs.Drafts.{IsInferred, IsTold, NeverSettles}
use Rattle.asl_check.specs.View.{finding_view}
use Rattle.asl_infer.specs.Inferring.{IsOfMachine, certified_shapes}
use Rattle.asl_texts.specs.CertificateText.{written_as}
use Rattle.asl_tool.specs.declared.inferring.Inferred.{Inferred}
use Rattle.asl_tool.specs.declared.inferring.Inferred.TheVariants.{Certificate, Finding, NotSettled}

-- The three texts read, and the certificate that the third one reads as is the one that is inferred in so many rounds of
-- the machine and the declared shapes that the others read as, and closed for these. The text is the compact one of what
-- is written of that certificate, with a list of its shapes or without one.
pub record IsWrittenFor (numbered : Bool) (rounds : ℕ) (definition declared text : List ℕ) : Type 0 where
  pub machine : Scope
  pub shapes : Declared
  pub certified : model.Certificate
  pub read : ReadAs definition declared text machine shapes certified
  pub inferred : IsInferred (table_of machine) shapes rounds certified
  pub closed : IsClosed shapes certified machine
  pub compact : text ≡ compact_text (written_as numbered certified)

-- the two texts read, and the finding is the one that is told in so many rounds; it is of that machine or of what is
-- declared, and stands for some certificate
pub record IsFindingOn (rounds : ℕ) (definition declared : List ℕ) (found : finding.Finding) : Type 0 where
  pub machine : Scope
  pub shapes : Declared
  pub as_machine : ReadsAsMachine definition machine
  pub as_declared : ReadsAsDeclared declared shapes
  pub told : IsTold (table_of machine) shapes rounds found
  pub finding : IsOfMachine machine shapes found

-- the two texts read, each of so many rounds changes a shape, and they are no more than all shapes of a certificate
-- together may change
pub record AreFewRounds (definition declared : List ℕ) (rounds : ℕ) : Type 0 where
  pub machine : Scope
  pub shapes : Declared
  pub as_machine : ReadsAsMachine definition machine
  pub as_declared : ReadsAsDeclared declared shapes
  pub changes : NeverSettles (table_of machine) shapes rounds
  pub few : rounds ≤ 33 * certified_shapes (table_of machine)

-- ---- answers

-- what holds of the text where a certificate is answered
abbrev pub WhereCertificate : (List ℕ → Type 0) → Inferred → Type 0
WhereCertificate promise (Certificate text) = promise (string_bytes text)
WhereCertificate promise (Finding found) = ⊤
WhereCertificate promise NotSettled = ⊤

-- of the finding where one is answered
abbrev pub WhereFinding : (finding.Finding → Type 0) → Inferred → Type 0
WhereFinding promise (Certificate text) = ⊤
WhereFinding promise (Finding found) = promise (finding_view found)
WhereFinding promise NotSettled = ⊤

-- what holds where the shapes haven't settled
abbrev pub WhereNotSettled : Type 0 → Inferred → Type 0
WhereNotSettled promise (Certificate text) = ⊤
WhereNotSettled promise (Finding found) = ⊤
WhereNotSettled promise NotSettled = promise
