-- What the three texts mean: a definition, declared shapes, a certificate; and what is wrong with a text.
use Rattle.std.specs.Prelude.{◌≡◌, ℕ, None}
use Rattle.serde_json.specs.Data.{Data}
use Rattle.asl_model.specs.Names.{Bytes}
use Rattle.asl_model.specs.Machine.{Scope}
use Rattle.asl_model.specs.Certificate.{Declared, Certificate}
use Rattle.asl_model.specs.Json.{ReadsAsValue, tree_of}
use Rattle.asl_model.specs.Records.{RecordComplaint, StandsForDeclared}
use Rattle.asl_model.specs.Records.{StandsForCertificate, HasDeclaredFault, HasCertificateFault}
use Rattle.asl_model.specs.StandsFor.{Complaint, StandsFor, HasComplaint}

-- the text reads as that machine, as those declared shapes, as that certificate
pub record ReadsAsMachine (text : Bytes) (machine : Scope) : Type 0 where
  pub value : Data
  pub reads : ReadsAsValue text value
  pub stands : StandsFor value machine

pub record ReadsAsDeclared (text : Bytes) (declared : Declared) : Type 0 where
  pub value : Data
  pub reads : ReadsAsValue text value
  pub stands : StandsForDeclared value declared

pub record ReadsAsCertificate (text : Bytes) (certificate : Certificate) : Type 0 where
  pub value : Data
  pub reads : ReadsAsValue text value
  pub stands : StandsForCertificate value certificate

-- ---- what is wrong with a text

-- the texts that the program is given
pub data Which : Type 0 where
  DefinitionText : Which
  DeclaredText : Which
  CertificateText : Which
  InputText : Which
  AnswersText : Which

-- why a text has no meaning
pub data TextFault : Type 0 where
  -- it is no JSON text
  NotJson : TextFault
  -- a number in it isn't whole, or out of range
  NotWhole : TextFault
  BadDefinition : Complaint → TextFault
  BadRecord : RecordComplaint → TextFault
  -- the element at this position is no answer
  BadAnswer : ℕ → TextFault
  -- there was no memory to read it
  NoMemory : TextFault

-- the text is no JSON
abbrev pub IsNoJson : Bytes → Type 0
IsNoJson text = (v : Data) → ReadsAsValue text v → ⊥

-- that is wrong with the text as a definition
pub data IsDefinitionFault (text : Bytes) : TextFault → Type 0 where
  definition_no_json : IsNoJson text → IsDefinitionFault text NotJson
  definition_complaint : {v : Data} {c : Complaint} → ReadsAsValue text v → HasComplaint v c
      → IsDefinitionFault text (BadDefinition c)

-- as declared shapes
pub data IsDeclaredFault (text : Bytes) : TextFault → Type 0 where
  declared_no_json : IsNoJson text → IsDeclaredFault text NotJson
  declared_not_whole : {v : Data} → ReadsAsValue text v → tree_of v ≡ None → IsDeclaredFault text NotWhole
  declared_complaint : {v : Data} {c : RecordComplaint} → ReadsAsValue text v → HasDeclaredFault v c
      → IsDeclaredFault text (BadRecord c)

-- as a certificate
pub data IsCertificateFault (text : Bytes) : TextFault → Type 0 where
  certificate_no_json : IsNoJson text → IsCertificateFault text NotJson
  certificate_not_whole : {v : Data} → ReadsAsValue text v → tree_of v ≡ None → IsCertificateFault text NotWhole
  certificate_complaint : {v : Data} {c : RecordComplaint} → ReadsAsValue text v → HasCertificateFault v c
      → IsCertificateFault text (BadRecord c)

-- the first of the three texts that is refused, and what is wrong with it
pub data IsRefusal (definition declared certificate : Bytes) : Which → TextFault → Type 0 where
  definition_refused : {f : TextFault} → IsDefinitionFault definition f
      → IsRefusal definition declared certificate DefinitionText f
  declared_refused : {machine : Scope} {f : TextFault} → ReadsAsMachine definition machine → IsDeclaredFault declared f
      → IsRefusal definition declared certificate DeclaredText f
  certificate_refused : {machine : Scope} {shapes : Declared} {f : TextFault} → ReadsAsMachine definition machine
      → ReadsAsDeclared declared shapes → IsCertificateFault certificate f
      → IsRefusal definition declared certificate CertificateText f
