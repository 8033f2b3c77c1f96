-- What is said of refused texts, and of the lines that texts are taken from.
use Rattle.std.specs.Prelude.{◌≡◌, ℕ, List, Option, option_map, ⊤}
use Rattle.std.specs.Option.{unwrap_or}
use Rattle.asl_model.specs.Machine.{Scope}
use Rattle.asl_model.specs.Certificate.{Declared}
use Rattle.asl_model.specs.Texts.{Which, DefinitionText, DeclaredText, CertificateText, TextFault, NotJson, BadRecord, NoMemory, IsNoJson, IsDefinitionFault, IsDeclaredFault, IsCertificateFault, IsRefusal, ReadsAsMachine, ReadsAsDeclared}
use Rattle.asl_machine_table.specs.Held.{Held}
use Rattle.asl_machine_table.specs.Table.{scope_in}
use Rattle.asl_records.specs.View.{complaint_view}
use Rattle.asl_records.specs.declared.refusals.ReadFault.{ReadFault}
use Rattle.asl_records.specs.declared.refusals.ReadFault.TheVariants as kept
use Rattle.asl_texts.specs.Lines.{AreLines}
use Rattle.asl_texts.specs.View.{which_view, text_fault_view}
use Rattle.asl_texts.specs.declared.refusals.RunFault.{RunFault}
use Rattle.asl_texts.specs.declared.refusals.TextRefusal.{TextRefusal}
use Rattle.asl_texts.specs.declared.refusals.RunFault.TheVariants as run

-- why a text gives no JSON value: it is no JSON, or there was no memory
pub data UnreadableStands (text : List ℕ) : TextFault → Type 0 where
  no_json : IsNoJson text → UnreadableStands text NotJson
  unread : UnreadableStands text NoMemory

-- what is told of a tree that is no record
abbrev pub record_fault_of : ReadFault → TextFault
record_fault_of (kept.Record refusal) = unwrap_or (option_map BadRecord (complaint_view refusal)) NoMemory
record_fault_of kept.OutOfMemory = NoMemory

-- the text reads as the definition of the machine
abbrev pub ReadsInto : List ℕ → Held → Type 0
ReadsInto text machine = ReadsAsMachine text (scope_in machine)

-- why a text is refused as a definition: the fault stands in it, or there was no memory
pub data RefusesDefinition (text : List ℕ) : TextFault → Type 0 where
  definition_fault : {f : TextFault} → IsDefinitionFault text f → RefusesDefinition text f
  definition_no_memory : RefusesDefinition text NoMemory

-- as declared shapes
pub data RefusesDeclared (text : List ℕ) : TextFault → Type 0 where
  declared_fault : {f : TextFault} → IsDeclaredFault text f → RefusesDeclared text f
  declared_no_memory : RefusesDeclared text NoMemory

-- as a certificate
pub data RefusesCertificate (text : List ℕ) : TextFault → Type 0 where
  certificate_fault : {f : TextFault} → IsCertificateFault text f → RefusesCertificate text f
  certificate_no_memory : RefusesCertificate text NoMemory

-- it is that text which is refused, and so
abbrev pub IsRefusedAs : Which → (TextFault → Type 0) → TextRefusal → Type 0
IsRefusedAs which Stands refusal = (which_view refusal.which ≡ which) × Stands (text_fault_view refusal.fault)

-- the text reads as a machine, as declared shapes
pub record MachineReads (definition : List ℕ) : Type 0 where
  pub machine : Scope
  pub as_machine : ReadsAsMachine definition machine

pub record DeclaredReads (declared : List ℕ) : Type 0 where
  pub shapes : Declared
  pub as_declared : ReadsAsDeclared declared shapes

-- The text is the first of the three that is refused, and the fault stands in it. Or there was no memory to read it, and
-- those in front of it read; with the certificate that is told too where there was none to check it.
pub data IsRefused (definition declared certificate : List ℕ) : Which → TextFault → Type 0 where
  fault_stands : {which : Which} {f : TextFault}
      → IsRefusal definition declared certificate which f
      → IsRefused definition declared certificate which f
  definition_unread : IsRefused definition declared certificate DefinitionText NoMemory
  declared_unread : MachineReads definition
      → IsRefused definition declared certificate DeclaredText NoMemory
  certificate_unread : MachineReads definition → DeclaredReads declared
      → IsRefused definition declared certificate CertificateText NoMemory

-- that is so of the first three lines of known bytes; of three lines, where the bytes aren't known
pub record OfLines (known : Option (List ℕ)) (Promise : List ℕ → List ℕ → List ℕ → Type 0) : Type 0 where
  pub definition : List ℕ
  pub declared : List ℕ
  pub certificate : List ℕ
  pub lines : AreLines known definition declared certificate
  pub promise : Promise definition declared certificate

-- a refused text among three lines is refused rightly
abbrev pub TellsRefusal : Option (List ℕ) → RunFault → Type 0
TellsRefusal known (run.Text refusal) = OfLines known (λ definition declared certificate. IsRefused definition declared certificate (which_view refusal.which) (text_fault_view refusal.fault))
TellsRefusal known run.TooLong = ⊤
TellsRefusal known run.Read = ⊤
TellsRefusal known run.Write = ⊤
TellsRefusal known run.OutOfMemory = ⊤
