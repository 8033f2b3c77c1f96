-- What a definition and declared shapes read as, and why one of them doesn't read.
use Rattle.std.specs.Prelude.{ℕ, List, ⊤}
use Rattle.asl_model.specs.Texts.{Which, DefinitionText, DeclaredText, CertificateText, InputText, AnswersText, TextFault, ReadsAsDeclared}
use Rattle.asl_records.specs.View.{declared_view}
use Rattle.asl_texts.specs.Verifying.{IsRefusedAs, MachineReads, ReadsInto, RefusesDeclared, RefusesDefinition}
use Rattle.asl_texts.specs.View.{which_view, text_fault_view}
use Rattle.asl_texts.specs.declared.refusals.RunFault.{RunFault}
use Rattle.asl_texts.specs.declared.refusals.RunFault.TheVariants as run
use Rattle.asl_texts.specs.declared.subjects.Subject.{Subject}

-- the two texts read as that machine and those declared shapes
pub record Describes (definition declared : List ℕ) (subject : Subject) : Type 0 where
  pub machine : ReadsInto definition subject.machine
  pub as_declared : ReadsAsDeclared declared (declared_view subject.declared)

-- why a text is read as no machine: a fault stands in it, or there was no memory
abbrev pub DefinitionFaultStands : List ℕ → RunFault → Type 0
DefinitionFaultStands text (run.Text refusal) = IsRefusedAs DefinitionText (RefusesDefinition text) refusal
DefinitionFaultStands text run.TooLong = ⊥
DefinitionFaultStands text run.Read = ⊥
DefinitionFaultStands text run.Write = ⊥
DefinitionFaultStands text run.OutOfMemory = ⊤

-- as no declared shapes
abbrev pub DeclaredFaultStands : List ℕ → RunFault → Type 0
DeclaredFaultStands text (run.Text refusal) = IsRefusedAs DeclaredText (RefusesDeclared text) refusal
DeclaredFaultStands text run.TooLong = ⊥
DeclaredFaultStands text run.Read = ⊥
DeclaredFaultStands text run.Write = ⊥
DeclaredFaultStands text run.OutOfMemory = ⊤

-- the text is the first of the two that is refused, and the fault stands in it, or there was no memory to say
abbrev pub IsFirstOfTwo : List ℕ → List ℕ → Which → TextFault → Type 0
IsFirstOfTwo definition declared DefinitionText f = RefusesDefinition definition f
IsFirstOfTwo definition declared DeclaredText f = MachineReads definition × RefusesDeclared declared f
IsFirstOfTwo definition declared CertificateText f = ⊥
IsFirstOfTwo definition declared InputText f = ⊥
IsFirstOfTwo definition declared AnswersText f = ⊥

-- why the two aren't read: a refused text, or there was no memory
abbrev pub SubjectFaultStands : List ℕ → List ℕ → RunFault → Type 0
SubjectFaultStands definition declared (run.Text refusal) =
    IsFirstOfTwo definition declared (which_view refusal.which) (text_fault_view refusal.fault)
SubjectFaultStands definition declared run.TooLong = ⊥
SubjectFaultStands definition declared run.Read = ⊥
SubjectFaultStands definition declared run.Write = ⊥
SubjectFaultStands definition declared run.OutOfMemory = ⊤
