-- Which answer is given, of two texts, in so many rounds.
use Rattle.std.specs.Prelude.{◌≡◌, ℕ, None, position, bytes_eq}
use Rattle.std.specs.Option.{IsSome}
use Rattle.asl_model.specs.Certificate.{Certificate, Declared}
use Rattle.asl_model.specs.Finding.{Finding}
use Rattle.asl_model.specs.Machine.{Scope}
use Rattle.asl_model.specs.Names.{Bytes, StateName}
use Rattle.asl_model.specs.Numbering.{Table, table_of}
use Rattle.asl_model.specs.Texts.{ReadsAsDeclared, ReadsAsMachine}
use Rattle.asl_infer.specs.Lenient.{IsInferredLeniently, NeverSettlesLeniently}
use Rattle.asl_tool.specs.Inferred.{AreFewRounds, IsFindingOn}
use Rattle.asl_tool.specs.VerifiedInference.{IsAcceptedAsInferred}
use Rattle.asl_explain.specs.declared.explaining.Explained.{Explained}
use Rattle.asl_explain.specs.declared.explaining.Explained.TheVariants.{Nothing, Findings, State, NoSuchState, NotSettled}

-- verifying the two texts tells a finding
pub record HasFinding (rounds : ℕ) (definition declared : Bytes) : Type 0 where
  pub found : Finding
  pub told : IsFindingOn rounds definition declared found

-- what stands where that is answered: it says yes, it tells a finding, or the rounds don't settle
abbrev pub ExplainsFindings : ℕ → Bytes → Bytes → Explained → Type 0
ExplainsFindings rounds definition declared Nothing = IsAcceptedAsInferred rounds definition declared
ExplainsFindings rounds definition declared (Findings text) = HasFinding rounds definition declared
ExplainsFindings rounds definition declared NotSettled = AreFewRounds definition declared rounds
ExplainsFindings rounds definition declared (State text) = ⊥
ExplainsFindings rounds definition declared NoSuchState = ⊥

-- a state of the table has that name
abbrev pub HasState : Table → StateName → Type 0
HasState table name = IsSome (position (bytes_eq name) table.names)

-- the definition reads as a machine in which no state has that name
pub record HasNoState (definition : Bytes) (name : StateName) : Type 0 where
  pub machine : Scope
  pub as_machine : ReadsAsMachine definition machine
  pub none : position (bytes_eq name) (table_of machine).names ≡ None

-- the two texts read, a state has that name, and the certificate is inferred leniently in so many rounds
pub record IsKnown (rounds : ℕ) (definition declared : Bytes) (name : StateName) : Type 0 where
  pub machine : Scope
  pub shapes : Declared
  pub certified : Certificate
  pub as_machine : ReadsAsMachine definition machine
  pub as_declared : ReadsAsDeclared declared shapes
  pub there : HasState (table_of machine) name
  pub inferred : IsInferredLeniently (table_of machine) shapes rounds certified

-- the two texts read, a state has that name, and each of so many lenient rounds changes a shape
pub record IsUnknown (rounds : ℕ) (definition declared : Bytes) (name : StateName) : Type 0 where
  pub machine : Scope
  pub shapes : Declared
  pub as_machine : ReadsAsMachine definition machine
  pub as_declared : ReadsAsDeclared declared shapes
  pub there : HasState (table_of machine) name
  pub changes : NeverSettlesLeniently (table_of machine) shapes rounds

-- what stands where that is answered of a state: it is known, no state has its name, or lenient rounds don't settle
abbrev pub ExplainsState : ℕ → Bytes → Bytes → StateName → Explained → Type 0
ExplainsState rounds definition declared name (State text) = IsKnown rounds definition declared name
ExplainsState rounds definition declared name NoSuchState = HasNoState definition name
ExplainsState rounds definition declared name NotSettled = IsUnknown rounds definition declared name
ExplainsState rounds definition declared name Nothing = ⊥
ExplainsState rounds definition declared name (Findings text) = ⊥
