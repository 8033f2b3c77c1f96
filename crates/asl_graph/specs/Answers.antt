-- What is drawn of two texts, in so many rounds, and of a definition alone.
use Rattle.std.specs.Prelude.{ℕ}
use Rattle.asl_model.specs.Certificate.{Certificate, Declared}
use Rattle.asl_model.specs.Machine.{Scope}
use Rattle.asl_model.specs.Names.{Bytes}
use Rattle.asl_model.specs.Numbering.{Table, table_of}
use Rattle.asl_model.specs.Texts.{ReadsAsDeclared, ReadsAsMachine}
use Rattle.asl_infer.specs.Lenient.{IsInferredLeniently, NeverSettlesLeniently}
use Rattle.asl_texts.specs.Verifying.{MachineReads}
use Rattle.asl_graph.specs.declared.graphing.Drawn.{Drawn}
use Rattle.asl_graph.specs.declared.graphing.Drawn.TheVariants.{Graph, NotSettled}

-- a certificate is inferred leniently in so many rounds
pub record Settles (machine : Table) (declared : Declared) (rounds : ℕ) : Type 0 where
  pub certified : Certificate
  pub inferred : IsInferredLeniently machine declared rounds certified

-- the two texts read, and a certificate is inferred of them leniently in so many rounds
pub record IsSettled (rounds : ℕ) (definition declared : Bytes) : Type 0 where
  pub machine : Scope
  pub shapes : Declared
  pub as_machine : ReadsAsMachine definition machine
  pub as_declared : ReadsAsDeclared declared shapes
  pub settles : Settles (table_of machine) shapes rounds

-- the two texts read, and each of so many lenient rounds changes a shape
pub record IsUnsettled (rounds : ℕ) (definition declared : Bytes) : Type 0 where
  pub machine : Scope
  pub shapes : Declared
  pub as_machine : ReadsAsMachine definition machine
  pub as_declared : ReadsAsDeclared declared shapes
  pub changes : NeverSettlesLeniently (table_of machine) shapes rounds

-- what stands where that is drawn of two texts: a picture where lenient rounds settle, none where they don't
abbrev pub Draws : ℕ → Bytes → Bytes → Drawn → Type 0
Draws rounds definition declared (Graph text) = IsSettled rounds definition declared
Draws rounds definition declared NotSettled = IsUnsettled rounds definition declared

-- what stands where that is drawn of a definition alone: it reads, and there is a picture
abbrev pub DrawsAlone : Bytes → Drawn → Type 0
DrawsAlone definition (Graph text) = MachineReads definition
DrawsAlone definition NotSettled = ⊥
