-- What private clauses say of answers. No public clause cites this module.
use Rattle.std.specs.Prelude.{◌≡◌, ℕ, ⊤}
use Rattle.asl_model.specs.Certificate.{Certificate, Declared}
use Rattle.asl_model.specs.Numbering.{Table}
use Rattle.asl_infer.specs.Lenient.{IsInferredLeniently}
use Rattle.asl_tool.specs.declared.inferring.Verified.{Verified}
use Rattle.asl_tool.specs.declared.inferring.Verified.TheVariants as verified
use Rattle.asl_explain.specs.declared.explaining.Explained.{Explained}
use Rattle.asl_explain.specs.declared.explaining.Explained.TheVariants.{Nothing, Findings, State, NoSuchState, NotSettled}

-- lenient rounds settle on a certificate
pub record SettlesLeniently (machine : Table) (declared : Declared) (rounds : ℕ) : Type 0 where
  pub certified : Certificate
  pub inferred : IsInferredLeniently machine declared rounds certified

-- findings are explained
abbrev pub AreFindings : Explained → Type 0
AreFindings (Findings text) = ⊤
AreFindings Nothing = ⊥
AreFindings (State text) = ⊥
AreFindings NoSuchState = ⊥
AreFindings NotSettled = ⊥

-- what is answered for what verifying says
abbrev pub Answers : Verified → Explained → Type 0
Answers verified.Yes told = told ≡ Nothing
Answers (verified.Finding finding) told = AreFindings told
Answers verified.NotSettled told = told ≡ NotSettled
