-- What is explained where verifying says that.
use Rattle.std.proofs.Common.{ℕ, sym, subst}
use Rattle.asl_model.specs.Names.{Bytes}
use Rattle.asl_tool.specs.Inferred.{AreFewRounds, IsFindingOn}
use Rattle.asl_tool.specs.VerifiedInference.{IsAcceptedAsInferred, Tells, WhereYes}
use Rattle.asl_tool.specs.declared.inferring.Verified.{Verified}
use Rattle.asl_tool.specs.declared.inferring.Verified.TheVariants as verified
use Rattle.asl_explain.specs.Answers.{ExplainsFindings, HasFinding}
use Rattle.asl_explain.specs.Outcomes.{Answers, AreFindings}
use Rattle.asl_explain.specs.declared.explaining.Explained.{Explained}
use Rattle.asl_explain.specs.declared.explaining.Explained.TheVariants.{Nothing, Findings, State, NoSuchState, NotSettled}

-- where a finding is told findings are explained
of_findings : (rounds : ℕ) (definition text : Bytes) (told : Explained) → HasFinding rounds definition text → AreFindings told → ExplainsFindings rounds definition text told
of_findings rounds definition text (Findings t) has are = has
of_findings rounds definition text Nothing has are = absurd are
of_findings rounds definition text (State t) has are = absurd are
of_findings rounds definition text NoSuchState has are = absurd are
of_findings rounds definition text NotSettled has are = absurd are

-- what stands where that is answered
pub explains : (rounds : ℕ) (definition text : Bytes) (v : Verified) (told : Explained) → WhereYes (IsAcceptedAsInferred rounds definition text) v → Tells (IsFindingOn rounds definition text) (AreFewRounds definition text rounds) v → Answers v told → ExplainsFindings rounds definition text told
explains rounds definition text verified.Yes told promise tells same = subst (ExplainsFindings rounds definition text) (sym same) promise
explains rounds definition text (verified.Finding f) told promise tells are = of_findings rounds definition text told (record { found = _; told = tells }) are
explains rounds definition text verified.NotSettled told promise tells same = subst (ExplainsFindings rounds definition text) (sym same) tells
