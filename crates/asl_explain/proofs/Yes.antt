-- There is nothing to explain exactly where the verdict is yes.
use Rattle.std.proofs.Common.{◌≡◌, ◌↔◌, ℕ, refl, subst}
use Rattle.asl_model.specs.Certificate.{Declared}
use Rattle.asl_model.specs.Finding.{Finding}
use Rattle.asl_model.specs.Machine.{Scope}
use Rattle.asl_model.specs.Names.{Bytes}
use Rattle.asl_model.specs.Numbering.{table_of}
use Rattle.asl_model.specs.Texts.{ReadsAsDeclared, ReadsAsMachine}
use Rattle.asl_model.proofs.ReadingLaws.{text_has_one_declared, text_has_one_machine}
use Rattle.asl_draft_laws.specs.Drafts.{IsInferred}
use Rattle.asl_tool.specs.Inferred.{AreFewRounds, IsFindingOn}
use Rattle.asl_tool.specs.VerifiedInference.{IsAcceptedAsInferred, Tells, WhereYes}
use Rattle.asl_tool.specs.declared.inferring.Verified.{Verified}
use Rattle.asl_tool.specs.declared.inferring.Verified.TheVariants as verified
use Rattle.asl_explain.specs.declared.explaining.Explained.{Explained}
use Rattle.asl_explain.specs.declared.explaining.Explained.TheVariants.{Nothing}
use Rattle.asl_draft_laws.proofs.OneAnswer.{nothing_told, settles}

-- where it is yes, verifying the texts says no other thing
module _ (rounds : ℕ) (definition text : Bytes) (yes : IsAcceptedAsInferred rounds definition text) where
  -- the certificate is inferred of whatever else the texts read as
  inferred_also : (machine : Scope) (shapes : Declared) → ReadsAsMachine definition machine → ReadsAsDeclared text shapes → IsInferred (table_of machine) shapes rounds yes.certified
  inferred_also machine shapes m d =
      let one : yes.machine ≡ machine = text_has_one_machine definition yes.machine machine yes.as_machine m in
      let same : yes.shapes ≡ shapes = text_has_one_declared text yes.shapes shapes yes.as_declared d in
      subst (λ s. IsInferred (table_of machine) s rounds yes.certified) same (subst (λ x. IsInferred (table_of x) yes.shapes rounds yes.certified) one yes.inferred)

  no_finding : (f : Finding) → IsFindingOn rounds definition text f → ⊥
  no_finding f found =
      let inferred = inferred_also found.machine found.shapes found.as_machine found.as_declared in
      nothing_told (table_of found.machine) found.shapes rounds yes.certified f inferred found.told

  no_few_rounds : AreFewRounds definition text rounds → ⊥
  no_few_rounds few =
      let inferred = inferred_also few.machine few.shapes few.as_machine few.as_declared in
      settles (table_of few.machine) few.shapes rounds yes.certified inferred few.changes

-- nothing is explained exactly where the verdict is yes
pub exactly : (rounds : ℕ) (definition text : Bytes) (v : Verified) (told : Explained) → WhereYes (IsAcceptedAsInferred rounds definition text) v → Tells (IsFindingOn rounds definition text) (AreFewRounds definition text rounds) v → (told ≡ Nothing) ↔ (v ≡ verified.Yes) → (told ≡ Nothing) ↔ IsAcceptedAsInferred rounds definition text
exactly rounds definition text verified.Yes told promise tells same = (λ _. promise, λ _. same.1 refl)
exactly rounds definition text (verified.Finding f) told promise tells same =
    (λ none. let e = same.0 none in absurd (cc), λ yes. absurd (no_finding rounds definition text yes _ tells))
exactly rounds definition text verified.NotSettled told promise tells same =
    (λ none. let e = same.0 none in absurd (cc), λ yes. absurd (no_few_rounds rounds definition text yes tells))
