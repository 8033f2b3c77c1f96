-- What is inferred of two texts breaks no rule on each text that reads as it either: there is one such certificate.
use Rattle.std.proofs.Common.{◌≡◌, ℕ, List, [], subst}
use Rattle.asl_model.specs.Certificate.{Certificate, Declared}
use Rattle.asl_model.specs.Finding.{findings}
use Rattle.asl_model.specs.Machine.{Scope}
use Rattle.asl_model.specs.Numbering.{table_of}
use Rattle.asl_model.specs.Texts.{ReadsAsDeclared, ReadsAsMachine}
use Rattle.asl_draft_laws.specs.Drafts.{IsInferred}
use Rattle.asl_draft_laws.proofs.OneAnswer.{inferred_once}
use Rattle.asl_tool.specs.VerifiedInference.{IsAcceptedAsWritten}

-- a text reads as one machine, and as one declared record
abbrev OneMachine : Type 0
OneMachine = (text : List ℕ) (m n : Scope) → ReadsAsMachine text m → ReadsAsMachine text n → m ≡ n

abbrev OneDeclared : Type 0
OneDeclared = (text : List ℕ) (d e : Declared) → ReadsAsDeclared text d → ReadsAsDeclared text e → d ≡ e

-- no rule is broken on such a text where none is by the certificate that is inferred
module _ (rounds : ℕ) (definition declared : List ℕ) (machine : Scope) (shapes : Declared) (certified : Certificate) (one_machine : OneMachine) (one_declared : OneDeclared) (as_machine : ReadsAsMachine definition machine) (as_declared : ReadsAsDeclared declared shapes) (inferred : IsInferred (table_of machine) shapes rounds certified) where
  pub accepted_on_written : findings machine shapes certified ≡ [] → IsAcceptedAsWritten rounds definition declared
  accepted_on_written none = λ numbered text w.
      let m : machine ≡ w.machine = one_machine definition machine w.machine as_machine w.read.as_machine in
      let d : shapes ≡ w.shapes = one_declared declared shapes w.shapes as_declared w.read.as_declared in
      let also : IsInferred (table_of w.machine) w.shapes rounds certified = subst (λ s. IsInferred (table_of w.machine) s rounds certified) d (subst (λ x. IsInferred (table_of x) shapes rounds certified) m inferred) in
      let c : certified ≡ w.certified = inferred_once (table_of w.machine) w.shapes rounds certified w.certified also w.inferred in
      record {
        machine = w.machine;
        shapes = w.shapes;
        certified = w.certified;
        read = w.read;
        right = subst (λ x. findings w.machine w.shapes x ≡ []) c (subst (λ s. findings w.machine s certified ≡ []) d (subst (λ x. findings x shapes certified ≡ []) m none));
      }
