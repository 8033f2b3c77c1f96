-- What the inferrer of certificates answers.
use Rattle.std.specs.Prelude.{◌≡◌, ◌+◌, ◌*◌, ◌≤◌, ℕ, suc, [], sum_by, IsTrue, ⊤}
use Rattle.serde_json.specs.Data.{depth}
use Rattle.serde_json.specs.Read.{max_depth}
use Rattle.asl_machine_table.specs.Held.{Held}
use Rattle.asl_machine_table.specs.Table.{scope_in}
use Rattle.asl_model.specs.Certificate as model
use Rattle.asl_model.specs.Finding as finding
use Rattle.asl_model.specs.Inference.{StandsForSome, is_of_machine}
use Rattle.asl_model.specs.Json.{value_of}
use Rattle.asl_model.specs.Machine.{Scope, kind_of}
use Rattle.asl_model.specs.Numbering.{Table, table_of}
use Rattle.asl_model.specs.Written.{written_certificate}
use Rattle.asl_draft_laws.specs.Drafts.{IsInferred, IsTold, NeverSettles, children_in}
use Rattle.asl_records.specs.View.{declared_view, certificate_view}
use Rattle.asl_records.specs.declared.records.Certificate.{Certificate}
use Rattle.asl_records.specs.declared.records.Declared.{Declared}
use Rattle.asl_check.specs.View.{finding_view}
use Rattle.asl_infer.specs.declared.inferring.InferRefusal.{InferRefusal}
use Rattle.asl_infer.specs.declared.inferring.InferRefusal.TheVariants.{Finding, NotSettled, OutOfMemory}

-- how many shapes the entries have of the states of that table: of inputs, of outputs, and of the ends of children
abbrev pub states_shapes : Table → ℕ
states_shapes table = sum_by (λ state. 2 + children_in (kind_of state)) table.states

-- how many shapes a certificate has of a machine with that table: of the output, and in the entries of its states
abbrev pub certified_shapes : Table → ℕ
certified_shapes table = suc (states_shapes table)

-- the finding is of the machine or of what is declared, and stands for some certificate
pub record IsOfMachine (machine : Scope) (declared : model.Declared) (found : finding.Finding) : Type 0 where
  pub fault : IsTrue (is_of_machine found.fault)
  pub stands : StandsForSome machine declared found

-- Why no certificate is inferred in so many rounds: a finding of the machine or of what is declared; the shapes haven't
-- settled, and there were no more rounds than all shapes together may change; out of memory.
abbrev pub IsInferRefusal : Scope → model.Declared → ℕ → InferRefusal → Type 0
IsInferRefusal machine declared rounds (Finding found) = IsOfMachine machine declared (finding_view found)
IsInferRefusal machine declared rounds NotSettled = rounds ≤ 33 * certified_shapes (table_of machine)
IsInferRefusal machine declared rounds OutOfMemory = ⊤

-- By the rounds: the finding is the one that they tell; each of them changes the draft before it; out of memory.
abbrev pub IsReasonOf : Table → model.Declared → ℕ → InferRefusal → Type 0
IsReasonOf table declared rounds (Finding found) = IsTold table declared rounds (finding_view found)
IsReasonOf table declared rounds NotSettled = NeverSettles table declared rounds
IsReasonOf table declared rounds OutOfMemory = ⊤

-- ---- what is answered of a machine and what is declared for it, as the code has them

-- the certificate is the one that is inferred in so many rounds
abbrev pub IsInferredOf : Held → Declared → ℕ → Certificate → Type 0
IsInferredOf machine declared rounds certificate =
    IsInferred (table_of (scope_in machine)) (declared_view declared) rounds (certificate_view certificate)

-- it is closed
abbrev pub IsClosedOf : Held → Declared → Certificate → Type 0
IsClosedOf machine declared certificate =
    model.IsClosed (declared_view declared) (certificate_view certificate) (scope_in machine)

-- no rule is broken
abbrev pub BreaksNoRule : Held → Declared → Certificate → Type 0
BreaksNoRule machine declared certificate =
    finding.findings (scope_in machine) (declared_view declared) (certificate_view certificate) ≡ []

-- what is written of it nests no deeper than a reader of JSON goes
abbrev pub IsWrittenShallow : Certificate → Type 0
IsWrittenShallow certificate = depth (value_of (written_certificate (certificate_view certificate))) ≤ max_depth

-- that is why none is inferred in so many rounds
abbrev pub IsRefusalOf : Held → Declared → ℕ → InferRefusal → Type 0
IsRefusalOf machine declared rounds refusal = IsInferRefusal (scope_in machine) (declared_view declared) rounds refusal

-- and what the rounds come to
abbrev pub IsToldOf : Held → Declared → ℕ → InferRefusal → Type 0
IsToldOf machine declared rounds refusal = IsReasonOf (table_of (scope_in machine)) (declared_view declared) rounds refusal
