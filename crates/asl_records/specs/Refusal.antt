-- Why a tree is refused.
use Rattle.std.specs.Prelude.{◌≡◌, Some, ⊤}
use Rattle.serde_json.specs.Data.{Data}
use Rattle.asl_model.specs.Records.{RecordComplaint, HasDeclaredFault, HasCertificateFault}
use Rattle.asl_records.specs.View.{complaint_view}
use Rattle.asl_records.specs.declared.refusals.RecordRefusal.{RecordRefusal}
use Rattle.asl_records.specs.declared.refusals.ReadFault.{ReadFault}
use Rattle.asl_records.specs.declared.refusals.ReadFault.TheVariants as kept

-- the refusal tells a complaint that stands
abbrev pub Tells : RecordRefusal → (RecordComplaint → Type 0) → Type 0
Tells refusal Stands = (c : RecordComplaint) × (complaint_view refusal ≡ Some c) × Stands c

-- why the value isn't read as declared shapes
abbrev pub IsDeclaredRefusal : Data → ReadFault → Type 0
IsDeclaredRefusal v (kept.Record refusal) = Tells refusal (HasDeclaredFault v)
IsDeclaredRefusal v kept.OutOfMemory = ⊤

-- why it isn't read as a certificate
abbrev pub IsCertificateRefusal : Data → ReadFault → Type 0
IsCertificateRefusal v (kept.Record refusal) = Tells refusal (HasCertificateFault v)
IsCertificateRefusal v kept.OutOfMemory = ⊤
