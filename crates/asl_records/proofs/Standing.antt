-- What a tree stands for, and why it is refused, by the complaints about its one value.
use Rattle.std.proofs.Common.{◌≡◌, ℕ, List, [], is_some, Result, Ok, Err, IfOk, OnOk, sym, ap, ◌∙◌}
use Rattle.serde_json.specs.Data.{Data}
use Rattle.asl_model.specs.Certificate.{Certificate, Declared}
use Rattle.asl_model.specs.Records.{Reading, RecordRow, StandsForCertificate, StandsForDeclared, certificate_complaints, certificate_from, declared_complaints, declared_from, object_complaints}
use Rattle.asl_model.specs.Tree.{Tree}
use Rattle.asl_records.specs.Parts.{TellsOneOf}
use Rattle.asl_records.specs.Refusal.{IsCertificateRefusal, IsDeclaredRefusal}
use Rattle.asl_records.specs.Values.{For, IsValue, as_value}
use Rattle.asl_records.specs.declared.refusals.ReadFault.{ReadFault}
use Rattle.asl_records.specs.declared.refusals.ReadFault.TheVariants as kept
use Rattle.asl_records.proofs.Alike.{certificate_complaints-signed, certificate_from-signed, declared_complaints-signed, declared_from-signed, object_complaints-signed}
use Rattle.asl_records.proofs.Signed.{signed_value}
use Rattle.asl_records.proofs.Telling.{told_same}
use Rattle.asl_records.proofs.Values.{for_value}

-- what a call answers
pub certificate_answer : {T : Type 0} (t : Tree) (see : T → Certificate) (r : Result T ReadFault) → OnOk r (certificate_complaints (as_value t) ≡ []) → IfOk r (λ x. see x ≡ certificate_from (as_value t)) → IfOk r (λ x. For (IsValue t) (λ v. StandsForCertificate v (see x)))
certificate_answer t see (Ok x) right same = record {
  each = λ v is.
      let signed = signed_value v t is in
      record {
        whole = ap is_some is;
        none_wrong = sym (certificate_complaints-signed v) ∙ ap certificate_complaints signed ∙ right;
        same = sym (certificate_from-signed v) ∙ ap certificate_from signed ∙ sym same;
      };
}
certificate_answer t see (Err e) right same = tt

pub declared_answer : {T : Type 0} (t : Tree) (see : T → Declared) (r : Result T ReadFault) → OnOk r (declared_complaints (as_value t) ≡ []) → IfOk r (λ x. see x ≡ declared_from (as_value t)) → IfOk r (λ x. For (IsValue t) (λ v. StandsForDeclared v (see x)))
declared_answer t see (Ok x) right same = record {
  each = λ v is.
      let signed = signed_value v t is in
      record {
        whole = ap is_some is;
        none_wrong = sym (declared_complaints-signed v) ∙ ap declared_complaints signed ∙ right;
        same = sym (declared_from-signed v) ∙ ap declared_from signed ∙ sym same;
      };
}
declared_answer t see (Err e) right same = tt

-- what it is refused with
certificate_refusal : (v : Data) (fault : ReadFault) → TellsOneOf (certificate_complaints v) fault → IsCertificateRefusal v fault
certificate_refusal v (kept.Record refusal) h = let told = h.told in (told.0, told.1, record { listed = told.2 })
certificate_refusal v kept.OutOfMemory h = tt

declared_refusal : (v : Data) (fault : ReadFault) → TellsOneOf (declared_complaints v) fault → IsDeclaredRefusal v fault
declared_refusal v (kept.Record refusal) h = let told = h.told in (told.0, told.1, record { listed = told.2 })
declared_refusal v kept.OutOfMemory h = tt

pub certificate_refused : (t : Tree) (fault : ReadFault) → TellsOneOf (certificate_complaints (as_value t)) fault → For (IsValue t) (λ v. IsCertificateRefusal v fault)
certificate_refused t fault told = record { each = λ v is. certificate_refusal v fault (told_same fault _ _ told (sym (ap certificate_complaints (signed_value v t is)) ∙ certificate_complaints-signed v)) }

pub declared_refused : (t : Tree) (fault : ReadFault) → TellsOneOf (declared_complaints (as_value t)) fault → For (IsValue t) (λ v. IsDeclaredRefusal v fault)
declared_refused t fault told = record { each = λ v is. declared_refusal v fault (told_same fault _ _ told (sym (ap declared_complaints (signed_value v t is)) ∙ declared_complaints-signed v)) }

-- ---- an object of a record

module _ (reading : Reading) (name : List ℕ) (rows : List RecordRow) (t : Tree) where
  pub object_right : object_complaints reading name rows (as_value t) ≡ [] → For (IsValue t) (λ v. object_complaints reading name rows v ≡ [])
  object_right h = for_value (λ v. object_complaints reading name rows v ≡ []) (λ v h. sym (object_complaints-signed reading name rows v) ∙ h) t h

  pub object_told : (fault : ReadFault) → TellsOneOf (object_complaints reading name rows (as_value t)) fault → For (IsValue t) (λ v. TellsOneOf (object_complaints reading name rows v) fault)
  object_told fault h = for_value (λ v. TellsOneOf (object_complaints reading name rows v) fault) (λ v h. told_same fault _ _ h (object_complaints-signed reading name rows v)) t h
