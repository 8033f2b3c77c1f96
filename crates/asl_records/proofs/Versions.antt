-- What is wrong with the version.
use Rattle.std.proofs.Common.{◌≡◌, ℤ, pos, [], ◌∷◌, Bool, true, false, map, Some, w64, refl, sym, ap, ◌∙◌}
use Rattle.std.specs.Cmp.{signed_Decides}
use Rattle.std.specs.Ordering.{int_eq}
use Rattle.serde_json.specs.Data.{Data}
use Rattle.asl_model.specs.Records.{Reading, VersionValue, BadVersion, version_misfits}
use Rattle.asl_records.specs.Parts.{TellsOneOf, complaint_of, field_complaints, version_row}
use Rattle.asl_records.specs.declared.refusals.ReadFault.{ReadFault}
use Rattle.asl_records.proofs.Alike.{misfits-signed}
use Rattle.asl_records.proofs.Signed.{signed}
use Rattle.asl_records.proofs.Telling.{told_same}
use mir.Val.{of_z}

other_number : (n m : ℤ) → (of_z w64 n ≡ of_z w64 m → ⊥) → int_eq n m ≡ false
other_number n m h = by (int_eq n m) refl
  where
    by : (b : Bool) → int_eq n m ≡ b → int_eq n m ≡ false
    by true e = absurd (h (ap (of_z w64) ((signed_Decides n m).0 e)))
    by false e = e

-- a whole number other than 1 and 2
pub other_version : (n : ℤ) → (of_z w64 n ≡ 1 → ⊥) → (of_z w64 n ≡ 2 → ⊥) → version_misfits (Some n) ≡ BadVersion ∷ []
other_version n one two = rw (other_number n (pos 1) one, other_number n (pos 2) two) refl

-- what is wrong with a value, and what is told of it, by its signed one
pub right_signed : (v : Data) → ((reading : Reading) → field_complaints reading [] version_row (Some (signed v)) ≡ []) → (reading : Reading) → field_complaints reading [] version_row (Some v) ≡ []
right_signed v h reading = ap (map (complaint_of [] version_row.field)) (sym (misfits-signed reading VersionValue v)) ∙ h reading

pub told_signed : (fault : ReadFault) (v : Data) → ((reading : Reading) → TellsOneOf (field_complaints reading [] version_row (Some (signed v))) fault) → (reading : Reading) → TellsOneOf (field_complaints reading [] version_row (Some v)) fault
told_signed fault v h reading = told_same fault _ _ (h reading) (ap (map (complaint_of [] version_row.field)) (misfits-signed reading VersionValue v))
