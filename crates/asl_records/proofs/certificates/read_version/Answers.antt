use Rattle.std.proofs.Common.{◌≡◌, pos, [], map, refl, sym, ap}
use Rattle.std.proofs.lemmas.Result.{IfErr-weaker, IfOk-weaker, on_ok_weaker}
use Rattle.asl_model.specs.Records.{Reading, MissingField}
use Rattle.asl_shape.specs.Spelled.{tree_there}
use Rattle.asl_tree.specs.View.{view}
use Rattle.asl_records.specs.Parts.{TellsOneOf, complaint_of, field_complaints, is_number, version_row}
use Rattle.asl_records.proofs.Alike.{is_number-signed}
use Rattle.asl_records.proofs.Values.{for_none, for_part}
use Rattle.asl_records.proofs.Versions.{right_signed, told_signed}
use Rattle.asl_records.proofs.certificates.read_version.Goals as goal

pub returns-in-Some-clause-right : goal.returns-in-Some-clause-right
returns-in-Some-clause-right c =
    on_ok_weaker c.several_in.result (λ h. for_part (λ part. (reading : Reading) → field_complaints reading [] version_row part ≡ []) right_signed (view c.in-Some.tree.now) _ (sym (ap tree_there c.in-Some.is)) (λ reading. ap (map (complaint_of [] version_row.field)) (h reading))) c.several_in.ensures.right

pub returns-in-Some-clause-several : goal.returns-in-Some-clause-several
returns-in-Some-clause-several c =
    IfOk-weaker c.several_in.result _ _ (λ several h. for_part (λ part. several ≡ is_number (pos 2) part) (λ v h. rw (sym (is_number-signed (pos 2) v)) h) (view c.in-Some.tree.now) _ (sym (ap tree_there c.in-Some.is)) h) c.several_in.ensures.several

pub returns-in-Some-clause-refused : goal.returns-in-Some-clause-refused
returns-in-Some-clause-refused c =
    IfErr-weaker c.several_in.result _ _ (λ f. for_part (λ part. (reading : Reading) → TellsOneOf (field_complaints reading [] version_row part) f) (told_signed f) (view c.in-Some.tree.now) _ (sym (ap tree_there c.in-Some.is))) c.several_in.ensures.refused

pub returns-in-None-clause-refused : goal.returns-in-None-clause-refused
returns-in-None-clause-refused c = for_none (λ part. (reading : Reading) → TellsOneOf (field_complaints reading [] version_row part) c.record.result) _ (sym (ap tree_there c.in-None.is)) (λ reading. c.record.ensures MissingField refl)
