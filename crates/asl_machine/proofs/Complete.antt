-- What is told of a whole definition.
use Rattle.std.proofs.Common.{◌≡◌, ℕ, List, [], ◌++◌, length, map, Some, sym, ap, ◌∙◌, append_assoc}
use Rattle.std.proofs.lemmas.List.{length-map}
use Rattle.serde_json.specs.Data.{Data}
use Rattle.asl_model.specs.DefinitionTable.{machine_rows}
use Rattle.asl_model.specs.StandsFor.{all_names, complaints, duplicate_complaints, no_object_complaints, number_complaints, place_of_state, scope_complaints, scope_of}
use Rattle.asl_fields.specs.declared.places.Complaint.{Complaint as Objection}
use Rattle.asl_machine.specs.declared.scope_telling.Telling.{Telling}
use Rattle.asl_fields.specs.Verdicts.{complaint_view}
use Rattle.asl_machine.specs.Reading.{definition_told}
use Rattle.asl_fields.specs.Telling.{Told}
use Rattle.asl_machine.specs.Telling.{Walks, count_told, texts}
use Rattle.asl_machine.proofs.Told.{tells_as, tells_then}

-- the complaints of a walk, then those of the names that it gathered
pub all_told : (v : Data) (start walked : Telling) (repeated told : List Objection) (count : ℕ) → start.told.items ≡ [] → start.names.items ≡ [] → Walks start walked (definition_told v) (all_names (scope_of v)) → Told walked.told.items repeated (duplicate_complaints (texts walked.names.items))
    → count ≡ length walked.names.items → Told repeated told (count_told count) → map complaint_view told ≡ map Some (complaints v)
all_told v start walked repeated told count none unnamed walk again counted large =
    let names = all_names (scope_of v) in
    let gathered : texts walked.names.items ≡ names = walk.named ∙ ap (λ ns. texts ns ++ names) unnamed in
    let number = counted ∙ sym (length-map walked.names.items (λ n. n.now)) ∙ ap length gathered in
    let all = tells_then walk.told (tells_then (tells_as (ap duplicate_complaints gathered) again) (tells_as (ap count_told number) large)) in
    all.holds ∙ ap (λ before. map complaint_view before ++ map Some (definition_told v ++ (duplicate_complaints names ++ number_complaints names))) none
    ∙ ap (map Some) (append_assoc (no_object_complaints v) (scope_complaints (place_of_state []) machine_rows v) (duplicate_complaints names ++ number_complaints names))
