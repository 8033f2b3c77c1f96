-- What lenient rounds over a machine come to.
use Rattle.std.proofs.Common.{◌≡◌, ◌≢◌, ◌≤◌, ◌*◌, ℕ, List, true, Option, Some, None, option_map, IfNone, IfSome, Result, Ok, Err, is_ok, IfErr, IsErrAnd, OnOk, subst}
use Rattle.serde_json.specs.Data as json
use Rattle.serde_json.specs.Read.{max_depth}
use Rattle.asl_model.specs.Certificate as model
use Rattle.asl_model.specs.Json.{value_of}
use Rattle.asl_model.specs.Machine.{Scope}
use Rattle.asl_model.specs.Numbering.{table_of}
use Rattle.asl_model.specs.RecordShapes.{HoldsForCertificate}
use Rattle.asl_model.specs.Shape.{Shape}
use Rattle.asl_model.specs.Written.{written_certificate}
use Rattle.asl_model.specs.ShapeSpelling.{are_distinct}
use Rattle.asl_draft_laws.specs.Drafts.{Draft, IsInferred, certificate_of}
use Rattle.asl_records.specs.Numbered.{numbered_view}
use Rattle.asl_records.specs.View.{declared_view}
use Rattle.asl_records.specs.declared.records.Declared as code
use Rattle.asl_records.specs.declared.records.NumberedCertificate.{NumberedCertificate}
use Rattle.asl_machine_table.specs.Table.{Shows, table_view}
use Rattle.asl_machine_table.specs.declared.machine.Machine.{Machine}
use Rattle.asl_drafts.specs.Cutting.{IsShallow}
use Rattle.asl_infer.specs.Inferring.{certified_shapes}
use Rattle.asl_infer.specs.Lenient.{IsInferredLeniently, NeverSettlesLeniently}
use Rattle.asl_infer.specs.Rounds.{AnswersLeniently, EndsWhereDistinct, IsGivenOf, IsLenientAnswer, SettlesWhereDistinct, declared_in, table_in}
use Rattle.asl_infer.specs.declared.rounds.Given.{Given}
use Rattle.asl_infer.specs.declared.rounds.Strictness.TheVariants.{Lenient}
use Rattle.asl_infer.specs.declared.inferring.InferRefusal.{InferRefusal}
use Rattle.asl_infer.specs.declared.inferring.InferRefusal.TheVariants as refusal
use Rattle.asl_infer.proofs.Inferred.{moved, well-distinct}
use Rattle.asl_infer.proofs.Levels.{written_shallow}
use Rattle.asl_infer.proofs.StrictRounds.{answers-alike, lenient-answers, lenient-ends}

-- ---- by what is given

module _ (shown : Machine) (declared : code.Declared) (table : List Shape) (given : Given) (of : IsGivenOf shown declared Lenient table given) (rounds : ℕ) where
  -- the certificate of the draft on which they settle
  pub settled-answers : {A : Type 0} (came_to : Result A InferRefusal) (draft : Draft) (certificate : model.Certificate) → is_ok came_to ≡ true → OnOk came_to (SettlesWhereDistinct given.strictness (table_in given) (declared_in given) rounds draft) → (are_distinct (table_view shown).names ≡ true → certificate ≡ certificate_of (table_view shown) draft) → AnswersLeniently (table_view shown) (declared_view declared) rounds (Some certificate)
  settled-answers (Err why) draft certificate did settles same = absurd (cc)
  settled-answers (Ok a) draft certificate did settles same =
      let there = moved shown declared Lenient table given of (λ s t d. SettlesWhereDistinct s t d rounds draft) settles in
      record { answers = λ d. lenient-answers (table_view shown) (declared_view declared) rounds draft certificate (there.settles d) (same d) }

  -- or none
  pub none-answers : {A : Type 0} (came_to : Result A InferRefusal) → IsErrAnd came_to (λ why. why ≢ refusal.OutOfMemory) → IfErr came_to (EndsWhereDistinct given.strictness (table_in given) (declared_in given) rounds) → AnswersLeniently (table_view shown) (declared_view declared) rounds None
  none-answers (Ok a) other ends = absurd other
  none-answers (Err why) other ends =
      let there = moved shown declared Lenient table given of (λ s t d. EndsWhereDistinct s t d rounds why) ends in
      record { answers = λ d. lenient-ends (table_view shown) (declared_view declared) rounds why other (there.ends d) }

-- ---- by a machine

module _ (shown : Machine) (declared : model.Declared) (rounds : ℕ) (found : Option NumberedCertificate) (answers : AnswersLeniently (table_view shown) declared rounds (option_map numbered_view found)) (machine : Scope) (shows : Shows shown machine) where
  abbrev Answer : Option NumberedCertificate → Type 0
  Answer o = IsLenientAnswer (table_of machine) declared rounds (option_map numbered_view o)

  answer : Answer found
  answer =
      let there : AnswersLeniently (table_of machine) declared rounds (option_map numbered_view found) = subst (λ t. AnswersLeniently t declared rounds (option_map numbered_view found)) shows.table answers in
      there.answers (well-distinct machine shows.well_named)

  pub inferred-leniently : IfSome found (λ certificate. IsInferredLeniently (table_of machine) declared rounds (numbered_view certificate))
  inferred-leniently = by found answer
    where
      by : (o : Option NumberedCertificate) → Answer o → IfSome o (λ certificate. IsInferredLeniently (table_of machine) declared rounds (numbered_view certificate))
      by (Some certificate) h = h
      by None h = tt

  pub never-leniently : IfNone found (NeverSettlesLeniently (table_of machine) declared rounds)
  never-leniently = by found answer
    where
      by : (o : Option NumberedCertificate) → Answer o → IfNone o (NeverSettlesLeniently (table_of machine) declared rounds)
      by (Some certificate) h = tt
      by None h = h.0

  pub few-leniently : IfNone found (rounds ≤ 33 * certified_shapes (table_of machine))
  few-leniently = by found answer
    where
      by : (o : Option NumberedCertificate) → Answer o → IfNone o (rounds ≤ 33 * certified_shapes (table_of machine))
      by (Some certificate) h = tt
      by None h = h.1

  pub same-leniently : (other : model.Certificate) → IsInferred (table_of machine) declared rounds other → option_map numbered_view found ≡ Some other
  same-leniently other also = answers-alike (table_of machine) declared rounds (option_map numbered_view found) other answer also

-- ---- what is written of it

pub shallow-leniently : (found : Option NumberedCertificate) → IfSome found (λ certificate. HoldsForCertificate IsShallow (numbered_view certificate)) → IfSome found (λ certificate. json.depth (value_of (written_certificate (numbered_view certificate))) ≤ max_depth)
shallow-leniently (Some certificate) h = written_shallow (numbered_view certificate) h
shallow-leniently None h = tt
