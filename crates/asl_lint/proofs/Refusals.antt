-- What is told of texts that are refused, and of lists by their lengths.
use Rattle.std.proofs.Common.{◌≡◌, ◌≢◌, ◌==◌, ℕ, List, [], ◌∷◌, length, map, false, true, refl, sym, ap, ◌∙◌, subst, arith}
use Rattle.std.specs.List.{Contains}
use Rattle.std.proofs.lemmas.Bool.{eqb-false, eqb-true}
use Rattle.serde_json.specs.Data.{Data}
use Rattle.asl_model.specs.Json.{ReadsAsValue}
use Rattle.asl_model.specs.Records.{HasDeclaredFault, RecordComplaint, declared_complaints}
use Rattle.asl_model.specs.Names.{Bytes}
use Rattle.asl_model.specs.StandsFor.{complaints}
use Rattle.asl_problems.specs.Told.{Told, of_complaint, of_record, told_by}
use Rattle.asl_problems.specs.declared.problems.Problem.{Problem}
use Rattle.asl_records.specs.Refusal.{Tells}
use Rattle.asl_records.specs.declared.refusals.RecordRefusal.{RecordRefusal}
use Rattle.asl_lint.specs.Tells.{TellsOfDeclared, TellsOfDefinition, declared_refused, definition_refused}

-- some are there where they are more than none
pub some_there : {A : Type 0} (xs : List A) (many : ℕ) → many ≡ length xs → (many == 0) ≡ false → xs ≡ [] → ⊥
some_there [] many is some none = eqb-false many 0 some is
some_there (x ∷ xs) many is some none = absurd (cc)

-- none are there where they are none
pub none_there : {A : Type 0} (xs : List A) (many : ℕ) → many ≡ length xs → (many == 0) ≡ true → xs ≡ []
none_there [] many is none = refl
none_there (x ∷ xs) many is none =
    let zero : many ≡ 0 = eqb-true many 0 none in
    absurd (cc)

-- complaints of a value are told of its text
pub refused_by : (text : Bytes) (v : Data) (problems : List Problem) → ReadsAsValue text v → map told_by problems ≡ map of_complaint (complaints v) → (problems ≡ [] → ⊥) → TellsOfDefinition text (map told_by problems)
refused_by text v problems reads each some =
    subst (TellsOfDefinition text) (sym each) (definition_refused reads (λ none. some (map_none problems (each ∙ ap (map of_complaint) none))))
  where
    map_none : (ps : List Problem) → map told_by ps ≡ [] → ps ≡ []
    map_none [] e = refl
    map_none (p ∷ ps) e = absurd (cc)

-- those of a value that isn't read as declared shapes
pub told_all : (text : Bytes) (v : Data) (told : List Told) → ReadsAsValue text v → told ≡ map of_record (declared_complaints v) → declared_complaints v ≢ [] → TellsOfDeclared text told
told_all text v told reads each some = subst (TellsOfDeclared text) (sym each) (declared_refused reads some)

-- where one is told, some stand
pub some_stand : (v : Data) (refusal : RecordRefusal) → Tells refusal (HasDeclaredFault v) → declared_complaints v ≢ []
some_stand v refusal h none = absurd (by (declared_complaints v) h.2.listed none)
  where
    by : (cs : List RecordComplaint) → Contains cs h.0 → cs ≡ [] → ⊥
    by [] (i, within, is) e = omega (arith, within)
    by (c ∷ cs) inside e = absurd (cc)
