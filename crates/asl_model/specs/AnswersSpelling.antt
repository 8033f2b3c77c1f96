-- How the answers of tasks are written as a JSON text (the profile's own format).
-- A list, each element `{"Gives": value}` or `{"Fails": {"Error": text, "Cause": text}}`, where `Cause` may be absent.
use Rattle.std.specs.Prelude.{◌≡◌, ℕ, suc, List, [], ◌∷◌, Bool, true, ◌&&◌, is_some, if◌then◌else◌}
use Rattle.std.specs.Prelude.{Option, Some, None, option_map, option_and_then, bytes_eq, codes}
use Rattle.std.specs.Option.{unwrap_or}
use Rattle.std.specs.List.{Contains}
use Rattle.serde_json.specs.Data.{Data}
use Rattle.asl_model.specs.Tree.{Tree, Null, Boolean, Integer, Text, Array, Object, Trees, NoTrees}
use Rattle.asl_model.specs.Tree.{AndTree, Fields, NoFields, AndField, field_named, element}
use Rattle.asl_model.specs.Run.{Action, Gives, FailsTask}
use Rattle.asl_model.specs.Test.{as_text}
use Rattle.asl_model.specs.Json.{ReadsAsValue, tree_of}
use Rattle.asl_model.specs.ShapeSpelling.{is_among}
use Rattle.asl_model.specs.Texts.{TextFault, NotJson, NotWhole, BadAnswer, IsNoJson}

-- every field has one of those names
abbrev pub only_fields : List (List ℕ) → Fields → Bool
only_fields names NoFields = true
only_fields names (AndField n t fs) = is_among n names && only_fields names fs

-- a text, or the empty one where the field is absent
abbrev pub optional_text : Option Tree → Option (List ℕ)
optional_text None = Some []
optional_text (Some t) = as_text t

-- the failure that a tree stands for
abbrev pub failing : Tree → Option Action
failing Null = None
failing (Boolean b) = None
failing (Integer n) = None
failing (Text s) = None
failing (Array ts) = None
failing (Object fs) =
    if only_fields (codes "Error" ∷ codes "Cause" ∷ []) fs
    then option_and_then (λ error. option_map (FailsTask error) (optional_text (field_named (codes "Cause") fs)))
    (option_and_then as_text (field_named (codes "Error") fs))
    else None

-- the answer that an element is; it has one field
abbrev pub answer_of : Tree → Option Action
answer_of Null = None
answer_of (Boolean b) = None
answer_of (Integer n) = None
answer_of (Text s) = None
answer_of (Array ts) = None
answer_of (Object NoFields) = None
answer_of (Object (AndField n t NoFields)) =
    if bytes_eq n (codes "Gives") then Some (Gives t) else (if bytes_eq n (codes "Fails") then failing t else None)
answer_of (Object (AndField n t (AndField m u fs))) = None

-- the elements that are answers
abbrev pub each_answer : Trees → List Action
each_answer NoTrees = []
each_answer (AndTree t ts) = elim (answer_of t) [ Some a ↦ a ∷ each_answer ts | None ↦ each_answer ts ]

-- the positions, from that one on, of the elements that are none
abbrev pub bad_answers : ℕ → Trees → List ℕ
bad_answers i NoTrees = []
bad_answers i (AndTree t ts) = if is_some (answer_of t) then bad_answers (suc i) ts else i ∷ bad_answers (suc i) ts

-- the elements of the list; none where there is no list
abbrev pub elements_in : Tree → Option Trees
elements_in Null = None
elements_in (Boolean b) = None
elements_in (Integer n) = None
elements_in (Text s) = None
elements_in (Array ts) = Some ts
elements_in (Object fs) = None

-- the answers of a list, none of anything else
abbrev pub answers_from : Tree → List Action
answers_from t = unwrap_or (option_map each_answer (elements_in t)) []

-- what is wrong: at position 0 where there is no list
abbrev pub answer_faults : Tree → List ℕ
answer_faults t = unwrap_or (option_map (bad_answers 0) (elements_in t)) (0 ∷ [])

-- the text reads as those answers
pub record ReadsAsAnswers (text : List ℕ) (answers : List Action) : Type 0 where
  pub value : Data
  pub reads : ReadsAsValue text value
  pub tree : Tree
  pub whole : tree_of value ≡ Some tree
  pub none_wrong : answer_faults tree ≡ []
  pub same : answers_from tree ≡ answers

-- that is wrong with the text as answers
pub data IsAnswersFault (text : List ℕ) : TextFault → Type 0 where
  answers_no_json : IsNoJson text → IsAnswersFault text NotJson
  answers_not_whole : {v : Data} → ReadsAsValue text v → tree_of v ≡ None → IsAnswersFault text NotWhole
  answers_bad : {v : Data} {t : Tree} {i : ℕ} → ReadsAsValue text v → tree_of v ≡ Some t → Contains (answer_faults t) i
      → IsAnswersFault text (BadAnswer i)

-- ---- the format, a case for each rule

-- no field but `Error` and `Cause`
pub data HasErrorFields : Fields → Type 0 where
  no_more_fields : HasErrorFields NoFields
  error_field : {t : Tree} {fs : Fields} → HasErrorFields fs → HasErrorFields (AndField (codes "Error") t fs)
  cause_field : {t : Tree} {fs : Fields} → HasErrorFields fs → HasErrorFields (AndField (codes "Cause") t fs)

-- the cause that is told; the empty text where none is
pub data TellsCause : Option Tree → List ℕ → Type 0 where
  tells_no_cause : TellsCause None []
  tells_cause : {s : List ℕ} → TellsCause (Some (Text s)) s

-- the tree stands for the answer: `Gives` alone with any value, or `Fails` alone with an error
pub data IsAnswer : Tree → Action → Type 0 where
  answer_gives : {t : Tree} → IsAnswer (Object (AndField (codes "Gives") t NoFields)) (Gives t)
  answer_fails : {fs : Fields} {error cause : List ℕ} → HasErrorFields fs
      → field_named (codes "Error") fs ≡ Some (Text error) → TellsCause (field_named (codes "Cause") fs) cause
      → IsAnswer (Object (AndField (codes "Fails") (Object fs) NoFields)) (FailsTask error cause)

-- so for the elements of a list, in order
pub data AreAnswers : Trees → List Action → Type 0 where
  no_more_answers : AreAnswers NoTrees []
  and_answer : {t : Tree} {a : Action} {ts : Trees} {answers : List Action} → IsAnswer t a → AreAnswers ts answers
      → AreAnswers (AndTree t ts) (a ∷ answers)

-- the tree stands for a list of answers
pub data StandsForAnswers : Tree → List Action → Type 0 where
  list_of_answers : {ts : Trees} {answers : List Action} → AreAnswers ts answers → StandsForAnswers (Array ts) answers

-- what is wrong with a tree as a list of answers, by position: the element there is none; at 0 also, that it is no list
pub data IsBadAnswer : Tree → ℕ → Type 0 where
  is_no_list : {t : Tree} → ((ts : Trees) → t ≡ Array ts → ⊥) → IsBadAnswer t 0
  is_no_answer : {ts : Trees} {i : ℕ} {t : Tree} → element i ts ≡ Some t → ((a : Action) → IsAnswer t a → ⊥)
      → IsBadAnswer (Array ts) i
