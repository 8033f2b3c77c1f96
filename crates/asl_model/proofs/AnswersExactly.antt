-- The answers of a text are exactly those that it stands for.
use Rattle.std.proofs.Common.{◌≡◌, ◌↔◌, ◌⊎◌, inl, inr, ◌+◌, ℕ, zero, suc, List, [], ◌∷◌, Bool, true, false, ◌||◌, is_some, if◌then◌else◌, Option, Some, None, Contains, option_map, option_and_then, bytes_eq, codes, refl, sym, ap, subst, ◌∙◌, arith}
use Rattle.std.proofs.lemmas.Bool.{and_parts, or_cases, false≢true}
use Rattle.std.proofs.lemmas.Option.{none-some, same_Some}
use Rattle.std.proofs.lemmas.Slice.Eq.{bytes_eq-Decides}
use Rattle.asl_model.specs.Tree.{Tree, Null, Boolean, Integer, Text, Array, Object, Trees, NoTrees, AndTree, Fields, NoFields, AndField, field_named, element}
use Rattle.asl_model.specs.Run.{Action, Gives, FailsTask}
use Rattle.asl_model.specs.Test.{as_text}
use Rattle.asl_model.specs.Json.{ReadsAsTree}
use Rattle.asl_model.specs.ShapeSpelling.{is_among}
use Rattle.asl_model.specs.Texts.{BadAnswer}
use Rattle.asl_model.specs.AnswersSpelling.{only_fields, optional_text, failing, answer_of, each_answer, bad_answers, answers_from, answer_faults, ReadsAsAnswers, IsAnswersFault, answers_bad, HasErrorFields, no_more_fields, error_field, cause_field, TellsCause, tells_no_cause, tells_cause, IsAnswer, answer_gives, answer_fails, AreAnswers, no_more_answers, and_answer, StandsForAnswers, list_of_answers, IsBadAnswer, is_no_list, is_no_answer}
use Rattle.asl_model.proofs.ReadingSteps.{taken_if, then_from, map_from}
use Rattle.asl_model.proofs.RuleOperators.{text_is}
use Rattle.asl_model.proofs.Listed.{none_in, first_in, later_in, first_or_later}

-- ---- one answer

-- the names that an error's object may have
abbrev error_names : List (List ℕ)
error_names = codes "Error" ∷ codes "Cause" ∷ []

-- an error's fields pass
fields_pass : {fs : Fields} → HasErrorFields fs → only_fields error_names fs ≡ true
fields_pass no_more_fields = refl
fields_pass (error_field h) = fields_pass h
fields_pass (cause_field h) = fields_pass h

-- what passes are an error's fields
passing_fields : (fs : Fields) → only_fields error_names fs ≡ true → HasErrorFields fs
passing_fields NoFields h = no_more_fields
passing_fields (AndField n t fs) h =
    let both = and_parts (is_among n error_names) (only_fields error_names fs) h in
    go (or_cases (bytes_eq (codes "Error") n) (bytes_eq (codes "Cause") n || false) both.0) (passing_fields fs both.1)
  where
    on : (bytes_eq (codes "Cause") n ≡ true) ⊎ (false ≡ true) → HasErrorFields fs → HasErrorFields (AndField n t fs)
    on (inl e) further = subst (λ m. HasErrorFields (AndField m t fs)) ((bytes_eq-Decides (codes "Cause") n).0 e) (cause_field further)
    on (inr e) further = absurd (false≢true e)

    go : (bytes_eq (codes "Error") n ≡ true) ⊎ ((bytes_eq (codes "Cause") n || false) ≡ true) → HasErrorFields fs → HasErrorFields (AndField n t fs)
    go (inl e) further = subst (λ m. HasErrorFields (AndField m t fs)) ((bytes_eq-Decides (codes "Error") n).0 e) (error_field further)
    go (inr e) further = on (or_cases (bytes_eq (codes "Cause") n) false e) further

-- a cause that is told is read
cause_read : {o : Option Tree} {cause : List ℕ} → TellsCause o cause → optional_text o ≡ Some cause
cause_read tells_no_cause = refl
cause_read tells_cause = refl

-- one that is read is told
read_cause : (o : Option Tree) (cause : List ℕ) → optional_text o ≡ Some cause → TellsCause o cause
read_cause None cause h = subst (TellsCause None) (same_Some [] cause h) tells_no_cause
read_cause (Some t) cause h = subst (λ u. TellsCause (Some u) cause) (sym (text_is t cause h)) tells_cause

-- an answer is read
answer_read : {t : Tree} {a : Action} → IsAnswer t a → answer_of t ≡ Some a
answer_read answer_gives = refl
answer_read (answer_fails {fs = fs} {error = error} {cause = cause} names there told) =
    ap (λ b. if b then option_and_then (λ e. option_map (FailsTask e) (optional_text (field_named (codes "Cause") fs))) (option_and_then as_text (field_named (codes "Error") fs)) else None) (fields_pass names)
    ∙ (ap (λ o. option_and_then (λ e. option_map (FailsTask e) (optional_text (field_named (codes "Cause") fs))) (option_and_then as_text o)) there
    ∙ ap (option_map (FailsTask error)) (cause_read told))

-- a failure that is read is one
read_failing : (t : Tree) (a : Action) → failing t ≡ Some a → IsAnswer (Object (AndField (codes "Fails") t NoFields)) a
read_failing (Object fs) a h =
    let c = taken_if (only_fields error_names fs) _ a h in
    let e = then_from (λ e. option_map (FailsTask e) (optional_text (field_named (codes "Cause") fs))) (option_and_then as_text (field_named (codes "Error") fs)) a c.1 in
    let t = then_from as_text (field_named (codes "Error") fs) e.0 e.1 in
    let o = map_from (FailsTask e.0) (optional_text (field_named (codes "Cause") fs)) a e.2 in
    subst (IsAnswer (Object (AndField (codes "Fails") (Object fs) NoFields))) o.2 (answer_fails (passing_fields fs c.0) (t.1 ∙ ap Some (text_is t.0 e.0 t.2)) (read_cause (field_named (codes "Cause") fs) o.0 o.1))
read_failing Null a h = absurd (none-some a h)
read_failing (Boolean b) a h = absurd (none-some a h)
read_failing (Integer n) a h = absurd (none-some a h)
read_failing (Text s) a h = absurd (none-some a h)
read_failing (Array ts) a h = absurd (none-some a h)

-- what is read is an answer
read_answer : (t : Tree) (a : Action) → answer_of t ≡ Some a → IsAnswer t a
read_answer Null a h = absurd (none-some a h)
read_answer (Boolean b) a h = absurd (none-some a h)
read_answer (Integer n) a h = absurd (none-some a h)
read_answer (Text s) a h = absurd (none-some a h)
read_answer (Array ts) a h = absurd (none-some a h)
read_answer (Object NoFields) a h = absurd (none-some a h)
read_answer (Object (AndField n t (AndField m u fs))) a h = absurd (none-some a h)
read_answer (Object (AndField n t NoFields)) a h = go (bytes_eq n (codes "Gives")) refl h
  where
    on : (b : Bool) → bytes_eq n (codes "Fails") ≡ b → (if b then failing t else None) ≡ Some a → IsAnswer (Object (AndField n t NoFields)) a
    on true e k = subst (λ m. IsAnswer (Object (AndField m t NoFields)) a) (sym ((bytes_eq-Decides n (codes "Fails")).0 e)) (read_failing t a k)
    on false e k = absurd (none-some a k)

    go : (b : Bool) → bytes_eq n (codes "Gives") ≡ b → (if b then Some (Gives t) else (if bytes_eq n (codes "Fails") then failing t else None)) ≡ Some a → IsAnswer (Object (AndField n t NoFields)) a
    go true e k = subst (λ m. IsAnswer (Object (AndField m t NoFields)) a) (sym ((bytes_eq-Decides n (codes "Gives")).0 e)) (subst (IsAnswer (Object (AndField (codes "Gives") t NoFields))) (same_Some (Gives t) a k) answer_gives)
    go false e k = on (bytes_eq n (codes "Fails")) refl k

-- ---- a list of answers

-- a list of answers is read
answers_read : {ts : Trees} {answers : List Action} → AreAnswers ts answers → (i : ℕ) → (bad_answers i ts ≡ []) × (each_answer ts ≡ answers)
answers_read no_more_answers i = (refl, refl)
answers_read (and_answer {t = t} {a = a} {ts = ts} h further) i =
    let w = answers_read further (suc i) in (
      ap (λ o. if is_some o then bad_answers (suc i) ts else i ∷ bad_answers (suc i) ts) (answer_read h) ∙ w.0,
      ap (λ (o : Option Action). elim o as (λ _. List Action) [ Some b ↦ b ∷ each_answer ts | None ↦ each_answer ts ]) (answer_read h) ∙ ap (λ l. a ∷ l) w.1,
    )

-- what is read of a list without a fault are its answers
read_answers : (ts : Trees) (i : ℕ) → bad_answers i ts ≡ [] → AreAnswers ts (each_answer ts)
read_answers NoTrees i h = no_more_answers
read_answers (AndTree t ts) i h = go (answer_of t) refl h (read_answers ts (suc i))
  where
    go : (o : Option Action) → answer_of t ≡ o → (if is_some o then bad_answers (suc i) ts else i ∷ bad_answers (suc i) ts) ≡ [] → (bad_answers (suc i) ts ≡ [] → AreAnswers ts (each_answer ts)) → AreAnswers (AndTree t ts) (elim o [ Some a ↦ a ∷ each_answer ts | None ↦ each_answer ts ])
    go None e k further = absurd (cc)
    go (Some a) e k further = and_answer (read_answer t a e) (further k)

-- the tree's answers
tree_read : (t : Tree) (answers : List Action) → StandsForAnswers t answers → (answer_faults t ≡ []) × (answers_from t ≡ answers)
tree_read t answers (list_of_answers h) = answers_read h 0

-- and the other way round
read_tree : (t : Tree) → answer_faults t ≡ [] → StandsForAnswers t (answers_from t)
read_tree (Array ts) h = list_of_answers (read_answers ts 0 h)
read_tree Null h = absurd (cc)
read_tree (Boolean b) h = absurd (cc)
read_tree (Integer n) h = absurd (cc)
read_tree (Text s) h = absurd (cc)
read_tree (Object fs) h = absurd (cc)

-- both ways
pub answers_exactly : (text : List ℕ) (answers : List Action) → ReadsAsAnswers text answers ↔ ((t : Tree) × ReadsAsTree text t × StandsForAnswers t answers)
answers_exactly text answers = (
  λ r. (r.tree, (r.value, r.reads, r.whole), subst (StandsForAnswers r.tree) r.same (read_tree r.tree r.none_wrong)),
  λ w. let read = tree_read w.0 answers w.2 in record { value = w.1.0; reads = w.1.1; tree = w.0; whole = w.1.2; none_wrong = read.0; same = read.1 },
)

-- ---- what is wrong

-- an element that is no answer is told
none_read : (t : Tree) → ((a : Action) → IsAnswer t a → ⊥) → answer_of t ≡ None
none_read t none = go (answer_of t) refl
  where
    go : (o : Option Action) → answer_of t ≡ o → answer_of t ≡ None
    go None e = e
    go (Some a) e = absurd (none a (read_answer t a e))

-- an element that is no answer is told at its position
bad_told : (ts : Trees) (i k : ℕ) (t : Tree) → element k ts ≡ Some t → ((a : Action) → IsAnswer t a → ⊥) → Contains (bad_answers i ts) (i + k)
bad_told NoTrees i k t e none = absurd (none-some t e)
bad_told (AndTree u ts) i zero t e none =
    subst (λ o. Contains (if is_some o then bad_answers (suc i) ts else i ∷ bad_answers (suc i) ts) (i + 0)) (sym (ap answer_of (same_Some u t e) ∙ none_read t none))
    (subst (Contains (i ∷ bad_answers (suc i) ts)) (omega arith) (first_in i (bad_answers (suc i) ts)))
bad_told (AndTree u ts) i (suc k) t e none = go (is_some (answer_of u)) (subst (Contains (bad_answers (suc i) ts)) (omega arith) (bad_told ts (suc i) k t e none))
  where
    go : (b : Bool) → Contains (bad_answers (suc i) ts) (i + suc k) → Contains (if b then bad_answers (suc i) ts else i ∷ bad_answers (suc i) ts) (i + suc k)
    go true c = c
    go false c = later_in i (i + suc k) (bad_answers (suc i) ts) c

-- and what is told is none
told_bad : (ts : Trees) (i j : ℕ) → Contains (bad_answers i ts) j → (k : ℕ) × (t : Tree) × (i + k ≡ j) × (element k ts ≡ Some t) × ((a : Action) → IsAnswer t a → ⊥)
told_bad NoTrees i j c = none_in j c
told_bad (AndTree u ts) i j c = go (answer_of u) refl c (told_bad ts (suc i) j)
  where
    later : ((k : ℕ) × (t : Tree) × (suc i + k ≡ j) × (element k ts ≡ Some t) × ((a : Action) → IsAnswer t a → ⊥)) → (k : ℕ) × (t : Tree) × (i + k ≡ j) × (element k (AndTree u ts) ≡ Some t) × ((a : Action) → IsAnswer t a → ⊥)
    later w = (suc w.0, w.1, omega (arith, w.2), w.3, w.4)

    here : answer_of u ≡ None → (i ≡ j) ⊎ Contains (bad_answers (suc i) ts) j → (Contains (bad_answers (suc i) ts) j → (k : ℕ) × (t : Tree) × (suc i + k ≡ j) × (element k ts ≡ Some t) × ((a : Action) → IsAnswer t a → ⊥)) → (k : ℕ) × (t : Tree) × (i + k ≡ j) × (element k (AndTree u ts) ≡ Some t) × ((a : Action) → IsAnswer t a → ⊥)
    here e (inl same) below = (0, u, omega (arith, same), refl, λ a h. none-some a (sym e ∙ answer_read h))
    here e (inr d) below = later (below d)

    go : (o : Option Action) → answer_of u ≡ o → Contains (if is_some o then bad_answers (suc i) ts else i ∷ bad_answers (suc i) ts) j → (Contains (bad_answers (suc i) ts) j → (k : ℕ) × (t : Tree) × (suc i + k ≡ j) × (element k ts ≡ Some t) × ((a : Action) → IsAnswer t a → ⊥)) → (k : ℕ) × (t : Tree) × (i + k ≡ j) × (element k (AndTree u ts) ≡ Some t) × ((a : Action) → IsAnswer t a → ⊥)
    go (Some a) e d below = later (below d)
    go None e d below = here e (first_or_later i j (bad_answers (suc i) ts) d) below

-- at position 0 of what is no list
alone : (j : ℕ) → Contains (0 ∷ []) j → 0 ≡ j
alone j c = go (first_or_later 0 j [] c)
  where
    go : (0 ≡ j) ⊎ Contains [] j → 0 ≡ j
    go (inl e) = e
    go (inr d) = none_in j d

no_list : (t : Tree) (j : ℕ) → ((ts : Trees) → t ≡ Array ts → ⊥) → Contains (0 ∷ []) j → IsBadAnswer t j
no_list t j none c = subst (IsBadAnswer t) (alone j c) (is_no_list none)

-- what is told is bad
fault_bad : (t : Tree) (j : ℕ) → Contains (answer_faults t) j → IsBadAnswer t j
fault_bad (Array ts) j c = let w = told_bad ts 0 j c in let same : w.0 ≡ j = omega (arith, w.2) in subst (IsBadAnswer (Array ts)) same (is_no_answer w.3 w.4)
fault_bad Null j c = no_list Null j (λ ts e. absurd (cc)) c
fault_bad (Boolean b) j c = no_list (Boolean b) j (λ ts e. absurd (cc)) c
fault_bad (Integer n) j c = no_list (Integer n) j (λ ts e. absurd (cc)) c
fault_bad (Text s) j c = no_list (Text s) j (λ ts e. absurd (cc)) c
fault_bad (Object fs) j c = no_list (Object fs) j (λ ts e. absurd (cc)) c

-- what is bad is told
bad_fault : {t : Tree} {j : ℕ} → IsBadAnswer t j → Contains (answer_faults t) j
bad_fault (is_no_list {t = Array ts} none) = absurd (none ts refl)
bad_fault (is_no_list {t = Null} none) = first_in 0 []
bad_fault (is_no_list {t = Boolean b} none) = first_in 0 []
bad_fault (is_no_list {t = Integer n} none) = first_in 0 []
bad_fault (is_no_list {t = Text s} none) = first_in 0 []
bad_fault (is_no_list {t = Object fs} none) = first_in 0 []
bad_fault (is_no_answer {ts = ts} {i = i} {t = t} e none) = subst (Contains (bad_answers 0 ts)) (omega arith) (bad_told ts 0 i t e none)

-- so in a text
told_fault : (text : List ℕ) (i : ℕ) → IsAnswersFault text (BadAnswer i) → (t : Tree) × ReadsAsTree text t × IsBadAnswer t i
told_fault text i (answers_bad {v = v} {t = t} reads whole c) = (t, (v, reads, whole), fault_bad t i c)

-- both ways
pub bad_exactly : (text : List ℕ) (i : ℕ) → IsAnswersFault text (BadAnswer i) ↔ ((t : Tree) × ReadsAsTree text t × IsBadAnswer t i)
bad_exactly text i = (told_fault text i, λ w. answers_bad w.1.1 w.1.2 (bad_fault w.2))
