-- A text reads as at most one list of answers, and reads as one or has a fault.
use Rattle.std.proofs.Common.{◌≡◌, ◌⊎◌, inl, inr, ℕ, List, [], Option, Some, None, Contains, refl, ap, sym, subst, ◌∙◌}
use Rattle.std.proofs.lemmas.Option.{none-some}
use Rattle.serde_json.specs.Data.{Data}
use Rattle.asl_model.specs.Tree.{Tree}
use Rattle.asl_model.specs.Run.{Action}
use Rattle.asl_model.specs.Json.{ReadsAsValue, tree_of}
use Rattle.asl_model.specs.Texts.{TextFault, NotJson, NotWhole, BadAnswer, IsNoJson}
use Rattle.asl_model.specs.AnswersSpelling.{answers_from, answer_faults, ReadsAsAnswers, IsAnswersFault, answers_no_json, answers_not_whole, answers_bad}
use Rattle.asl_model.proofs.ReadingSteps.{one_value}
use Rattle.asl_model.proofs.ReadingLaws.{value_is_one, value_or_none, none_listed, first_listed}

same_tree : (text : List ℕ) (v w : Data) (t u : Tree) → ReadsAsValue text v → ReadsAsValue text w → tree_of v ≡ Some t → tree_of w ≡ Some u → t ≡ u
same_tree text v w t u r s e f = one_value t u (ap tree_of (value_is_one text w v s r) ∙ e) f

pub text_has_one_list : (text : List ℕ) (a b : List Action) → ReadsAsAnswers text a → ReadsAsAnswers text b → a ≡ b
text_has_one_list text a b r s = sym r.same ∙ ap answers_from (same_tree text r.value s.value r.tree s.tree r.reads s.reads r.whole s.whole) ∙ s.same

pub answers_have_no_fault : (text : List ℕ) (a : List Action) (f : TextFault) → ReadsAsAnswers text a → IsAnswersFault text f → ⊥
answers_have_no_fault text a f r (answers_no_json none) = none r.value r.reads
answers_have_no_fault text a f r (answers_not_whole {v = v} s n) = none-some r.tree (sym n ∙ ap tree_of (value_is_one text v r.value s r.reads) ∙ r.whole)
answers_have_no_fault text a f r (answers_bad {v = v} {t = t} {i = i} s e c) = none_listed (answer_faults r.tree) i r.none_wrong (subst (λ u. Contains (answer_faults u) i) (same_tree text v r.value t r.tree s r.reads e r.whole) c)

pub answers_or_fault : (text : List ℕ) → ((a : List Action) × ReadsAsAnswers text a) ⊎ ((f : TextFault) × IsAnswersFault text f)
answers_or_fault text = by (value_or_none text)
  where
    listed : (v : Data) (t : Tree) → ReadsAsValue text v → tree_of v ≡ Some t → (answer_faults t ≡ []) ⊎ ((i : ℕ) × Contains (answer_faults t) i) → ((a : List Action) × ReadsAsAnswers text a) ⊎ ((f : TextFault) × IsAnswersFault text f)
    listed v t r e (inl f) = inl (answers_from t, record { value = v; reads = r; tree = t; whole = e; none_wrong = f; same = refl })
    listed v t r e (inr c) = inr (BadAnswer c.0, answers_bad r e c.1)

    whole : (v : Data) (o : Option Tree) → ReadsAsValue text v → tree_of v ≡ o → ((a : List Action) × ReadsAsAnswers text a) ⊎ ((f : TextFault) × IsAnswersFault text f)
    whole v None r e = inr (NotWhole, answers_not_whole r e)
    whole v (Some t) r e = listed v t r e (first_listed (answer_faults t))

    by : ((v : Data) × ReadsAsValue text v) ⊎ IsNoJson text → ((a : List Action) × ReadsAsAnswers text a) ⊎ ((f : TextFault) × IsAnswersFault text f)
    by (inl v) = whole v.0 (tree_of v.0) v.1 refl
    by (inr none) = inr (NotJson, answers_no_json none)
