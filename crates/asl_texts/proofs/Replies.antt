-- Reading the elements of a list one after another as answers.
use Rattle.std.proofs.Common.{◌≡◌, ℕ, suc, List, [], ◌∷◌, ◌++◌, length, map, Option, Some, None, append_assoc, refl, sym, ap, ◌∙◌, arith}
use Rattle.std.proofs.lemmas.List.{length-append, map_push}
use Rattle.asl_model.specs.AnswersSpelling.{answer_of, each_answer, bad_answers}
use Rattle.asl_model.specs.Run.{Action}
use Rattle.asl_model.specs.Tree as model
use Rattle.asl_tree.specs.View.{view, elements_view}
use Rattle.asl_tree.specs.declared.Tree.{Tree}
use Rattle.asl_run.specs.Entries.{answer_view}
use Rattle.asl_run.specs.declared.entries.Answer.{Answer}

-- so far each element gave an answer, and those that are left make up the rest
pub record ReadsAnswers (all left : List Tree) (done : List Answer) : Type 0 where
  pub wrong : bad_answers 0 (elements_view all) ≡ bad_answers (length done) (elements_view left)
  pub answers : each_answer (elements_view all) ≡ map answer_view done ++ each_answer (elements_view left)

-- an element that is an answer
told : (t : model.Tree) (ts : model.Trees) (a : Action) (n : ℕ) → Some a ≡ answer_of t → (bad_answers n (model.AndTree t ts) ≡ bad_answers (suc n) ts) × (each_answer (model.AndTree t ts) ≡ a ∷ each_answer ts)
told t ts a n is = (rw (← is) refl, ap (λ (o : Option Action). elim o as (λ _. List Action) [ Some b ↦ b ∷ each_answer ts | None ↦ each_answer ts ]) (sym is))

-- one more element was read
pub gone_on : (all left rest : List Tree) (done more : List Answer) (t : Tree) (a : Answer) → ReadsAnswers all left done → left ≡ t ∷ rest → Some (answer_view a) ≡ answer_of (view t) → more ≡ done ++ a ∷ [] → ReadsAnswers all rest more
gone_on all left rest done more t a h split is made =
    let one = told (view t) (elements_view rest) (answer_view a) (length done) is in
    let longer : suc (length done) ≡ length more = let grown : length more ≡ length (done ++ a ∷ []) = ap length made in omega (arith, length-append done (a ∷ [])) in
    let shown : map answer_view more ≡ map answer_view done ++ answer_view a ∷ [] = ap (map answer_view) made ∙ map_push answer_view done a in
    record {
      wrong = h.wrong ∙ ap (λ ts. bad_answers (length done) (elements_view ts)) split ∙ one.0 ∙ ap (λ n. bad_answers n (elements_view rest)) longer;
      answers = h.answers ∙ ap (λ ts. map answer_view done ++ each_answer (elements_view ts)) split ∙ ap (λ more. map answer_view done ++ more) one.1
          ∙ sym (ap (λ more. more ++ each_answer (elements_view rest)) shown ∙ append_assoc (map answer_view done) (answer_view a ∷ []) (each_answer (elements_view rest)));
    }
