-- What a refusal of a tree's or of the answers' text comes to.
use Rattle.std.proofs.Common.{◌≡◌, ℕ, List, [], ◌∷◌, Some, None, slice_get, refl, arith}
use Rattle.std.specs.List.{Contains}
use Rattle.serde_json.specs.Data.{Data}
use Rattle.asl_model.specs.AnswersSpelling.{answers_no_json, answers_not_whole, answers_bad, answer_faults}
use Rattle.asl_model.specs.Json.{ReadsAsValue, tree_of}
use Rattle.asl_model.specs.Texts.{TextFault, NotJson, NotWhole, BadDefinition, BadRecord, BadAnswer, NoMemory}
use Rattle.asl_model.specs.Tree.{Tree}
use Rattle.asl_tree.specs.declared.TreeRefusal.{TreeRefusal}
use Rattle.asl_tree.specs.declared.TreeRefusal.TheVariants as tree
use Rattle.asl_texts.specs.View.{tree_refusal_view}
use Rattle.asl_texts.specs.Answers.{IsAnswersRefusal, answers_fault_of}
use Rattle.asl_texts.specs.Runs.{RefusesTree, tree_no_json, tree_not_whole, tree_no_memory, RefusesAnswers, answers_fault, answers_no_memory}
use Rattle.asl_texts.specs.declared.answering.AnswersRefusal.{AnswersRefusal}
use Rattle.asl_texts.specs.declared.answering.AnswersRefusal.TheVariants as kept

-- a text that is refused as a tree
pub refused_tree : (text : List ℕ) (refusal : TreeRefusal) → (refusal ≡ tree.NotJson → (v : Data) → ReadsAsValue text v → ⊥) → (refusal ≡ tree.NotWhole → (v : Data) × ReadsAsValue text v × (tree_of v ≡ None)) → RefusesTree text (tree_refusal_view refusal)
refused_tree text tree.NotJson none part = tree_no_json (none refl)
refused_tree text tree.NotWhole none part = let w = part refl in tree_not_whole w.1 w.2
refused_tree text tree.OutOfMemory none part = tree_no_memory

-- a text that reads as no tree
pub no_tree : (text : List ℕ) (f : TextFault) → RefusesTree text f → RefusesAnswers text f
no_tree text NotJson (tree_no_json h) = answers_fault (answers_no_json h)
no_tree text NotWhole (tree_not_whole reads none) = answers_fault (answers_not_whole reads none)
no_tree text (BadDefinition c) x = elim x [ ]
no_tree text (BadRecord c) x = elim x [ ]
no_tree text (BadAnswer n) x = elim x [ ]
no_tree text NoMemory tree_no_memory = answers_no_memory

-- the first of the positions is one of them
contained : (positions : List ℕ) (i : ℕ) → slice_get positions 0 ≡ Some i → Contains positions i
contained [] i e = absurd (cc)
contained (p ∷ ps) i e = (0, omega arith, (let same : p ≡ i = cc in same))

-- a tree that is read as no answers
pub no_answers : (text : List ℕ) (v : Data) (t : Tree) (refusal : AnswersRefusal) → ReadsAsValue text v → tree_of v ≡ Some t → IsAnswersRefusal t refusal → RefusesAnswers text (answers_fault_of refusal)
no_answers text v t (kept.BadAnswer i) reads whole first = answers_fault (answers_bad reads whole (contained (answer_faults t) i first))
no_answers text v t kept.OutOfMemory reads whole first = answers_no_memory
