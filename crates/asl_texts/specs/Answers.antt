-- Why a tree is read as no answers.
use Rattle.std.specs.Prelude.{◌≡◌, ℕ, List, Some, ⊤, slice_get}
use Rattle.asl_model.specs.Tree.{Tree}
use Rattle.asl_model.specs.AnswersSpelling.{answer_faults}
use Rattle.asl_model.specs.Texts.{TextFault, BadAnswer, NoMemory}
use Rattle.asl_texts.specs.declared.answering.AnswersRefusal.{AnswersRefusal}
use Rattle.asl_texts.specs.declared.answering.AnswersRefusal.TheVariants as kept

-- the position that is told is the first of those
abbrev pub IsFirstOf : List ℕ → AnswersRefusal → Type 0
IsFirstOf positions (kept.BadAnswer i) = slice_get positions 0 ≡ Some i
IsFirstOf positions kept.OutOfMemory = ⊤

-- why the tree is read as no answers: the first element that is none, or there was no memory
abbrev pub IsAnswersRefusal : Tree → AnswersRefusal → Type 0
IsAnswersRefusal t = IsFirstOf (answer_faults t)

-- what is told of a tree that is read as no answers
abbrev pub answers_fault_of : AnswersRefusal → TextFault
answers_fault_of (kept.BadAnswer i) = BadAnswer i
answers_fault_of kept.OutOfMemory = NoMemory
