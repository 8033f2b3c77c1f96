-- What a source is known to begin with, where not all of its bytes are known. A source that never ends begins with
-- texts of every length, so what is said of each of its fronts is said of it.
use Rattle.std.specs.Prelude.{◌≡◌, ◌<◌, ℕ, List, [], ◌++◌, length, take, Some, IsFalse, ⊤}
use Rattle.asl_model.specs.Printed.{first_line, further_lines, is_too_long}
use Rattle.asl_model.specs.Texts.{Which, DefinitionText, DeclaredText, CertificateText, InputText, AnswersText}
use Rattle.asl_texts.specs.Lines.{NoLineIsLong}
use Rattle.asl_texts.specs.View.{which_view}
use Rattle.asl_texts.specs.declared.refusals.RunFault.{RunFault}
use Rattle.asl_texts.specs.declared.refusals.RunFault.TheVariants as run

-- the bytes that were taken, and behind them some that are begun with, begin with that front
pub record HasFront (Begins : List ℕ → Type 0) (taken front : List ℕ) : Type 0 where
  pub more : List ℕ
  pub back : List ℕ
  pub begun : Begins more
  pub parts : taken ++ more ≡ front ++ back

-- A read gave the first bytes of a buffer, so many. With them each front goes on; and none are given, where there is
-- room, only where nothing of it is left.
abbrev pub ReadsFronts : (List ℕ → Type 0) → (List ℕ → Type 0) → ℕ → List ℕ → Type 0
ReadsFronts Before After count buffer = (front : List ℕ) → Before front
    → HasFront After (take count buffer) front × (count ≡ 0 → 0 < length buffer → front ≡ [])

-- Bytes that aren't taken yet were made up from what is read. With them each front goes on; and none are there only
-- where nothing of it is left.
abbrev pub FillsFronts : (List ℕ → Type 0) → (List ℕ → Type 0) → List ℕ → List ℕ → Type 0
FillsFronts Before After old new = (more : List ℕ) → Before more
    → HasFront After new (old ++ more) × (new ≡ [] → old ++ more ≡ [])

-- a line was taken of each front: it isn't too long, and further lines are left
abbrev pub TakesFrontLine : (List ℕ → Type 0) → (List ℕ → Type 0) → List ℕ → List ℕ → Type 0
TakesFrontLine Before After old new = (front : List ℕ) → HasFront Before old front
    → IsFalse (is_too_long (first_line front)) × HasFront After new (further_lines front)

-- no front is longer than a text may be
abbrev pub NoFrontIsLong : (List ℕ → Type 0) → Type 0
NoFrontIsLong Begins = (front : List ℕ) → Begins front → IsFalse (is_too_long front)

-- of no front is one of the first three lines too long
abbrev pub NoFrontLineIsLong : (List ℕ → Type 0) → Type 0
NoFrontLineIsLong Begins = (front : List ℕ) → Begins front → NoLineIsLong (Some front)

-- ---- answers

-- what holds of a fault that comes once the three lines are read
abbrev pub IfLinesRead : Type 0 → RunFault → Type 0
IfLinesRead promise (run.Text refusal) = promise
IfLinesRead promise run.TooLong = ⊤
IfLinesRead promise run.Read = ⊤
IfLinesRead promise run.Write = promise
IfLinesRead promise run.OutOfMemory = ⊤

-- where that text is the one of the answers
abbrev pub IfAnswers : Type 0 → Which → Type 0
IfAnswers promise DefinitionText = ⊤
IfAnswers promise DeclaredText = ⊤
IfAnswers promise CertificateText = ⊤
IfAnswers promise InputText = ⊤
IfAnswers promise AnswersText = promise

-- what holds of a fault that comes once the answers are read
abbrev pub IfAnswersRead : Type 0 → RunFault → Type 0
IfAnswersRead promise (run.Text refusal) = IfAnswers promise (which_view refusal.which)
IfAnswersRead promise run.TooLong = ⊤
IfAnswersRead promise run.Read = ⊤
IfAnswersRead promise run.Write = promise
IfAnswersRead promise run.OutOfMemory = ⊤
