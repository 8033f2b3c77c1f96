-- What is known of the states that are walked. No public clause cites this module.
use Rattle.std.specs.Prelude.{◌≡◌, ◌≢◌, ◌<◌, ◌≤◌, ◌*◌, ℕ, zero, suc, List, [], ◌∷◌, length, Bool, true, false}
use Rattle.std.specs.Prelude.{slice_get, Option, Some, None, Result, Ok, Err, is_ok, IsErrAnd, ⊤}
use Rattle.asl_model.specs.Certificate as model
use Rattle.asl_model.specs.Certificate.{takes_of}
use Rattle.asl_model.specs.Finding as finding
use Rattle.asl_model.specs.Numbering.{Table}
use Rattle.asl_model.specs.Shape.{Shape}
use Rattle.asl_model.specs.ShapeSpelling.{are_distinct}
use Rattle.asl_draft_laws.specs.Drafts as drafts
use Rattle.asl_draft_laws.specs.Drafts.{Draft, IsInferred, IsTold, NeverSettles}
use Rattle.asl_draft_laws.specs.Drafts.{first_draft, input_taken, own_breaches, rows_of, unless_told, walked}
use Rattle.asl_numbered.specs.Expansion.{Shows}
use Rattle.asl_records.specs.View.{declared_view}
use Rattle.asl_records.specs.declared.records.Declared.{Declared}
use Rattle.asl_states.specs.Machine.{state_view}
use Rattle.asl_machine_table.specs.Table.{table_view}
use Rattle.asl_machine_table.specs.declared.machine.Machine.{Machine}
use Rattle.asl_state_edges.specs.View.{steps_of}
use Rattle.asl_state_edges.specs.declared.found.Step.{Step}
use Rattle.asl_drafts.specs.Calm.{IsCalm}
use Rattle.asl_drafts.specs.Drafted.{room}
use Rattle.asl_drafts.specs.Entries.{IsToldOf}
use Rattle.asl_drafts.specs.Order.{AreOrdered}
use Rattle.asl_drafts.specs.declared.walker.Walker.{Walker}
use Rattle.asl_check.specs.View.{finding_view}
use Rattle.asl_infer.specs.Inferring.{certified_shapes}
use Rattle.asl_infer.specs.Lenient.{IsInferredLeniently, NeverSettlesLeniently, lenient_walk}
use Rattle.asl_infer.specs.Tasks.{AreTasks}
use Rattle.asl_infer.specs.declared.inferring.InferRefusal.{InferRefusal}
use Rattle.asl_infer.specs.declared.inferring.InferRefusal.TheVariants.{Finding, NotSettled, OutOfMemory}
use Rattle.asl_infer.specs.declared.rounds.Given.{Given}
use Rattle.asl_infer.specs.declared.rounds.Row.{Row}
use Rattle.asl_infer.specs.declared.rounds.Strictness.{Strictness}
use Rattle.asl_infer.specs.declared.rounds.Strictness.TheVariants.{Strict, Lenient}

-- ---- what is given

-- the machine's table, and what is declared
abbrev pub table_in : Given → Table
table_in given = table_view given.machine.now

abbrev pub declared_in : Given → model.Declared
declared_in given = declared_view given.declared.now

-- the numbers are those of what is declared, in that table
pub record IsGiven (table : List Shape) (given : Given) : Type 0 where
  pub tasks : AreTasks (declared_in given) (table_in given).names table given.tasks.items
  pub many : length given.tasks.items ≡ length (table_in given).states
  pub input : Shows table (declared_in given).input given.input

-- they are those of that machine and of what is declared so, for rounds of that strictness
pub record IsGivenOf (shown : Machine) (declared : Declared) (strictness : Strictness) (table : List Shape)
    (given : Given) : Type 0 where
  pub machine : given.machine.now ≡ shown
  pub declares : given.declared.now ≡ declared
  pub strict : given.strictness ≡ strictness
  pub numbers : IsGiven table given

-- ---- rows

-- the row is one of the table
pub record IsIn (table : Table) (row : drafts.Row) : Type 0 where
  pub named : slice_get table.names row.number ≡ Some row.name
  pub at : slice_get table.states row.number ≡ Some row.state

-- that of the state of that number
abbrev pub row_view : ℕ → Row → drafts.Row
row_view number row = record { number = number; name = row.name.now; state = state_view row.state.now }

pub record IsRowOf (given : Given) (number : ℕ) (row : Row) : Type 0 where
  pub among : IsIn (table_in given) (row_view number row)
  pub task : slice_get given.tasks.items number ≡ Some row.task

-- no row has that number
pub record IsNoRow (table : Table) (number : ℕ) : Type 0 where
  pub none : (row : drafts.Row) → IsIn table row → row.number ≡ number → ⊥

-- ---- states that wait or are at rest

-- there are flags for all, the order is that of their names, and each waits or is at rest
pub record AreCalm (table : Table) (declared : model.Declared) (walker : Walker) : Type 0 where
  pub many : length walker.waiting.waits.items ≡ length table.states
  pub ordered : AreOrdered table walker.waiting.order.items
  pub each : (row : drafts.Row) → IsIn table row → IsCalm table declared row walker

-- so does each but that of that number
pub record AreOthersCalm (table : Table) (declared : model.Declared) (number : ℕ) (walker : Walker) : Type 0 where
  pub many : length walker.waiting.waits.items ≡ length table.states
  pub ordered : AreOrdered table walker.waiting.order.items
  pub each : (row : drafts.Row) → IsIn table row → row.number ≢ number → IsCalm table declared row walker

-- ---- rounds, strict or lenient

-- the draft after the walk through a state: a rule of its own that is broken is told, or it is passed over
abbrev pub walked_by : Strictness → Table → model.Declared → drafts.Row → Draft → Result Draft finding.Finding
walked_by Strict table declared row draft = walked table declared row draft
walked_by Lenient table declared row draft = Ok (lenient_walk table declared draft row)

-- so after a walk through each of the states in turn, after one more round, and after so many
abbrev pub all_walked_by : Strictness → Table → model.Declared → List drafts.Row → Draft → Result Draft finding.Finding
all_walked_by strictness table declared [] draft = Ok draft
all_walked_by strictness table declared (row ∷ rows) draft =
    unless_told (all_walked_by strictness table declared rows) (walked_by strictness table declared row draft)

abbrev pub round_by : Strictness → Table → model.Declared → Draft → Result Draft finding.Finding
round_by strictness table declared draft =
    all_walked_by strictness table declared (rows_of table) (input_taken table declared draft)

abbrev pub after_rounds_by : Strictness → Table → model.Declared → ℕ → Result Draft finding.Finding
after_rounds_by strictness table declared zero = Ok (first_draft table)
after_rounds_by strictness table declared (suc n) =
    unless_told (round_by strictness table declared) (after_rounds_by strictness table declared n)

-- ---- what the code does of a round

-- it is told whether the draft was changed
pub record IsChanged (before : Draft) (changed : Bool) (after : Draft) : Type 0 where
  pub told : IsToldOf room before changed after

-- what a refusal tells of what a step of a round comes to
abbrev pub Tells : Result Draft finding.Finding → InferRefusal → Type 0
Tells come_to (Finding found) = come_to ≡ Err (finding_view found)
Tells come_to NotSettled = ⊥
Tells come_to OutOfMemory = ⊤

-- The steps are those of the row. No rule of its own is broken where they are whole, and else the rounds are lenient.
pub record AreStepsOf (strictness : Strictness) (declared : model.Declared) (row : drafts.Row) (before : Draft)
    (table : List Shape) (steps : List Step) (are_whole : Bool) : Type 0 where
  pub seen : drafts.steps_of declared before row ≡ steps_of table steps
  pub whole : are_whole ≡ true → own_breaches (takes_of declared row.name) (steps_of table steps) ≡ []
  pub lenient : are_whole ≡ false → strictness ≡ Lenient

-- the state of that number is walked
pub record Walks (strictness : Strictness) (table : Table) (declared : model.Declared) (number : ℕ)
    (before after : Draft) : Type 0 where
  pub walks : (row : drafts.Row) → IsIn table row → row.number ≡ number
      → walked_by strictness table declared row before ≡ Ok after

-- the walk tells that
pub record WalkTells (strictness : Strictness) (table : Table) (declared : model.Declared) (number : ℕ)
    (before : Draft) (refusal : InferRefusal) : Type 0 where
  pub tells : (row : drafts.Row) → IsIn table row → row.number ≡ number
      → Tells (walked_by strictness table declared row before) refusal

-- a round is taken, where no name stands twice
pub record TakesRound (strictness : Strictness) (table : Table) (declared : model.Declared) (before after : Draft)
    : Type 0 where
  pub taken : are_distinct table.names ≡ true → round_by strictness table declared before ≡ Ok after

-- the round tells that
pub record RoundTells (strictness : Strictness) (table : Table) (declared : model.Declared) (before : Draft)
    (refusal : InferRefusal) : Type 0 where
  pub tells : are_distinct table.names ≡ true → Tells (round_by strictness table declared before) refusal

-- ---- what the rounds come to

-- the draft is one that a round leaves as it is, after fewer than so many of them
pub record SettlesBy (strictness : Strictness) (table : Table) (declared : model.Declared) (rounds : ℕ) (draft : Draft)
    : Type 0 where
  pub before : ℕ
  pub within : before < rounds
  pub comes : after_rounds_by strictness table declared before ≡ Ok draft
  pub stays : round_by strictness table declared draft ≡ Ok draft

-- each of the rounds changes the draft before it
pub record NeverSettlesBy (strictness : Strictness) (table : Table) (declared : model.Declared) (rounds : ℕ)
    : Type 0 where
  pub changes : (n : ℕ) → n < rounds → (before after : Draft)
      × (after_rounds_by strictness table declared n ≡ Ok before)
      × (round_by strictness table declared before ≡ Ok after) × (after ≢ before)

-- why the rounds don't settle
abbrev pub IsEndBy : Strictness → Table → model.Declared → ℕ → InferRefusal → Type 0
IsEndBy strictness table declared rounds (Finding found) =
    after_rounds_by strictness table declared rounds ≡ Err (finding_view found)
IsEndBy strictness table declared rounds NotSettled =
    NeverSettlesBy strictness table declared rounds × (rounds ≤ 33 * certified_shapes table)
IsEndBy strictness table declared rounds OutOfMemory = ⊤

-- whether they settled; if not, memory wasn't refused
pub record IsSettledOrNot {A : Type 0} (came_to : Result A InferRefusal) (settled : Bool) : Type 0 where
  pub did : settled ≡ true → is_ok came_to ≡ true
  pub ended : settled ≡ false → IsErrAnd came_to (λ why. why ≢ OutOfMemory)

-- they settle on the draft, or end so, where no name stands twice
pub record SettlesWhereDistinct (strictness : Strictness) (table : Table) (declared : model.Declared) (rounds : ℕ)
    (draft : Draft) : Type 0 where
  pub settles : are_distinct table.names ≡ true → SettlesBy strictness table declared rounds draft

pub record EndsWhereDistinct (strictness : Strictness) (table : Table) (declared : model.Declared) (rounds : ℕ)
    (refusal : InferRefusal) : Type 0 where
  pub ends : are_distinct table.names ≡ true → IsEndBy strictness table declared rounds refusal

-- ---- what is inferred, where no name stands twice

-- the certificate is that of the rounds
pub record Infers (table : Table) (declared : model.Declared) (rounds : ℕ) (certificate : model.Certificate)
    : Type 0 where
  pub inferred : are_distinct table.names ≡ true → IsInferred table declared rounds certificate

-- why there is none: of the names of tasks, or of the rounds
abbrev pub IsEndOf : Table → model.Declared → ℕ → InferRefusal → Type 0
IsEndOf table declared rounds (Finding found) = IsTold table declared rounds (finding_view found)
IsEndOf table declared rounds NotSettled =
    NeverSettles table declared rounds × (rounds ≤ 33 * certified_shapes table)
IsEndOf table declared rounds OutOfMemory = ⊤

pub record Refuses (table : Table) (declared : model.Declared) (rounds : ℕ) (refusal : InferRefusal) : Type 0 where
  pub refuses : are_distinct table.names ≡ true → IsEndOf table declared rounds refusal

-- the certificate is that of lenient rounds, and there is none where they don't settle
abbrev pub IsLenientAnswer : Table → model.Declared → ℕ → Option model.Certificate → Type 0
IsLenientAnswer table declared rounds (Some certificate) = IsInferredLeniently table declared rounds certificate
IsLenientAnswer table declared rounds None =
    NeverSettlesLeniently table declared rounds × (rounds ≤ 33 * certified_shapes table)

pub record AnswersLeniently (table : Table) (declared : model.Declared) (rounds : ℕ) (found : Option model.Certificate)
    : Type 0 where
  pub answers : are_distinct table.names ≡ true → IsLenientAnswer table declared rounds found
