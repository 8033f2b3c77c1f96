-- What is added to the steps along a walk.
use Rattle.std.specs.Prelude.{◌≡◌, ◌<◌, ◌∷◌, ◌++◌, ℕ, List, [], codes, length, map}
use Rattle.asl_model.specs.Edges.{Walked, Breaks, ToInput, ToOutput, ToTask, breaks_missing, flows_to}
use Rattle.asl_model.specs.Finding.{CatchInput, OutputNotCertified, PayloadNotTaken, breach_of}
use Rattle.asl_model.specs.Names.{FieldName, StateName}
use Rattle.asl_model.specs.Shape.{Shape}
use Rattle.asl_flow.specs.Doubts.{fault_of, AreDoubtsBelow}
use Rattle.asl_shape_paths.specs.Doubts.{doubtful_view}
use Rattle.asl_flow.specs.declared.doubts.Doubt.{Doubt}
use Rattle.asl_shape_paths.specs.declared.doubts.DoubtfulPath.{DoubtfulPath}
use Rattle.asl_numbered.specs.Expansion.{shape_at}
use Rattle.asl_state_edges.specs.View.{steps_of, AreStepsBelow}
use Rattle.asl_state_edges.specs.declared.found.Step.{Step}

-- the step of an output, of a payload, and of what a catcher hands on to that state
abbrev pub output_step : Shape → List Walked
output_step s = flows_to ToOutput (codes "OutputPath") OutputNotCertified s ∷ []

abbrev pub payload_step : Shape → List Walked
payload_step s = flows_to ToTask (codes "Parameters") PayloadNotTaken s ∷ []

abbrev pub caught_step : StateName → Shape → List Walked
caught_step next s = flows_to (ToInput next) (codes "Catch") CatchInput s ∷ []

-- the steps of doubts: each is a broken rule
abbrev pub doubted_steps : List Shape → List Doubt → List Walked
doubted_steps table doubts = map (λ fault. Breaks (breach_of fault)) (map (fault_of table) doubts)

-- Steps on shapes of the table are added.
pub record Adds (table : List Shape) (before after : List Step) (steps : List Walked) : Type 0 where
  pub added : List Step
  pub whole : after ≡ before ++ added
  pub below : AreStepsBelow (length table) added
  pub seen : steps ≡ steps_of table added

-- Steps are added whatever the table, on shapes whose numbers are below each bound that fits.
pub record AddsAnywhere (fits : ℕ → Type 0) (before after : List Step) (steps : List Shape → List Walked) : Type 0 where
  pub added : List Step
  pub whole : after ≡ before ++ added
  pub below : (bound : ℕ) → fits bound → AreStepsBelow bound added
  pub seen : (table : List Shape) → steps table ≡ steps_of table added

-- so of the shape of that number
abbrev pub Pushes : List Step → List Step → ℕ → (Shape → List Walked) → Type 0
Pushes before after n steps = AddsAnywhere (λ bound. n < bound) before after (λ table. steps (shape_at table n))

-- of no shape at all
abbrev pub Tells : List Step → List Step → List Walked → Type 0
Tells before after steps = AddsAnywhere (λ bound. Unit {0}) before after (λ table. steps)

-- of a path of that field that is doubtful
abbrev pub TellsMissing : List Step → List Step → FieldName → DoubtfulPath → Type 0
TellsMissing before after field path =
    AddsAnywhere (λ bound. path.shape < bound) before after (λ table. breaks_missing field (doubtful_view table path))

-- of doubts, in their order
abbrev pub TellsDoubts : List Step → List Step → List Doubt → Type 0
TellsDoubts before after doubts =
    AddsAnywhere (λ bound. AreDoubtsBelow bound doubts) before after (λ table. doubted_steps table doubts)
