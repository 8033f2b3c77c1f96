-- Where steps lead, and what flows there.
use Rattle.std.proofs.Common.{◌≡◌, ◌<◌, ◌≤◌, ◌+◌, ◌++◌, ◌∷◌, ℕ, zero, suc, List, [], length, get_or, take, Option, Some, None, refl, sym, ap, ◌∙◌, subst, arith}
use Rattle.std.proofs.lemmas.List.{length-map, length-take-le, map-append, take_more}
use Rattle.std.specs.Prelude.{IfSome}
use Rattle.asl_model.specs.Edges.{Walked, Breaks}
use Rattle.asl_model.specs.Finding.{Breach}
use Rattle.asl_model.specs.Missing.{missing}
use Rattle.asl_model.specs.Numbering.{Table}
use Rattle.asl_model.specs.Shape.{Shape}
use Rattle.asl_draft_laws.specs.Drafts as model
use Rattle.asl_draft_laws.specs.Drafts.{step_taken, taken_at}
use Rattle.asl_draft_laws.specs.Resting.{FlowRests, Memory, StepRests}
use Rattle.asl_numbered.specs.Expansion.{shape_at, Keeps}
use Rattle.asl_numbered.specs.Laws.{kept_shape}
use Rattle.asl_shape_paths.specs.declared.doubts.DoubtfulPath.{DoubtfulPath}
use Rattle.asl_state_edges.specs.View.{broken_view, destination_view, edge_view, example_of, finding_fault_view, step_view, steps_of, AreStepsBelow, IsBrokenBelow, IsStepBelow}
use Rattle.asl_state_edges.specs.declared.faults.Broken.{Broken}
use Rattle.asl_state_edges.specs.declared.found.Edge.{Edge}
use Rattle.asl_state_edges.specs.declared.found.Step.{Step}
use Rattle.asl_state_edges.specs.declared.found.Step.TheVariants as step

module _ (table : Table) (n : ℕ) (shapes : List Shape) (edge : Edge) where
  -- an edge that leads to a shape of the draft
  module _ (into : model.Target) (leads : Some into ≡ model.target_of table n (destination_view edge.destination)) where
    pub edge-rests : (known : Memory) (draft : model.Draft) (place : ℕ) → FlowRests n known draft place (Some into) (shape_at shapes edge.flowing) → StepRests table n known draft place (edge_view shapes edge)
    edge-rests known draft place rest = subst (λ o. FlowRests n known draft place o (shape_at shapes edge.flowing)) leads rest

  -- and one that leads to none
  module _ (leads : None ≡ model.target_of table n (destination_view edge.destination)) where
    pub none-rests : (known : Memory) (draft : model.Draft) (place : ℕ) → StepRests table n known draft place (edge_view shapes edge)
    none-rests known draft place = subst (λ o. FlowRests n known draft place o (shape_at shapes edge.flowing)) leads tt

    pub none-taken : (draft : model.Draft) → draft ≡ step_taken table n (edge_view shapes edge) draft
    none-taken draft = ap (λ o. taken_at o (shape_at shapes edge.flowing) draft) leads

-- a step speaks of numbers of the table
pub step-below : (bound : ℕ) (steps : List Step) (i : ℕ) (s : Step) → i < length steps → s ≡ get_or steps i s → AreStepsBelow bound steps → IsStepBelow bound s
step-below bound [] i s within is below = absurd (omega (arith, within))
step-below bound (first ∷ steps) zero s within is below = subst (IsStepBelow bound) (sym is) below.0
step-below bound (first ∷ steps) (suc i) s within is below = step-below bound steps i s (omega (arith, within)) is below.1

-- they are numbers of a table that has grown
broken-wider : (bound wider : ℕ) (path : Option DoubtfulPath) → bound ≤ wider → IfSome path (λ p. p.shape < bound) → IfSome path (λ p. p.shape < wider)
broken-wider bound wider None more below = tt
broken-wider bound wider (Some path) more below = omega (arith, more, below)

pub step-wider : (bound wider : ℕ) (s : Step) → bound ≤ wider → IsStepBelow bound s → IsStepBelow wider s
step-wider bound wider (step.Flows edge) more below = omega (arith, more, below)
step-wider bound wider (step.Breaks broken) more below = broken-wider bound wider broken.path more below

-- with the same shape there
example-kept : (a b : List Shape) (path : Option DoubtfulPath) → Keeps a b → IfSome path (λ p. p.shape < length a) → example_of b path ≡ example_of a path
example-kept a b None keeps below = refl
example-kept a b (Some path) keeps below = ap (missing path.path.now) (kept_shape a b path.shape keeps below)

broken-kept : (a b : List Shape) (broken : Broken) → Keeps a b → IsBrokenBelow (length a) broken → broken_view b broken ≡ broken_view a broken
broken-kept a b broken keeps below = ap (λ example. let breach : Breach = record { field = broken.field.now; fault = finding_fault_view broken.fault; example = example } in breach) (example-kept a b broken.path keeps below)

edge-kept : (a b : List Shape) (edge : Edge) → Keeps a b → edge.flowing < length a → edge_view b edge ≡ edge_view a edge
edge-kept a b edge keeps below = rw (kept_shape a b edge.flowing keeps below) refl

pub step-kept : (a b : List Shape) (s : Step) → Keeps a b → IsStepBelow (length a) s → step_view b s ≡ step_view a s
step-kept a b (step.Flows edge) keeps below = edge-kept a b edge keeps below
step-kept a b (step.Breaks broken) keeps below = ap Breaks (broken-kept a b broken keeps below)

-- the first steps
abbrev pub first_steps : List Shape → List Step → ℕ → List Walked
first_steps shapes steps i = steps_of shapes (take i steps)

pub steps-many : (shapes : List Shape) (steps : List Step) (i : ℕ) → i ≤ length steps → length (first_steps shapes steps i) ≡ i
steps-many shapes steps i within = length-map (take i steps) (step_view shapes) ∙ length-take-le i steps within

pub steps-more : (shapes : List Shape) (steps : List Step) (i : ℕ) (s : Step) → i < length steps → s ≡ get_or steps i s → first_steps shapes steps (i + 1) ≡ first_steps shapes steps i ++ step_view shapes s ∷ []
steps-more shapes steps i s within is =
    ap (steps_of shapes) (take_more steps i s within)
    ∙ (map-append (step_view shapes) (take i steps) (get_or steps i s ∷ [])
    ∙ ap (λ (x : Step). first_steps shapes steps i ++ step_view shapes x ∷ []) (sym is))
