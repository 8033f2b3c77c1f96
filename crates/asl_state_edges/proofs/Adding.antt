-- Steps that are added behind others.
use Rattle.std.proofs.Common.{◌≡◌, ◌<◌, ◌≤◌, ℕ, List, [], ◌∷◌, ◌++◌, length, Option, Some, None, refl, sym, ap, ◌∙◌, subst, append_assoc, arith}
use Rattle.std.proofs.lemmas.List.{append-nil, get_or_append_left, map-append}
use Rattle.std.specs.Prelude.{IfSome}
use Rattle.asl_model.specs.Edges.{Walked}
use Rattle.asl_model.specs.Missing.{counterexample}
use Rattle.asl_model.specs.Shape.{Shape, Never}
use Rattle.asl_shape_paths.specs.declared.doubts.DoubtfulPath.{DoubtfulPath}
use Rattle.asl_numbered.specs.Expansion.{shape_at, Keeps}
use Rattle.asl_numbered.specs.Laws.{keeps_longer}
use Rattle.asl_state_edges.specs.View.{example_of, step_view, steps_of, AreStepsBelow, IsStepBelow}
use Rattle.asl_state_edges.specs.Walks.{Adds, AddsAnywhere, Pushes, Tells}
use Rattle.asl_state_edges.specs.declared.found.Step.{Step}
use Rattle.asl_state_edges.specs.declared.found.Step.TheVariants as step

-- ---- steps that are seen

-- a table that has grown shows them as they were
example_stays : (table added : List Shape) (path : Option DoubtfulPath) → IfSome path (λ p. p.shape < length table) → example_of (table ++ added) path ≡ example_of table path
example_stays table added None h = refl
example_stays table added (Some path) h = ap (λ s. counterexample (record { path = path.path.now; segment = path.segment; shape = s })) (get_or_append_left table added Never path.shape h)

step_stays : (table added : List Shape) (s : Step) → IsStepBelow (length table) s → step_view (table ++ added) s ≡ step_view table s
step_stays table added (step.Flows e) h = rw (get_or_append_left table added Never e.flowing h) refl
step_stays table added (step.Breaks b) h = rw (example_stays table added b.path h) refl

steps_stay : (table added : List Shape) (steps : List Step) → AreStepsBelow (length table) steps → steps_of (table ++ added) steps ≡ steps_of table steps
steps_stay table added [] h = refl
steps_stay table added (s ∷ steps) h = rw (step_stays table added s h.0, steps_stay table added steps h.1) refl

steps_kept : (old new : List Shape) (steps : List Step) → Keeps old new → AreStepsBelow (length old) steps → steps_of new steps ≡ steps_of old steps
steps_kept old new steps keeps h = rw keeps.whole (steps_stay old keeps.added steps h)

-- ---- numbers below a bound

-- those of steps behind others
both_below : (bound : ℕ) (xs ys : List Step) → AreStepsBelow bound xs → AreStepsBelow bound ys → AreStepsBelow bound (xs ++ ys)
both_below bound [] ys here behind = behind
both_below bound (x ∷ xs) ys here behind = (here.0, both_below bound xs ys here.1 behind)

-- below a wider one
path_wider : (bound wider : ℕ) (path : Option DoubtfulPath) → bound ≤ wider → IfSome path (λ p. p.shape < bound) → IfSome path (λ p. p.shape < wider)
path_wider bound wider None more h = tt
path_wider bound wider (Some path) more h = omega (arith, more, h)

step_wider : (bound wider : ℕ) (s : Step) → bound ≤ wider → IsStepBelow bound s → IsStepBelow wider s
step_wider bound wider (step.Flows e) more h = omega (arith, more, h)
step_wider bound wider (step.Breaks b) more h = path_wider bound wider b.path more h

pub steps_wider : (bound wider : ℕ) (steps : List Step) → bound ≤ wider → AreStepsBelow bound steps → AreStepsBelow wider steps
steps_wider bound wider [] more h = tt
steps_wider bound wider (s ∷ steps) more h = (step_wider bound wider s more h.0, steps_wider bound wider steps more h.1)

-- ---- steps that are added

-- none
pub adds_none : (table : List Shape) (steps : List Step) (all : List Walked) → all ≡ [] → Adds table steps steps all
adds_none table steps all none = record { added = []; whole = sym (append-nil steps); below = tt; seen = none }

-- and others behind them, in a table that has grown
pub adds_then : (old new : List Shape) (before middle after : List Step) (xs ys : List Walked) → Keeps old new → Adds old before middle xs → Adds new middle after ys → Adds new before after (xs ++ ys)
adds_then old new before middle after xs ys keeps a b = record {
  added = a.added ++ b.added;
  whole = b.whole ∙ ap (λ steps. steps ++ b.added) a.whole ∙ append_assoc before a.added b.added;
  below = both_below (length new) a.added b.added (steps_wider (length old) (length new) a.added (keeps_longer old new keeps) a.below) b.below;
  seen = ap (λ zs. zs ++ ys) (a.seen ∙ sym (steps_kept old new a.added keeps a.below)) ∙ ap (λ zs. steps_of new a.added ++ zs) b.seen ∙ sym (map-append (step_view new) a.added b.added);
}

-- the same steps, told otherwise
pub adds_same : (table : List Shape) (before after : List Step) (xs ys : List Walked) → xs ≡ ys → Adds table before after xs → Adds table before after ys
adds_same table before after xs ys is a = subst (Adds table before after) is a

-- ---- steps that are added whatever the table

-- in one
pub adds_anywhere : (table : List Shape) (fits : ℕ → Type 0) (before after : List Step) (steps : List Shape → List Walked) → fits (length table) → AddsAnywhere fits before after steps → Adds table before after (steps table)
adds_anywhere table fits before after steps fit p = record { added = p.added; whole = p.whole; below = p.below (length table) fit; seen = p.seen table }

-- none
pub none_anywhere : (fits : ℕ → Type 0) (steps : List Step) (all : List Shape → List Walked) → ((table : List Shape) → all table ≡ []) → AddsAnywhere fits steps steps all
none_anywhere fits steps all none = record { added = []; whole = sym (append-nil steps); below = λ bound fit. tt; seen = none }

-- one
pub one_anywhere : (fits : ℕ → Type 0) (before after : List Step) (s : Step) (all : List Shape → List Walked) → after ≡ before ++ s ∷ [] → ((bound : ℕ) → fits bound → IsStepBelow bound s) → ((table : List Shape) → all table ≡ step_view table s ∷ []) → AddsAnywhere fits before after all
one_anywhere fits before after s all whole below seen = record { added = s ∷ []; whole = whole; below = λ bound fit. (below bound fit, tt); seen = seen }

-- and others behind them
pub anywhere_then : (fits : ℕ → Type 0) (before middle after : List Step) (xs ys : List Shape → List Walked) → AddsAnywhere fits before middle xs → AddsAnywhere fits middle after ys → AddsAnywhere fits before after (λ table. xs table ++ ys table)
anywhere_then fits before middle after xs ys a b = record {
  added = a.added ++ b.added;
  whole = b.whole ∙ ap (λ steps. steps ++ b.added) a.whole ∙ append_assoc before a.added b.added;
  below = λ bound fit. both_below bound a.added b.added (a.below bound fit) (b.below bound fit);
  seen = λ table. ap (λ zs. zs ++ ys table) (a.seen table) ∙ ap (λ zs. steps_of table a.added ++ zs) (b.seen table) ∙ sym (map-append (step_view table) a.added b.added);
}

-- steps on one shape of the table
pub adds_pushed : (table : List Shape) (before after : List Step) (n : ℕ) (go_on : Shape → List Walked) (all : List Walked) → n < length table → go_on (shape_at table n) ≡ all → Pushes before after n go_on → Adds table before after all
adds_pushed table before after n go_on all within is p = adds_same table before after (go_on (shape_at table n)) all is (adds_anywhere table (λ bound. n < bound) before after (λ t. go_on (shape_at t n)) within p)

-- rules that are broken without one
pub adds_told : (table : List Shape) (before after : List Step) (xs ys : List Walked) → xs ≡ ys → Tells before after xs → Adds table before after ys
adds_told table before after xs ys is p = adds_same table before after xs ys is (adds_anywhere table (λ bound. Unit {0}) before after (λ t. xs) tt p)

-- ---- steps that are added to none

module _ (table : List Shape) (before after : List Step) (all : List Walked) (none : before ≡ []) (a : Adds table before after all) where
  whole : after ≡ a.added
  whole = a.whole ∙ ap (λ steps. steps ++ a.added) none

  -- they are those
  pub added_seen : steps_of table after ≡ all
  added_seen = ap (steps_of table) whole ∙ sym a.seen

  -- below the table's length
  pub added_below : AreStepsBelow (length table) after
  added_below = subst (AreStepsBelow (length table)) (sym whole) (a.below)
