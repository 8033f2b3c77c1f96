-- Steps as the walk adds them, whatever the table.
use Rattle.std.proofs.Common.{◌≡◌, ◌<◌, ◌≤◌, ◌+◌, ℕ, List, [], ◌∷◌, ◌++◌, length, get_or, drop, codes, Bool, true, zero, suc, refl, sym, ap, ◌∙◌, subst, drop-cons, add-one, arith}
use Rattle.std.proofs.lemmas.List.{drop_all}
use Rattle.asl_states.specs.Machine.{branches_view, target_name}
use Rattle.asl_states.specs.declared.target.Target.{Target}
use Rattle.asl_model.specs.Edges.{Walked, breaks_unless, to_branches, to_child}
use Rattle.asl_model.specs.Finding.{FindingFault}
use Rattle.asl_model.specs.Machine.{ScopeOf, NoStates}
use Rattle.asl_model.specs.Shape.{Shape}
use Rattle.asl_flow.specs.Doubts.{AreDoubtsBelow, IsCauseBelow}
use Rattle.asl_flow.specs.declared.doubts.Doubt.{Doubt}
use Rattle.asl_numbered.specs.Expansion.{shape_at}
use Rattle.asl_state_edges.specs.View.{step_view, IsStepBelow}
use Rattle.asl_state_edges.specs.Walks.{doubted_steps, AddsAnywhere, Pushes, Tells}
use Rattle.asl_state_edges.specs.declared.found.Edge.{Edge}
use Rattle.asl_state_edges.specs.declared.found.Step.{Step}
use Rattle.asl_state_edges.specs.declared.found.Step.TheVariants.{Flows}
use Rattle.asl_state_edges.proofs.Adding.{anywhere_then, none_anywhere, one_anywhere}

-- ---- steps of one shape

-- an edge
pub edge_pushed : (before after : List Step) (e : Edge) (n : ℕ) (all : Shape → List Walked) → after ≡ before ++ Flows e ∷ [] → e.flowing ≡ n → ((table : List Shape) → all (shape_at table n) ≡ step_view table (Flows e) ∷ []) → Pushes before after n all
edge_pushed before after e n all whole flowing seen =
    one_anywhere (λ bound. n < bound) before after (Flows e) (λ table. all (shape_at table n)) whole (λ bound within. subst (λ m. m < bound) (sym flowing) within) seen

-- an edge behind some steps
pub then_pushed : (before middle after : List Step) (e : Edge) (n : ℕ) (first behind : Shape → List Walked) → Pushes before middle n first → after ≡ middle ++ Flows e ∷ [] → e.flowing ≡ n → ((table : List Shape) → behind (shape_at table n) ≡ step_view table (Flows e) ∷ []) → Pushes before after n (λ s. first s ++ behind s)
then_pushed before middle after e n first behind p whole flowing seen =
    anywhere_then (λ bound. n < bound) before middle after (λ table. first (shape_at table n)) (λ table. behind (shape_at table n)) p (edge_pushed middle after e n behind whole flowing seen)

-- ---- steps that are left

-- once those are added too, all are
pub record AddsOn (fits : ℕ → Type 0) (before middle : List Step) (all left : List Shape → List Walked) : Type 0 where
  pub through : (after : List Step) → AddsAnywhere fits middle after left → AddsAnywhere fits before after all

-- at first all are left
pub all_left : (fits : ℕ → Type 0) (steps : List Step) (all : List Shape → List Walked) → AddsOn fits steps steps all all
all_left fits steps all = record { through = λ after added. added }

-- at last none is
pub none_left : (fits : ℕ → Type 0) (before middle : List Step) (all left : List Shape → List Walked) → ((table : List Shape) → left table ≡ []) → AddsOn fits before middle all left → AddsAnywhere fits before middle all
none_left fits before middle all left none on = on.through middle (none_anywhere fits middle left none)

module _ (fits : ℕ → Type 0) (before middle after : List Step) (all : List Shape → List Walked) where
  -- the first of them are added
  pub some_added : (first behind left : List Shape → List Walked) → ((table : List Shape) → left table ≡ first table ++ behind table) → AddsOn fits before middle all left → AddsAnywhere fits middle after first → AddsOn fits before after all behind
  some_added first behind left split on added = record { through = λ last p. on.through last (whole last (anywhere_then fits middle after last first behind added p)) }
    where
      whole : (last : List Step) → AddsAnywhere fits middle last (λ table. first table ++ behind table) → AddsAnywhere fits middle last left
      whole last p = record { added = p.added; whole = p.whole; below = p.below; seen = λ table. split table ∙ p.seen table }

-- ---- branches

-- the steps of those from a position on
abbrev pub branches_left : ℕ → List Target → ℕ → List Shape → List Walked
branches_left n branches i table = to_branches (branches_view (drop i branches)) (shape_at table n)

module _ (before middle after : List Step) (n : ℕ) (all : List Shape → List Walked) (branches : List Target) (i : ℕ) where
  -- one more
  pub branch_pushed : (start : Target) → i < length branches → start ≡ get_or branches i start → AddsOn (λ bound. n < bound) before middle all (branches_left n branches i) → Pushes middle after n (to_child (codes "Branches") (ScopeOf (target_name start) NoStates))
      → AddsOn (λ bound. n < bound) before after all (branches_left n branches (i + 1))
  branch_pushed start within is on p =
      let split : drop i branches ≡ start ∷ drop (i + 1) branches = drop-cons branches i start within ∙ rw (← is, add-one) refl in
      some_added (λ bound. n < bound) before middle after all (λ table. to_child (codes "Branches") (ScopeOf (target_name start) NoStates) (shape_at table n)) (branches_left n branches (i + 1)) (branches_left n branches i)
      (λ table. ap (λ bs. to_branches (branches_view bs) (shape_at table n)) split) on p

-- none is left
pub branches_pushed : (before after : List Step) (n : ℕ) (all : List Shape → List Walked) (branches : List Target) (i : ℕ) → length branches ≤ i → AddsOn (λ bound. n < bound) before after all (branches_left n branches i) → AddsAnywhere (λ bound. n < bound) before after all
branches_pushed before after n all branches i end on =
    none_left (λ bound. n < bound) before after all (branches_left n branches i) (λ table. ap (λ bs. to_branches (branches_view bs) (shape_at table n)) (drop_all i branches end)) on

-- ---- broken rules

-- the rule holds
pub unless_held : (steps : List Step) (holds : Bool) (field : List ℕ) (fault : FindingFault) → holds ≡ true → Tells steps steps (breaks_unless holds field fault)
unless_held steps holds field fault is = none_anywhere (λ bound. Unit {0}) steps (λ table. breaks_unless holds field fault) (λ table. rw is refl)

-- ---- doubts

-- those at a position speak of shapes below a bound where all do
doubt_below : (bound : ℕ) (doubts : List Doubt) (i : ℕ) (doubt : Doubt) → i < length doubts → doubt ≡ get_or doubts i doubt → AreDoubtsBelow bound doubts → IsCauseBelow bound doubt.cause
doubt_below bound [] i doubt within is below = absurd (omega (arith, within))
doubt_below bound (d ∷ doubts) zero doubt within is below = subst (λ x. IsCauseBelow bound x.cause) (sym is) below.0
doubt_below bound (d ∷ doubts) (suc i) doubt within is below = doubt_below bound doubts i doubt (omega (arith, within)) is below.1

module _ (before middle after : List Step) (all : List Shape → List Walked) (doubts : List Doubt) (i : ℕ) where
  -- one more
  pub doubt_pushed : (doubt : Doubt) (s : Step) → i < length doubts → doubt ≡ get_or doubts i doubt → AddsOn (λ bound. AreDoubtsBelow bound doubts) before middle all (λ table. doubted_steps table (drop i doubts))
      → after ≡ middle ++ s ∷ [] → ((bound : ℕ) → IsCauseBelow bound doubt.cause → IsStepBelow bound s) → ((table : List Shape) → doubted_steps table (doubt ∷ []) ≡ step_view table s ∷ [])
      → AddsOn (λ bound. AreDoubtsBelow bound doubts) before after all (λ table. doubted_steps table (drop (i + 1) doubts))
  doubt_pushed doubt s within is on whole below seen =
      let split : drop i doubts ≡ doubt ∷ drop (i + 1) doubts = drop-cons doubts i doubt within ∙ rw (← is, add-one) refl in
      some_added (λ bound. AreDoubtsBelow bound doubts) before middle after all (λ table. doubted_steps table (doubt ∷ [])) (λ table. doubted_steps table (drop (i + 1) doubts)) (λ table. doubted_steps table (drop i doubts))
      (λ table. ap (doubted_steps table) split) on
      (one_anywhere (λ bound. AreDoubtsBelow bound doubts) middle after s (λ table. doubted_steps table (doubt ∷ [])) whole (λ bound fit. below bound (doubt_below bound doubts i doubt within is fit)) seen)

-- none is left
pub doubts_pushed : (before after : List Step) (all : List Shape → List Walked) (doubts : List Doubt) (i : ℕ) → length doubts ≤ i → AddsOn (λ bound. AreDoubtsBelow bound doubts) before after all (λ table. doubted_steps table (drop i doubts)) → AddsAnywhere (λ bound. AreDoubtsBelow bound doubts) before after all
doubts_pushed before after all doubts i end on =
    none_left (λ bound. AreDoubtsBelow bound doubts) before after all (λ table. doubted_steps table (drop i doubts)) (λ table. ap (doubted_steps table) (drop_all i doubts end)) on
