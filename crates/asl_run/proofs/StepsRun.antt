-- A step leaves a run of the same machine.
use Rattle.std.proofs.Common.{◌≡◌, ◌↔◌, refl, sym, ap, subst, ℕ, List, [], ◌∷◌, map, Option, Some, None, option_map, option_and_then, Result, Ok, Err, Vec, Global}
use Rattle.std.specs.Option.{IsSome}
use Rattle.asl_machine_table.specs.Table.{Shows}
use Rattle.asl_machine_table.specs.declared.machine.Machine.{Machine}
use Rattle.asl_model.specs.Machine.{Scope}
use Rattle.asl_model.specs.Numbering.{own_scope}
use Rattle.asl_model.specs.Run as model
use Rattle.asl_model.specs.Run.{activity_at, child_at, scope_below, step_at, within}
use Rattle.asl_model.proofs.RunOptions.{none_some}
use Rattle.asl_run.specs.Entries.{entry_view}
use Rattle.asl_run.specs.Standing.{StandsIn}
use Rattle.asl_run.specs.Stepping.{IsStep, RefusedSo, StepsIn, Steps}
use Rattle.asl_run.specs.declared.entries.Entry.{Entry}
use Rattle.asl_run.specs.declared.stepping.StepRefusal.{StepRefusal}
use Rattle.asl_run.specs.declared.stepping.StepRefusal.TheVariants.{NoSuchPlace, NotEnabled, OutOfMemory}
use Rattle.asl_model.proofs.RunStands.{step_stands}

-- its states stand in their scopes
pub still_stands : (machine : Machine) (m : Scope) (place : List ℕ) (a b : model.Activity) (action : model.Action) (r : Result (Vec Entry Global) StepRefusal) → Shows machine m → StandsIn a m → Steps machine place place a b action r → StandsIn b m
still_stands machine m place a b action r shown stands h = go r (h.steps m m shown own_scope stands)
  where
    go : (answer : Result (Vec Entry Global) StepRefusal) → StepsIn m place place a b action answer → StandsIn b m
    go (Ok entries) s = subst (λ c. StandsIn c m) (sym s.taken.left) (step_stands m shown.well_named.leads place m own_scope a action s.taken.step stands s.taken.is)
    go (Err refusal) s = subst (λ c. StandsIn c m) (sym s.unchanged) stands

-- ---- the answers

-- it is taken
pub so_taken : (machine : Machine) (m : Scope) (place : List ℕ) (a b : model.Activity) (action : model.Action) (r : Result (Vec Entry Global) StepRefusal) (entries : Vec Entry Global) → r ≡ Ok entries → Shows machine m → StandsIn a m → Steps machine place place a b action r
    → IsStep place (step_at place m a action) (map entry_view entries.items) b
so_taken machine m place a b action r entries is shown stands h =
    let known : StepsIn m place place a b action (Ok entries) = subst (λ x. StepsIn m place place a b action x) is (h.steps m m shown own_scope stands) in
    known.taken

-- it is refused
pub so_refused : (machine : Machine) (m : Scope) (place : List ℕ) (a b : model.Activity) (action : model.Action) (r : Result (Vec Entry Global) StepRefusal) (refusal : StepRefusal) → r ≡ Err refusal → Shows machine m → StandsIn a m → Steps machine place place a b action r
    → RefusedSo refusal (activity_at place a) (step_at place m a action)
so_refused machine m place a b action r refusal is shown stands h =
    let known : StepsIn m place place a b action (Err refusal) = subst (λ x. StepsIn m place place a b action x) is (h.steps m m shown own_scope stands) in
    known.refused

-- that changes nothing
pub so_unchanged : (machine : Machine) (m : Scope) (place : List ℕ) (a b : model.Activity) (action : model.Action) (r : Result (Vec Entry Global) StepRefusal) (refusal : StepRefusal) → r ≡ Err refusal → Shows machine m → StandsIn a m → Steps machine place place a b action r
    → b ≡ a
so_unchanged machine m place a b action r refusal is shown stands h =
    let known : StepsIn m place place a b action (Err refusal) = subst (λ x. StepsIn m place place a b action x) is (h.steps m m shown own_scope stands) in
    known.unchanged

-- ---- what a refusal says

-- where nothing stands, no step is defined
no_step : (p : List ℕ) (scope : Scope) (a : model.Activity) (action : model.Action) → activity_at p a ≡ None → step_at p scope a action ≡ None
no_step [] scope a action e = none_some (sym e)
no_step (i ∷ p) scope (model.Ready n raw counts) action e = refl
no_step (i ∷ p) scope (model.Waiting n raw counts payload) action e = refl
no_step (i ∷ p) scope (model.Split n raw counts children) action e = go (child_at i children) (λ c f. no_step p (scope_below scope n i) c action f) e
  where
    go : (child : Option model.Activity) → ((c : model.Activity) → activity_at p c ≡ None → step_at p (scope_below scope n i) c action ≡ None) → option_and_then (activity_at p) child ≡ None → option_map (within n raw counts children i) (option_and_then (λ c. step_at p (scope_below scope n i) c action) child) ≡ None
    go None below f = refl
    go (Some c) below f = ap (option_map (within n raw counts children i)) (below c f)
no_step (i ∷ p) scope (model.Done output) action e = refl
no_step (i ∷ p) scope (model.Failed error cause) action e = refl

not_both : {A B : Type 0} (o : Option A) → IsSome o → o ≡ None → B
not_both None h e = absurd (cc)
not_both (Some a) h e = none_some (sym e)

-- nothing stands at the place
pub so_no_place : (refusal : StepRefusal) (p : List ℕ) (scope : Scope) (a : model.Activity) (action : model.Action) → RefusedSo refusal (activity_at p a) (step_at p scope a action) → (refusal ≡ NoSuchPlace) ↔ (activity_at p a ≡ None)
so_no_place NoSuchPlace p scope a action h = (λ e. h, λ e. refl)
so_no_place NotEnabled p scope a action h = (λ e. absurd (cc), λ e. not_both (activity_at p a) h.0 e)
so_no_place OutOfMemory p scope a action h = (λ e. absurd (cc), λ e. not_both (step_at p scope a action) h (no_step p scope a action e))

-- it isn't enabled at what stands there
pub so_not_enabled : (refusal : StepRefusal) (p : List ℕ) (scope : Scope) (a : model.Activity) (action : model.Action) → RefusedSo refusal (activity_at p a) (step_at p scope a action) → (refusal ≡ NotEnabled) ↔ (IsSome (activity_at p a) × (step_at p scope a action ≡ None))
so_not_enabled NoSuchPlace p scope a action h = (λ e. absurd (cc), λ f. not_both (activity_at p a) f.0 h)
so_not_enabled NotEnabled p scope a action h = (λ e. h, λ f. refl)
so_not_enabled OutOfMemory p scope a action h = (λ e. absurd (cc), λ f. not_both (step_at p scope a action) h f.1)

-- it is enabled
pub so_enabled : (refusal : StepRefusal) (p : List ℕ) (scope : Scope) (a : model.Activity) (action : model.Action) → RefusedSo refusal (activity_at p a) (step_at p scope a action) → (refusal ≡ OutOfMemory) ↔ IsSome (step_at p scope a action)
so_enabled NoSuchPlace p scope a action h = (λ e. absurd (cc), λ f. not_both (step_at p scope a action) f (no_step p scope a action h))
so_enabled NotEnabled p scope a action h = (λ e. absurd (cc), λ f. not_both (step_at p scope a action) f h.1)
so_enabled OutOfMemory p scope a action h = (λ e. h, λ f. refl)
