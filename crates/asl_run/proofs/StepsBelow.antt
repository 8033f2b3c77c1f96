-- A step of a child of a Split, as one of the Split.
use Rattle.std.proofs.Common.{◌≡◌, refl, sym, ap, ◌∙◌, ℕ, zero, suc, List, ◌∷◌, Option, Some, None, option_map, Result, Ok, Err, Vec, Global}
use Rattle.asl_machine_table.specs.declared.machine.Machine.{Machine}
use Rattle.asl_model.specs.Machine.{Scope}
use Rattle.asl_model.specs.Run.{Activity, Split, Activities, NoActivities, AndActivity, Action, Step, child_at, set_child, within, scope_below, step_at, activity_at}
use Rattle.asl_model.specs.Tree.{Tree}
use Rattle.asl_model.proofs.RunOptions.{some_inj, none_some}
use Rattle.asl_run.specs.Stepping.{RefusedSo, StepsIn, Steps}
use Rattle.asl_run.specs.declared.entries.Entry.{Entry}
use Rattle.asl_run.specs.declared.stepping.StepRefusal.{StepRefusal}
use Rattle.asl_run.specs.declared.stepping.StepRefusal.TheVariants.{NoSuchPlace, NotEnabled, OutOfMemory}
use Rattle.asl_model.proofs.RunStands.{child_stands, scope_inside}

-- a child put where it stood changes nothing
same_set : (i : ℕ) (children : Activities) (child : Activity) → child_at i children ≡ Some child → set_child i child children ≡ children
same_set i NoActivities child e = none_some e
same_set zero (AndActivity first others) child e = ap (λ a. AndActivity a others) (sym (some_inj e))
same_set (suc i) (AndActivity first others) child e = ap (AndActivity first) (same_set i others child e)

refused_below : (refusal : StepRefusal) (there : Option Activity) (step : Option Step) (wider : Step → Step) → RefusedSo refusal there step → RefusedSo refusal there (option_map wider step)
refused_below NoSuchPlace there step wider h = h
refused_below NotEnabled there step wider h = (h.0, ap (option_map wider) h.1)
refused_below OutOfMemory there (Some s) wider h = refl
refused_below OutOfMemory there None wider h = absurd (cc)

-- in one scope
below_in : (scope : Scope) (at rest : List ℕ) (number : ℕ) (n : List ℕ) (raw : Tree) (counts : List ℕ) (children : Activities) (child after : Activity) (action : Action) (r : Result (Vec Entry Global) StepRefusal) → child_at number children ≡ Some child
    → StepsIn (scope_below scope n number) at rest child after action r → StepsIn scope at (number ∷ rest) (Split n raw counts children) (Split n raw counts (set_child number after children)) action r
below_in scope at rest number n raw counts children child after action (Ok entries) e h = record {
  taken =
      let wider = within n raw counts children number in
      let whole : step_at (number ∷ rest) scope (Split n raw counts children) action ≡ option_map wider (step_at rest (scope_below scope n number) child action) = rw e refl in
      record {
        step = wider h.taken.step;
        is = whole ∙ ap (option_map wider) h.taken.is;
        tells = h.taken.tells;
        left = ap (λ a. Split n raw counts (set_child number a children)) h.taken.left;
      };
  refused = tt;
  unchanged = tt;
}
below_in scope at rest number n raw counts children child after action (Err refusal) e h = record {
  taken = tt;
  refused =
      let wider = within n raw counts children number in
      rw e (refused_below refusal (activity_at rest child) (step_at rest (scope_below scope n number) child action) wider h.refused);
  unchanged = ap (λ a. Split n raw counts (set_child number a children)) h.unchanged ∙ ap (Split n raw counts) (same_set number children child e);
}

-- in each scope of each machine that is shown
pub steps_below : (machine : Machine) (at rest : List ℕ) (number : ℕ) (n : List ℕ) (raw : Tree) (counts : List ℕ) (children : Activities) (child after : Activity) (action : Action) (r : Result (Vec Entry Global) StepRefusal) → child_at number children ≡ Some child
    → Steps machine at rest child after action r → Steps machine at (number ∷ rest) (Split n raw counts children) (Split n raw counts (set_child number after children)) action r
steps_below machine at rest number n raw counts children child after action r e h = record {
  steps = λ m scope shown inside stands.
      below_in scope at rest number n raw counts children child after action r e
      (h.steps m (scope_below scope n number) shown (scope_inside m scope inside n stands.0 number) (child_stands number children (scope_below scope n) child e stands.1));
}
