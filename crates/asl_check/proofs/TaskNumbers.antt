-- The numbers of what tasks take and give.
use Rattle.std.proofs.Common.{◌≡◌, ℕ, List, Option, Some, None, is_some, option_map, refl, ap, ◌∙◌, subst}
use Rattle.asl_model.specs.Certificate.{Declared, TaskShapes, gives_among, takes_among, under}
use Rattle.asl_numbered.specs.Expansion.{IsNumberOf, Keeps}
use Rattle.asl_numbered.specs.Laws.{kept_shape, kept_within}
use Rattle.asl_model.specs.Shape.{Shape}
use Rattle.asl_shape.proofs.Views.{view_any}
use Rattle.asl_shape.specs.View.{view}
use Rattle.asl_shape.specs.declared.shape.Shape as shape
use Rattle.asl_check.specs.Tasks.{AreOfTask}

-- a function keeps whether there is something
pub is_some-map : {A B : Type 0} (f : A → B) (o : Option A) → is_some (option_map f o) ≡ is_some o
is_some-map f None = refl
is_some-map f (Some x) = refl

module _ (a : List Shape) (declared : Declared) (n : List ℕ) where
  -- a task's shapes are numbered one after the other
  pub task_numbered : (b : List Shape) (task : TaskShapes) (takes gives : ℕ) → Some task ≡ under n declared.tasks → IsNumberOf a task.takes takes → Keeps a b → IsNumberOf b task.gives gives
      → AreOfTask b declared n (record { takes = takes; gives = gives })
  task_numbered b task takes gives known takes_is keeps gives_is =
      let there = takes_is.within in
      record {
        takes_within = kept_within a b takes keeps there;
        gives_within = gives_is.within;
        takes = kept_shape a b takes keeps there ∙ takes_is.same ∙ ap takes_among known;
        gives = gives_is.same ∙ ap gives_among known;
      }

  -- the shape of every tree stands for both of a task that isn't declared
  pub any_numbered : (any : ℕ) → None ≡ under n declared.tasks → IsNumberOf a (view shape.Any) any → AreOfTask a declared n (record { takes = any; gives = any })
  any_numbered any missing number =
      let is = subst (λ s. IsNumberOf a s any) view_any number in
      let there = is.within in
      record {
        takes_within = there;
        gives_within = there;
        takes = is.same ∙ ap takes_among missing;
        gives = is.same ∙ ap gives_among missing;
      }
