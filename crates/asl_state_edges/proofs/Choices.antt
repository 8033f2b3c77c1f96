-- The steps of a rule of a Choice, of `Default` and of a catcher.
use Rattle.std.proofs.Common.{◌≡◌, ◌<◌, ℕ, List, length, map, codes, Bool, Option, Some, None, Result, Ok, Err, refl, sym, ap, ◌∙◌}
use Rattle.asl_states.specs.Machine.{choice_rule_view, target_name}
use Rattle.asl_states.specs.declared.states.Catcher.{Catcher}
use Rattle.asl_states.specs.declared.states.ChoiceRule.{ChoiceRule}
use Rattle.asl_states.specs.declared.target.Target.{Target}
use Rattle.asl_model.specs.Edges.{breaks, breaks_unless, walk_chosen, walk_rule}
use Rattle.asl_model.specs.Finding.{NoDefault, ResultMayNotFit, error_output_shape, error_placed_shape}
use Rattle.asl_model.specs.Path.{Segment}
use Rattle.asl_model.specs.Shape.{Shape}
use Rattle.asl_model.specs.ShapeFlow.{put, is_settled}
use Rattle.asl_numbered.specs.Expansion.{shape_at, Keeps}
use Rattle.asl_numbered.specs.Laws.{kept_shape}
use Rattle.asl_state_edges.specs.Steps.{settings_of, kind_of, input_of, catcher_steps, chosen_steps, default_steps}
use Rattle.asl_state_edges.specs.Walks.{caught_step}
use Rattle.asl_state_edges.specs.declared.walking.Walk.{Walk}

-- a rule that lets a shape through
pub let_through : (a b : List Shape) (walk : Walk) (rule : ChoiceRule) (n : ℕ) → Keeps a b → walk.entry.input < length a
    → chosen_steps b walk (codes "Choices") (target_name rule.next) n ≡ walk_rule (settings_of walk) (kind_of walk) (input_of a walk) (target_name rule.next) (Ok (shape_at b n))
let_through a b walk rule n keeps input = ap (λ raw. walk_chosen (settings_of walk) (kind_of walk) raw (codes "Choices") (target_name rule.next) (shape_at b n)) (kept_shape a b walk.entry.input keeps input)

module _ (table : List Shape) (walk : Walk) (rules : List ChoiceRule) (default : Option Target) (n : ℕ) where
  -- `Default`
  pub default_chosen : (next : Target) → default ≡ Some next → chosen_steps table walk (codes "Default") (target_name next) n ≡ default_steps table walk rules default n
  default_chosen next is = rw is refl

  -- the rules that stand for it
  pub without_default : (settled : Bool) → default ≡ None → settled ≡ is_settled (map choice_rule_view rules) (shape_at table n) → breaks_unless settled (codes "Default") NoDefault ≡ default_steps table walk rules default n
  without_default settled is same = rw (is, ← same) refl

module _ (table : List Shape) (walk : Walk) (catcher : Catcher) where
  -- a catcher hands on the input itself
  pub input_caught : catcher.result_path ≡ None → caught_step (target_name catcher.next) (input_of table walk) ≡ catcher_steps table walk catcher
  input_caught is = rw is refl

  placed : (path : List Segment) (error : ℕ) (answer : Result Shape ℕ) → catcher.result_path ≡ Some path → shape_at table error ≡ error_output_shape → put path (shape_at table error) (input_of table walk) ≡ answer → error_placed_shape catcher.result_path (input_of table walk) ≡ answer
  placed path error answer is e fits = ap (λ o. error_placed_shape o (input_of table walk)) is ∙ (sym (ap (λ w. put path w (input_of table walk)) e) ∙ fits)

  -- the error output is placed in it
  pub placed_caught : (path : List Segment) (error : ℕ) (s : Shape) → catcher.result_path ≡ Some path → shape_at table error ≡ error_output_shape → put path (shape_at table error) (input_of table walk) ≡ Ok s → caught_step (target_name catcher.next) s ≡ catcher_steps table walk catcher
  placed_caught path error s is e fits = let fitted = placed path error (Ok s) is e fits in rw fitted refl

  -- it may not fit
  pub misfit_caught : (path : List Segment) (error at : ℕ) → catcher.result_path ≡ Some path → shape_at table error ≡ error_output_shape → put path (shape_at table error) (input_of table walk) ≡ Err at → breaks (codes "Catch") ResultMayNotFit ≡ catcher_steps table walk catcher
  misfit_caught path error at is e fits = let missed = placed path error (Err at) is e fits in rw missed refl
