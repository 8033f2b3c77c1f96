-- The steps of a walk on shapes of a table that has grown.
use Rattle.std.proofs.Common.{◌≡◌, ◌<◌, ◌+◌, ℕ, List, ◌∷◌, ◌++◌, length, get_or, drop, map, Option, option_map, refl, ap, ◌∙◌, drop-cons, add-one}
use Rattle.asl_choice.specs.View.{view as test_view}
use Rattle.asl_states.specs.Machine.{catcher_view, choice_rule_view, target_name}
use Rattle.asl_states.specs.declared.states.ChoiceRule.{ChoiceRule}
use Rattle.asl_states.specs.declared.target.Target.{Target}
use Rattle.asl_states.specs.declared.states.Catcher.{Catcher}
use Rattle.asl_model.specs.Edges.{walk_catchers, walk_caught, walk_default, walk_result, walk_rule, walk_settled, walk_work}
use Rattle.asl_model.specs.Finding.{error_placed_shape}
use Rattle.asl_model.specs.Shape.{Shape}
use Rattle.asl_model.specs.ShapeFlow.{rule_shape}
use Rattle.asl_numbered.specs.Expansion.{shape_at, IsNumberOf, Keeps}
use Rattle.asl_numbered.specs.Laws.{kept_shape}
use Rattle.asl_state_edges.specs.Entry.{entry_view, IsEntryBelow}
use Rattle.asl_state_edges.specs.Steps.{settings_of, kind_of, input_of, result_steps, rules_steps, rule_steps, default_steps, catchers_steps, catcher_steps, settled_steps}
use Rattle.asl_state_edges.specs.declared.walking.Walk.{Walk}
use Rattle.asl_state_edges.proofs.Kept.{entry_shown}

module _ (a b : List Shape) (walk : Walk) (keeps : Keeps a b) where
  -- on a number of it
  module _ (n : ℕ) (input : walk.entry.input < length a) (number : n < length a) where
    pub result_kept : result_steps b walk n ≡ result_steps a walk n
    result_kept =
        ap (λ s. walk_result (settings_of walk) (kind_of walk) s (shape_at b n)) (kept_shape a b walk.entry.input keeps input)
        ∙ ap (walk_result (settings_of walk) (kind_of walk) (input_of a walk)) (kept_shape a b n keeps number)

    pub rule_kept : (rule : ChoiceRule) → rule_steps b walk rule n ≡ rule_steps a walk rule n
    rule_kept rule =
        ap (λ s. walk_rule (settings_of walk) (kind_of walk) s (target_name rule.next) (rule_shape (test_view rule.test) (shape_at b n))) (kept_shape a b walk.entry.input keeps input)
        ∙ ap (λ s. walk_rule (settings_of walk) (kind_of walk) (input_of a walk) (target_name rule.next) (rule_shape (test_view rule.test) s)) (kept_shape a b n keeps number)

    pub default_kept : (rules : List ChoiceRule) (default : Option Target) → default_steps b walk rules default n ≡ default_steps a walk rules default n
    default_kept rules default =
        ap (λ s. walk_default (settings_of walk) (kind_of walk) s (map choice_rule_view rules) (option_map target_name default) (shape_at b n)) (kept_shape a b walk.entry.input keeps input)
        ∙ ap (walk_default (settings_of walk) (kind_of walk) (input_of a walk) (map choice_rule_view rules) (option_map target_name default)) (kept_shape a b n keeps number)

  -- on a result that is made
  pub made_kept : (s : Shape) (n : ℕ) → walk.entry.input < length a → IsNumberOf b s n → result_steps b walk n ≡ walk_result (settings_of walk) (kind_of walk) (input_of a walk) s
  made_kept s n input number =
      ap (λ raw. walk_result (settings_of walk) (kind_of walk) raw (shape_at b n)) (kept_shape a b walk.entry.input keeps input)
      ∙ ap (walk_result (settings_of walk) (kind_of walk) (input_of a walk)) number.same

  -- on the input alone
  pub catcher_kept : (catcher : Catcher) → walk.entry.input < length a → catcher_steps b walk catcher ≡ catcher_steps a walk catcher
  catcher_kept catcher input = ap (λ s. walk_caught (target_name catcher.next) (error_placed_shape catcher.result_path s)) (kept_shape a b walk.entry.input keeps input)

  pub catchers_kept : (catchers : List Catcher) → walk.entry.input < length a → catchers_steps b walk catchers ≡ catchers_steps a walk catchers
  catchers_kept catchers input = ap (λ s. walk_catchers s (map catcher_view catchers)) (kept_shape a b walk.entry.input keeps input)

  -- on all of the state's shapes
  pub settled_kept : (gives : ℕ) → IsEntryBelow (length a) walk.entry → gives < length a → settled_steps b walk gives ≡ settled_steps a walk gives
  settled_kept gives entry below =
      ap (λ e. walk_settled (shape_at b gives) (settings_of walk) (kind_of walk) e) (entry_shown a b walk.entry keeps entry)
      ∙ ap (λ s. walk_settled s (settings_of walk) (kind_of walk) (entry_view a walk.entry)) (kept_shape a b gives keeps below)

  pub work_kept : (s : Shape) → IsEntryBelow (length a) walk.entry → walk_work (settings_of walk) (kind_of walk) (entry_view b walk.entry) s ≡ walk_work (settings_of walk) (kind_of walk) (entry_view a walk.entry) s
  work_kept s entry = ap (λ e. walk_work (settings_of walk) (kind_of walk) e s) (entry_shown a b walk.entry keeps entry)

-- ---- what is left

-- the rule at hand, and those behind it
pub rule_left : (table : List Shape) (walk : Walk) (rules : List ChoiceRule) (i : ℕ) (rule : ChoiceRule) (n : ℕ) → i < length rules → rule ≡ get_or rules i rule → rules_steps table walk (drop i rules) n ≡ rule_steps table walk rule n ++ rules_steps table walk (drop (i + 1) rules) n
rule_left table walk rules i rule n within is =
    let split : drop i rules ≡ rule ∷ drop (i + 1) rules = drop-cons rules i rule within ∙ rw (← is, add-one) refl in
    ap (λ rs. rules_steps table walk rs n) split

-- the catcher at hand, and those behind it
pub catcher_left : (table : List Shape) (walk : Walk) (catchers : List Catcher) (i : ℕ) (catcher : Catcher) → i < length catchers → catcher ≡ get_or catchers i catcher → catchers_steps table walk (drop i catchers) ≡ catcher_steps table walk catcher ++ catchers_steps table walk (drop (i + 1) catchers)
catcher_left table walk catchers i catcher within is =
    let split : drop i catchers ≡ catcher ∷ drop (i + 1) catchers = drop-cons catchers i catcher within ∙ rw (← is, add-one) refl in
    ap (λ cs. catchers_steps table walk cs) split
