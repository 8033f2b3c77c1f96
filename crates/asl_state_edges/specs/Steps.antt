-- The steps of the parts of a walk, on shapes of a table.
use Rattle.std.specs.Prelude.{ℕ, List, ◌++◌, map, codes, option_map, Option}
use Rattle.asl_model.specs.Edges as model
use Rattle.asl_model.specs.Finding.{effective_flow, error_placed_shape}
use Rattle.asl_model.specs.Machine.{Kind, Settings}
use Rattle.asl_model.specs.Shape.{Shape}
use Rattle.asl_model.specs.ShapeFlow.{leave, rule_shape}
use Rattle.asl_choice.specs.View.{view as test_view}
use Rattle.asl_states.specs.Machine.{catcher_view, choice_rule_view, kind_view, settings_view, target_name}
use Rattle.asl_states.specs.declared.states.ChoiceRule.{ChoiceRule}
use Rattle.asl_states.specs.declared.target.Target.{Target}
use Rattle.asl_states.specs.declared.states.Catcher.{Catcher}
use Rattle.asl_numbered.specs.Expansion.{shape_at}
use Rattle.asl_state_edges.specs.Entry.{entry_view}
use Rattle.asl_state_edges.specs.declared.walking.Walk.{Walk}

-- what states of several types have, and what the type adds
abbrev pub settings_of : Walk → Settings
settings_of walk = settings_view walk.state.now.settings

abbrev pub kind_of : Walk → Kind
kind_of walk = kind_view walk.state.now.kind

-- the shape of the state's raw input
abbrev pub input_of : List Shape → Walk → Shape
input_of table walk = shape_at table walk.entry.input

-- the way of the result of that number
abbrev pub result_steps : List Shape → Walk → ℕ → List model.Walked
result_steps table walk work =
    model.walk_result (settings_of walk) (kind_of walk) (input_of table walk) (shape_at table work)

-- the way of the effective input of that number to the state that the field names
abbrev pub chosen_steps : List Shape → Walk → List ℕ → List ℕ → ℕ → List model.Walked
chosen_steps table walk field next work =
    model.walk_chosen (settings_of walk) (kind_of walk) (input_of table walk) field next (shape_at table work)

-- and out of the scope
abbrev pub end_steps : List Shape → Walk → ℕ → List model.Walked
end_steps table walk work =
    model.walk_then (model.to_end (codes "Type"))
    (leave (settings_of walk) (kind_of walk) (input_of table walk) (shape_at table work))

-- what comes of it, by the state's type
abbrev pub work_steps : List Shape → Walk → ℕ → List model.Walked
work_steps table walk effective =
    model.walk_work (settings_of walk) (kind_of walk) (entry_view table walk.entry) (shape_at table effective)

-- the way to it, and what comes of it
abbrev pub input_steps : List Shape → Walk → List model.Walked
input_steps table walk =
    model.walk_then (model.walk_work (settings_of walk) (kind_of walk) (entry_view table walk.entry))
    (effective_flow (settings_of walk) (input_of table walk))

-- what needs none, for what the task gives
abbrev pub settled_steps : List Shape → Walk → ℕ → List model.Walked
settled_steps table walk gives =
    model.walk_settled (shape_at table gives) (settings_of walk) (kind_of walk) (entry_view table walk.entry)

-- the rules of a Choice, one of them, and `Default`
abbrev pub rules_steps : List Shape → Walk → List ChoiceRule → ℕ → List model.Walked
rules_steps table walk rules effective =
    model.walk_rules (settings_of walk) (kind_of walk) (input_of table walk) (map choice_rule_view rules)
    (shape_at table effective)

abbrev pub rule_steps : List Shape → Walk → ChoiceRule → ℕ → List model.Walked
rule_steps table walk rule effective =
    model.walk_rule (settings_of walk) (kind_of walk) (input_of table walk) (target_name rule.next)
    (rule_shape (test_view rule.test) (shape_at table effective))

abbrev pub default_steps : List Shape → Walk → List ChoiceRule → Option Target → ℕ → List model.Walked
default_steps table walk rules default effective =
    model.walk_default (settings_of walk) (kind_of walk) (input_of table walk) (map choice_rule_view rules)
    (option_map target_name default) (shape_at table effective)

-- the catchers
abbrev pub catchers_steps : List Shape → Walk → List Catcher → List model.Walked
catchers_steps table walk catchers = model.walk_catchers (input_of table walk) (map catcher_view catchers)

-- one of them
abbrev pub catcher_steps : List Shape → Walk → Catcher → List model.Walked
catcher_steps table walk catcher =
    model.walk_caught (target_name catcher.next) (error_placed_shape catcher.result_path (input_of table walk))

-- all of the walk, for what the task gives
abbrev pub steps : List Shape → Walk → ℕ → List model.Walked
steps table walk gives =
    model.walk (shape_at table gives) (settings_of walk) (kind_of walk) (entry_view table walk.entry)

-- and its parts, where some tree has the input
abbrev pub inner_steps : List Shape → Walk → ℕ → List model.Walked
inner_steps table walk gives =
    input_steps table walk
    ++ (settled_steps table walk gives ++ catchers_steps table walk walk.state.now.settings.catchers.items)
