-- What the states of a machine stand for in the definitions.
use Rattle.std.specs.Prelude.{ℕ, List, [], ◌∷◌, map, string_bytes, option_map}
use Rattle.serde_json.specs.View.{number_view}
use Rattle.asl_model.specs.Machine as model
use Rattle.asl_model.specs.Numbering.{Placement}
use Rattle.asl_model.specs.Test.{Rule}
use Rattle.asl_tree.specs.View as trees
use Rattle.asl_template.specs.View as templates
use Rattle.asl_choice.specs.View as tests
use Rattle.asl_states.specs.declared.states.State.{State}
use Rattle.asl_states.specs.declared.states.Settings.{Settings}
use Rattle.asl_states.specs.declared.states.Retrier.{Retrier}
use Rattle.asl_states.specs.declared.states.Catcher.{Catcher}
use Rattle.asl_states.specs.declared.states.ChoiceRule.{ChoiceRule}
use Rattle.asl_states.specs.declared.states.Kind.{Kind}
use Rattle.asl_states.specs.declared.states.Kind.TheVariants as kinds
use Rattle.asl_states.specs.declared.states.Delay.{Delay}
use Rattle.asl_states.specs.declared.states.Delay.TheVariants as delays
use Rattle.asl_states.specs.declared.states.Scope.{Scope}
use Rattle.asl_states.specs.declared.target.Target.{Target}

-- an element of `Retry`
abbrev pub retrier_view : Retrier → model.Retrier
retrier_view r = record {
  error_equals = map string_bytes r.error_equals.items;
  interval_seconds = r.interval_seconds;
  max_attempts = r.max_attempts;
  backoff_rate = number_view r.backoff_rate;
  max_delay_seconds = r.max_delay_seconds;
  jitter_strategy = string_bytes r.jitter_strategy;
  comment = option_map string_bytes r.comment;
}

-- the name of a state that a field names
abbrev pub target_name : Target → List ℕ
target_name t = string_bytes t.name

-- an element of `Catch`
abbrev pub catcher_view : Catcher → model.Catcher
catcher_view c = record {
  error_equals = map string_bytes c.error_equals.items;
  result_path = c.result_path;
  next = target_name c.next;
  comment = option_map string_bytes c.comment;
}

-- what states of several types have
abbrev pub settings_view : Settings → model.Settings
settings_view s = record {
  input_path = s.input_path;
  parameters = option_map templates.view s.parameters;
  result_selector = option_map templates.view s.result_selector;
  result_path = s.result_path;
  output_path = s.output_path;
  next = option_map target_name s.next;
  retriers = map retrier_view s.retriers.items;
  catchers = map catcher_view s.catchers.items;
  timeout_seconds = s.timeout_seconds;
  heartbeat_seconds = s.heartbeat_seconds;
  max_concurrency = s.max_concurrency;
  comment = option_map string_bytes s.comment;
}

-- what a Wait waits for
abbrev pub delay_view : Delay → model.Delay
delay_view (delays.Seconds n) = model.Seconds n
delay_view (delays.SecondsPath p) = model.SecondsPath p
delay_view (delays.Timestamp t) = model.Timestamp (string_bytes t)
delay_view (delays.TimestampPath p) = model.TimestampPath p

-- an element of `Choices`
abbrev pub choice_rule_view : ChoiceRule → Rule
choice_rule_view c = record { test = tests.view c.test; next = target_name c.next }

-- the scope with that start, without its states
abbrev pub started_at : Target → model.Scope
started_at start = model.ScopeOf (target_name start) model.NoStates

-- the scopes with those starts, without their states
abbrev pub branches_view : List Target → model.Scopes
branches_view [] = model.NoScopes
branches_view (start ∷ starts) = model.AndScope (started_at start) (branches_view starts)

-- what a type adds, without the states of its scopes
abbrev pub kind_view : Kind → model.Kind
kind_view (kinds.Pass result) = model.Pass (option_map trees.view result)
kind_view (kinds.Task resource) = model.Task (string_bytes resource)
kind_view (kinds.Choice choices default) = model.Choice (map choice_rule_view choices.items) (option_map target_name default)
kind_view (kinds.Wait delay) = model.Wait (delay_view delay)
kind_view kinds.Succeed = model.Succeed
kind_view (kinds.Fail error cause) = model.Fail (string_bytes error) (string_bytes cause)
kind_view (kinds.Parallel branches) = model.Parallel (branches_view branches.items)
kind_view (kinds.Map items_path item_selector processor) = model.Map items_path (option_map templates.view item_selector) (started_at processor)

-- a state, without the states of its scopes
abbrev pub state_view : State → model.State
state_view s = model.StateOf (settings_view s.settings) (kind_view s.kind)

-- where a state stands
abbrev pub scope_view : Scope → Placement
scope_view s = record { start = s.start; owner = s.owner }
