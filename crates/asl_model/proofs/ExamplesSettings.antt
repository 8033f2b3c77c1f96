-- Settings, retriers and catchers of the worked examples: those that leave out all fields but the arguments.
use Rattle.std.specs.Prelude.{ℕ, List, [], Option, Some, None, codes}
use Rattle.asl_model.specs.Names.{StateName, ErrorName}
use Rattle.asl_model.specs.Path.{Segment}
use Rattle.asl_model.specs.Machine.{Retrier, Catcher, Settings}
use Rattle.asl_model.specs.StandsFor.{default_rate}

-- settings with that `Next`; with None the state ends its scope
abbrev pub bare : Option StateName → Settings
bare next = record {
  input_path = Some [];
  parameters = None;
  result_selector = None;
  result_path = Some [];
  output_path = Some [];
  next = next;
  retriers = [];
  catchers = [];
  timeout_seconds = None;
  heartbeat_seconds = None;
  max_concurrency = 0;
  comment = None;
}

-- a retrier that takes those errors so often
abbrev pub bare_retrier : List ErrorName → ℕ → Retrier
bare_retrier names attempts = record {
  error_equals = names;
  interval_seconds = 1;
  max_attempts = attempts;
  backoff_rate = default_rate;
  max_delay_seconds = None;
  jitter_strategy = codes "NONE";
  comment = None;
}

-- a catcher that takes those errors, places the error output there and goes on to that state
abbrev pub bare_catcher : List ErrorName → Option (List Segment) → StateName → Catcher
bare_catcher names path next = record { error_equals = names; result_path = path; next = next; comment = None }
