-- What tasks are answered in a case: the answers of a state, one time after the other.
use Rattle.std.specs.Prelude.{ℕ, List, [], ◌∷◌, ◌++◌, Option, Some, None, drop, replicate, slice_index_or, slice_set}
use Rattle.asl_model.specs.Run.{Action}

-- answers one after the other, and the one that comes behind them for ever, where there is one
pub record Script : Type 0 where
  pub listed : List Action
  pub for_ever : Option Action

-- no answer ever
abbrev pub silent : Script
silent = record { listed = []; for_ever = None }

-- the first of a list; where it is empty, the other one
abbrev pub first_or : List Action → Option Action → Option Action
first_or [] other = other
first_or (answer ∷ answers) other = Some answer

-- the answer that comes next
abbrev pub next_of : Script → Option Action
next_of script = first_or script.listed script.for_ever

-- what is left behind it; the answer for ever stays
abbrev pub rest_of : Script → Script
rest_of script = record { listed = drop 1 script.listed; for_ever = script.for_ever }

-- how often an answer is given: so many times, or for ever
pub data Times : Type 0 where
  Finite : ℕ → Times
  ForEver : Times

-- the script with an answer behind the others
abbrev pub added : Script → Action → Times → Script
added script answer (Finite n) = record { listed = script.listed ++ replicate n answer; for_ever = script.for_ever }
added script answer ForEver = record { listed = script.listed; for_ever = Some answer }

-- the answers of a state: by attempt, or for each item of the innermost Map by attempt
pub data StateScripts : Type 0 where
  ByAttempt : Script → StateScripts
  ByItem : List Script → StateScripts

-- the script that holds in that item, or outside of any
abbrev pub script_for : StateScripts → Option ℕ → Script
script_for (ByAttempt script) item = script
script_for (ByItem scripts) (Some i) = slice_index_or scripts i silent
script_for (ByItem scripts) None = silent

-- what is left once that script has answered
abbrev pub left_of : StateScripts → Option ℕ → StateScripts
left_of (ByAttempt script) item = ByAttempt (rest_of script)
left_of (ByItem scripts) (Some i) = ByItem (slice_set scripts i (rest_of (slice_index_or scripts i silent)))
left_of (ByItem scripts) None = ByItem scripts

-- the answer that comes next in that item, or outside of any; none where the state has no answers
abbrev pub answer_of : Option StateScripts → Option ℕ → Option Action
answer_of None item = None
answer_of (Some scripts) item = next_of (script_for scripts item)
