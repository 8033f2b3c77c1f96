-- What the answers of the code show.
use Rattle.std.specs.Prelude.{ℕ, ◌+◌, Bool, true, false, List, Option, String, map, option_map, replicate, flat_map, string_bytes}
use Rattle.std.specs.Borrow.{Bor}
use Rattle.std.specs.declared.alloc.Global.{Global}
use Rattle.std.specs.BTreeMap.{get_by_text}
use Rattle.asl_model.specs.Run.{Action}
use Rattle.asl_run.specs.Entries.{answer_view}
use Rattle.asl_suites.specs.Scripts as model
use Rattle.asl_suites.specs.declared.scripts.Repeated.{Repeated}
use Rattle.asl_suites.specs.declared.scripts.Script.{Script}
use Rattle.asl_suites.specs.declared.scripts.Times.{Times}
use Rattle.asl_suites.specs.declared.scripts.Times.TheVariants as given
use Rattle.asl_suites.specs.declared.answers.CaseAnswers.{CaseAnswers}
use Rattle.asl_suites.specs.declared.answers.StateAnswers.{StateAnswers}
use Rattle.asl_suites.specs.declared.answers.States.{States}
use Rattle.asl_suites.specs.declared.answers.StateAnswers.TheVariants as kept

-- an answer as often as it is given
abbrev pub times_view : Repeated → List Action
times_view r = replicate (r.further + 1) (answer_view r.answer)

-- several, one after the other
abbrev pub listed_view : List Repeated → List Action
listed_view rs = flat_map times_view rs

-- how often an answer is given
abbrev pub times_given : Times → model.Times
times_given (given.Further n) = model.Finite (n + 1)
times_given given.ForEver = model.ForEver

-- the script
abbrev pub script_view : Script → model.Script
script_view s = record { listed = listed_view s.repeated.items; for_ever = option_map answer_view s.for_ever }

-- the answers of a state
abbrev pub state_view : StateAnswers → model.StateScripts
state_view (kept.ByAttempt script) = model.ByAttempt (script_view script)
state_view (kept.ByItem scripts) = model.ByItem (map script_view scripts.items)

-- whether the answers of a state are by item
abbrev pub is_by_item : StateAnswers → Bool
is_by_item (kept.ByAttempt script) = false
is_by_item (kept.ByItem scripts) = true

-- the name of a state, with whether its answers are by item: as an entry, and as it is told
abbrev pub entry_kind : String Global × StateAnswers → List ℕ × Bool
entry_kind entry = (string_bytes entry.0, is_by_item entry.1)

abbrev pub state_kind : Bor (List ℕ) × Bool → List ℕ × Bool
state_kind told = (told.0.now, told.1)

-- what is still told of states
abbrev pub told_view : States → List (List ℕ × Bool)
told_view states = map entry_kind states.entries

-- the names of the states that have answers, with whether these are by item
abbrev pub states_view : CaseAnswers → List (List ℕ × Bool)
states_view answers = map entry_kind answers.states.entries

-- the answers of the state of that name
abbrev pub answers_under : CaseAnswers → List ℕ → Option model.StateScripts
answers_under answers name = option_map state_view (get_by_text answers.states name)
