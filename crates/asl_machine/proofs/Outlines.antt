-- A state without the states of its scopes, by its parts.
use Rattle.std.proofs.Common.{◌≡◌, Some, refl, sym, ap, ◌∙◌}
use Rattle.serde_json.specs.Data as json
use Rattle.serde_json.specs.Data.{Data, Members}
use Rattle.asl_model.specs.DefinitionTable.{StateType, PassState, TaskState, ChoiceState, WaitState, SucceedState, FailState, ParallelState, MapState}
use Rattle.asl_model.specs.Machine.{Settings, Kind, StateOf, settings_of, kind_of}
use Rattle.asl_model.specs.Numbering.{outline, kind_outline}
use Rattle.asl_model.specs.StandsFor.{members_in, type_of, settings_in, state_by, state_of, branches_under, processor_under}
use Rattle.asl_machine.specs.Built.{state_typed}

-- a state by its fields
state_from : (v : Data) → state_of v ≡ state_by (type_of (members_in v)) (members_in v) (branches_under (members_in v)) (processor_under (members_in v))
state_from json.null = refl
state_from (json.boolean b) = refl
state_from (json.number n) = refl
state_from (json.string s) = refl
state_from (json.array vs) = refl
state_from (json.object ms) = refl

-- a state of that type
pub state_with_type : (v : Data) (t : StateType) → Some t ≡ type_of (members_in v) → state_typed t (members_in v) ≡ state_of v
state_with_type v t type =
    let ms = members_in v in
    ap (λ o. state_by o ms (branches_under ms) (processor_under ms)) type ∙ sym (state_from v)

-- the settings are those for the type's parameters
by_parts : (t : StateType) (ms : Members) → outline (state_typed t ms) ≡ StateOf (settings_in (settings_of (state_typed t ms)).parameters ms) (kind_outline (kind_of (state_typed t ms)))
by_parts PassState ms = refl
by_parts TaskState ms = refl
by_parts ChoiceState ms = refl
by_parts WaitState ms = refl
by_parts SucceedState ms = refl
by_parts FailState ms = refl
by_parts ParallelState ms = refl
by_parts MapState ms = refl

-- a state that is built of these parts
pub state_built : (t : StateType) (ms : Members) (s : Settings) (k : Kind) → s ≡ settings_in (settings_of (state_typed t ms)).parameters ms → k ≡ kind_outline (kind_of (state_typed t ms)) → StateOf s k ≡ outline (state_typed t ms)
state_built t ms s k settings kind = rw (settings, kind) (sym (by_parts t ms))
