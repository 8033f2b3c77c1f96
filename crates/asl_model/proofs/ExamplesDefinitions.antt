-- Worked examples of definitions: the machine that a text stands for, and one value for each fault.
use Rattle.std.proofs.Common.{◌≡◌, ℕ, zero, suc, pos, negsuc, List, [], ◌∷◌, ◌++◌, length, nat_lt, not, if◌then◌else◌, true, false, Option, Some, None, option_map, Contains, decimal, encode_utf8_all, codes, refl, ap, sym, subst}
use lib.Utf8.{scalars}
use Rattle.std.specs.Float.{fin}
use Rattle.std.proofs.lemmas.List.Elements.{Contains-append_right}
use Rattle.serde_json.specs.Data as json
use Rattle.serde_json.specs.Data.{Data, Members}
use Rattle.serde_json.specs.Read.{read}
use Rattle.serde_json.proofs.OnLiterals.{serde_json_on_literals}
use Rattle.asl_model.specs.Tree.{Null, Integer, Array, NoTrees, AndTree}
use Rattle.asl_model.specs.Path.{Name, Index}
use Rattle.asl_model.specs.Intrinsic.{InInput, ItemIndex, InItem}
use Rattle.asl_model.specs.Test.{NullKind, IsOfKind, IsPresent}
use Rattle.asl_model.specs.Template.{Literal, FromPath, ObjectTemplate, NoFieldTemplates, AndFieldTemplate}
use Rattle.asl_model.specs.Machine.{Seconds, SecondsPath, Timestamp, TimestampPath, Scope, ScopeOf, NoStates, AndState, StateOf, Pass, Task, Choice, Wait, Succeed, Fail, Parallel, Map, NoScopes, AndScope}
use Rattle.asl_model.specs.DefinitionTable.{DefFault, NotObject, MissingField, WrongKind, UnknownField, LeftOut, UnknownType, NameTooLong, DuplicateName, NoSuchState, NextOrEnd, BadPath, BadTemplate, BadRule, BadErrorEquals, EmptyList, HeartbeatNotSmaller, TooLarge, NotWhole, machine_rows}
use Rattle.asl_model.specs.StandsFor.{Complaint, complaints, scope_of, each_state, all_names, names_among, scope_complaints, duplicate_complaints, number_complaints, no_object_complaints, HasComplaint, characters}
use Rattle.asl_model.specs.Texts.{ReadsAsMachine}
use Rattle.asl_model.proofs.ReadingSteps.{map_from}
use Rattle.asl_model.proofs.Listed.{first_in}
use Rattle.asl_model.proofs.ExamplesSettings.{bare, bare_retrier, bare_catcher}

complaints_in : List ℕ → Option (List Complaint)
complaints_in text = option_map complaints (read text)

machine_in : List ℕ → Option (Scope × List Complaint)
machine_in text = option_map (λ v. (scope_of v, complaints v)) (read text)

-- a text of ASCII characters reads as the machine that its value gives, where nothing is wrong with that
stands : {text : List ℕ} {held : Scope} → scalars text ≡ true → encode_utf8_all text ≡ text → machine_in text ≡ Some (held, []) → ReadsAsMachine text held
unfolding machine_in
stands {text} {held} s e h =
    let o = map_from (λ v. (scope_of v, complaints v)) (read text) (held, []) h in
    record { value = o.0; reads = ((text, (s, e)), o.1); stands = record { none_wrong = ap (λ p. p.1) o.2; same = ap (λ p. p.0) o.2 } }

-- that fault alone, at that state and field
only : DefFault → List ℕ → List ℕ → Option (List Complaint)
only fault state field = Some (record { fault = fault; state = state; field = field } ∷ [])

-- a machine that starts at A, with those states
machine : List ℕ → List ℕ
machine held = codes "{\"StartAt\":\"A\",\"States\":{" ++ (held ++ codes "}}")

-- ---- one value for each fault

state_no_object : complaints_in (machine (codes "\"A\":7")) ≡ only NotObject (codes "A") ([])
unfolding serde_json_on_literals complaints_in machine only
state_no_object = refl

type_missing : complaints_in (machine (codes "\"A\":{\"End\":true}")) ≡ only MissingField (codes "A") (codes "Type")
unfolding serde_json_on_literals complaints_in machine only
type_missing = refl

type_no_text : complaints_in (machine (codes "\"A\":{\"Type\":7}")) ≡ only WrongKind (codes "A") (codes "Type")
unfolding serde_json_on_literals complaints_in machine only
type_no_text = refl

unknown_type : complaints_in (machine (codes "\"A\":{\"Type\":\"Choise\"}")) ≡ only UnknownType (codes "A") (codes "Type")
unfolding serde_json_on_literals complaints_in machine only
unknown_type = refl

end_no_truth_value : complaints_in (machine (codes "\"A\":{\"Type\":\"Pass\",\"End\":1}")) ≡ only WrongKind (codes "A") (codes "End")
unfolding serde_json_on_literals complaints_in machine only
end_no_truth_value = refl

comment_no_text : complaints_in (machine (codes "\"A\":{\"Type\":\"Pass\",\"End\":true,\"Comment\":[]}")) ≡ only WrongKind (codes "A") (codes "Comment")
unfolding serde_json_on_literals complaints_in machine only
comment_no_text = refl

a_fraction_for_a_text : complaints_in (machine (codes "\"A\":{\"Type\":\"Pass\",\"End\":true,\"Comment\":1.5}")) ≡ only NotWhole (codes "A") (codes "Comment")
unfolding serde_json_on_literals complaints_in machine only
a_fraction_for_a_text = refl

unknown_field : complaints_in (machine (codes "\"A\":{\"Type\":\"Pass\",\"End\":true,\"Colour\":1}")) ≡ only UnknownField (codes "A") (codes "Colour")
unfolding serde_json_on_literals complaints_in machine only
unknown_field = refl

left_out_field : complaints_in (machine (codes "\"A\":{\"Type\":\"Pass\",\"End\":true,\"Assign\":{}}")) ≡ only LeftOut (codes "A") (codes "Assign")
unfolding serde_json_on_literals complaints_in machine only
left_out_field = refl

left_out_language : complaints_in (machine (codes "\"A\":{\"Type\":\"Pass\",\"End\":true,\"QueryLanguage\":\"JSONata\"}")) ≡ only LeftOut (codes "A") (codes "QueryLanguage")
unfolding serde_json_on_literals complaints_in machine only
left_out_language = refl

field_of_another_type : complaints_in (machine (codes "\"A\":{\"Type\":\"Succeed\",\"ResultPath\":\"$\"}")) ≡ only UnknownField (codes "A") (codes "ResultPath")
unfolding serde_json_on_literals complaints_in machine only
field_of_another_type = refl

fail_has_no_paths : complaints_in (machine (codes "\"A\":{\"Type\":\"Fail\",\"InputPath\":\"$\"}")) ≡ only UnknownField (codes "A") (codes "InputPath")
unfolding serde_json_on_literals complaints_in machine only
fail_has_no_paths = refl

no_such_next : complaints_in (machine (codes "\"A\":{\"Type\":\"Pass\",\"Next\":\"Z\"}")) ≡ only NoSuchState (codes "A") (codes "Next")
unfolding serde_json_on_literals complaints_in machine only
no_such_next = refl

neither_next_nor_end : complaints_in (machine (codes "\"A\":{\"Type\":\"Pass\"}")) ≡ only NextOrEnd (codes "A") (codes "Next")
unfolding serde_json_on_literals complaints_in machine only
neither_next_nor_end = refl

false_end_is_absent : complaints_in (machine (codes "\"A\":{\"Type\":\"Pass\",\"End\":false}")) ≡ only NextOrEnd (codes "A") (codes "Next")
unfolding serde_json_on_literals complaints_in machine only
false_end_is_absent = refl

both_next_and_end : complaints_in (machine (codes "\"A\":{\"Type\":\"Pass\",\"End\":true,\"Next\":\"A\"}")) ≡ only NextOrEnd (codes "A") (codes "Next")
unfolding serde_json_on_literals complaints_in machine only
both_next_and_end = refl

bad_path : complaints_in (machine (codes "\"A\":{\"Type\":\"Pass\",\"End\":true,\"InputPath\":\"a\"}")) ≡ only BadPath (codes "A") (codes "InputPath")
unfolding serde_json_on_literals complaints_in machine only
bad_path = refl

path_no_text : complaints_in (machine (codes "\"A\":{\"Type\":\"Pass\",\"End\":true,\"OutputPath\":7}")) ≡ only WrongKind (codes "A") (codes "OutputPath")
unfolding serde_json_on_literals complaints_in machine only
path_no_text = refl

bad_template : complaints_in (machine (codes "\"A\":{\"Type\":\"Pass\",\"End\":true,\"Parameters\":7}")) ≡ only BadTemplate (codes "A") (codes "Parameters")
unfolding serde_json_on_literals complaints_in machine only
bad_template = refl

duplicate_in_template : complaints_in (machine (codes "\"A\":{\"Type\":\"Pass\",\"End\":true,\"Parameters\":{\"x.$\":\"$.n\",\"x\":1}}")) ≡ only BadTemplate (codes "A") (codes "Parameters")
unfolding serde_json_on_literals complaints_in machine only
duplicate_in_template = refl

item_path_in_a_pass : complaints_in (machine (codes "\"A\":{\"Type\":\"Pass\",\"End\":true,\"Parameters\":{\"x.$\":\"$$.Map.Item.Index\"}}")) ≡ only BadTemplate (codes "A") (codes "Parameters")
unfolding serde_json_on_literals complaints_in machine only
item_path_in_a_pass = refl

rule_to_nowhere : complaints_in (machine (codes "\"A\":{\"Type\":\"Choice\",\"Choices\":[{\"Variable\":\"$\",\"IsNull\":true,\"Next\":\"Z\"}]}")) ≡ only NoSuchState (codes "A") (codes "Choices")
unfolding serde_json_on_literals complaints_in machine only
rule_to_nowhere = refl

rule_with_left_out_field : complaints_in (machine (codes "\"A\":{\"Type\":\"Choice\",\"Choices\":[{\"Variable\":\"$\",\"IsNull\":true,\"Next\":\"A\",\"Assign\":{}}]}")) ≡ only BadRule (codes "A") (codes "Choices")
unfolding serde_json_on_literals complaints_in machine only
rule_with_left_out_field = refl

result_with_fraction : complaints_in (machine (codes "\"A\":{\"Type\":\"Pass\",\"End\":true,\"Result\":1.5}")) ≡ only NotWhole (codes "A") (codes "Result")
unfolding serde_json_on_literals complaints_in machine only
result_with_fraction = refl

resource_missing : complaints_in (machine (codes "\"A\":{\"Type\":\"Task\",\"End\":true}")) ≡ only MissingField (codes "A") (codes "Resource")
unfolding serde_json_on_literals complaints_in machine only
resource_missing = refl

heartbeat_not_smaller : complaints_in (machine (codes "\"A\":{\"Type\":\"Task\",\"Resource\":\"r\",\"End\":true,\"TimeoutSeconds\":5,\"HeartbeatSeconds\":5}")) ≡ only HeartbeatNotSmaller (codes "A") (codes "HeartbeatSeconds")
unfolding serde_json_on_literals complaints_in machine only
heartbeat_not_smaller = refl

timeout_zero : complaints_in (machine (codes "\"A\":{\"Type\":\"Task\",\"Resource\":\"r\",\"End\":true,\"TimeoutSeconds\":0}")) ≡ only WrongKind (codes "A") (codes "TimeoutSeconds")
unfolding serde_json_on_literals complaints_in machine only
timeout_zero = refl

retry_no_list : complaints_in (machine (codes "\"A\":{\"Type\":\"Task\",\"Resource\":\"r\",\"End\":true,\"Retry\":{}}")) ≡ only WrongKind (codes "A") (codes "Retry")
unfolding serde_json_on_literals complaints_in machine only
retry_no_list = refl

retrier_no_object : complaints_in (machine (codes "\"A\":{\"Type\":\"Task\",\"Resource\":\"r\",\"End\":true,\"Retry\":[7]}")) ≡ only WrongKind (codes "A") (codes "Retry")
unfolding serde_json_on_literals complaints_in machine only
retrier_no_object = refl

retrier_without_names : complaints_in (machine (codes "\"A\":{\"Type\":\"Task\",\"Resource\":\"r\",\"End\":true,\"Retry\":[{}]}")) ≡ only MissingField (codes "A") (codes "ErrorEquals")
unfolding serde_json_on_literals complaints_in machine only
retrier_without_names = refl

retrier_negative : complaints_in (machine (codes "\"A\":{\"Type\":\"Task\",\"Resource\":\"r\",\"End\":true,\"Retry\":[{\"ErrorEquals\":[\"E\"],\"MaxAttempts\":-1}]}")) ≡ only WrongKind (codes "A") (codes "Retry")
unfolding serde_json_on_literals complaints_in machine only
retrier_negative = refl

retrier_unknown : complaints_in (machine (codes "\"A\":{\"Type\":\"Task\",\"Resource\":\"r\",\"End\":true,\"Retry\":[{\"ErrorEquals\":[\"E\"],\"Colour\":1}]}")) ≡ only UnknownField (codes "A") (codes "Colour")
unfolding serde_json_on_literals complaints_in machine only
retrier_unknown = refl

no_error_names : complaints_in (machine (codes "\"A\":{\"Type\":\"Task\",\"Resource\":\"r\",\"End\":true,\"Retry\":[{\"ErrorEquals\":[]}]}")) ≡ only EmptyList (codes "A") (codes "Retry")
unfolding serde_json_on_literals complaints_in machine only
no_error_names = refl

all_not_alone : complaints_in (machine (codes "\"A\":{\"Type\":\"Task\",\"Resource\":\"r\",\"End\":true,\"Retry\":[{\"ErrorEquals\":[\"States.ALL\",\"E\"]}]}")) ≡ only BadErrorEquals (codes "A") (codes "Retry")
unfolding serde_json_on_literals complaints_in machine only
all_not_alone = refl

all_not_last : complaints_in (machine (codes "\"A\":{\"Type\":\"Task\",\"Resource\":\"r\",\"End\":true,\"Retry\":[{\"ErrorEquals\":[\"States.ALL\"]},{\"ErrorEquals\":[\"E\"]}]}")) ≡ only BadErrorEquals (codes "A") (codes "Retry")
unfolding serde_json_on_literals complaints_in machine only
all_not_last = refl

catcher_to_nowhere : complaints_in (machine (codes "\"A\":{\"Type\":\"Task\",\"Resource\":\"r\",\"End\":true,\"Catch\":[{\"ErrorEquals\":[\"E\"],\"Next\":\"Z\"}]}")) ≡ only NoSuchState (codes "A") (codes "Catch")
unfolding serde_json_on_literals complaints_in machine only
catcher_to_nowhere = refl

catcher_with_bad_path : complaints_in (machine (codes "\"A\":{\"Type\":\"Task\",\"Resource\":\"r\",\"End\":true,\"Catch\":[{\"ErrorEquals\":[\"E\"],\"Next\":\"A\",\"ResultPath\":\"a\"}]}")) ≡ only BadPath (codes "A") (codes "Catch")
unfolding serde_json_on_literals complaints_in machine only
catcher_with_bad_path = refl

default_to_nowhere : complaints_in (machine (codes "\"A\":{\"Type\":\"Choice\",\"Choices\":[{\"Variable\":\"$\",\"IsNull\":true,\"Next\":\"A\"}],\"Default\":\"Z\"}")) ≡ only NoSuchState (codes "A") (codes "Default")
unfolding serde_json_on_literals complaints_in machine only
default_to_nowhere = refl

catch_all_not_last : complaints_in (machine (codes "\"A\":{\"Type\":\"Task\",\"Resource\":\"r\",\"End\":true,\"Catch\":[{\"ErrorEquals\":[\"States.ALL\"],\"Next\":\"A\"},{\"ErrorEquals\":[\"E\"],\"Next\":\"A\"}]}")) ≡ only BadErrorEquals (codes "A") (codes "Catch")
unfolding serde_json_on_literals complaints_in machine only
catch_all_not_last = refl

catch_all_not_alone : complaints_in (machine (codes "\"A\":{\"Type\":\"Task\",\"Resource\":\"r\",\"End\":true,\"Catch\":[{\"ErrorEquals\":[\"E\",\"States.ALL\"],\"Next\":\"A\"}]}")) ≡ only BadErrorEquals (codes "A") (codes "Catch")
unfolding serde_json_on_literals complaints_in machine only
catch_all_not_alone = refl

no_choices : complaints_in (machine (codes "\"A\":{\"Type\":\"Choice\",\"Choices\":[]}")) ≡ only EmptyList (codes "A") (codes "Choices")
unfolding serde_json_on_literals complaints_in machine only
no_choices = refl

bad_rule : complaints_in (machine (codes "\"A\":{\"Type\":\"Choice\",\"Choices\":[{}]}")) ≡ only BadRule (codes "A") (codes "Choices")
unfolding serde_json_on_literals complaints_in machine only
bad_rule = refl

wait_for_nothing : complaints_in (machine (codes "\"A\":{\"Type\":\"Wait\",\"End\":true}")) ≡ only MissingField (codes "A") (codes "Seconds")
unfolding serde_json_on_literals complaints_in machine only
wait_for_nothing = refl

wait_for_two : complaints_in (machine (codes "\"A\":{\"Type\":\"Wait\",\"End\":true,\"Seconds\":1,\"Timestamp\":\"t\"}")) ≡ only WrongKind (codes "A") (codes "Timestamp")
unfolding serde_json_on_literals complaints_in machine only
wait_for_two = refl

no_branches : complaints_in (machine (codes "\"A\":{\"Type\":\"Parallel\",\"End\":true,\"Branches\":[]}")) ≡ only EmptyList (codes "A") (codes "Branches")
unfolding serde_json_on_literals complaints_in machine only
no_branches = refl

branch_no_object : complaints_in (machine (codes "\"A\":{\"Type\":\"Parallel\",\"End\":true,\"Branches\":[7]}")) ≡ only WrongKind (codes "A") (codes "Branches")
unfolding serde_json_on_literals complaints_in machine only
branch_no_object = refl

branch_starts_nowhere : complaints_in (machine (codes "\"A\":{\"Type\":\"Parallel\",\"End\":true,\"Branches\":[{\"StartAt\":\"A\",\"States\":{\"B\":{\"Type\":\"Succeed\"}}}]}")) ≡ only NoSuchState (codes "A") (codes "Branches")
unfolding serde_json_on_literals complaints_in machine only
branch_starts_nowhere = refl

branch_without_start : complaints_in (machine (codes "\"A\":{\"Type\":\"Parallel\",\"End\":true,\"Branches\":[{\"States\":{\"B\":{\"Type\":\"Succeed\"}}}]}")) ≡ only MissingField (codes "A") (codes "StartAt")
unfolding serde_json_on_literals complaints_in machine only
branch_without_start = refl

branch_with_version : complaints_in (machine (codes "\"A\":{\"Type\":\"Parallel\",\"End\":true,\"Branches\":[{\"StartAt\":\"B\",\"Version\":\"1\",\"States\":{\"B\":{\"Type\":\"Succeed\"}}}]}")) ≡ only UnknownField (codes "A") (codes "Version")
unfolding serde_json_on_literals complaints_in machine only
branch_with_version = refl

state_of_branch : complaints_in (machine (codes "\"A\":{\"Type\":\"Parallel\",\"End\":true,\"Branches\":[{\"StartAt\":\"B\",\"States\":{\"B\":{\"Type\":\"Pass\",\"Next\":\"A\"}}}]}")) ≡ only NoSuchState (codes "B") (codes "Next")
unfolding serde_json_on_literals complaints_in machine only
state_of_branch = refl

duplicate_name : complaints_in (machine (codes "\"A\":{\"Type\":\"Parallel\",\"End\":true,\"Branches\":[{\"StartAt\":\"A\",\"States\":{\"A\":{\"Type\":\"Succeed\"}}}]}")) ≡ only DuplicateName (codes "A") (codes "States")
unfolding serde_json_on_literals complaints_in machine only
duplicate_name = refl

processor_missing : complaints_in (machine (codes "\"A\":{\"Type\":\"Map\",\"End\":true}")) ≡ only MissingField (codes "A") (codes "ItemProcessor")
unfolding serde_json_on_literals complaints_in machine only
processor_missing = refl

two_processors : complaints_in (machine (codes "\"A\":{\"Type\":\"Map\",\"End\":true,\"ItemProcessor\":{\"StartAt\":\"B\",\"States\":{\"B\":{\"Type\":\"Succeed\"}}},\"Iterator\":{\"StartAt\":\"C\",\"States\":{\"C\":{\"Type\":\"Succeed\"}}}}")) ≡ only WrongKind (codes "A") (codes "Iterator")
unfolding serde_json_on_literals complaints_in machine only
two_processors = refl

two_selectors : complaints_in (machine (codes "\"A\":{\"Type\":\"Map\",\"End\":true,\"ItemProcessor\":{\"StartAt\":\"B\",\"States\":{\"B\":{\"Type\":\"Succeed\"}}},\"ItemSelector\":{},\"Parameters\":{}}")) ≡ only WrongKind (codes "A") (codes "Parameters")
unfolding serde_json_on_literals complaints_in machine only
two_selectors = refl

config_with_fraction : complaints_in (machine (codes "\"A\":{\"Type\":\"Map\",\"End\":true,\"Iterator\":{\"StartAt\":\"B\",\"States\":{\"B\":{\"Type\":\"Succeed\"}},\"ProcessorConfig\":{\"a\":1.5}}}")) ≡ only NotWhole (codes "A") (codes "Iterator")
unfolding serde_json_on_literals complaints_in machine only
config_with_fraction = refl

no_object : complaints_in (codes "[]") ≡ only NotObject ([]) ([])
unfolding serde_json_on_literals complaints_in only
no_object = refl

start_missing : complaints_in (codes "{\"States\":{\"A\":{\"Type\":\"Pass\",\"End\":true}}}") ≡ only MissingField ([]) (codes "StartAt")
unfolding serde_json_on_literals complaints_in only
start_missing = refl

start_no_text : complaints_in (codes "{\"StartAt\":7,\"States\":{\"A\":{\"Type\":\"Pass\",\"End\":true}}}") ≡ only WrongKind ([]) (codes "StartAt")
unfolding serde_json_on_literals complaints_in only
start_no_text = refl

no_states : complaints_in (codes "{\"StartAt\":\"A\",\"States\":{}}") ≡ only NoSuchState ([]) (codes "StartAt")
unfolding serde_json_on_literals complaints_in only
no_states = refl

unknown_machine_field : complaints_in (codes "{\"StartAt\":\"A\",\"States\":{\"A\":{\"Type\":\"Pass\",\"End\":true}},\"Colour\":1}") ≡ only UnknownField ([]) (codes "Colour")
unfolding serde_json_on_literals complaints_in only
unknown_machine_field = refl

timeout_fraction : complaints_in (codes "{\"StartAt\":\"A\",\"States\":{\"A\":{\"Type\":\"Pass\",\"End\":true}},\"TimeoutSeconds\":1.5}") ≡ only NotWhole ([]) (codes "TimeoutSeconds")
unfolding serde_json_on_literals complaints_in only
timeout_fraction = refl

-- 80 characters are allowed, 81 aren't; é is one character of two bytes
repeated : ℕ → List ℕ → List ℕ
repeated zero text = []
repeated (suc n) text = text ++ repeated n text

eighty_characters : characters (repeated 80 (195 ∷ 169 ∷ [])) ≡ 80
unfolding repeated
eighty_characters = refl

machine_named : List ℕ → List ℕ
machine_named n = codes "{\"StartAt\":\"" ++ (n ++ (codes "\",\"States\":{\"" ++ (n ++ codes "\":{\"Type\":\"Succeed\"}}}")))

long_enough_name : complaints_in (machine_named (repeated 80 (codes "a"))) ≡ Some []
unfolding serde_json_on_literals complaints_in machine_named repeated
long_enough_name = refl

too_long_name : complaints_in (machine_named (repeated 81 (codes "a"))) ≡ only NameTooLong (repeated 81 (codes "a")) (codes "States")
unfolding serde_json_on_literals complaints_in machine_named repeated only
too_long_name = refl

-- states that end at once, each under its number; one with too many is too long to be written out as a text
numbered_states : ℕ → Members
numbered_states zero = json.no_members
numbered_states (suc n) = json.member (decimal n) (json.object (json.member (codes "Type") (json.string (codes "Succeed")) json.no_members)) (numbered_states n)

-- a machine of that many states
machine_of : ℕ → Data
machine_of n = json.object (json.member (codes "StartAt") (json.string (codes "0")) (json.member (codes "States") (json.object (numbered_states n)) json.no_members))

-- it has that many names
names_counted : (n : ℕ) → length (names_among (each_state (numbered_states n))) ≡ n
unfolding numbered_states
names_counted zero = refl
names_counted (suc n) = ap suc (names_counted n)

-- what is said of that many states
abbrev said_of : ℕ → List Complaint
said_of n = if not (nat_lt 10000 n) then [] else record { fault = TooLarge; state = []; field = codes "States" } ∷ []

-- 10,000 states aren't too many
large_enough : number_complaints (all_names (scope_of (machine_of 10000))) ≡ []
unfolding machine_of
large_enough = ap said_of (names_counted 10000)

-- one more is too many
too_large : HasComplaint (machine_of 10001) (record { fault = TooLarge; state = []; field = codes "States" })
unfolding machine_of
too_large = record {
  listed = Contains-append_right (no_object_complaints (machine_of 10001)) _ _ (Contains-append_right (scope_complaints (record { state = []; within = None }) machine_rows (machine_of 10001)) _ _ (Contains-append_right (duplicate_complaints (all_names (scope_of (machine_of 10001)))) _ _
      (subst (λ xs. Contains xs (record { fault = TooLarge; state = []; field = codes "States" })) (sym (ap said_of (names_counted 10001))) (first_in (record { fault = TooLarge; state = []; field = codes "States" }) []))));
}

-- ---- what is read

one_pass : ReadsAsMachine (machine (codes "\"A\":{\"Type\":\"Pass\",\"End\":true}")) (ScopeOf (codes "A") (AndState (codes "A") (StateOf (bare None) (Pass None)) NoStates))
unfolding serde_json_on_literals machine_in machine
one_pass = stands refl refl refl

-- every field of Pass, Succeed and Fail
every_field : ReadsAsMachine (machine (codes "\"A\":{\"Type\":\"Pass\",\"Comment\":\"c\",\"QueryLanguage\":\"JSONPath\",\"InputPath\":\"$.in\",\"OutputPath\":null,\"ResultPath\":\"$.r[0]\",\"Parameters\":{\"x\":1},\"Result\":[null],\"Next\":\"B\"},\"B\":{\"Type\":\"Succeed\",\"InputPath\":null,\"OutputPath\":\"$.o\"},\"C\":{\"Type\":\"Fail\",\"Comment\":\"d\",\"Error\":\"E\",\"Cause\":\"why\"}")) (
    ScopeOf (codes "A")
    (AndState (codes "A") (StateOf (record (bare (Some (codes "B"))) { input_path = Some (Name (codes "in") ∷ []); output_path = None; result_path = Some (Name (codes "r") ∷ Index 0 ∷ []); comment = Some (codes "c"); parameters = Some (ObjectTemplate (AndFieldTemplate (codes "x") (Literal (Integer (pos 1))) NoFieldTemplates)) }) (Pass (Some (Array (AndTree Null NoTrees)))))
    (AndState (codes "B") (StateOf (record (bare None) { input_path = None; output_path = Some (Name (codes "o") ∷ []) }) Succeed)
    (AndState (codes "C") (StateOf (record (bare None) { comment = Some (codes "d") }) (Fail (codes "E") (codes "why"))) NoStates)))
    )
unfolding serde_json_on_literals machine_in machine
every_field = stands refl refl refl

-- a Task with every field, which has a retrier and a catcher with every field and one with those that they must have
a_task : ReadsAsMachine (machine (codes "\"A\":{\"Type\":\"Task\",\"Resource\":\"r\",\"Comment\":\"c\",\"TimeoutSeconds\":5,\"HeartbeatSeconds\":4,\"ResultSelector\":{\"y\":2},\"Retry\":[{\"ErrorEquals\":[\"E\"],\"IntervalSeconds\":7,\"MaxAttempts\":0,\"BackoffRate\":1.5,\"MaxDelaySeconds\":9,\"JitterStrategy\":\"FULL\",\"Comment\":\"d\"},{\"ErrorEquals\":[\"States.ALL\"]}],\"Catch\":[{\"ErrorEquals\":[\"F\"],\"ResultPath\":\"$.e\",\"Comment\":\"f\",\"Next\":\"A\"},{\"ErrorEquals\":[\"G\"],\"Next\":\"A\"}],\"End\":true}")) (
    ScopeOf (codes "A") (AndState (codes "A")
    (StateOf (record (bare None) {
      result_selector = Some (ObjectTemplate (AndFieldTemplate (codes "y") (Literal (Integer (pos 2))) NoFieldTemplates));
      retriers = record {
        error_equals = codes "E" ∷ [];
        interval_seconds = 7;
        max_attempts = 0;
        backoff_rate = json.float (fin false 3 (negsuc 0));
        max_delay_seconds = Some 9;
        jitter_strategy = codes "FULL";
        comment = Some (codes "d");
      } ∷ bare_retrier (codes "States.ALL" ∷ []) 3 ∷ [];
      catchers = record (bare_catcher (codes "F" ∷ []) (Some (Name (codes "e") ∷ [])) (codes "A")) { comment = Some (codes "f") } ∷ bare_catcher (codes "G" ∷ []) (Some []) (codes "A") ∷ [];
      timeout_seconds = Some 5;
      heartbeat_seconds = Some 4;
      comment = Some (codes "c");
    }) (Task (codes "r"))) NoStates)
    )
unfolding serde_json_on_literals machine_in machine
a_task = stands refl refl refl

-- a retrier that spells the defaults is the one that leaves them out, but for a rate that is written whole
defaults : ReadsAsMachine (machine (codes "\"A\":{\"Type\":\"Task\",\"Resource\":\"r\",\"Retry\":[{\"ErrorEquals\":[\"E\"],\"IntervalSeconds\":1,\"MaxAttempts\":3,\"BackoffRate\":2.0,\"JitterStrategy\":\"NONE\"},{\"ErrorEquals\":[\"F\"],\"BackoffRate\":2}],\"End\":true}")) (
    ScopeOf (codes "A") (AndState (codes "A")
    (StateOf (record (bare None) {
      retriers = bare_retrier (codes "E" ∷ []) 3 ∷ record (bare_retrier (codes "F" ∷ []) 3) { backoff_rate = json.unsigned 2 } ∷ [];
    }) (Task (codes "r"))) NoStates)
    )
unfolding serde_json_on_literals machine_in machine
defaults = stands refl refl refl

-- scopes in scopes
nested_scopes : ReadsAsMachine (machine (codes "\"A\":{\"Type\":\"Parallel\",\"Branches\":[{\"StartAt\":\"B\",\"States\":{\"B\":{\"Type\":\"Succeed\"}}},{\"StartAt\":\"C\",\"States\":{\"C\":{\"Type\":\"Map\",\"ItemsPath\":\"$.l\",\"Parameters\":{\"z\":3},\"Iterator\":{\"StartAt\":\"D\",\"States\":{\"D\":{\"Type\":\"Wait\",\"Seconds\":7,\"End\":true}}},\"End\":true}}}],\"End\":true}")) (
    ScopeOf (codes "A") (AndState (codes "A") (StateOf (bare None) (Parallel
    (AndScope (ScopeOf (codes "B") (AndState (codes "B") (StateOf (bare None) Succeed) NoStates))
    (AndScope (ScopeOf (codes "C") (AndState (codes "C") (StateOf (bare None) (Map (Name (codes "l") ∷ []) (Some (ObjectTemplate (AndFieldTemplate (codes "z") (Literal (Integer (pos 3))) NoFieldTemplates)))
    (ScopeOf (codes "D") (AndState (codes "D") (StateOf (bare None) (Wait (Seconds 7))) NoStates)))) NoStates))
    NoScopes)))) NoStates)
    )
unfolding serde_json_on_literals machine_in machine
nested_scopes = stands refl refl refl

-- a Parallel with the fields that a Task has too, on its way to another state
a_parallel : ReadsAsMachine (machine (codes "\"A\":{\"Type\":\"Parallel\",\"Parameters\":{\"x\":1},\"Branches\":[{\"StartAt\":\"B\",\"Comment\":\"c\",\"States\":{\"B\":{\"Type\":\"Succeed\"}}},{\"StartAt\":\"C\",\"States\":{\"C\":{\"Type\":\"Fail\",\"Error\":\"E\"}}}],\"ResultPath\":null,\"Retry\":[{\"ErrorEquals\":[\"States.BranchFailed\"],\"MaxAttempts\":1}],\"Catch\":[{\"ErrorEquals\":[\"States.ALL\"],\"Next\":\"D\"}],\"Next\":\"D\"},\"D\":{\"Type\":\"Succeed\"}")) (
    ScopeOf (codes "A")
    (AndState (codes "A") (StateOf (record (bare (Some (codes "D"))) {
      parameters = Some (ObjectTemplate (AndFieldTemplate (codes "x") (Literal (Integer (pos 1))) NoFieldTemplates));
      result_path = None;
      retriers = bare_retrier (codes "States.BranchFailed" ∷ []) 1 ∷ [];
      catchers = bare_catcher (codes "States.ALL" ∷ []) (Some []) (codes "D") ∷ [];
    }) (Parallel
    (AndScope (ScopeOf (codes "B") (AndState (codes "B") (StateOf (bare None) Succeed) NoStates))
    (AndScope (ScopeOf (codes "C") (AndState (codes "C") (StateOf (bare None) (Fail (codes "E") [])) NoStates))
    NoScopes))))
    (AndState (codes "D") (StateOf (bare None) Succeed) NoStates))
    )
unfolding serde_json_on_literals machine_in machine
a_parallel = stands refl refl refl

-- the machine of the next two
mapped : Scope
mapped =
    ScopeOf (codes "A") (AndState (codes "A") (StateOf (record (bare None) { result_path = Some (Name (codes "r") ∷ []); max_concurrency = 2 })
    (Map (Name (codes "l") ∷ [])
    (Some (ObjectTemplate (AndFieldTemplate (codes "i") (FromPath ItemIndex) (AndFieldTemplate (codes "v") (FromPath (InItem (Name (codes "k") ∷ []))) NoFieldTemplates))))
    (ScopeOf (codes "B") (AndState (codes "B") (StateOf (bare None) (Pass None)) NoStates)))) NoStates)

-- a Map
a_map : ReadsAsMachine (machine (codes "\"A\":{\"Type\":\"Map\",\"ItemsPath\":\"$.l\",\"ItemSelector\":{\"i.$\":\"$$.Map.Item.Index\",\"v.$\":\"$$.Map.Item.Value.k\"},\"MaxConcurrency\":2,\"ItemProcessor\":{\"ProcessorConfig\":{\"Mode\":\"INLINE\"},\"StartAt\":\"B\",\"States\":{\"B\":{\"Type\":\"Pass\",\"End\":true}}},\"ResultPath\":\"$.r\",\"End\":true}")) mapped
unfolding serde_json_on_literals machine_in machine mapped
a_map = stands refl refl refl

-- with the older names `Iterator` and `Parameters`
an_older_map : ReadsAsMachine (machine (codes "\"A\":{\"Type\":\"Map\",\"ItemsPath\":\"$.l\",\"Parameters\":{\"i.$\":\"$$.Map.Item.Index\",\"v.$\":\"$$.Map.Item.Value.k\"},\"MaxConcurrency\":2,\"Iterator\":{\"StartAt\":\"B\",\"States\":{\"B\":{\"Type\":\"Pass\",\"End\":true}}},\"ResultPath\":\"$.r\",\"End\":true}")) mapped
unfolding serde_json_on_literals machine_in machine mapped
an_older_map = stands refl refl refl

-- a Choice with `Default` and without
a_choice : ReadsAsMachine (machine (codes "\"A\":{\"Type\":\"Choice\",\"Choices\":[{\"Variable\":\"$.k\",\"IsNull\":true,\"Next\":\"B\"}],\"Default\":\"C\"},\"B\":{\"Type\":\"Succeed\"},\"C\":{\"Type\":\"Choice\",\"Choices\":[{\"Variable\":\"$\",\"IsPresent\":false,\"Next\":\"B\"}]}")) (
    ScopeOf (codes "A")
    (AndState (codes "A") (StateOf (bare None) (Choice (record { test = IsOfKind (Name (codes "k") ∷ []) NullKind true; next = codes "B" } ∷ []) (Some (codes "C"))))
    (AndState (codes "B") (StateOf (bare None) Succeed)
    (AndState (codes "C") (StateOf (bare None) (Choice (record { test = IsPresent [] false; next = codes "B" } ∷ []) None)) NoStates)))
    )
unfolding serde_json_on_literals machine_in machine
a_choice = stands refl refl refl

-- a Wait by a path to seconds, a timestamp, and a path to a timestamp
waits : ReadsAsMachine (machine (codes "\"A\":{\"Type\":\"Wait\",\"SecondsPath\":\"$.s\",\"Next\":\"B\"},\"B\":{\"Type\":\"Wait\",\"Timestamp\":\"t\",\"Next\":\"C\"},\"C\":{\"Type\":\"Wait\",\"TimestampPath\":\"$.t\",\"End\":true}")) (
    ScopeOf (codes "A")
    (AndState (codes "A") (StateOf (bare (Some (codes "B"))) (Wait (SecondsPath (Name (codes "s") ∷ []))))
    (AndState (codes "B") (StateOf (bare (Some (codes "C"))) (Wait (Timestamp (codes "t"))))
    (AndState (codes "C") (StateOf (bare None) (Wait (TimestampPath (Name (codes "t") ∷ [])))) NoStates)))
    )
unfolding serde_json_on_literals machine_in machine
waits = stands refl refl refl

-- a catcher's `ResultPath` that is `null`, and one that isn't given; a Task's `Parameters`
two_catchers : ReadsAsMachine (machine (codes "\"A\":{\"Type\":\"Task\",\"Resource\":\"r\",\"Parameters\":{\"x.$\":\"$.k\"},\"Catch\":[{\"ErrorEquals\":[\"E\"],\"ResultPath\":null,\"Next\":\"A\"},{\"ErrorEquals\":[\"States.ALL\"],\"Next\":\"A\"}],\"End\":true}")) (
    ScopeOf (codes "A") (AndState (codes "A")
    (StateOf (record (bare None) {
      parameters = Some (ObjectTemplate (AndFieldTemplate (codes "x") (FromPath (InInput (Name (codes "k") ∷ []))) NoFieldTemplates));
      catchers = bare_catcher (codes "E" ∷ []) None (codes "A") ∷ bare_catcher (codes "States.ALL" ∷ []) (Some []) (codes "A") ∷ [];
    }) (Task (codes "r"))) NoStates)
    )
unfolding serde_json_on_literals machine_in machine
two_catchers = stands refl refl refl
