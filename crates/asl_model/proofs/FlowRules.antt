-- The rules on what flows through a state, each by the part of the state that it looks at.
use Rattle.std.specs.Prelude.{ℕ, List, [], ◌∷◌, ◌++◌, map, Bool, false}
use Rattle.std.specs.Prelude.{Option, Some, None, Result, Ok, Err, codes, if◌then◌else◌}
use Rattle.asl_model.specs.Names.{StateName, FieldName}
use Rattle.asl_model.specs.Test.{Rule}
use Rattle.asl_model.specs.Machine.{Catcher, Settings, Delay, Seconds, SecondsPath, Timestamp, TimestampPath, Scope, Kind, Pass, Task, Choice, Wait, Succeed, Fail, Parallel, Map, Scopes, NoScopes, AndScope, start_of}
use Rattle.asl_model.specs.Shape.{Shape, Never, ArrayShape, Shapes, inhabited}
use Rattle.asl_model.specs.ShapeFlow.{found, literal, is_integer_shape, is_string_shape, rule_shape, is_settled, leave, Flow, DoubtfulPath}
use Rattle.asl_model.specs.Certificate.{takes_of, gives_of}
use Rattle.asl_model.specs.Breaches.{WrongKind, ResultMayNotFit, NoDefault, PayloadNotTaken, OutputNotCertified, NextInput, ScopeOutput, BranchInput, CatchInput, Breach, breach_unless, breach_unless_sub, missing_breach, breach_of, Surroundings, effective_flow, as_first_elements, element_shape, item_flow, map_result, array_parts, error_placed_shape}

-- goes on with the shape, or tells what may stop it
abbrev pub breaches_then : (Shape → List Breach) → Flow → List Breach
breaches_then go_on (Ok s) = go_on s
breaches_then go_on (Err faults) = map breach_of faults

-- the output, compared with the state's own and with the input of the state that follows
abbrev pub next_breaches : (StateName → Option Shape) → Shape → FieldName → StateName → Shape → List Breach
next_breaches inputs certified_output field next output =
    breach_unless_sub (codes "OutputPath") OutputNotCertified output (Some certified_output)
    ++ breach_unless_sub field NextInput output (inputs next)

-- the output, compared with the state's own and with the shape of the scope's end
abbrev pub end_breaches : Shape → FieldName → Option Shape → Shape → List Breach
end_breaches certified_output field end output =
    breach_unless_sub (codes "OutputPath") OutputNotCertified output (Some certified_output)
    ++ breach_unless_sub field ScopeOutput output end

-- the same, by `Next` or `End`
abbrev pub output_breaches : (StateName → Option Shape) → Shape → Option Shape → Option StateName → Shape → List Breach
output_breaches inputs certified_output end None output = end_breaches certified_output (codes "End") end output
output_breaches inputs certified_output end (Some next) output =
    next_breaches inputs certified_output (codes "Next") next output

-- what a path names is of the kind that its field wants
abbrev pub kind_breaches : FieldName → (Shape → Bool) → Result Shape DoubtfulPath → List Breach
kind_breaches field test (Ok s) = breach_unless (test s) field WrongKind
kind_breaches field test (Err doubtful) = missing_breach field doubtful ∷ []

-- `SecondsPath` and `TimestampPath`
abbrev pub delay_breaches : Delay → Shape → List Breach
delay_breaches (Seconds n) s = []
delay_breaches (SecondsPath path) s = kind_breaches (codes "SecondsPath") is_integer_shape (found path s)
delay_breaches (Timestamp t) s = []
delay_breaches (TimestampPath path) s = kind_breaches (codes "TimestampPath") is_string_shape (found path s)

-- a child's input, compared with that of its start state
abbrev pub child_breaches : (StateName → Option Shape) → FieldName → Scope → Shape → List Breach
child_breaches inputs field scope input = breach_unless_sub field BranchInput input (inputs (start_of scope))

-- the branches' input, compared with that of each start state
abbrev pub branch_breaches : (StateName → Option Shape) → Scopes → Shape → List Breach
branch_breaches inputs NoScopes input = []
branch_breaches inputs (AndScope scope others) input =
    child_breaches inputs (codes "Branches") scope input ++ branch_breaches inputs others input

-- goes on with the shapes of the elements of what `ItemsPath` names
abbrev pub with_elements : (Shapes × Shape → List Breach) → Option (Shapes × Shape) → List Breach
with_elements go_on None = breach_unless false (codes "ItemsPath") WrongKind
with_elements go_on (Some elements) = go_on elements

-- goes on with the shapes of the elements, or tells that the path may name nothing
abbrev pub with_items : (Shapes × Shape → List Breach) → Result Shape DoubtfulPath → List Breach
with_items go_on (Ok s) = with_elements go_on (array_parts s)
with_items go_on (Err doubtful) = missing_breach (codes "ItemsPath") doubtful ∷ []

-- the output for an effective input, on its way to a state that the field names
abbrev pub chosen_breaches : Surroundings → Settings → Kind → FieldName → StateName → Shape → List Breach
chosen_breaches around settings kind field next s =
    breaches_then (next_breaches around.inputs around.entry.output field next)
    (leave settings kind around.entry.input s)

-- a rule's paths, and the output for what it lets through
abbrev pub rule_breaches : Surroundings → Settings → Kind → StateName → Result Shape DoubtfulPath → List Breach
rule_breaches around settings kind next (Ok s) = chosen_breaches around settings kind (codes "Choices") next s
rule_breaches around settings kind next (Err doubtful) = missing_breach (codes "Choices") doubtful ∷ []

-- each rule is taken on the whole effective input
abbrev pub rules_breaches : Surroundings → Settings → Kind → List Rule → Shape → List Breach
rules_breaches around settings kind [] s = []
rules_breaches around settings kind (rule ∷ rules) s =
    rule_breaches around settings kind rule.next (rule_shape rule.test s)
    ++ rules_breaches around settings kind rules s

-- the output that goes to `Default`; where there is none, two rules stand for it
abbrev pub default_breaches : Surroundings → Settings → Kind → List Rule → Option StateName → Shape → List Breach
default_breaches around settings kind rules None s = breach_unless (is_settled rules s) (codes "Default") NoDefault
default_breaches around settings kind rules (Some next) s =
    chosen_breaches around settings kind (codes "Default") next s

-- what a catcher hands on, compared with the next state's input
abbrev pub caught_breaches : (StateName → Option Shape) → StateName → Result Shape ℕ → List Breach
caught_breaches inputs next (Ok s) = breach_unless_sub (codes "Catch") CatchInput s (inputs next)
caught_breaches inputs next (Err at) = breach_unless false (codes "Catch") ResultMayNotFit

-- so for each of the state's catchers
abbrev pub catcher_breaches : (StateName → Option Shape) → Shape → List Catcher → List Breach
catcher_breaches inputs input [] = []
catcher_breaches inputs input (catcher ∷ catchers) =
    caught_breaches inputs catcher.next (error_placed_shape catcher.result_path input)
    ++ catcher_breaches inputs input catchers

-- a result's way to the output, and the output's comparisons
abbrev pub result_breaches : Surroundings → Settings → Kind → Shape → List Breach
result_breaches around settings kind result =
    breaches_then (output_breaches around.inputs around.entry.output around.end settings.next)
    (leave settings kind around.entry.input result)

-- the result of a Map, where a shape is certified of its items
abbrev pub map_breaches : Surroundings → Settings → Kind → Option Shape → Shapes × Shape → List Breach
map_breaches around settings kind None elements = []
map_breaches around settings kind (Some item) elements =
    result_breaches around settings kind (map_result item elements.0 elements.1)

-- the rules on what comes of an effective input of that shape, by the state's type
abbrev pub work_breaches : Surroundings → Settings → Kind → Shape → List Breach
work_breaches around settings (Pass None) s = result_breaches around settings (Pass None) s
work_breaches around settings (Pass (Some t)) s = []
work_breaches around settings (Task resource) s =
    breach_unless_sub (codes "Parameters") PayloadNotTaken s (Some (takes_of around.declared around.name))
work_breaches around settings (Choice rules default) s =
    rules_breaches around settings (Choice rules default) rules s
    ++ default_breaches around settings (Choice rules default) rules default s
work_breaches around settings (Wait delay) s =
    delay_breaches delay s ++ result_breaches around settings (Wait delay) s
work_breaches around settings Succeed s =
    breaches_then (end_breaches around.entry.output (codes "Type") around.end)
    (leave settings Succeed around.entry.input s)
work_breaches around settings (Fail error cause) s = []
work_breaches around settings (Parallel branches) s = branch_breaches around.inputs branches s
work_breaches around settings (Map items selector processor) s =
    with_items (λ elements. breaches_then (child_breaches around.inputs (codes "ItemProcessor") processor)
    (item_flow selector s (element_shape elements.0 elements.1))
    ++ map_breaches around settings (Map items selector processor) around.entry.item elements) (found items s)

-- the rules that need no effective input, by the state's type: on a result that is a literal, declared of the task or
-- certified of the branches
abbrev pub settled_breaches : Surroundings → Settings → Kind → List Breach
settled_breaches around settings (Pass None) = []
settled_breaches around settings (Pass (Some t)) = result_breaches around settings (Pass (Some t)) (literal t)
settled_breaches around settings (Task resource) =
    result_breaches around settings (Task resource) (gives_of around.declared around.name)
settled_breaches around settings (Choice rules default) = []
settled_breaches around settings (Wait delay) = []
settled_breaches around settings Succeed = []
settled_breaches around settings (Fail error cause) = []
settled_breaches around settings (Parallel branches) =
    result_breaches around settings (Parallel branches) (ArrayShape (as_first_elements around.entry.branches) Never)
settled_breaches around settings (Map items selector processor) = []

-- The rules on what flows through a state that has an entry: none where its certified input isn't inhabited. A rule is
-- passed over only where another broken one leaves it without a shape to look at.
abbrev pub rules_on_flow : Surroundings → Settings → Kind → List Breach
rules_on_flow around settings kind =
    if inhabited around.entry.input
    then breaches_then (work_breaches around settings kind) (effective_flow settings around.entry.input)
    ++ (settled_breaches around settings kind
    ++ catcher_breaches around.inputs around.entry.input settings.catchers)
    else []
