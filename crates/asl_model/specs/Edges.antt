-- What flows out of a state, and where to, in the order in which a checker looks at it (the profile's own): the edges
-- of the state, and the rules that are broken on the way to one. A checker compares what flows at each edge with the
-- shape that stands there; an inferrer takes it in there.
use Rattle.std.specs.Prelude.{ℕ, List, [], ◌∷◌, ◌++◌, map, Bool, true, false, Option}
use Rattle.std.specs.Prelude.{Some, None, Result, Ok, Err, codes, if◌then◌else◌}
use Rattle.asl_model.specs.Names.{StateName, FieldName}
use Rattle.asl_model.specs.Template.{Template}
use Rattle.asl_model.specs.Test.{Rule}
use Rattle.asl_model.specs.Machine.{Catcher, Settings, Delay, Seconds, SecondsPath, Timestamp}
use Rattle.asl_model.specs.Machine.{TimestampPath, Scope, Kind, Pass, Task, Choice, Wait, Succeed}
use Rattle.asl_model.specs.Machine.{Fail, Parallel, Map, Scopes, NoScopes, AndScope, start_of}
use Rattle.asl_model.specs.Shape.{Shape, Never, Shapes, ArrayShape, inhabited}
use Rattle.asl_model.specs.ShapeFlow.{is_integer_shape, is_string_shape, found, literal, rule_shape, is_settled, leave}
use Rattle.asl_model.specs.ShapeFlow.{Flow, DoubtfulPath}
use Rattle.asl_model.specs.Certificate.{StateShapes, takes_of}
use Rattle.asl_model.specs.Breaches.{Surroundings, Breach, FindingFault, WrongKind, ResultMayNotFit}
use Rattle.asl_model.specs.Breaches.{plain_breach, missing_breach}
use Rattle.asl_model.specs.Breaches.{NoDefault, PayloadNotTaken, OutputNotCertified, NextInput, ScopeOutput, BranchInput}
use Rattle.asl_model.specs.Breaches.{CatchInput, breach_of, breach_unless_sub, effective_flow, item_flow, element_shape}
use Rattle.asl_model.specs.Breaches.{map_result, as_first_elements, array_parts, error_placed_shape}

-- where a shape flows to
pub data Destination : Type 0 where
  -- the input of the state of that name
  ToInput : StateName → Destination
  -- the state's own output
  ToOutput : Destination
  -- the end of the state's scope
  ToEnd : Destination
  -- the payload that the state's task takes
  ToTask : Destination

-- a shape that flows there, and the finding where it isn't inside what stands there
pub record Edge : Type 0 where
  pub flowing : Shape
  pub destination : Destination
  pub field : FieldName
  pub fault : FindingFault

-- a step of the walk through a state: an edge, or a rule that is broken on the way to one
pub data Walked : Type 0 where
  Flows : Edge → Walked
  Breaks : Breach → Walked

-- what flows there
abbrev pub flows_to : Destination → FieldName → FindingFault → Shape → Walked
flows_to destination field fault s =
    Flows (record { flowing = s; destination = destination; field = field; fault = fault })

-- that rule is broken
abbrev pub breaks : FieldName → FindingFault → List Walked
breaks field fault = Breaks (plain_breach field fault) ∷ []

-- a path of the field is doubtful
abbrev pub breaks_missing : FieldName → DoubtfulPath → List Walked
breaks_missing field doubtful = Breaks (missing_breach field doubtful) ∷ []

-- that rule is broken, unless the test holds
abbrev pub breaks_unless : Bool → FieldName → FindingFault → List Walked
breaks_unless true field fault = []
breaks_unless false field fault = breaks field fault

-- goes on with the shape, or tells what may stop it
abbrev pub walk_then : (Shape → List Walked) → Flow → List Walked
walk_then go_on (Ok s) = go_on s
walk_then go_on (Err faults) = map (λ fault. Breaks (breach_of fault)) faults

-- an output flows into the state's own, and into the input of the state that the field names
abbrev pub to_next : FieldName → StateName → Shape → List Walked
to_next field next output =
    flows_to ToOutput (codes "OutputPath") OutputNotCertified output ∷ flows_to (ToInput next) field NextInput output
    ∷ []

-- an output flows into the state's own, and into the scope's end
abbrev pub to_end : FieldName → Shape → List Walked
to_end field output =
    flows_to ToOutput (codes "OutputPath") OutputNotCertified output ∷ flows_to ToEnd field ScopeOutput output ∷ []

-- the same, by `Next` or `End`
abbrev pub onward : Option StateName → Shape → List Walked
onward None output = to_end (codes "End") output
onward (Some next) output = to_next (codes "Next") next output

-- a result's way to the output, and where that flows
abbrev pub walk_result : Settings → Kind → Shape → Shape → List Walked
walk_result settings kind input result = walk_then (onward settings.next) (leave settings kind input result)

-- what a path names is of the kind that its field wants
abbrev pub walk_named : FieldName → (Shape → Bool) → Result Shape DoubtfulPath → List Walked
walk_named field test (Ok s) = breaks_unless (test s) field WrongKind
walk_named field test (Err doubtful) = breaks_missing field doubtful

-- `SecondsPath` and `TimestampPath`
abbrev pub walk_delay : Delay → Shape → List Walked
walk_delay (Seconds n) s = []
walk_delay (SecondsPath path) s = walk_named (codes "SecondsPath") is_integer_shape (found path s)
walk_delay (Timestamp t) s = []
walk_delay (TimestampPath path) s = walk_named (codes "TimestampPath") is_string_shape (found path s)

-- a child's input flows into that of its start state
abbrev pub to_child : FieldName → Scope → Shape → List Walked
to_child field scope input = flows_to (ToInput (start_of scope)) field BranchInput input ∷ []

-- the branches' input flows into that of each start state
abbrev pub to_branches : Scopes → Shape → List Walked
to_branches NoScopes input = []
to_branches (AndScope scope others) input = to_child (codes "Branches") scope input ++ to_branches others input

-- the result of a Map, where a shape stands for its items
abbrev pub walk_items_result : Settings → Kind → Shape → Option Shape → Shapes × Shape → List Walked
walk_items_result settings kind input None elements = []
walk_items_result settings kind input (Some item) elements =
    walk_result settings kind input (map_result item elements.0 elements.1)

-- a child's input for the elements, and the result
abbrev pub walk_elements : Settings → Kind → StateShapes → Option Template → Scope → Shape → Shapes × Shape
    → List Walked
walk_elements settings kind entry selector processor s elements =
    walk_then (to_child (codes "ItemProcessor") processor) (item_flow selector s (element_shape elements.0 elements.1))
    ++ walk_items_result settings kind entry.input entry.item elements

-- goes on with the shapes of the elements of what `ItemsPath` names
abbrev pub with_elements_walked : (Shapes × Shape → List Walked) → Option (Shapes × Shape) → List Walked
with_elements_walked go_on None = breaks (codes "ItemsPath") WrongKind
with_elements_walked go_on (Some elements) = go_on elements

-- goes on with the shapes of the elements, or tells that the path may name nothing
abbrev pub walk_items : (Shapes × Shape → List Walked) → Result Shape DoubtfulPath → List Walked
walk_items go_on (Ok s) = with_elements_walked go_on (array_parts s)
walk_items go_on (Err doubtful) = breaks_missing (codes "ItemsPath") doubtful

-- the output for an effective input, on its way to the state that the field names
abbrev pub walk_chosen : Settings → Kind → Shape → FieldName → StateName → Shape → List Walked
walk_chosen settings kind input field next s = walk_then (to_next field next) (leave settings kind input s)

-- a rule's paths, and the output for what it lets through
abbrev pub walk_rule : Settings → Kind → Shape → StateName → Result Shape DoubtfulPath → List Walked
walk_rule settings kind input next (Ok s) = walk_chosen settings kind input (codes "Choices") next s
walk_rule settings kind input next (Err doubtful) = breaks_missing (codes "Choices") doubtful

-- each rule is taken on the whole effective input
abbrev pub walk_rules : Settings → Kind → Shape → List Rule → Shape → List Walked
walk_rules settings kind input [] s = []
walk_rules settings kind input (rule ∷ rules) s =
    walk_rule settings kind input rule.next (rule_shape rule.test s) ++ walk_rules settings kind input rules s

-- the output that goes to `Default`; where there is none, two rules stand for it
abbrev pub walk_default : Settings → Kind → Shape → List Rule → Option StateName → Shape → List Walked
walk_default settings kind input rules None s = breaks_unless (is_settled rules s) (codes "Default") NoDefault
walk_default settings kind input rules (Some next) s = walk_chosen settings kind input (codes "Default") next s

-- what a catcher hands on
abbrev pub walk_caught : StateName → Result Shape ℕ → List Walked
walk_caught next (Ok s) = flows_to (ToInput next) (codes "Catch") CatchInput s ∷ []
walk_caught next (Err at) = breaks (codes "Catch") ResultMayNotFit

-- so for each of the state's catchers
abbrev pub walk_catchers : Shape → List Catcher → List Walked
walk_catchers input [] = []
walk_catchers input (catcher ∷ catchers) =
    walk_caught catcher.next (error_placed_shape catcher.result_path input) ++ walk_catchers input catchers

-- what comes of an effective input of that shape, by the state's type
abbrev pub walk_work : Settings → Kind → StateShapes → Shape → List Walked
walk_work settings (Pass None) entry s = walk_result settings (Pass None) entry.input s
walk_work settings (Pass (Some t)) entry s = []
walk_work settings (Task resource) entry s = flows_to ToTask (codes "Parameters") PayloadNotTaken s ∷ []
walk_work settings (Choice rules default) entry s =
    walk_rules settings (Choice rules default) entry.input rules s
    ++ walk_default settings (Choice rules default) entry.input rules default s
walk_work settings (Wait delay) entry s = walk_delay delay s ++ walk_result settings (Wait delay) entry.input s
walk_work settings Succeed entry s = walk_then (to_end (codes "Type")) (leave settings Succeed entry.input s)
walk_work settings (Fail error cause) entry s = []
walk_work settings (Parallel branches) entry s = to_branches branches s
walk_work settings (Map items selector processor) entry s =
    walk_items (walk_elements settings (Map items selector processor) entry selector processor s) (found items s)

-- what needs no effective input, by the state's type: a result that is a literal, given by the task, or the list of
-- what stands at the branches' ends
abbrev pub walk_settled : Shape → Settings → Kind → StateShapes → List Walked
walk_settled gives settings (Pass None) entry = []
walk_settled gives settings (Pass (Some t)) entry = walk_result settings (Pass (Some t)) entry.input (literal t)
walk_settled gives settings (Task resource) entry = walk_result settings (Task resource) entry.input gives
walk_settled gives settings (Choice rules default) entry = []
walk_settled gives settings (Wait delay) entry = []
walk_settled gives settings Succeed entry = []
walk_settled gives settings (Fail error cause) entry = []
walk_settled gives settings (Parallel branches) entry =
    walk_result settings (Parallel branches) entry.input (ArrayShape (as_first_elements entry.branches) Never)
walk_settled gives settings (Map items selector processor) entry = []

-- The walk through a state with these shapes, for what its task gives: nothing where no tree has its input.
abbrev pub walk : Shape → Settings → Kind → StateShapes → List Walked
walk gives settings kind entry =
    if inhabited entry.input
    then walk_then (walk_work settings kind entry) (effective_flow settings entry.input)
    ++ (walk_settled gives settings kind entry ++ walk_catchers entry.input settings.catchers)
    else []

-- What stands at the destinations of a state's edges: the inputs of states by their names, the state's output, the
-- scope's end, what its task takes. A comparison is passed over where nothing stands.
pub record DestinationShapes : Type 0 where
  pub inputs : StateName → Option Shape
  pub output : Shape
  pub end : Option Shape
  pub takes : Shape

abbrev pub stands_at : DestinationShapes → Destination → Option Shape
stands_at shapes (ToInput n) = shapes.inputs n
stands_at shapes ToOutput = Some shapes.output
stands_at shapes ToEnd = shapes.end
stands_at shapes ToTask = Some shapes.takes

-- the rule that is broken at a step, if any
abbrev pub breaches_at : DestinationShapes → Walked → List Breach
breaches_at shapes (Flows edge) =
    breach_unless_sub edge.field edge.fault edge.flowing (stands_at shapes edge.destination)
breaches_at shapes (Breaks breach) = breach ∷ []

-- the rules that are broken along a walk
abbrev pub breaches_along : DestinationShapes → List Walked → List Breach
breaches_along shapes [] = []
breaches_along shapes (step ∷ steps) = breaches_at shapes step ++ breaches_along shapes steps

-- what stands at the destinations of the edges of a state in those surroundings
abbrev pub destination_shapes : Surroundings → DestinationShapes
destination_shapes around =
    record {
      inputs = around.inputs;
      output = around.entry.output;
      end = around.end;
      takes = takes_of around.declared around.name;
    }
