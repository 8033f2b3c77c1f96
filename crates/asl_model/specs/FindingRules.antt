-- The rules of a certificate, one by one, and what breaks each, whatever other rules are broken: a comparison and a
-- path are broken by a tree that shows it. The rules are the profile's own; the shapes are those of ShapeFlow. The list
-- of all findings that a checker computes is in Finding: each of them is broken here, and what is broken here is listed
-- there, with some tree.
use Rattle.std.specs.Prelude.{◌≡◌, ℕ, zero, suc, List, Bool, IsTrue, IsFalse, Option}
use Rattle.std.specs.Prelude.{Some, None, Ok, Err, Contains, codes, ◌↔◌}
use Rattle.asl_model.specs.Names.{StateName, FieldName, Bytes}
use Rattle.asl_model.specs.Path.{Segment}
use Rattle.asl_model.specs.Tree.{Tree}
use Rattle.asl_model.specs.Intrinsic.{Reference, InInput, ItemIndex, InItem, Call}
use Rattle.asl_model.specs.Template.{Template, FromPath, FromCall, ArrayTemplate, ObjectTemplate}
use Rattle.asl_model.specs.Template.{Templates, AndTemplate, FieldTemplates, AndFieldTemplate}
use Rattle.asl_model.specs.Test.{Test, And, Or, Not, Compare, StringMatches, IsOfKind, Tests, AndTest, Comparison}
use Rattle.asl_model.specs.Test.{Operand, AtPath, PatternPart, ValueKind, Rule}
use Rattle.asl_model.specs.Machine.{Catcher, Settings, Delay, SecondsPath, TimestampPath, Scope, States}
use Rattle.asl_model.specs.Machine.{AndState, State, StateOf, Kind, Pass, Task, Choice, Wait, Succeed}
use Rattle.asl_model.specs.Machine.{Parallel, Map, Scopes, AndScope, start_of, states_of}
use Rattle.asl_model.specs.Shape.{Shape, Never, ArrayShape, Shapes, inhabited}
use Rattle.asl_model.specs.Examples.{IsOutside}
use Rattle.asl_model.specs.ShapeFlow.{is_integer_shape, is_string_shape}
use Rattle.asl_model.specs.ShapeFlow.{look, put, literal, call_shape}
use Rattle.asl_model.specs.ShapeFlow.{is_array_shape, rule_shape, is_settled, through_path}
use Rattle.asl_model.specs.ShapeFlow.{through_template, through_placing, WithResult, WithInput, leaving, leave}
use Rattle.asl_model.specs.Missing.{IsMissing}
use Rattle.asl_model.specs.Certificate.{TaskShapes, Declared, StateShapes, Certificate, HasEntry, under}
use Rattle.asl_model.specs.Certificate.{certified, branch_end, item_end, takes_of, gives_of}
use Rattle.asl_model.specs.Finding.{FindingFault, NotCertified, NotAState, TaskUndeclared, TaskUnknown, StartInput}
use Rattle.asl_model.specs.Finding.{PathMayBeMissing, WrongKind, ResultMayNotFit, IntrinsicMayFail, NoDefault}
use Rattle.asl_model.specs.Finding.{PayloadNotTaken, OutputNotCertified, NextInput, ScopeOutput, BranchInput}
use Rattle.asl_model.specs.Finding.{CatchInput, Finding, Surroundings, effective_flow, as_first_elements}
use Rattle.asl_model.specs.Finding.{array_parts, element_shape, item_flow, map_result, error_output_shape, error_placed_shape}

-- ---- the states of a machine

-- a state of that name is one of these
pub data IsAmong (n : StateName) (state : State) : States → Type 0 where
  state_is_first : {others : States} → IsAmong n state (AndState n state others)
  state_is_later : {m : StateName} {other : State} {others : States} → IsAmong n state others
      → IsAmong n state (AndState m other others)

-- the branch of that number
pub data IsBranch (branch : Scope) : ℕ → Scopes → Type 0 where
  branch_is_first : {others : Scopes} → IsBranch branch zero (AndScope branch others)
  branch_is_later : {i : ℕ} {other : Scope} {others : Scopes} → IsBranch branch i others
      → IsBranch branch (suc i) (AndScope other others)

-- The scopes of a machine, each with what is certified of its end: the machine itself with the certificate's output, a
-- branch and a processor with what the entry of their state says, if it says something. Where a name stands twice in a
-- scope, each of the two states counts here; a run looks a state up by its name and finds the first (`IsScopeOf`).
pub data HasScope (machine : Scope) (certificate : Certificate) : Scope → Option Shape → Type 0 where
  has_itself : HasScope machine certificate machine (Some certificate.output)
  has_branch : {scope branch : Scope} {end : Option Shape} {n : StateName} {settings : Settings} {branches : Scopes}
      {i : ℕ}
      → HasScope machine certificate scope end → IsAmong n (StateOf settings (Parallel branches)) (states_of scope)
      → IsBranch branch i branches → HasScope machine certificate branch (branch_end i (certified certificate n))
  has_processor : {scope processor : Scope} {end : Option Shape} {n : StateName} {settings : Settings}
      {items : List Segment} {selector : Option Template}
      → HasScope machine certificate scope end
      → IsAmong n (StateOf settings (Map items selector processor)) (states_of scope)
      → HasScope machine certificate processor (item_end (certified certificate n))

-- the machine has a state of that name with those settings and of that type, in a scope with that end
pub record HasState (machine : Scope) (certificate : Certificate) (n : StateName) (settings : Settings) (kind : Kind)
    (end : Option Shape) : Type 0 where
  pub scope : Scope
  pub has_scope : HasScope machine certificate scope end
  pub among : IsAmong n (StateOf settings kind) (states_of scope)

-- what flows to a state of that name is compared with that: the input of its entry; and where no state has the name,
-- Never, since what is no state takes no tree
pub data IsCompared (machine : Scope) (certificate : Certificate) (n : StateName) : Shape → Type 0 where
  compared_with_entry : {entry : StateShapes} → certified certificate n ≡ Some entry
      → IsCompared machine certificate n entry.input
  compared_with_never : certified certificate n ≡ None
      → ((settings : Settings) (kind : Kind) (end : Option Shape) → HasState machine certificate n settings kind end
      → ⊥)
      → IsCompared machine certificate n Never

-- The surroundings of a state of the machine with those settings and of that type: its name, the end of its scope, its
-- entry, what is declared, and for each state what flows to it is compared with.
pub record IsSurrounded (machine : Scope) (declared : Declared) (certificate : Certificate) (settings : Settings)
    (kind : Kind) (around : Surroundings) : Type 0 where
  pub state : HasState machine certificate around.name settings kind around.end
  pub entry : certified certificate around.name ≡ Some around.entry
  pub tasks : around.declared ≡ declared
  pub inputs : (n : StateName) (expected : Shape)
      → around.inputs n ≡ Some expected ↔ IsCompared machine certificate n expected

-- ---- what flows through a state

-- the shape of the effective input, where `InputPath` and `Parameters` leave one
abbrev pub IsEffective : Surroundings → Settings → Shape → Type 0
IsEffective around settings s = effective_flow settings around.entry.input ≡ Ok s

-- where an output goes: to the state that a field names, or to the end of the scope, as a field says
pub data Target : Type 0 where
  ToState : FieldName → StateName → Target
  ToEnd : FieldName → Target

-- by `Next`, or `End`
abbrev pub next_target : Option StateName → Target
next_target None = ToEnd (codes "End")
next_target (Some next) = ToState (codes "Next") next

-- What a state makes of an input of its entry's shape, and where that goes: the result of a Pass, a Task, a Parallel or
-- a Map; what each rule of a Choice lets through, and `Default`; the effective input of a Wait or a Succeed.
pub data Makes (around : Surroundings) (settings : Settings) : Kind → Shape → Target → Type 0 where
  makes_literal : {t : Tree} → Makes around settings (Pass (Some t)) (literal t) (next_target settings.next)
  makes_what_it_takes : {s : Shape} → IsEffective around settings s
      → Makes around settings (Pass None) s (next_target settings.next)
  makes_answer : {resource : Bytes}
      → Makes around settings (Task resource) (gives_of around.declared around.name) (next_target settings.next)
  lets_through : {rules : List Rule} {default : Option StateName} {rule : Rule} {s u : Shape}
      → IsEffective around settings s → Contains rules rule → rule_shape rule.test s ≡ Ok u
      → Makes around settings (Choice rules default) u (ToState (codes "Choices") rule.next)
  lets_default : {rules : List Rule} {next : StateName} {s : Shape} → IsEffective around settings s
      → Makes around settings (Choice rules (Some next)) s (ToState (codes "Default") next)
  lets_wait : {delay : Delay} {s : Shape} → IsEffective around settings s
      → Makes around settings (Wait delay) s (next_target settings.next)
  lets_succeed : {s : Shape} → IsEffective around settings s
      → Makes around settings Succeed s (ToEnd (codes "Type"))
  makes_outputs : {branches : Scopes}
      → Makes around settings (Parallel branches) (ArrayShape (as_first_elements around.entry.branches) Never)
      (next_target settings.next)
  makes_items : {items : List Segment} {selector : Option Template} {processor : Scope} {s named item : Shape}
      {first : Shapes} {rest : Shape}
      → IsEffective around settings s → look items s ≡ Ok named → array_parts named ≡ Some (first, rest)
      → around.entry.item ≡ Some item
      → Makes around settings (Map items selector processor) (map_result item first rest)
      (next_target settings.next)

-- what `ResultSelector` leaves of a result, where it has trees
pub record IsSelected (settings : Settings) (kind : Kind) (made selected : Shape) : Type 0 where
  pub result : leaving kind ≡ WithResult
  pub some : IsTrue (inhabited made)
  pub selects : through_template (codes "ResultSelector") settings.result_selector made ≡ Ok selected

-- what `OutputPath` is applied to: a result as selected and placed in the raw input, or the effective input itself
pub data GoesOut (settings : Settings) (kind : Kind) (raw made : Shape) : Shape → Type 0 where
  goes_out_placed : {selected placed : Shape} → IsSelected settings kind made selected
      → through_placing (codes "ResultPath") settings.result_path raw selected ≡ Ok placed
      → GoesOut settings kind raw made placed
  goes_out_as_it_is : leaving kind ≡ WithInput → GoesOut settings kind raw made made

-- an output of that shape leaves the state, and where it goes
pub record Leaves (around : Surroundings) (settings : Settings) (kind : Kind) (output : Shape) (target : Target) :
    Type 0 where
  pub made : Shape
  pub makes : Makes around settings kind made target
  pub comes_out : leave settings kind around.entry.input made ≡ Ok output

-- the path in that field goes into the effective input, and what it names has to pass the test
pub data Wants : Kind → FieldName → List Segment → (Shape → Bool) → Type 0 where
  wants_number : {path : List Segment} → Wants (Wait (SecondsPath path)) (codes "SecondsPath") path is_integer_shape
  wants_text : {path : List Segment} → Wants (Wait (TimestampPath path)) (codes "TimestampPath") path is_string_shape
  wants_list : {items : List Segment} {selector : Option Template} {processor : Scope}
      → Wants (Map items selector processor) (codes "ItemsPath") items is_array_shape

-- the path in that field is looked up in that shape
pub data LooksUp (around : Surroundings) (settings : Settings) (kind : Kind) : FieldName → List Segment → Shape → Type 0
  where
    looks_up_input : {path : List Segment} → settings.input_path ≡ Some path
        → LooksUp around settings kind (codes "InputPath") path around.entry.input
    looks_up_wanted : {field : FieldName} {path : List Segment} {test : Shape → Bool} {s : Shape}
        → IsEffective around settings s → Wants kind field path test → LooksUp around settings kind field path s
    looks_up_output : {path : List Segment} {made s : Shape} {target : Target}
        → Makes around settings kind made target → GoesOut settings kind around.entry.input made s
        → settings.output_path ≡ Some path → LooksUp around settings kind (codes "OutputPath") path s

-- the template in that field is evaluated on trees of that shape, with an item of the other
pub data Evaluates (around : Surroundings) (settings : Settings) : Kind → FieldName → Template → Shape → Option Shape →
    Type 0 where
  evaluates_parameters : {kind : Kind} {template : Template} {s : Shape}
      → through_path (codes "InputPath") settings.input_path around.entry.input ≡ Ok s
      → settings.parameters ≡ Some template
      → Evaluates around settings kind (codes "Parameters") template s None
  evaluates_item_selector : {items : List Segment} {selector : Template} {processor : Scope} {s named : Shape}
      {first : Shapes} {rest : Shape}
      → IsEffective around settings s → look items s ≡ Ok named → array_parts named ≡ Some (first, rest)
      → IsTrue (inhabited (element_shape first rest))
      → Evaluates around settings (Map items (Some selector) processor) (codes "ItemSelector") selector s
      (Some (element_shape first rest))
  evaluates_result_selector : {kind : Kind} {template : Template} {made : Shape} {target : Target}
      → Makes around settings kind made target → leaving kind ≡ WithResult
      → settings.result_selector ≡ Some template
      → Evaluates around settings kind (codes "ResultSelector") template made None

mutual
  -- a part of a template: itself, or one inside its elements or fields
  pub data IsPart (part : Template) : Template → Type 0 where
    is_whole : IsPart part part
    is_in_array : {elements : Templates} → IsAmongElements part elements → IsPart part (ArrayTemplate elements)
    is_in_object : {fields : FieldTemplates} → IsAmongFields part fields → IsPart part (ObjectTemplate fields)

  -- so of one of the elements
  pub data IsAmongElements (part : Template) : Templates → Type 0 where
    is_in_element : {template : Template} {others : Templates} → IsPart part template
        → IsAmongElements part (AndTemplate template others)
    is_in_later : {template : Template} {others : Templates} → IsAmongElements part others
        → IsAmongElements part (AndTemplate template others)

  -- so of one of the fields
  pub data IsAmongFields (part : Template) : FieldTemplates → Type 0 where
    is_in_field : {m : FieldName} {template : Template} {others : FieldTemplates} → IsPart part template
        → IsAmongFields part (AndFieldTemplate m template others)
    is_in_later_field : {m : FieldName} {template : Template} {others : FieldTemplates} → IsAmongFields part others
        → IsAmongFields part (AndFieldTemplate m template others)

-- the reference goes by that path into trees of that shape: those of the template's input, or of the item
pub data GoesInto (input : Shape) (item : Option Shape) : Reference → List Segment → Shape → Type 0 where
  goes_into_input : {path : List Segment} → GoesInto input item (InInput path) path input
  goes_into_item : {path : List Segment} {s : Shape} → item ≡ Some s → GoesInto input item (InItem path) path s

-- the part of a template may fail on trees of that shape with an item of the other: a call, or a reference to an item
-- where there is none
pub data IsUnsure (input : Shape) (item : Option Shape) : Template → Type 0 where
  call_is_unsure : {call : Call} → call_shape call input item ≡ None → IsUnsure input item (FromCall call)
  item_is_unsure : {path : List Segment} → item ≡ None → IsUnsure input item (FromPath (InItem path))
  index_is_unsure : item ≡ None → IsUnsure input item (FromPath ItemIndex)

-- A test, evaluated on trees of that shape, looks that path up in trees of the other: those of the first, but in the
-- later tests of an `And` those that the tests before let through.
pub data LooksUpIn : Test → Shape → List Segment → Shape → Type 0 where
  in_comparison : {path : List Segment} {comparison : Comparison} {operand : Operand} {s : Shape}
      → LooksUpIn (Compare path comparison operand) s path s
  in_operand : {path other : List Segment} {comparison : Comparison} {s : Shape}
      → LooksUpIn (Compare path comparison (AtPath other)) s other s
  in_string_matches : {path : List Segment} {pattern : List PatternPart} {s : Shape}
      → LooksUpIn (StringMatches path pattern) s path s
  in_kind_test : {path : List Segment} {kind : ValueKind} {expected : Bool} {s : Shape}
      → LooksUpIn (IsOfKind path kind expected) s path s
  in_not : {test : Test} {s u : Shape} {path : List Segment} → LooksUpIn test s path u → LooksUpIn (Not test) s path u
  in_first_of_or : {test : Test} {others : Tests} {s u : Shape} {path : List Segment} → LooksUpIn test s path u
      → LooksUpIn (Or (AndTest test others)) s path u
  in_later_of_or : {test : Test} {others : Tests} {s u : Shape} {path : List Segment} → LooksUpIn (Or others) s path u
      → LooksUpIn (Or (AndTest test others)) s path u
  in_first_of_and : {test : Test} {others : Tests} {s u : Shape} {path : List Segment} → LooksUpIn test s path u
      → LooksUpIn (And (AndTest test others)) s path u
  in_later_of_and : {test : Test} {others : Tests} {s narrowed u : Shape} {path : List Segment}
      → rule_shape test s ≡ Ok narrowed → IsTrue (inhabited narrowed) → LooksUpIn (And others) narrowed path u
      → LooksUpIn (And (AndTest test others)) s path u

-- a tree of that shape is placed in the raw input, at the path in that field: a result, or a catcher's error output
pub data Puts (around : Surroundings) (settings : Settings) (kind : Kind) : FieldName → List Segment → Shape →
    Type 0 where
  puts_result : {path : List Segment} {made selected : Shape} {target : Target}
      → Makes around settings kind made target → IsSelected settings kind made selected
      → settings.result_path ≡ Some path → Puts around settings kind (codes "ResultPath") path selected
  puts_error_output : {catcher : Catcher} {path : List Segment} → Contains settings.catchers catcher
      → catcher.result_path ≡ Some path → Puts around settings kind (codes "Catch") path error_output_shape

-- a child is started in that scope with an input of that shape, as the field says
pub data Starts (around : Surroundings) (settings : Settings) : Kind → FieldName → Scope → Shape → Type 0 where
  starts_branch : {branches : Scopes} {branch : Scope} {i : ℕ} {s : Shape} → IsEffective around settings s
      → IsBranch branch i branches → Starts around settings (Parallel branches) (codes "Branches") branch s
  starts_item : {items : List Segment} {selector : Option Template} {processor : Scope} {s named input : Shape}
      {first : Shapes} {rest : Shape}
      → IsEffective around settings s → look items s ≡ Ok named → array_parts named ≡ Some (first, rest)
      → item_flow selector s (element_shape first rest) ≡ Ok input
      → Starts around settings (Map items selector processor) (codes "ItemProcessor") processor input

-- ---- the rules on what flows

-- A rule is broken in a state whose entry has an input with trees: the field, the fault, and the tree that shows it,
-- where one does.
pub data BreaksFlow (around : Surroundings) (settings : Settings) (kind : Kind) : FieldName → FindingFault →
    Option Tree → Type 0 where
  -- a path names nothing in a tree that it is looked up in: in a field, in a template, in a rule of a Choice
  path_may_be_missing : {field : FieldName} {path : List Segment} {s : Shape} {t : Tree}
      → LooksUp around settings kind field path s → IsMissing path s t
      → BreaksFlow around settings kind field PathMayBeMissing (Some t)
  template_may_be_missing : {field : FieldName} {template : Template} {input : Shape} {item : Option Shape}
      {reference : Reference} {path : List Segment} {s : Shape} {t : Tree}
      → Evaluates around settings kind field template input item → IsTrue (inhabited input)
      → IsPart (FromPath reference) template → GoesInto input item reference path s → IsMissing path s t
      → BreaksFlow around settings kind field PathMayBeMissing (Some t)
  rule_may_be_missing : {rules : List Rule} {default : Option StateName} {rule : Rule} {s u : Shape}
      {path : List Segment} {t : Tree}
      → kind ≡ Choice rules default → IsEffective around settings s → Contains rules rule
      → LooksUpIn rule.test s path u → IsMissing path u t
      → BreaksFlow around settings kind (codes "Choices") PathMayBeMissing (Some t)
  -- what a path names isn't of the kind that its field wants
  may_be_of_wrong_kind : {field : FieldName} {path : List Segment} {test : Shape → Bool} {s t : Shape}
      → IsEffective around settings s → Wants kind field path test → look path s ≡ Ok t → IsFalse (test t)
      → BreaksFlow around settings kind field WrongKind None
  -- what is placed may not fit
  may_not_fit : {field : FieldName} {path : List Segment} {s : Shape} {at : ℕ}
      → Puts around settings kind field path s → put path s around.entry.input ≡ Err at
      → BreaksFlow around settings kind field ResultMayNotFit None
  -- a call in a template may fail
  may_fail : {field : FieldName} {template part : Template} {input : Shape} {item : Option Shape}
      → Evaluates around settings kind field template input item → IsTrue (inhabited input)
      → IsPart part template → IsUnsure input item part
      → BreaksFlow around settings kind field IntrinsicMayFail None
  -- a Choice has no `Default`, and no two of its rules stand for one
  has_no_default : {rules : List Rule} {s : Shape} → kind ≡ Choice rules None → IsEffective around settings s
      → IsFalse (is_settled rules s)
      → BreaksFlow around settings kind (codes "Default") NoDefault None
  -- the payload isn't inside what the task takes
  payload_is_not_taken : {resource : Bytes} {s : Shape} {t : Tree} → kind ≡ Task resource
      → IsEffective around settings s → IsOutside s (takes_of around.declared around.name) t
      → BreaksFlow around settings kind (codes "Parameters") PayloadNotTaken (Some t)
  -- the output isn't inside the state's own
  output_is_not_certified : {output : Shape} {target : Target} {t : Tree}
      → Leaves around settings kind output target → IsOutside output around.entry.output t
      → BreaksFlow around settings kind (codes "OutputPath") OutputNotCertified (Some t)
  -- the output isn't inside the next state's input
  is_no_next_input : {output expected : Shape} {field : FieldName} {next : StateName} {t : Tree}
      → Leaves around settings kind output (ToState field next) → around.inputs next ≡ Some expected
      → IsOutside output expected t
      → BreaksFlow around settings kind field NextInput (Some t)
  -- the output isn't inside what is certified of the scope's end
  is_no_scope_output : {output expected : Shape} {field : FieldName} {t : Tree}
      → Leaves around settings kind output (ToEnd field) → around.end ≡ Some expected → IsOutside output expected t
      → BreaksFlow around settings kind field ScopeOutput (Some t)
  -- a child's input isn't inside its start state's
  is_no_branch_input : {field : FieldName} {child : Scope} {s expected : Shape} {t : Tree}
      → Starts around settings kind field child s → around.inputs (start_of child) ≡ Some expected
      → IsOutside s expected t
      → BreaksFlow around settings kind field BranchInput (Some t)
  -- what a catcher hands on isn't inside the next state's input
  is_no_catch_input : {catcher : Catcher} {s expected : Shape} {t : Tree} → Contains settings.catchers catcher
      → error_placed_shape catcher.result_path around.entry.input ≡ Ok s → around.inputs catcher.next ≡ Some expected
      → IsOutside s expected t
      → BreaksFlow around settings kind (codes "Catch") CatchInput (Some t)

-- ---- all rules

-- The rule with a finding's fault is broken at its state and field, for a machine, declared shapes and a certificate.
-- There is no other rule.
pub data IsBroken (machine : Scope) (declared : Declared) (certificate : Certificate) : Finding → Type 0 where
  -- a state has no entry of the right form
  is_not_certified : {n : StateName} {settings : Settings} {kind : Kind} {end : Option Shape}
      → HasState machine certificate n settings kind end → (HasEntry certificate n kind → ⊥)
      → IsBroken machine declared certificate (record { state = n; field = codes "states"; fault = NotCertified; example = None })
  -- an entry names no state
  is_not_a_state : {entry : StateName × StateShapes} → Contains certificate.states entry
      → ((settings : Settings) (kind : Kind) (end : Option Shape)
      → HasState machine certificate entry.0 settings kind end → ⊥)
      → IsBroken machine declared certificate (record { state = entry.0; field = codes "states"; fault = NotAState; example = None })
  -- a Task isn't declared
  is_undeclared : {n : StateName} {resource : Bytes} {settings : Settings} {end : Option Shape}
      → HasState machine certificate n settings (Task resource) end → under n declared.tasks ≡ None
      → IsBroken machine declared certificate (record { state = n; field = codes "Resource"; fault = TaskUndeclared; example = None })
  -- a declared task names no Task state
  is_unknown : {task : StateName × TaskShapes} → Contains declared.tasks task
      → ((settings : Settings) (resource : Bytes) (end : Option Shape)
      → HasState machine certificate task.0 settings (Task resource) end → ⊥)
      → IsBroken machine declared certificate (record { state = task.0; field = codes "tasks"; fault = TaskUnknown; example = None })
  -- the declared input isn't inside the start state's
  is_no_start_input : {expected : Shape} {t : Tree} → IsCompared machine certificate (start_of machine) expected
      → IsOutside declared.input expected t
      → IsBroken machine declared certificate
      (record { state = start_of machine; field = codes "StartAt"; fault = StartInput; example = Some t })
  -- a rule on what flows is broken in a state whose entry has an input with trees
  is_broken_in_flow : {around : Surroundings} {settings : Settings} {kind : Kind} {field : FieldName}
      {fault : FindingFault} {example : Option Tree}
      → IsSurrounded machine declared certificate settings kind around → IsTrue (inhabited around.entry.input)
      → BreaksFlow around settings kind field fault example
      → IsBroken machine declared certificate
      (record { state = around.name; field = field; fault = fault; example = example })
