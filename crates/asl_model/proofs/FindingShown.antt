-- What the list of findings tells, rule by rule, with the example that it computes: the answers of `outside`, `found` and
-- `rule_shape` where FindingRules names the trees.
use Rattle.std.proofs.Common.{◌≡◌, List, IsTrue, IsFalse, Bool, Contains, Option, Some, None, Ok, Err, codes}
use Rattle.std.specs.Prelude.{ℕ}
use Rattle.asl_model.specs.Names.{StateName, FieldName, Bytes}
use Rattle.asl_model.specs.Path.{Segment}
use Rattle.asl_model.specs.Tree.{Tree}
use Rattle.asl_model.specs.Intrinsic.{Reference, Call}
use Rattle.asl_model.specs.Template.{Template, FromPath, FromCall, ArrayTemplate, ObjectTemplate, Templates, AndTemplate, FieldTemplates, AndFieldTemplate}
use Rattle.asl_model.specs.Test.{Rule}
use Rattle.asl_model.specs.Machine.{Catcher, Settings, Scope, Kind, Task, Choice, start_of}
use Rattle.asl_model.specs.Shape.{Shape, inhabited}
use Rattle.asl_model.specs.Examples.{outside}
use Rattle.asl_model.specs.ShapeFlow.{DoubtfulPath, Doubt, MayBeMissing, MayFail, look, found, put, reference_shape, call_shape, rule_shape, is_settled}
use Rattle.asl_model.specs.Missing.{counterexample}
use Rattle.asl_model.specs.Certificate.{TaskShapes, Declared, StateShapes, Certificate, HasEntry, under, takes_of}
use Rattle.asl_model.specs.Finding.{FindingFault, NotCertified, NotAState, TaskUndeclared, TaskUnknown, StartInput, PathMayBeMissing, WrongKind, ResultMayNotFit, IntrinsicMayFail, NoDefault, PayloadNotTaken, OutputNotCertified, NextInput, ScopeOutput, BranchInput, CatchInput, Finding, Surroundings, error_placed_shape}
use Rattle.asl_model.specs.FindingRules.{HasState, IsCompared, IsSurrounded, IsEffective, Target, ToState, ToEnd, Leaves, Wants, LooksUp, Evaluates, Puts, Starts}

mutual
  -- a template may have no value on trees of that shape with an item of the other: at some place a path is doubtful, or
  -- a call may fail
  pub data HasDoubt (input : Shape) (item : Option Shape) : Template → Doubt → Type 0 where
    path_is_doubtful : {reference : Reference} {doubt : Doubt} → reference_shape reference input item ≡ Err doubt
        → HasDoubt input item (FromPath reference) doubt
    call_is_doubtful : {call : Call} → call_shape call input item ≡ None → HasDoubt input item (FromCall call) MayFail
    doubt_in_array : {elements : Templates} {doubt : Doubt} → HaveDoubt input item elements doubt
        → HasDoubt input item (ArrayTemplate elements) doubt
    doubt_in_object : {fields : FieldTemplates} {doubt : Doubt} → HasFieldDoubt input item fields doubt
        → HasDoubt input item (ObjectTemplate fields) doubt

  -- so for one of the elements
  pub data HaveDoubt (input : Shape) (item : Option Shape) : Templates → Doubt → Type 0 where
    doubt_in_element : {template : Template} {others : Templates} {doubt : Doubt} → HasDoubt input item template doubt
        → HaveDoubt input item (AndTemplate template others) doubt
    doubt_in_later : {template : Template} {others : Templates} {doubt : Doubt} → HaveDoubt input item others doubt
        → HaveDoubt input item (AndTemplate template others) doubt

  -- so for one of the fields
  pub data HasFieldDoubt (input : Shape) (item : Option Shape) : FieldTemplates → Doubt → Type 0 where
    doubt_in_field : {m : FieldName} {template : Template} {others : FieldTemplates} {doubt : Doubt}
        → HasDoubt input item template doubt → HasFieldDoubt input item (AndFieldTemplate m template others) doubt
    doubt_in_later_field : {m : FieldName} {template : Template} {others : FieldTemplates} {doubt : Doubt}
        → HasFieldDoubt input item others doubt → HasFieldDoubt input item (AndFieldTemplate m template others) doubt

-- a rule on what flows is told in a state whose entry has an input with trees: the field, the fault, and the example
pub data TellsFlow (around : Surroundings) (settings : Settings) (kind : Kind) : FieldName → FindingFault →
    Option Tree → Type 0 where
  -- a path is doubtful: in a field, in a template, in a rule of a Choice
  tells_path : {field : FieldName} {path : List Segment} {s : Shape} {doubtful : DoubtfulPath}
      → LooksUp around settings kind field path s → found path s ≡ Err doubtful
      → TellsFlow around settings kind field PathMayBeMissing (counterexample doubtful)
  tells_template : {field : FieldName} {template : Template} {input : Shape} {item : Option Shape}
      {doubtful : DoubtfulPath}
      → Evaluates around settings kind field template input item → IsTrue (inhabited input)
      → HasDoubt input item template (MayBeMissing doubtful)
      → TellsFlow around settings kind field PathMayBeMissing (counterexample doubtful)
  tells_rule : {rules : List Rule} {default : Option StateName} {rule : Rule} {s : Shape} {doubtful : DoubtfulPath}
      → kind ≡ Choice rules default → IsEffective around settings s → Contains rules rule
      → rule_shape rule.test s ≡ Err doubtful
      → TellsFlow around settings kind (codes "Choices") PathMayBeMissing (counterexample doubtful)
  -- what a path names isn't of the kind that its field wants
  tells_kind : {field : FieldName} {path : List Segment} {test : Shape → Bool} {s t : Shape}
      → IsEffective around settings s → Wants kind field path test → look path s ≡ Ok t → IsFalse (test t)
      → TellsFlow around settings kind field WrongKind None
  -- what is placed may not fit
  tells_misfit : {field : FieldName} {path : List Segment} {s : Shape} {at : ℕ}
      → Puts around settings kind field path s → put path s around.entry.input ≡ Err at
      → TellsFlow around settings kind field ResultMayNotFit None
  -- a call in a template may fail
  tells_failure : {field : FieldName} {template : Template} {input : Shape} {item : Option Shape}
      → Evaluates around settings kind field template input item → IsTrue (inhabited input)
      → HasDoubt input item template MayFail
      → TellsFlow around settings kind field IntrinsicMayFail None
  -- a Choice has no `Default`, and no two of its rules stand for one
  tells_no_default : {rules : List Rule} {s : Shape} → kind ≡ Choice rules None → IsEffective around settings s
      → IsFalse (is_settled rules s)
      → TellsFlow around settings kind (codes "Default") NoDefault None
  -- the payload isn't inside what the task takes
  tells_payload : {resource : Bytes} {s : Shape} {t : Tree} → kind ≡ Task resource → IsEffective around settings s
      → outside s (takes_of around.declared around.name) ≡ Some t
      → TellsFlow around settings kind (codes "Parameters") PayloadNotTaken (Some t)
  -- the output isn't inside the state's own
  tells_output : {output : Shape} {target : Target} {t : Tree} → Leaves around settings kind output target
      → outside output around.entry.output ≡ Some t
      → TellsFlow around settings kind (codes "OutputPath") OutputNotCertified (Some t)
  -- the output isn't inside the next state's input
  tells_next : {output expected : Shape} {field : FieldName} {next : StateName} {t : Tree}
      → Leaves around settings kind output (ToState field next) → around.inputs next ≡ Some expected
      → outside output expected ≡ Some t
      → TellsFlow around settings kind field NextInput (Some t)
  -- the output isn't inside what is certified of the scope's end
  tells_end : {output expected : Shape} {field : FieldName} {t : Tree}
      → Leaves around settings kind output (ToEnd field) → around.end ≡ Some expected
      → outside output expected ≡ Some t
      → TellsFlow around settings kind field ScopeOutput (Some t)
  -- a child's input isn't inside its start state's
  tells_child : {field : FieldName} {child : Scope} {s expected : Shape} {t : Tree}
      → Starts around settings kind field child s → around.inputs (start_of child) ≡ Some expected
      → outside s expected ≡ Some t
      → TellsFlow around settings kind field BranchInput (Some t)
  -- what a catcher hands on isn't inside the next state's input
  tells_catch : {catcher : Catcher} {s expected : Shape} {t : Tree} → Contains settings.catchers catcher
      → error_placed_shape catcher.result_path around.entry.input ≡ Ok s → around.inputs catcher.next ≡ Some expected
      → outside s expected ≡ Some t
      → TellsFlow around settings kind (codes "Catch") CatchInput (Some t)

-- The finding is told for a machine, declared shapes and a certificate.
pub data IsTold (machine : Scope) (declared : Declared) (certificate : Certificate) : Finding → Type 0 where
  -- a state has no entry of the right form
  told_uncertified : {n : StateName} {settings : Settings} {kind : Kind} {end : Option Shape}
      → HasState machine certificate n settings kind end → (HasEntry certificate n kind → ⊥)
      → IsTold machine declared certificate
      (record { state = n; field = codes "states"; fault = NotCertified; example = None })
  -- an entry names no state
  told_no_state : {entry : StateName × StateShapes} → Contains certificate.states entry
      → ((settings : Settings) (kind : Kind) (end : Option Shape)
      → HasState machine certificate entry.0 settings kind end → ⊥)
      → IsTold machine declared certificate
      (record { state = entry.0; field = codes "states"; fault = NotAState; example = None })
  -- a Task isn't declared
  told_undeclared : {n : StateName} {resource : Bytes} {settings : Settings} {end : Option Shape}
      → HasState machine certificate n settings (Task resource) end → under n declared.tasks ≡ None
      → IsTold machine declared certificate
      (record { state = n; field = codes "Resource"; fault = TaskUndeclared; example = None })
  -- a declared task names no Task state
  told_unknown : {task : StateName × TaskShapes} → Contains declared.tasks task
      → ((settings : Settings) (resource : Bytes) (end : Option Shape)
      → HasState machine certificate task.0 settings (Task resource) end → ⊥)
      → IsTold machine declared certificate
      (record { state = task.0; field = codes "tasks"; fault = TaskUnknown; example = None })
  -- the declared input isn't inside the start state's
  told_start : {expected : Shape} {t : Tree} → IsCompared machine certificate (start_of machine) expected
      → outside declared.input expected ≡ Some t
      → IsTold machine declared certificate
      (record { state = start_of machine; field = codes "StartAt"; fault = StartInput; example = Some t })
  -- a rule on what flows is told in a state whose entry has an input with trees
  told_flow : {around : Surroundings} {settings : Settings} {kind : Kind} {field : FieldName} {fault : FindingFault}
      {example : Option Tree}
      → IsSurrounded machine declared certificate settings kind around → IsTrue (inhabited around.entry.input)
      → TellsFlow around settings kind field fault example
      → IsTold machine declared certificate
      (record { state = around.name; field = field; fault = fault; example = example })
