-- Which steps a walk through a state has: the destinations of its edges and what is wrong there, and the rules that are
-- broken on the way to one.
use Rattle.std.proofs.Common.{ℕ, List, [], ◌∷◌, ◌++◌, map, Bool, true, false, codes, Option, Some, None, Result, Ok, Err, if◌then◌else◌}
use Rattle.std.specs.List.{AllByRecursion}
use Rattle.asl_model.specs.Certificate.{StateShapes}
use Rattle.asl_model.specs.Edges.{ToInput, ToOutput, ToEnd, ToTask, Walked, Breaks, flows_to, breaks_unless, onward, to_branches, to_child, to_end, to_next, walk, walk_catchers, walk_caught, walk_chosen, walk_default, walk_delay, walk_elements, walk_items, walk_items_result, walk_named, walk_result, walk_rule, walk_rules, walk_settled, walk_then, walk_work, with_elements_walked}
use Rattle.asl_model.specs.Finding.{FindingFault, BranchInput, CatchInput, IntrinsicMayFail, NextInput, NoDefault, OutputNotCertified, PayloadNotTaken, ResultMayNotFit, ScopeOutput, WrongKind, array_parts, as_first_elements, breach_of, effective_flow, element_shape, error_placed_shape, item_flow, map_result, missing_breach, plain_breach}
use Rattle.asl_model.specs.Machine.{Catcher, Delay, Seconds, SecondsPath, Timestamp, TimestampPath, Kind, Pass, Task, Choice, Wait, Succeed, Fail, Parallel, Map, Scope, Scopes, NoScopes, AndScope, Settings}
use Rattle.asl_model.specs.Shape.{Shape, Shapes, Never, ArrayShape, inhabited}
use Rattle.asl_model.specs.ShapeFlow.{Flow, FlowFault, MissingAt, FailsAt, MisfitAt, is_integer_shape, is_string_shape, is_settled, leave, literal, found, rule_shape, DoubtfulPath}
use Rattle.asl_model.specs.Template.{Template}
use Rattle.asl_model.specs.Test.{Rule}

-- ---- the steps of a walk

-- what is wrong where no path and no edge tells it
pub data IsPlain : FindingFault → Type 0 where
  plain_failure : IsPlain IntrinsicMayFail
  plain_misfit : IsPlain ResultMayNotFit
  plain_kind : IsPlain WrongKind
  plain_default : IsPlain NoDefault

-- a walk may have the step
pub data IsOfWalk : Walked → Type 0 where
  edge_to_output : {field : List ℕ} {s : Shape} → IsOfWalk (flows_to ToOutput field OutputNotCertified s)
  edge_to_next : {field n : List ℕ} {s : Shape} → IsOfWalk (flows_to (ToInput n) field NextInput s)
  edge_to_end : {field : List ℕ} {s : Shape} → IsOfWalk (flows_to ToEnd field ScopeOutput s)
  edge_to_child : {field n : List ℕ} {s : Shape} → IsOfWalk (flows_to (ToInput n) field BranchInput s)
  edge_to_caught : {field n : List ℕ} {s : Shape} → IsOfWalk (flows_to (ToInput n) field CatchInput s)
  edge_to_task : {field : List ℕ} {s : Shape} → IsOfWalk (flows_to ToTask field PayloadNotTaken s)
  path_breaks : {field : List ℕ} (doubtful : DoubtfulPath) → IsOfWalk (Breaks (missing_breach field doubtful))
  plain_breaks : {field : List ℕ} {fault : FindingFault} → IsPlain fault → IsOfWalk (Breaks (plain_breach field fault))

pub record AreOfWalk (steps : List Walked) : Type 0 where
  pub each : AllByRecursion IsOfWalk steps

none : AreOfWalk []
none = record { each = tt }

both : (xs ys : List Walked) → AreOfWalk xs → AreOfWalk ys → AreOfWalk (xs ++ ys)
both [] ys h k = k
both (x ∷ xs) ys h k = record { each = (h.each.0, (both xs ys (record { each = h.each.1 }) k).each) }

-- ---- the way of a shape

faults : (fs : List FlowFault) → AreOfWalk (map (λ fault. Breaks (breach_of fault)) fs)
faults [] = none
faults (MissingAt field doubtful ∷ fs) = record { each = (path_breaks doubtful, (faults fs).each) }
faults (FailsAt field ∷ fs) = record { each = (plain_breaks plain_failure, (faults fs).each) }
faults (MisfitAt field ∷ fs) = record { each = (plain_breaks plain_misfit, (faults fs).each) }

after : (go_on : Shape → List Walked) → ((s : Shape) → AreOfWalk (go_on s)) → (flow : Flow) → AreOfWalk (walk_then go_on flow)
after go_on on (Ok s) = on s
after go_on on (Err fs) = faults fs

next : (field name : List ℕ) (s : Shape) → AreOfWalk (to_next field name s)
next field name s = record { each = (edge_to_output, (edge_to_next, tt)) }

end : (field : List ℕ) (s : Shape) → AreOfWalk (to_end field s)
end field s = record { each = (edge_to_output, (edge_to_end, tt)) }

on : (o : Option (List ℕ)) (s : Shape) → AreOfWalk (onward o s)
on None s = end (codes "End") s
on (Some name) s = next (codes "Next") name s

result : (settings : Settings) (kind : Kind) (input s : Shape) → AreOfWalk (walk_result settings kind input s)
result settings kind input s = after (onward settings.next) (on settings.next) (leave settings kind input s)

chosen : (settings : Settings) (kind : Kind) (input : Shape) (field name : List ℕ) (s : Shape) → AreOfWalk (walk_chosen settings kind input field name s)
chosen settings kind input field name s = after (to_next field name) (next field name) (leave settings kind input s)

-- ---- the parts of a walk

unless : (holds : Bool) (field : List ℕ) (fault : FindingFault) → IsPlain fault → AreOfWalk (breaks_unless holds field fault)
unless true field fault plain = none
unless false field fault plain = record { each = (plain_breaks plain, tt) }

named : (field : List ℕ) (test : Shape → Bool) (r : Result Shape DoubtfulPath) → AreOfWalk (walk_named field test r)
named field test (Ok s) = unless (test s) field WrongKind plain_kind
named field test (Err doubtful) = record { each = (path_breaks doubtful, tt) }

delay : (d : Delay) (s : Shape) → AreOfWalk (walk_delay d s)
delay (Seconds n) s = none
delay (SecondsPath path) s = named (codes "SecondsPath") is_integer_shape (found path s)
delay (Timestamp t) s = none
delay (TimestampPath path) s = named (codes "TimestampPath") is_string_shape (found path s)

child : (field : List ℕ) (scope : Scope) (s : Shape) → AreOfWalk (to_child field scope s)
child field scope s = record { each = (edge_to_child, tt) }

branches : (scopes : Scopes) (s : Shape) → AreOfWalk (to_branches scopes s)
branches NoScopes s = none
branches (AndScope scope others) s = both (to_child (codes "Branches") scope s) (to_branches others s) (child (codes "Branches") scope s) (branches others s)

items_result : (settings : Settings) (kind : Kind) (input : Shape) (item : Option Shape) (elements : Shapes × Shape) → AreOfWalk (walk_items_result settings kind input item elements)
items_result settings kind input None elements = none
items_result settings kind input (Some item) elements = result settings kind input (map_result item elements.0 elements.1)

elements_walked : (settings : Settings) (kind : Kind) (entry : StateShapes) (selector : Option Template) (processor : Scope) (s : Shape) (elements : Shapes × Shape) → AreOfWalk (walk_elements settings kind entry selector processor s elements)
elements_walked settings kind entry selector processor s elements =
    both (walk_then (to_child (codes "ItemProcessor") processor) (item_flow selector s (element_shape elements.0 elements.1))) (walk_items_result settings kind entry.input entry.item elements)
    (after (to_child (codes "ItemProcessor") processor) (child (codes "ItemProcessor") processor) (item_flow selector s (element_shape elements.0 elements.1)))
    (items_result settings kind entry.input entry.item elements)

listed : (go_on : Shapes × Shape → List Walked) → ((elements : Shapes × Shape) → AreOfWalk (go_on elements)) → (o : Option (Shapes × Shape)) → AreOfWalk (with_elements_walked go_on o)
listed go_on h None = record { each = (plain_breaks plain_kind, tt) }
listed go_on h (Some elements) = h elements

items : (go_on : Shapes × Shape → List Walked) → ((elements : Shapes × Shape) → AreOfWalk (go_on elements)) → (r : Result Shape DoubtfulPath) → AreOfWalk (walk_items go_on r)
items go_on h (Ok s) = listed go_on h (array_parts s)
items go_on h (Err doubtful) = record { each = (path_breaks doubtful, tt) }

rule : (settings : Settings) (kind : Kind) (input : Shape) (name : List ℕ) (r : Result Shape DoubtfulPath) → AreOfWalk (walk_rule settings kind input name r)
rule settings kind input name (Err doubtful) = record { each = (path_breaks doubtful, tt) }
rule settings kind input name (Ok s) = chosen settings kind input (codes "Choices") name s

rules_walked : (settings : Settings) (kind : Kind) (input : Shape) (rs : List Rule) (s : Shape) → AreOfWalk (walk_rules settings kind input rs s)
rules_walked settings kind input [] s = none
rules_walked settings kind input (r ∷ rs) s = both (walk_rule settings kind input r.next (rule_shape r.test s)) (walk_rules settings kind input rs s) (rule settings kind input r.next (rule_shape r.test s)) (rules_walked settings kind input rs s)

default : (settings : Settings) (kind : Kind) (input : Shape) (rs : List Rule) (o : Option (List ℕ)) (s : Shape) → AreOfWalk (walk_default settings kind input rs o s)
default settings kind input rs None s = unless (is_settled rs s) (codes "Default") NoDefault plain_default
default settings kind input rs (Some name) s = chosen settings kind input (codes "Default") name s

caught : (name : List ℕ) (r : Result Shape ℕ) → AreOfWalk (walk_caught name r)
caught name (Ok s) = record { each = (edge_to_caught, tt) }
caught name (Err at) = record { each = (plain_breaks plain_misfit, tt) }

catchers : (input : Shape) (cs : List Catcher) → AreOfWalk (walk_catchers input cs)
catchers input [] = none
catchers input (c ∷ cs) = both (walk_caught c.next (error_placed_shape c.result_path input)) (walk_catchers input cs) (caught c.next (error_placed_shape c.result_path input)) (catchers input cs)

-- ---- the walk

work : (settings : Settings) (kind : Kind) (entry : StateShapes) (s : Shape) → AreOfWalk (walk_work settings kind entry s)
work settings (Pass None) entry s = result settings (Pass None) entry.input s
work settings (Pass (Some t)) entry s = none
work settings (Task resource) entry s = record { each = (edge_to_task, tt) }
work settings (Choice rs o) entry s = both (walk_rules settings (Choice rs o) entry.input rs s) (walk_default settings (Choice rs o) entry.input rs o s) (rules_walked settings (Choice rs o) entry.input rs s) (default settings (Choice rs o) entry.input rs o s)
work settings (Wait d) entry s = both (walk_delay d s) (walk_result settings (Wait d) entry.input s) (delay d s) (result settings (Wait d) entry.input s)
work settings Succeed entry s = after (to_end (codes "Type")) (end (codes "Type")) (leave settings Succeed entry.input s)
work settings (Fail error cause) entry s = none
work settings (Parallel scopes) entry s = branches scopes s
work settings (Map path selector processor) entry s = items (walk_elements settings (Map path selector processor) entry selector processor s) (elements_walked settings (Map path selector processor) entry selector processor s) (found path s)

settled : (gives : Shape) (settings : Settings) (kind : Kind) (entry : StateShapes) → AreOfWalk (walk_settled gives settings kind entry)
settled gives settings (Pass None) entry = none
settled gives settings (Pass (Some t)) entry = result settings (Pass (Some t)) entry.input (literal t)
settled gives settings (Task resource) entry = result settings (Task resource) entry.input gives
settled gives settings (Choice rs o) entry = none
settled gives settings (Wait d) entry = none
settled gives settings Succeed entry = none
settled gives settings (Fail error cause) entry = none
settled gives settings (Parallel scopes) entry = result settings (Parallel scopes) entry.input (ArrayShape (as_first_elements entry.branches) Never)
settled gives settings (Map path selector processor) entry = none

pub walk_steps : (gives : Shape) (settings : Settings) (kind : Kind) (entry : StateShapes) → AreOfWalk (walk gives settings kind entry)
walk_steps gives settings kind entry = by (inhabited entry.input)
  where
    whole : List Walked
    whole = walk_then (walk_work settings kind entry) (effective_flow settings entry.input) ++ (walk_settled gives settings kind entry ++ walk_catchers entry.input settings.catchers)

    parts : AreOfWalk whole
    parts =
        both (walk_then (walk_work settings kind entry) (effective_flow settings entry.input)) (walk_settled gives settings kind entry ++ walk_catchers entry.input settings.catchers)
        (after (walk_work settings kind entry) (work settings kind entry) (effective_flow settings entry.input))
        (both (walk_settled gives settings kind entry) (walk_catchers entry.input settings.catchers) (settled gives settings kind entry) (catchers entry.input settings.catchers))

    by : (b : Bool) → AreOfWalk (if b then whole else [])
    by true = parts
    by false = none
