-- Names stand in order in every shape that flows at an edge of a walk, where they do in what the walk is given.
use Rattle.std.proofs.Common.{◌≡◌, ℕ, List, [], ◌∷◌, ◌++◌, map, Bool, true, false, if◌then◌else◌, IfSome, Option, Some, None, Result, Ok, Err, codes, refl}
use Rattle.asl_model.specs.Breaches.{FindingFault, NoDefault, WrongKind, as_first_elements, array_parts, breach_of, effective_flow, element_shape, error_placed_shape, item_flow, map_result}
use Rattle.asl_model.specs.Certificate.{StateShapes}
use Rattle.asl_model.specs.Edges.{Walked, Flows, Breaks, breaks_unless, walk_then, to_next, to_end, onward, walk_named, walk_delay, to_child, to_branches, walk_items_result, walk_elements, with_elements_walked, walk_items, walk_chosen, walk_rule, walk_rules, walk_default, walk_caught, walk_catchers, walk_result, walk_work, walk_settled, walk}
use Rattle.asl_model.specs.Machine.{Catcher, Settings, Delay, Seconds, SecondsPath, Timestamp, TimestampPath, Scope, Kind, Pass, Task, Choice, Wait, Succeed, Fail, Parallel, Map, Scopes, NoScopes, AndScope}
use Rattle.asl_model.specs.RecordShapes.{HoldsForState}
use Rattle.asl_model.specs.Shape.{Shape, Never, Shapes, ArrayShape, inhabited, IsOrdered}
use Rattle.asl_model.specs.ShapeFlow.{DoubtfulPath, Flow, FlowFault, found, literal, is_integer_shape, is_string_shape, rule_shape, is_settled, leave}
use Rattle.asl_model.specs.Template.{Template}
use Rattle.asl_model.specs.Test.{Rule}
use Rattle.asl_model.proofs.OrderedFlows.{rule-ordered, effective-ordered, leave-ordered, element-ordered, item-ordered, map-ordered, parts-ordered, first_elements-ordered, error_placed-ordered}
use Rattle.asl_model.proofs.OrderedTemplates.{found-ordered, literal-ordered}
use Rattle.asl_model.proofs.ShapeOrdered.{Ordered}

-- names stand in order in what flows at the step
abbrev pub IsOrderedStep : Walked → Type 0
IsOrderedStep (Flows edge) = IsOrdered edge.flowing
IsOrderedStep (Breaks breach) = Unit {0}

abbrev pub AllOrdered : List Walked → Type 0
AllOrdered [] = Unit {0}
AllOrdered (step ∷ steps) = IsOrderedStep step × AllOrdered steps

both-ordered : (xs ys : List Walked) → AllOrdered xs → AllOrdered ys → AllOrdered (xs ++ ys)
both-ordered [] ys here further = further
both-ordered (x ∷ xs) ys here further = (here.0, both-ordered xs ys here.1 further)

stopped-ordered : (faults : List FlowFault) → AllOrdered (map (λ fault. Breaks (breach_of fault)) faults)
stopped-ordered [] = tt
stopped-ordered (fault ∷ faults) = (tt, stopped-ordered faults)

then-ordered : (go_on : Shape → List Walked) (flow : Flow) → Ordered flow → ((s : Shape) → IsOrdered s → AllOrdered (go_on s)) → AllOrdered (walk_then go_on flow)
then-ordered go_on (Ok s) ordered further = further s ordered
then-ordered go_on (Err faults) ordered further = stopped-ordered faults

unless-ordered : (b : Bool) (field : List ℕ) (fault : FindingFault) → AllOrdered (breaks_unless b field fault)
unless-ordered true field fault = tt
unless-ordered false field fault = (tt, tt)

named-ordered : (field : List ℕ) (test : Shape → Bool) (result : Result Shape DoubtfulPath) → AllOrdered (walk_named field test result)
named-ordered field test (Ok s) = unless-ordered (test s) field WrongKind
named-ordered field test (Err doubtful) = (tt, tt)

delay-ordered : (delay : Delay) (s : Shape) → AllOrdered (walk_delay delay s)
delay-ordered (Seconds n) s = tt
delay-ordered (SecondsPath path) s = named-ordered (codes "SecondsPath") is_integer_shape (found path s)
delay-ordered (Timestamp t) s = tt
delay-ordered (TimestampPath path) s = named-ordered (codes "TimestampPath") is_string_shape (found path s)

branches-ordered : (branches : Scopes) (s : Shape) → IsOrdered s → AllOrdered (to_branches branches s)
branches-ordered NoScopes s ordered = tt
branches-ordered (AndScope scope others) s ordered = (ordered, branches-ordered others s ordered)

onward-ordered : (next : Option (List ℕ)) (s : Shape) → IsOrdered s → AllOrdered (onward next s)
onward-ordered None s ordered = (ordered, (ordered, tt))
onward-ordered (Some next) s ordered = (ordered, (ordered, tt))

caught-ordered : (next : List ℕ) (placed : Result Shape ℕ) → Ordered placed → AllOrdered (walk_caught next placed)
caught-ordered next (Ok s) ordered = (ordered, tt)
caught-ordered next (Err at) ordered = (tt, tt)

catchers-ordered : (input : Shape) (catchers : List Catcher) → IsOrdered input → AllOrdered (walk_catchers input catchers)
catchers-ordered input [] ordered = tt
catchers-ordered input (catcher ∷ catchers) ordered =
    both-ordered (walk_caught catcher.next (error_placed_shape catcher.result_path input)) (walk_catchers input catchers)
    (caught-ordered catcher.next (error_placed_shape catcher.result_path input) (error_placed-ordered catcher.result_path input ordered)) (catchers-ordered input catchers ordered)

-- what leaves a state
left-ordered : (settings : Settings) (kind : Kind) (raw work : Shape) → IsOrdered raw → IsOrdered work → Ordered (leave settings kind raw work)
left-ordered settings kind raw work one other = go (leave settings kind raw work) refl
  where
    go : (flow : Flow) → leave settings kind raw work ≡ flow → Ordered flow
    go (Ok r) e = leave-ordered settings kind raw work r one other e
    go (Err faults) e = tt

result-ordered : (settings : Settings) (kind : Kind) (input made : Shape) → IsOrdered input → IsOrdered made → AllOrdered (walk_result settings kind input made)
result-ordered settings kind input made one other = then-ordered (onward settings.next) (leave settings kind input made) (left-ordered settings kind input made one other) (onward-ordered settings.next)

chosen-ordered : (settings : Settings) (kind : Kind) (input : Shape) (field next : List ℕ) (s : Shape) → IsOrdered input → IsOrdered s → AllOrdered (walk_chosen settings kind input field next s)
chosen-ordered settings kind input field next s one other = then-ordered (to_next field next) (leave settings kind input s) (left-ordered settings kind input s one other) (λ output ordered. (ordered, (ordered, tt)))

rules-ordered : (settings : Settings) (kind : Kind) (input : Shape) (rules : List Rule) (s : Shape) → IsOrdered input → IsOrdered s → AllOrdered (walk_rules settings kind input rules s)
rules-ordered settings kind input [] s one other = tt
rules-ordered settings kind input (rule ∷ rules) s one other =
    both-ordered (walk_rule settings kind input rule.next (rule_shape rule.test s)) (walk_rules settings kind input rules s) (own (rule_shape rule.test s) refl) (rules-ordered settings kind input rules s one other)
  where
    own : (narrowed : Result Shape DoubtfulPath) → rule_shape rule.test s ≡ narrowed → AllOrdered (walk_rule settings kind input rule.next narrowed)
    own (Ok r) e = chosen-ordered settings kind input (codes "Choices") rule.next r one (rule-ordered rule.test s r other e)
    own (Err doubtful) e = (tt, tt)

default-ordered : (settings : Settings) (kind : Kind) (input : Shape) (rules : List Rule) (default : Option (List ℕ)) (s : Shape) → IsOrdered input → IsOrdered s → AllOrdered (walk_default settings kind input rules default s)
default-ordered settings kind input rules None s one other = unless-ordered (is_settled rules s) (codes "Default") NoDefault
default-ordered settings kind input rules (Some next) s one other = chosen-ordered settings kind input (codes "Default") next s one other

module _ (settings : Settings) (entry : StateShapes) (sure : HoldsForState IsOrdered entry) where
  items_result-ordered : (kind : Kind) (item : Option Shape) (elements : Shapes × Shape) → IfSome item IsOrdered → AllOrdered (walk_items_result settings kind entry.input item elements)
  items_result-ordered kind None elements ordered = tt
  items_result-ordered kind (Some item) elements ordered = result-ordered settings kind entry.input (map_result item elements.0 elements.1) sure.input (map-ordered item elements.0 elements.1 ordered)

  items-ordered : (kind : Kind) (selector : Option Template) (processor : Scope) (s : Shape) (named : Result Shape DoubtfulPath) → IsOrdered s → Ordered named → AllOrdered (walk_items (walk_elements settings kind entry selector processor s) named)
  items-ordered kind selector processor s (Err doubtful) one other = (tt, tt)
  items-ordered kind selector processor s (Ok named) one other = go (array_parts named) refl
    where
      go : (parts : Option (Shapes × Shape)) → array_parts named ≡ parts → AllOrdered (with_elements_walked (walk_elements settings kind entry selector processor s) parts)
      go None e = (tt, tt)
      go (Some elements) e =
          let parts = parts-ordered named elements.0 elements.1 other e in
          both-ordered (walk_then (to_child (codes "ItemProcessor") processor) (item_flow selector s (element_shape elements.0 elements.1))) (walk_items_result settings kind entry.input entry.item elements)
          (then-ordered (to_child (codes "ItemProcessor") processor) (item_flow selector s (element_shape elements.0 elements.1)) (item-ordered selector s (element_shape elements.0 elements.1) one (element-ordered elements.0 elements.1 parts.0 parts.1)) (λ input ordered. (ordered, tt)))
          (items_result-ordered kind entry.item elements sure.item)

  work-ordered : (kind : Kind) (s : Shape) → IsOrdered s → AllOrdered (walk_work settings kind entry s)
  work-ordered (Pass None) s ordered = result-ordered settings (Pass None) entry.input s sure.input ordered
  work-ordered (Pass (Some t)) s ordered = tt
  work-ordered (Task resource) s ordered = (ordered, tt)
  work-ordered (Choice rules default) s ordered =
      both-ordered (walk_rules settings (Choice rules default) entry.input rules s) (walk_default settings (Choice rules default) entry.input rules default s)
      (rules-ordered settings (Choice rules default) entry.input rules s sure.input ordered) (default-ordered settings (Choice rules default) entry.input rules default s sure.input ordered)
  work-ordered (Wait delay) s ordered = both-ordered (walk_delay delay s) (walk_result settings (Wait delay) entry.input s) (delay-ordered delay s) (result-ordered settings (Wait delay) entry.input s sure.input ordered)
  work-ordered Succeed s ordered = then-ordered (to_end (codes "Type")) (leave settings Succeed entry.input s) (left-ordered settings Succeed entry.input s sure.input ordered) (λ output o. (o, (o, tt)))
  work-ordered (Fail error cause) s ordered = tt
  work-ordered (Parallel branches) s ordered = branches-ordered branches s ordered
  work-ordered (Map items selector processor) s ordered = items-ordered (Map items selector processor) selector processor s (found items s) ordered (found-ordered items s ordered)

  settled-ordered : (gives : Shape) (kind : Kind) → IsOrdered gives → AllOrdered (walk_settled gives settings kind entry)
  settled-ordered gives (Pass None) ordered = tt
  settled-ordered gives (Pass (Some t)) ordered = result-ordered settings (Pass (Some t)) entry.input (literal t) sure.input (literal-ordered t)
  settled-ordered gives (Task resource) ordered = result-ordered settings (Task resource) entry.input gives sure.input ordered
  settled-ordered gives (Choice rules default) ordered = tt
  settled-ordered gives (Wait delay) ordered = tt
  settled-ordered gives Succeed ordered = tt
  settled-ordered gives (Fail error cause) ordered = tt
  settled-ordered gives (Parallel branches) ordered = result-ordered settings (Parallel branches) entry.input (ArrayShape (as_first_elements entry.branches) Never) sure.input ((first_elements-ordered entry.branches sure.branches, (tt, tt)), tt)
  settled-ordered gives (Map items selector processor) ordered = tt

  pub walk-ordered : (gives : Shape) (kind : Kind) → IsOrdered gives → AllOrdered (walk gives settings kind entry)
  walk-ordered gives kind ordered = go (inhabited entry.input)
    where
      steps : List Walked
      steps = walk_then (walk_work settings kind entry) (effective_flow settings entry.input) ++ (walk_settled gives settings kind entry ++ walk_catchers entry.input settings.catchers)

      go : (live : Bool) → AllOrdered (if live then steps else [])
      go true =
          both-ordered (walk_then (walk_work settings kind entry) (effective_flow settings entry.input)) (walk_settled gives settings kind entry ++ walk_catchers entry.input settings.catchers)
          (then-ordered (walk_work settings kind entry) (effective_flow settings entry.input) (effective-ordered settings entry.input sure.input) (work-ordered kind))
          (both-ordered (walk_settled gives settings kind entry) (walk_catchers entry.input settings.catchers) (settled-ordered gives kind ordered) (catchers-ordered entry.input settings.catchers sure.input))
      go false = tt
