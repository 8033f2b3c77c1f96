-- Where the edges of a state lead: to what follows it, and to the starts of its children. A walk needs the starts of the
-- state's scopes alone, and not their states.
use Rattle.std.proofs.Common.{◌≡◌, ℕ, List, [], ◌∷◌, ◌++◌, map, Contains, Bool, true, false, if◌then◌else◌, Option, Some, None, Result, Ok, Err, codes, refl, ap, ◌∙◌}
use Rattle.std.specs.List.{AllByRecursion}
use Rattle.std.specs.Option.{option_to_list}
use mathlib.Core.Path.{fun_ext}
use Rattle.asl_model.specs.Certificate.{StateShapes}
use Rattle.asl_model.specs.Edges.{Destination, ToInput, ToOutput, ToEnd, ToTask, Walked, Flows, Breaks, breaks_unless, walk_then, to_next, to_end, onward, walk_named, walk_delay, to_child, to_branches, walk_items_result, walk_elements, with_elements_walked, walk_items, walk_chosen, walk_rule, walk_rules, walk_default, walk_caught, walk_catchers, walk_result, walk_work, walk_settled, walk}
use Rattle.asl_model.specs.Finding.{FindingFault, NoDefault, WrongKind, as_first_elements, array_parts, effective_flow, element_shape, error_placed_shape, item_flow, map_result}
use Rattle.asl_model.specs.Machine.{Catcher, Settings, Delay, Seconds, SecondsPath, Timestamp, TimestampPath, Scope, StateOf, Kind, Pass, Task, Choice, Wait, Succeed, Fail, Parallel, Map, Scopes, NoScopes, AndScope, start_of, targets_by, targets_of}
use Rattle.asl_model.specs.Numbering.{kind_outline, scope_outline, scopes_outline}
use Rattle.asl_model.specs.Path.{Segment}
use Rattle.asl_model.specs.Shape.{Shape, Never, Shapes, ArrayShape, inhabited}
use Rattle.asl_model.specs.ShapeFlow.{DoubtfulPath, found, literal, is_integer_shape, is_string_shape, rule_shape, is_settled, leave, Flow, FlowFault}
use Rattle.asl_model.specs.Template.{Template}
use Rattle.asl_model.specs.Test.{Rule}
use Rattle.asl_model.proofs.Listed.{first_in, later_in}

-- ---- names that all are of some kind

pub each-of : {A : Type 0} (P : A → Type 0) (xs : List A) → ((x : A) → Contains xs x → P x) → AllByRecursion P xs
each-of P [] all = tt
each-of P (x ∷ xs) all = (all x (first_in x xs), each-of P xs (λ y h. all y (later_in x y xs h)))

each-of-both : {A : Type 0} (P : A → Type 0) (xs ys : List A) → AllByRecursion P (xs ++ ys) → AllByRecursion P xs × AllByRecursion P ys
each-of-both P [] ys all = (tt, all)
each-of-both P (x ∷ xs) ys all =
    let further = each-of-both P xs ys all.1 in
    ((all.0, further.0), further.1)

module _ (P : List ℕ → Type 0) where
  -- an edge to the input of a state leads to a name of that kind
  abbrev pub DestinationLeads : Destination → Type 0
  DestinationLeads (ToInput next) = P next
  DestinationLeads ToOutput = Unit {0}
  DestinationLeads ToEnd = Unit {0}
  DestinationLeads ToTask = Unit {0}

  abbrev pub StepLeads : Walked → Type 0
  StepLeads (Flows edge) = DestinationLeads edge.destination
  StepLeads (Breaks breach) = Unit {0}

  abbrev pub AllLead : List Walked → Type 0
  AllLead [] = Unit {0}
  AllLead (step ∷ steps) = StepLeads step × AllLead steps

  -- the starts of a state's children are of that kind
  abbrev pub StartsLead : Scopes → Type 0
  StartsLead NoScopes = Unit {0}
  StartsLead (AndScope scope others) = P (start_of scope) × StartsLead others

  abbrev pub ChildrenLead : Kind → Type 0
  ChildrenLead (Pass result) = Unit {0}
  ChildrenLead (Task resource) = Unit {0}
  ChildrenLead (Choice rules default) = Unit {0}
  ChildrenLead (Wait delay) = Unit {0}
  ChildrenLead Succeed = Unit {0}
  ChildrenLead (Fail error cause) = Unit {0}
  ChildrenLead (Parallel branches) = StartsLead branches
  ChildrenLead (Map items selector processor) = P (start_of processor)

  both-lead : (xs ys : List Walked) → AllLead xs → AllLead ys → AllLead (xs ++ ys)
  both-lead [] ys here further = further
  both-lead (x ∷ xs) ys here further = (here.0, both-lead xs ys here.1 further)

  stopped-leads : (faults : List FlowFault) → AllLead (map (λ fault. Breaks (Rattle.asl_model.specs.Finding.breach_of fault)) faults)
  stopped-leads [] = tt
  stopped-leads (fault ∷ faults) = (tt, stopped-leads faults)

  then-leads : (go_on : Shape → List Walked) (flow : Flow) → ((s : Shape) → AllLead (go_on s)) → AllLead (walk_then go_on flow)
  then-leads go_on (Ok s) lead = lead s
  then-leads go_on (Err faults) lead = stopped-leads faults

  unless-leads : (b : Bool) (field : List ℕ) (fault : FindingFault) → AllLead (breaks_unless b field fault)
  unless-leads true field fault = tt
  unless-leads false field fault = (tt, tt)

  named-leads : (field : List ℕ) (test : Shape → Bool) (result : Result Shape DoubtfulPath) → AllLead (walk_named field test result)
  named-leads field test (Ok s) = unless-leads (test s) field WrongKind
  named-leads field test (Err doubtful) = (tt, tt)

  delay-leads : (delay : Delay) (s : Shape) → AllLead (walk_delay delay s)
  delay-leads (Seconds n) s = tt
  delay-leads (SecondsPath path) s = named-leads (codes "SecondsPath") is_integer_shape (found path s)
  delay-leads (Timestamp t) s = tt
  delay-leads (TimestampPath path) s = named-leads (codes "TimestampPath") is_string_shape (found path s)

  branches-lead : (branches : Scopes) (s : Shape) → StartsLead branches → AllLead (to_branches branches s)
  branches-lead NoScopes s starts = tt
  branches-lead (AndScope scope others) s starts = (starts.0, branches-lead others s starts.1)

  onward-leads : (next : Option (List ℕ)) (s : Shape) → AllByRecursion P (option_to_list next) → AllLead (onward next s)
  onward-leads None s lead = (tt, (tt, tt))
  onward-leads (Some next) s lead = (tt, (lead.0, tt))

  caught-leads : (next : List ℕ) (placed : Result Shape ℕ) → P next → AllLead (walk_caught next placed)
  caught-leads next (Ok s) lead = (lead, tt)
  caught-leads next (Err at) lead = (tt, tt)

  catchers-lead : (input : Shape) (catchers : List Catcher) → AllByRecursion P (map (λ (catcher : Catcher). catcher.next) catchers) → AllLead (walk_catchers input catchers)
  catchers-lead input [] lead = tt
  catchers-lead input (catcher ∷ catchers) lead =
      both-lead (walk_caught catcher.next (error_placed_shape catcher.result_path input)) (walk_catchers input catchers) (caught-leads catcher.next (error_placed_shape catcher.result_path input) lead.0) (catchers-lead input catchers lead.1)

  items-lead : (go_on : Shapes × Shape → List Walked) (named : Result Shape DoubtfulPath) → ((elements : Shapes × Shape) → AllLead (go_on elements)) → AllLead (walk_items go_on named)
  items-lead go_on (Ok s) lead = by (array_parts s)
    where
      by : (parts : Option (Shapes × Shape)) → AllLead (with_elements_walked go_on parts)
      by None = (tt, tt)
      by (Some elements) = lead elements
  items-lead go_on (Err doubtful) lead = (tt, tt)

  module _ (settings : Settings) (entry : StateShapes) (next : AllByRecursion P (option_to_list settings.next)) where
    result-leads : (kind : Kind) (s : Shape) → AllLead (walk_result settings kind entry.input s)
    result-leads kind s = then-leads (onward settings.next) (leave settings kind entry.input s) (λ output. onward-leads settings.next output next)

    items_result-leads : (kind : Kind) (item : Option Shape) (elements : Shapes × Shape) → AllLead (walk_items_result settings kind entry.input item elements)
    items_result-leads kind None elements = tt
    items_result-leads kind (Some item) elements = result-leads kind (map_result item elements.0 elements.1)

    chosen-leads : (kind : Kind) (field to : List ℕ) (s : Shape) → P to → AllLead (walk_chosen settings kind entry.input field to s)
    chosen-leads kind field to s lead = then-leads (to_next field to) (leave settings kind entry.input s) (λ output. (tt, (lead, tt)))

    rules-lead : (kind : Kind) (rules : List Rule) (s : Shape) → AllByRecursion P (map (λ (rule : Rule). rule.next) rules) → AllLead (walk_rules settings kind entry.input rules s)
    rules-lead kind [] s lead = tt
    rules-lead kind (rule ∷ rules) s lead =
        both-lead (walk_rule settings kind entry.input rule.next (rule_shape rule.test s)) (walk_rules settings kind entry.input rules s) (one (rule_shape rule.test s)) (rules-lead kind rules s lead.1)
      where
        one : (narrowed : Result Shape DoubtfulPath) → AllLead (walk_rule settings kind entry.input rule.next narrowed)
        one (Ok r) = chosen-leads kind (codes "Choices") rule.next r lead.0
        one (Err doubtful) = (tt, tt)

    default-leads : (kind : Kind) (rules : List Rule) (default : Option (List ℕ)) (s : Shape) → AllByRecursion P (option_to_list default) → AllLead (walk_default settings kind entry.input rules default s)
    default-leads kind rules None s lead = unless-leads (is_settled rules s) (codes "Default") NoDefault
    default-leads kind rules (Some to) s lead = chosen-leads kind (codes "Default") to s lead.0

    work-leads : (kind : Kind) (s : Shape) → AllByRecursion P (targets_by kind) → ChildrenLead kind → AllLead (walk_work settings kind entry s)
    work-leads (Pass None) s lead children = result-leads (Pass None) s
    work-leads (Pass (Some t)) s lead children = tt
    work-leads (Task resource) s lead children = (tt, tt)
    work-leads (Choice rules default) s lead children =
        let parts = each-of-both P (map (λ (rule : Rule). rule.next) rules) (option_to_list default) lead in
        both-lead (walk_rules settings (Choice rules default) entry.input rules s) (walk_default settings (Choice rules default) entry.input rules default s) (rules-lead (Choice rules default) rules s parts.0) (default-leads (Choice rules default) rules default s parts.1)
    work-leads (Wait delay) s lead children = both-lead (walk_delay delay s) (walk_result settings (Wait delay) entry.input s) (delay-leads delay s) (result-leads (Wait delay) s)
    work-leads Succeed s lead children = then-leads (to_end (codes "Type")) (leave settings Succeed entry.input s) (λ output. (tt, (tt, tt)))
    work-leads (Fail error cause) s lead children = tt
    work-leads (Parallel branches) s lead children = branches-lead branches s children
    work-leads (Map items selector processor) s lead children =
        items-lead (walk_elements settings (Map items selector processor) entry selector processor s) (found items s) (λ elements.
        both-lead (walk_then (to_child (codes "ItemProcessor") processor) (item_flow selector s (element_shape elements.0 elements.1))) (walk_items_result settings (Map items selector processor) entry.input entry.item elements)
        (then-leads (to_child (codes "ItemProcessor") processor) (item_flow selector s (element_shape elements.0 elements.1)) (λ input. (children, tt))) (items_result-leads (Map items selector processor) entry.item elements))

    settled-leads : (gives : Shape) (kind : Kind) → AllLead (walk_settled gives settings kind entry)
    settled-leads gives (Pass None) = tt
    settled-leads gives (Pass (Some t)) = result-leads (Pass (Some t)) (literal t)
    settled-leads gives (Task resource) = result-leads (Task resource) gives
    settled-leads gives (Choice rules default) = tt
    settled-leads gives (Wait delay) = tt
    settled-leads gives Succeed = tt
    settled-leads gives (Fail error cause) = tt
    settled-leads gives (Parallel branches) = result-leads (Parallel branches) (ArrayShape (as_first_elements entry.branches) Never)
    settled-leads gives (Map items selector processor) = tt

  -- what follows the state, and the starts of its children, are of that kind: so each edge leads to one
  pub walk-leads : (gives : Shape) (settings : Settings) (kind : Kind) (entry : StateShapes) → AllByRecursion P (targets_of (StateOf settings kind)) → ChildrenLead kind → AllLead (walk gives settings kind entry)
  walk-leads gives settings kind entry lead children = by (inhabited entry.input)
    where
      first : AllByRecursion P (option_to_list settings.next) × AllByRecursion P (map (λ (catcher : Catcher). catcher.next) settings.catchers ++ targets_by kind)
      first = each-of-both P (option_to_list settings.next) (map (λ (catcher : Catcher). catcher.next) settings.catchers ++ targets_by kind) lead

      further : AllByRecursion P (map (λ (catcher : Catcher). catcher.next) settings.catchers) × AllByRecursion P (targets_by kind)
      further = each-of-both P (map (λ (catcher : Catcher). catcher.next) settings.catchers) (targets_by kind) first.1

      worked : List Walked
      worked = walk_then (walk_work settings kind entry) (effective_flow settings entry.input)

      others : List Walked
      others = walk_settled gives settings kind entry ++ walk_catchers entry.input settings.catchers

      by : (live : Bool) → AllLead (if live then worked ++ others else [])
      by false = tt
      by true =
          both-lead worked others (then-leads (walk_work settings kind entry) (effective_flow settings entry.input) (λ s. work-leads settings entry first.0 kind s further.1 children))
          (both-lead (walk_settled gives settings kind entry) (walk_catchers entry.input settings.catchers) (settled-leads settings entry first.0 gives kind) (catchers-lead entry.input settings.catchers further.0))

-- ---- outlines

branches-outlined : (branches : Scopes) (s : Shape) → to_branches (scopes_outline branches) s ≡ to_branches branches s
branches-outlined NoScopes s = refl
branches-outlined (AndScope scope others) s = ap (λ rest. to_child (codes "Branches") scope s ++ rest) (branches-outlined others s)

module _ (gives : Shape) (settings : Settings) (entry : StateShapes) where
  result-outlined : (items : List Segment) (selector : Option Template) (processor : Scope) (item : Option Shape) (elements : Shapes × Shape) → walk_items_result settings (Map items selector (scope_outline processor)) entry.input item elements ≡ walk_items_result settings (Map items selector processor) entry.input item elements
  result-outlined items selector processor None elements = refl
  result-outlined items selector processor (Some item) elements = refl

  work-outlined : (kind : Kind) (s : Shape) → walk_work settings (kind_outline kind) entry s ≡ walk_work settings kind entry s
  work-outlined (Pass None) s = refl
  work-outlined (Pass (Some t)) s = refl
  work-outlined (Task resource) s = refl
  work-outlined (Choice rules default) s = refl
  work-outlined (Wait delay) s = refl
  work-outlined Succeed s = refl
  work-outlined (Fail error cause) s = refl
  work-outlined (Parallel branches) s = branches-outlined branches s
  work-outlined (Map items selector processor) s =
      ap (λ go_on. walk_items go_on (found items s)) (fun_ext (λ (elements : Shapes × Shape). ap (λ rest. walk_then (to_child (codes "ItemProcessor") processor) (item_flow selector s (element_shape elements.0 elements.1)) ++ rest) (result-outlined items selector processor entry.item elements)))

  settled-outlined : (kind : Kind) → walk_settled gives settings (kind_outline kind) entry ≡ walk_settled gives settings kind entry
  settled-outlined (Pass None) = refl
  settled-outlined (Pass (Some t)) = refl
  settled-outlined (Task resource) = refl
  settled-outlined (Choice rules None) = refl
  settled-outlined (Choice rules (Some next)) = refl
  settled-outlined (Wait delay) = refl
  settled-outlined Succeed = refl
  settled-outlined (Fail error cause) = refl
  settled-outlined (Parallel branches) = refl
  settled-outlined (Map items selector processor) = refl

  -- a walk by what comes of the effective input and what needs none
  abbrev all_of : (Shape → List Walked) → List Walked → List Walked
  all_of work settled = if inhabited entry.input then walk_then work (effective_flow settings entry.input) ++ (settled ++ walk_catchers entry.input settings.catchers) else []

  pub walk-outlined : (kind : Kind) → walk gives settings (kind_outline kind) entry ≡ walk gives settings kind entry
  walk-outlined kind =
      ap (λ work. all_of work (walk_settled gives settings (kind_outline kind) entry)) (fun_ext (λ (s : Shape). work-outlined kind s))
      ∙ ap (all_of (walk_work settings kind entry)) (settled-outlined kind)
