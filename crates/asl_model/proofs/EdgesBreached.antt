-- The rules that are broken along the walk through a state, by the parts of the state.
use Rattle.std.proofs.Common.{◌≡◌, ℕ, List, [], ◌∷◌, ◌++◌, map, Bool, true, false, if◌then◌else◌, Option, Some, None, Result, Ok, Err, codes, refl, sym, ap, ap₂, ◌∙◌, append_assoc}
use Rattle.std.proofs.lemmas.List.{append-nil}
use Rattle.asl_model.specs.Template.{Template}
use Rattle.asl_model.specs.Test.{Rule}
use Rattle.asl_model.specs.Machine.{Catcher, Settings, Delay, Seconds, SecondsPath, Timestamp, TimestampPath, Scope, Kind, Pass, Task, Choice, Wait, Succeed, Fail, Parallel, Map, Scopes, NoScopes, AndScope, start_of}
use Rattle.asl_model.specs.Shape.{Shape, Never, Shapes, ArrayShape, inhabited}
use Rattle.asl_model.specs.ShapeFlow.{DoubtfulPath, found, literal, is_integer_shape, is_string_shape, rule_shape, is_settled, leave, Flow, FlowFault}
use Rattle.asl_model.specs.Certificate.{takes_of, gives_of}
use Rattle.asl_model.specs.Finding.{Surroundings, Breach, FindingFault, NoDefault, OutputNotCertified, NextInput, ScopeOutput, BranchInput, PayloadNotTaken, breach_of, breach_unless, breach_unless_sub, effective_flow, item_flow, element_shape, map_result, as_first_elements, array_parts, error_placed_shape, flow_breaches}
use Rattle.asl_model.proofs.FlowRules.{breaches_then, next_breaches, end_breaches, output_breaches, result_breaches, kind_breaches, delay_breaches, child_breaches, branch_breaches, map_breaches, with_elements, with_items, chosen_breaches, rule_breaches, rules_breaches, default_breaches, caught_breaches, catcher_breaches, work_breaches, settled_breaches, rules_on_flow}
use Rattle.asl_model.specs.Edges.{Walked, Breaks, DestinationShapes, destination_shapes, breaks_unless, walk_then, to_next, to_end, onward, walk_result, walk_named, walk_delay, to_child, to_branches, walk_items_result, walk_elements, with_elements_walked, walk_items, walk_chosen, walk_rule, walk_rules, walk_default, walk_caught, walk_catchers, walk_work, walk_settled, breaches_at, breaches_along}

-- those along one walk and then another
along_append : (standing : DestinationShapes) (steps further : List Walked) → breaches_along standing (steps ++ further) ≡ breaches_along standing steps ++ breaches_along standing further
along_append standing [] further = refl
along_append standing (step ∷ steps) further =
    ap (λ t. breaches_at standing step ++ t) (along_append standing steps further) ∙ sym (append_assoc (breaches_at standing step) (breaches_along standing steps) (breaches_along standing further))

-- both parts of a walk by themselves
both_along : (standing : DestinationShapes) (steps further : List Walked) (told others : List Breach) → breaches_along standing steps ≡ told → breaches_along standing further ≡ others → breaches_along standing (steps ++ further) ≡ told ++ others
both_along standing steps further told others h i = along_append standing steps further ∙ ap₂ (λ s t. s ++ t) h i

-- what stops a flow
stopped_along : (standing : DestinationShapes) (faults : List FlowFault) → breaches_along standing (map (λ fault. Breaks (breach_of fault)) faults) ≡ map breach_of faults
stopped_along standing [] = refl
stopped_along standing (fault ∷ faults) = ap (λ t. breach_of fault ∷ t) (stopped_along standing faults)

-- what comes of a flow
then_along : (standing : DestinationShapes) (go_on : Shape → List Walked) (told : Shape → List Breach) → ((s : Shape) → breaches_along standing (go_on s) ≡ told s) → (flow : Flow) → breaches_along standing (walk_then go_on flow) ≡ breaches_then told flow
then_along standing go_on told same (Ok s) = same s
then_along standing go_on told same (Err faults) = stopped_along standing faults

-- a rule that is broken unless a test holds
unless_along : (standing : DestinationShapes) (test : Bool) (field : List ℕ) (fault : FindingFault) → breaches_along standing (breaks_unless test field fault) ≡ breach_unless test field fault
unless_along standing true field fault = refl
unless_along standing false field fault = refl

-- what a path names is of the kind that is wanted
named_along : (standing : DestinationShapes) (field : List ℕ) (test : Shape → Bool) (named : Result Shape DoubtfulPath) → breaches_along standing (walk_named field test named) ≡ kind_breaches field test named
named_along standing field test (Ok s) = unless_along standing (test s) field _
named_along standing field test (Err doubtful) = refl

delay_along : (standing : DestinationShapes) (delay : Delay) (s : Shape) → breaches_along standing (walk_delay delay s) ≡ delay_breaches delay s
delay_along standing (Seconds n) s = refl
delay_along standing (SecondsPath path) s = named_along standing (codes "SecondsPath") is_integer_shape (found path s)
delay_along standing (Timestamp t) s = refl
delay_along standing (TimestampPath path) s = named_along standing (codes "TimestampPath") is_string_shape (found path s)

module _ (inputs : List ℕ → Option Shape) (output : Shape) (end : Option Shape) (takes : Shape) where
  -- what stands at the destinations
  abbrev standing : DestinationShapes
  standing = record { inputs = inputs; output = output; end = end; takes = takes }

  next_along : (field next : List ℕ) (s : Shape) → breaches_along standing (to_next field next s) ≡ next_breaches inputs output field next s
  next_along field next s = ap (λ t. breach_unless_sub (codes "OutputPath") OutputNotCertified s (Some output) ++ t) (append-nil (breach_unless_sub field NextInput s (inputs next)))

  end_along : (field : List ℕ) (s : Shape) → breaches_along standing (to_end field s) ≡ end_breaches output field end s
  end_along field s = ap (λ t. breach_unless_sub (codes "OutputPath") OutputNotCertified s (Some output) ++ t) (append-nil (breach_unless_sub field ScopeOutput s end))

  onward_along : (next : Option (List ℕ)) (s : Shape) → breaches_along standing (onward next s) ≡ output_breaches inputs output end next s
  onward_along None s = end_along (codes "End") s
  onward_along (Some next) s = next_along (codes "Next") next s

  child_along : (field : List ℕ) (scope : Scope) (s : Shape) → breaches_along standing (to_child field scope s) ≡ child_breaches inputs field scope s
  child_along field scope s = append-nil (breach_unless_sub field BranchInput s (inputs (start_of scope)))

  branches_along : (branches : Scopes) (s : Shape) → breaches_along standing (to_branches branches s) ≡ branch_breaches inputs branches s
  branches_along NoScopes s = refl
  branches_along (AndScope scope others) s =
      both_along standing (to_child (codes "Branches") scope s) (to_branches others s) (child_breaches inputs (codes "Branches") scope s) (branch_breaches inputs others s) (child_along (codes "Branches") scope s) (branches_along others s)

  caught_along : (next : List ℕ) (placed : Result Shape ℕ) → breaches_along standing (walk_caught next placed) ≡ caught_breaches inputs next placed
  caught_along next (Ok s) = append-nil (caught_breaches inputs next (Ok s))
  caught_along next (Err at) = refl

  catchers_along : (input : Shape) (catchers : List Catcher) → breaches_along standing (walk_catchers input catchers) ≡ catcher_breaches inputs input catchers
  catchers_along input [] = refl
  catchers_along input (catcher ∷ catchers) =
      both_along standing (walk_caught catcher.next (error_placed_shape catcher.result_path input)) (walk_catchers input catchers) (caught_breaches inputs catcher.next (error_placed_shape catcher.result_path input)) (catcher_breaches inputs input catchers)
      (caught_along catcher.next (error_placed_shape catcher.result_path input)) (catchers_along input catchers)

module _ (around : Surroundings) (settings : Settings) where
  -- what stands at the destinations of the state's edges
  abbrev here : DestinationShapes
  here = destination_shapes around

  result_along : (kind : Kind) (s : Shape) → breaches_along here (walk_result settings kind around.entry.input s) ≡ result_breaches around settings kind s
  result_along kind s = then_along here (onward settings.next) (output_breaches around.inputs around.entry.output around.end settings.next) (onward_along around.inputs around.entry.output around.end (takes_of around.declared around.name) settings.next) (leave settings kind around.entry.input s)

  items_result_along : (kind : Kind) (item : Option Shape) (elements : Shapes × Shape) → breaches_along here (walk_items_result settings kind around.entry.input item elements) ≡ map_breaches around settings kind item elements
  items_result_along kind None elements = refl
  items_result_along kind (Some item) elements = result_along kind (map_result item elements.0 elements.1)

  -- the breaches for the elements of what `ItemsPath` names
  abbrev element_breaches : Kind → Option Template → Scope → Shape → Shapes × Shape → List Breach
  element_breaches kind selector processor s elements = breaches_then (child_breaches around.inputs (codes "ItemProcessor") processor) (item_flow selector s (element_shape elements.0 elements.1)) ++ map_breaches around settings kind around.entry.item elements

  elements_along : (kind : Kind) (selector : Option Template) (processor : Scope) (s : Shape) (elements : Shapes × Shape) → breaches_along here (walk_elements settings kind around.entry selector processor s elements) ≡ element_breaches kind selector processor s elements
  elements_along kind selector processor s elements =
      both_along here (walk_then (to_child (codes "ItemProcessor") processor) (item_flow selector s (element_shape elements.0 elements.1))) (walk_items_result settings kind around.entry.input around.entry.item elements)
      (breaches_then (child_breaches around.inputs (codes "ItemProcessor") processor) (item_flow selector s (element_shape elements.0 elements.1))) (map_breaches around settings kind around.entry.item elements)
      (then_along here (to_child (codes "ItemProcessor") processor) (child_breaches around.inputs (codes "ItemProcessor") processor) (child_along around.inputs around.entry.output around.end (takes_of around.declared around.name) (codes "ItemProcessor") processor) (item_flow selector s (element_shape elements.0 elements.1)))
      (items_result_along kind around.entry.item elements)

  with_elements_along : (go_on : Shapes × Shape → List Walked) (told : Shapes × Shape → List Breach) → ((elements : Shapes × Shape) → breaches_along here (go_on elements) ≡ told elements) → (parts : Option (Shapes × Shape)) → breaches_along here (with_elements_walked go_on parts) ≡ with_elements told parts
  with_elements_along go_on told same None = refl
  with_elements_along go_on told same (Some elements) = same elements

  items_along : (go_on : Shapes × Shape → List Walked) (told : Shapes × Shape → List Breach) → ((elements : Shapes × Shape) → breaches_along here (go_on elements) ≡ told elements) → (named : Result Shape DoubtfulPath) → breaches_along here (walk_items go_on named) ≡ with_items told named
  items_along go_on told same (Ok s) = with_elements_along go_on told same (array_parts s)
  items_along go_on told same (Err doubtful) = refl

  chosen_along : (kind : Kind) (field next : List ℕ) (s : Shape) → breaches_along here (walk_chosen settings kind around.entry.input field next s) ≡ chosen_breaches around settings kind field next s
  chosen_along kind field next s = then_along here (to_next field next) (next_breaches around.inputs around.entry.output field next) (next_along around.inputs around.entry.output around.end (takes_of around.declared around.name) field next) (leave settings kind around.entry.input s)

  rule_along : (kind : Kind) (next : List ℕ) (narrowed : Result Shape DoubtfulPath) → breaches_along here (walk_rule settings kind around.entry.input next narrowed) ≡ rule_breaches around settings kind next narrowed
  rule_along kind next (Ok s) = chosen_along kind (codes "Choices") next s
  rule_along kind next (Err doubtful) = refl

  rules_along : (kind : Kind) (rules : List Rule) (s : Shape) → breaches_along here (walk_rules settings kind around.entry.input rules s) ≡ rules_breaches around settings kind rules s
  rules_along kind [] s = refl
  rules_along kind (rule ∷ rules) s =
      both_along here (walk_rule settings kind around.entry.input rule.next (rule_shape rule.test s)) (walk_rules settings kind around.entry.input rules s) (rule_breaches around settings kind rule.next (rule_shape rule.test s)) (rules_breaches around settings kind rules s)
      (rule_along kind rule.next (rule_shape rule.test s)) (rules_along kind rules s)

  default_along : (kind : Kind) (rules : List Rule) (default : Option (List ℕ)) (s : Shape) → breaches_along here (walk_default settings kind around.entry.input rules default s) ≡ default_breaches around settings kind rules default s
  default_along kind rules None s = unless_along here (is_settled rules s) (codes "Default") NoDefault
  default_along kind rules (Some next) s = chosen_along kind (codes "Default") next s

module _ (around : Surroundings) (settings : Settings) where
  -- what stands at the destinations of the state's edges
  abbrev there : DestinationShapes
  there = destination_shapes around

  work_along : (kind : Kind) (s : Shape) → breaches_along there (walk_work settings kind around.entry s) ≡ work_breaches around settings kind s
  work_along (Pass None) s = result_along around settings (Pass None) s
  work_along (Pass (Some t)) s = refl
  work_along (Task resource) s = append-nil (breach_unless_sub (codes "Parameters") PayloadNotTaken s (Some (takes_of around.declared around.name)))
  work_along (Choice rules default) s =
      both_along there (walk_rules settings (Choice rules default) around.entry.input rules s) (walk_default settings (Choice rules default) around.entry.input rules default s) (rules_breaches around settings (Choice rules default) rules s) (default_breaches around settings (Choice rules default) rules default s)
      (rules_along around settings (Choice rules default) rules s) (default_along around settings (Choice rules default) rules default s)
  work_along (Wait delay) s =
      both_along there (walk_delay delay s) (walk_result settings (Wait delay) around.entry.input s) (delay_breaches delay s) (result_breaches around settings (Wait delay) s)
      (delay_along there delay s) (result_along around settings (Wait delay) s)
  work_along Succeed s = then_along there (to_end (codes "Type")) (end_breaches around.entry.output (codes "Type") around.end) (end_along around.inputs around.entry.output around.end (takes_of around.declared around.name) (codes "Type")) (leave settings Succeed around.entry.input s)
  work_along (Fail error cause) s = refl
  work_along (Parallel branches) s = branches_along around.inputs around.entry.output around.end (takes_of around.declared around.name) branches s
  work_along (Map items selector processor) s =
      items_along around settings (walk_elements settings (Map items selector processor) around.entry selector processor s) (element_breaches around settings (Map items selector processor) selector processor s)
      (elements_along around settings (Map items selector processor) selector processor s) (found items s)

  settled_along : (kind : Kind) → breaches_along there (walk_settled (gives_of around.declared around.name) settings kind around.entry) ≡ settled_breaches around settings kind
  settled_along (Pass None) = refl
  settled_along (Pass (Some t)) = result_along around settings (Pass (Some t)) (literal t)
  settled_along (Task resource) = result_along around settings (Task resource) (gives_of around.declared around.name)
  settled_along (Choice rules default) = refl
  settled_along (Wait delay) = refl
  settled_along Succeed = refl
  settled_along (Fail error cause) = refl
  settled_along (Parallel branches) = result_along around settings (Parallel branches) (ArrayShape (as_first_elements around.entry.branches) Never)
  settled_along (Map items selector processor) = refl

  -- the parts of a walk through a state whose input some tree has
  parts_along : (kind : Kind) → breaches_along there (walk_then (walk_work settings kind around.entry) (effective_flow settings around.entry.input) ++ (walk_settled (gives_of around.declared around.name) settings kind around.entry ++ walk_catchers around.entry.input settings.catchers))
      ≡ breaches_then (work_breaches around settings kind) (effective_flow settings around.entry.input) ++ (settled_breaches around settings kind ++ catcher_breaches around.inputs around.entry.input settings.catchers)
  parts_along kind =
      both_along there (walk_then (walk_work settings kind around.entry) (effective_flow settings around.entry.input)) (walk_settled (gives_of around.declared around.name) settings kind around.entry ++ walk_catchers around.entry.input settings.catchers)
      (breaches_then (work_breaches around settings kind) (effective_flow settings around.entry.input)) (settled_breaches around settings kind ++ catcher_breaches around.inputs around.entry.input settings.catchers)
      (then_along there (walk_work settings kind around.entry) (work_breaches around settings kind) (work_along kind) (effective_flow settings around.entry.input))
      (both_along there (walk_settled (gives_of around.declared around.name) settings kind around.entry) (walk_catchers around.entry.input settings.catchers) (settled_breaches around settings kind) (catcher_breaches around.inputs around.entry.input settings.catchers)
      (settled_along kind) (catchers_along around.inputs around.entry.output around.end (takes_of around.declared around.name) around.entry.input settings.catchers))

  -- where the state's input has a tree, and where it has none
  live_along : (live : Bool) (steps : List Walked) (told : List Breach) → breaches_along there steps ≡ told → breaches_along there (if live then steps else []) ≡ (if live then told else [])
  live_along true steps told h = h
  live_along false steps told h = refl

  -- the whole walk
  pub walked_breaches : (kind : Kind) → flow_breaches around settings kind ≡ rules_on_flow around settings kind
  walked_breaches kind = live_along (inhabited around.entry.input) (walk_then (walk_work settings kind around.entry) (effective_flow settings around.entry.input) ++ (walk_settled (gives_of around.declared around.name) settings kind around.entry ++ walk_catchers around.entry.input settings.catchers)) _ (parts_along kind)
