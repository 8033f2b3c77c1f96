-- What is told of a state is in the list of its breaches.
use Rattle.std.proofs.Common.{◌≡◌, ℕ, List, [], ◌∷◌, ◌++◌, Contains, Bool, IsTrue, IsFalse, if◌then◌else◌, Option, Some, None, Ok, Err, codes, refl, sym, ap, subst, ◌∙◌, ◌⊎◌, inl, inr}
use Rattle.std.proofs.lemmas.List.Elements.{Contains-append_left, Contains-append_right}
use Rattle.asl_model.specs.Path.{Segment}
use Rattle.asl_model.specs.Tree.{Tree}
use Rattle.asl_model.specs.Template.{Template}
use Rattle.asl_model.specs.Test.{Rule}
use Rattle.asl_model.specs.Machine.{Catcher, Settings, SecondsPath, TimestampPath, Scope, Kind, Task, Choice, Map, Scopes, start_of}
use Rattle.asl_model.specs.Shape.{Shape, Never, Arrays, WithoutArrays, ArraysOf, Shapes, has_arrays, inhabited}
use Rattle.asl_model.specs.Examples.{outside}
use Rattle.asl_model.specs.ShapeFlow.{DoubtfulPath, look, found, put, arrays_alone, is_integer_shape, is_string_shape, Doubt, template_shape, rule_shape, is_settled, FlowFault, MissingAt, MisfitAt, Flow, flow_then, doubt_fault, template_flow, through_template, path_flow, through_path, leave}
use Rattle.asl_model.specs.Certificate.{takes_of}
use Rattle.asl_model.specs.Finding.{FindingFault, WrongKind, ResultMayNotFit, NoDefault, PayloadNotTaken, OutputNotCertified, NextInput, ScopeOutput, BranchInput, CatchInput, Breach, plain_breach, breach_unless, breach_shown, breach_unless_sub, missing_breach, breach_of, Surroundings, effective_flow, element_shape, item_flow, elements_of, array_parts, error_placed_shape, flow_breaches}
use Rattle.asl_model.proofs.EdgesBreached.{walked_breaches}
use Rattle.asl_model.proofs.FlowRules.{breaches_then, kind_breaches, delay_breaches, child_breaches, branch_breaches, with_elements, with_items, rule_breaches, rules_breaches, default_breaches, caught_breaches, catcher_breaches, result_breaches, map_breaches, work_breaches, settled_breaches, rules_on_flow}
use Rattle.asl_model.specs.FindingRules.{IsBranch, branch_is_first, branch_is_later, IsEffective, Target, ToState, ToEnd, next_target, Makes, makes_literal, makes_what_it_takes, makes_answer, lets_through, lets_default, lets_wait, lets_succeed, makes_outputs, makes_items, Leaves, Wants, wants_number, wants_text, wants_list, LooksUp, looks_up_input, looks_up_wanted, looks_up_output, Evaluates, evaluates_parameters, evaluates_item_selector, evaluates_result_selector, Puts, puts_result, puts_error_output, Starts, starts_branch, starts_item}
use Rattle.asl_model.proofs.FindingShown.{HasDoubt, TellsFlow, tells_path, tells_template, tells_rule, tells_kind, tells_misfit, tells_failure, tells_no_default, tells_payload, tells_output, tells_next, tells_end, tells_child, tells_catch}
use Rattle.asl_model.proofs.Listed.{none_in, first_in, first_or_later, map_in}
use Rattle.asl_model.proofs.FindingFlows.{looked_found, template_stops, selector_stops, placing_stops, output_stops}
use Rattle.asl_model.proofs.FindingTold.{going_breaches, going_next}

-- a breach, where the test fails
pub unless_in : (test : Bool) (field : List ℕ) (fault : FindingFault) → IsFalse test → Contains (breach_unless test field fault) (plain_breach field fault)
unless_in test field fault h = subst (λ t. Contains (breach_unless t field fault) (plain_breach field fault)) (sym h) (first_in (plain_breach field fault) [])

-- the breach that a tree shows
abbrev pub shown_breach : List ℕ → FindingFault → Tree → Breach
shown_breach field fault t = record { field = field; fault = fault; example = Some t }

-- a breach, where a tree is outside
pub shown_in : (field : List ℕ) (fault : FindingFault) (s expected : Shape) (t : Tree) → outside s expected ≡ Some t → Contains (breach_shown field fault (outside s expected)) (shown_breach field fault t)
shown_in field fault s expected t h = subst (λ o. Contains (breach_shown field fault o) (shown_breach field fault t)) (sym h) (first_in (shown_breach field fault t) [])

-- a breach, where the comparison fails
pub sub_in : (field : List ℕ) (fault : FindingFault) (s : Shape) (o : Option Shape) (expected : Shape) (t : Tree) → o ≡ Some expected → outside s expected ≡ Some t → Contains (breach_unless_sub field fault s o) (shown_breach field fault t)
sub_in field fault s o expected t e h = subst (λ p. Contains (breach_unless_sub field fault s p) (shown_breach field fault t)) (sym e) (shown_in field fault s expected t h)

-- what stops a flow
stopped_in : (go_on : Shape → List Breach) (flow : Flow) (faults : List FlowFault) (f : FlowFault) → flow ≡ Err faults → Contains faults f → Contains (breaches_then go_on flow) (breach_of f)
stopped_in go_on flow faults f e c = subst (λ o. Contains (breaches_then go_on o) (breach_of f)) (sym e) (map_in breach_of faults f c)

-- what comes of a shape
gone_in : (go_on : Shape → List Breach) (flow : Flow) (s : Shape) (b : Breach) → flow ≡ Ok s → Contains (go_on s) b → Contains (breaches_then go_on flow) b
gone_in go_on flow s b e c = subst (λ o. Contains (breaches_then go_on o) b) (sym e) c

module _ (around : Surroundings) (settings : Settings) (live : IsTrue (inhabited around.entry.input)) where
  -- the breaches of the state
  abbrev flow : Kind → List Breach
  flow kind = rules_on_flow around settings kind

  -- those of an effective input
  abbrev work_part : Kind → List Breach
  work_part kind = breaches_then (work_breaches around settings kind) (effective_flow settings around.entry.input)

  -- those that need none
  abbrev settled_part : Kind → List Breach
  settled_part kind = settled_breaches around settings kind

  -- those of the catchers
  abbrev catcher_part : List Breach
  catcher_part = catcher_breaches around.inputs around.entry.input settings.catchers

  -- each part stands in the list
  in_flow : (kind : Kind) (b : Breach) → Contains (work_part kind ++ (settled_part kind ++ catcher_part)) b → Contains (flow kind) b
  in_flow kind b c = subst (λ t. Contains (if t then work_part kind ++ (settled_part kind ++ catcher_part) else []) b) (sym live) c

  -- what comes of the effective input
  in_work : (kind : Kind) (s : Shape) (b : Breach) → IsEffective around settings s → Contains (work_breaches around settings kind s) b → Contains (flow kind) b
  in_work kind s b eff c = in_flow kind b (Contains-append_left (work_part kind) (settled_part kind ++ catcher_part) b (gone_in (work_breaches around settings kind) (effective_flow settings around.entry.input) s b eff c))

  -- what stops it
  in_stopped : (kind : Kind) (faults : List FlowFault) (f : FlowFault) → effective_flow settings around.entry.input ≡ Err faults → Contains faults f → Contains (flow kind) (breach_of f)
  in_stopped kind faults f e c = in_flow kind (breach_of f) (Contains-append_left (work_part kind) (settled_part kind ++ catcher_part) (breach_of f) (stopped_in (work_breaches around settings kind) (effective_flow settings around.entry.input) faults f e c))

  -- what needs none
  in_settled : (kind : Kind) (b : Breach) → Contains (settled_part kind) b → Contains (flow kind) b
  in_settled kind b c = in_flow kind b (Contains-append_right (work_part kind) (settled_part kind ++ catcher_part) b (Contains-append_left (settled_part kind) catcher_part b c))

  -- what the catchers hand on
  in_catchers : (kind : Kind) (b : Breach) → Contains catcher_part b → Contains (flow kind) b
  in_catchers kind b c = in_flow kind b (Contains-append_right (work_part kind) (settled_part kind ++ catcher_part) b (Contains-append_right (settled_part kind) catcher_part b c))

  -- ---- rules, branches, catchers

  -- the breaches of one rule
  rule_in : (kind : Kind) (rules : List Rule) (s : Shape) (rule : Rule) (b : Breach) → Contains rules rule → Contains (rule_breaches around settings kind rule.next (rule_shape rule.test s)) b → Contains (rules_breaches around settings kind rules s) b
  rule_in kind [] s rule b c d = none_in rule c
  rule_in kind (first ∷ rules) s rule b c d = go (first_or_later first rule rules c) (λ e. rule_in kind rules s rule b e d)
    where
      go : (first ≡ rule) ⊎ Contains rules rule → (Contains rules rule → Contains (rules_breaches around settings kind rules s) b) → Contains (rule_breaches around settings kind first.next (rule_shape first.test s) ++ rules_breaches around settings kind rules s) b
      go (inl e) later = Contains-append_left (rule_breaches around settings kind first.next (rule_shape first.test s)) (rules_breaches around settings kind rules s) b (subst (λ r. Contains (rule_breaches around settings kind r.next (rule_shape r.test s)) b) (sym e) d)
      go (inr e) later = Contains-append_right (rule_breaches around settings kind first.next (rule_shape first.test s)) (rules_breaches around settings kind rules s) b (later e)

  -- of one branch
  branch_in : {branch : Scope} {i : ℕ} {branches : Scopes} (s : Shape) (b : Breach) → IsBranch branch i branches → Contains (child_breaches around.inputs (codes "Branches") branch s) b → Contains (branch_breaches around.inputs branches s) b
  branch_in {branch} s b (branch_is_first {others = others}) c = Contains-append_left (child_breaches around.inputs (codes "Branches") branch s) (branch_breaches around.inputs others s) b c
  branch_in s b (branch_is_later {other = other} {others = others} h) c = Contains-append_right (child_breaches around.inputs (codes "Branches") other s) (branch_breaches around.inputs others s) b (branch_in s b h c)

  -- of one catcher
  catcher_in : (catchers : List Catcher) (catcher : Catcher) (b : Breach) → Contains catchers catcher → Contains (caught_breaches around.inputs catcher.next (error_placed_shape catcher.result_path around.entry.input)) b → Contains (catcher_breaches around.inputs around.entry.input catchers) b
  catcher_in [] catcher b c d = none_in catcher c
  catcher_in (first ∷ catchers) catcher b c d = go (first_or_later first catcher catchers c) (λ e. catcher_in catchers catcher b e d)
    where
      go : (first ≡ catcher) ⊎ Contains catchers catcher → (Contains catchers catcher → Contains (catcher_breaches around.inputs around.entry.input catchers) b) → Contains (caught_breaches around.inputs first.next (error_placed_shape first.result_path around.entry.input) ++ catcher_breaches around.inputs around.entry.input catchers) b
      go (inl e) later = Contains-append_left (caught_breaches around.inputs first.next (error_placed_shape first.result_path around.entry.input)) (catcher_breaches around.inputs around.entry.input catchers) b (subst (λ r. Contains (caught_breaches around.inputs r.next (error_placed_shape r.result_path around.entry.input)) b) (sym e) d)
      go (inr e) later = Contains-append_right (caught_breaches around.inputs first.next (error_placed_shape first.result_path around.entry.input)) (catcher_breaches around.inputs around.entry.input catchers) b (later e)

  -- what follows for the elements of what `ItemsPath` names
  abbrev of_elements : List Segment → Option Template → Scope → Shape → Shapes × Shape → List Breach
  of_elements items selector processor s elements = breaches_then (child_breaches around.inputs (codes "ItemProcessor") processor) (item_flow selector s (element_shape elements.0 elements.1)) ++ map_breaches around settings (Map items selector processor) around.entry.item elements

  -- what follows for the items of a Map
  elements_in : (items : List Segment) (selector : Option Template) (processor : Scope) (s named : Shape) (first : Shapes) (rest : Shape) (b : Breach) → IsEffective around settings s → look items s ≡ Ok named → array_parts named ≡ Some (first, rest) → Contains (of_elements items selector processor s (first, rest)) b → Contains (flow (Map items selector processor)) b
  elements_in items selector processor s named first rest b eff e parts c = in_work (Map items selector processor) s b eff (subst (λ r. Contains (with_items (of_elements items selector processor s) r) b) (sym (looked_found items s e)) (subst (λ o. Contains (with_elements (of_elements items selector processor s) o) b) (sym parts) c))

  -- ---- what a state makes

  -- the breaches on the way out of what a state makes
  abbrev way : Kind → Shape → Target → List Breach
  way kind made target = breaches_then (going_breaches around.inputs around.entry.output around.end target) (leave settings kind around.entry.input made)

  -- the way out by `Next` or `End`
  next_way : (kind : Kind) (made : Shape) (b : Breach) → Contains (way kind made (next_target settings.next)) b → Contains (result_breaches around settings kind made) b
  next_way kind made b c = subst (λ go_on. Contains (breaches_then go_on (leave settings kind around.entry.input made)) b) (sym (going_next around.inputs around.entry.output around.end settings.next)) c

  -- the breaches on the way out
  made_in : {kind : Kind} {made : Shape} {target : Target} → Makes around settings kind made target → (b : Breach) → Contains (way kind made target) b → Contains (flow kind) b
  made_in {kind} {made} makes_literal b c = in_settled kind b (next_way kind made b c)
  made_in {kind} {made} (makes_what_it_takes {s = s} eff) b c = in_work kind s b eff (next_way kind made b c)
  made_in {kind} {made} makes_answer b c = in_settled kind b (next_way kind made b c)
  made_in {kind} {made} (lets_through {rules = rules} {default = default} {rule = rule} {s = s} eff among e) b c =
      in_work kind s b eff (Contains-append_left (rules_breaches around settings kind rules s) (default_breaches around settings kind rules default s) b (rule_in kind rules s rule b among (subst (λ o. Contains (rule_breaches around settings kind rule.next o) b) (sym e) c)))
  made_in {kind} {made} (lets_default {rules = rules} {next = next} {s = s} eff) b c = in_work kind s b eff (Contains-append_right (rules_breaches around settings kind rules s) (default_breaches around settings kind rules (Some next) s) b c)
  made_in {kind} {made} (lets_wait {delay = delay} {s = s} eff) b c = in_work kind s b eff (Contains-append_right (delay_breaches delay s) (result_breaches around settings kind s) b (next_way kind made b c))
  made_in {kind} {made} (lets_succeed {s = s} eff) b c = in_work kind s b eff c
  made_in {kind} {made} makes_outputs b c = in_settled kind b (next_way kind made b c)
  made_in {kind} {made} (makes_items {items = items} {selector = selector} {processor = processor} {s = s} {named = named} {first = first} {rest = rest} eff e parts there) b c =
      elements_in items selector processor s named first rest b eff e parts
      (Contains-append_right (breaches_then (child_breaches around.inputs (codes "ItemProcessor") processor) (item_flow selector s (element_shape first rest))) (map_breaches around settings kind around.entry.item (first, rest)) b
      (subst (λ o. Contains (map_breaches around settings kind o (first, rest)) b) (sym there) (next_way kind made b c)))

  -- what stops it
  made_stopped : {kind : Kind} {made : Shape} {target : Target} → Makes around settings kind made target → (faults : List FlowFault) (f : FlowFault) → leave settings kind around.entry.input made ≡ Err faults → Contains faults f → Contains (flow kind) (breach_of f)
  made_stopped {kind} {made} {target} makes faults f e c = made_in makes (breach_of f) (stopped_in (going_breaches around.inputs around.entry.output around.end target) (leave settings kind around.entry.input made) faults f e c)

  -- what leaves
  left_in : {kind : Kind} {output : Shape} {target : Target} → Leaves around settings kind output target → (b : Breach) → Contains (going_breaches around.inputs around.entry.output around.end target output) b → Contains (flow kind) b
  left_in {kind} {output} {target} leaves b c = made_in leaves.makes b (gone_in (going_breaches around.inputs around.entry.output around.end target) (leave settings kind around.entry.input leaves.made) output b leaves.comes_out c)

  -- ---- templates

  -- a doubt of a template
  evaluated_in : {kind : Kind} {field : List ℕ} {template : Template} {input : Shape} {item : Option Shape} {d : Doubt} → Evaluates around settings kind field template input item → IsTrue (inhabited input) → HasDoubt input item template d → Contains (flow kind) (breach_of (doubt_fault field d))
  evaluated_in {kind} {template = template} {d = d} (evaluates_parameters {s = s} p given) some doubt =
      let w = template_stops (codes "Parameters") template s None d some doubt in
      in_stopped kind w.0 (doubt_fault (codes "Parameters") d) (ap (flow_then (through_template (codes "Parameters") settings.parameters)) p ∙ (ap (λ o. through_template (codes "Parameters") o s) given ∙ w.1)) w.2
  evaluated_in {kind} {template = template} {d = d} (evaluates_item_selector {items = items} {processor = processor} {s = s} {named = named} {first = first} {rest = rest} eff e parts present) some doubt =
      let w = template_stops (codes "ItemSelector") template s (Some (element_shape first rest)) d some doubt in
      elements_in items (Some template) processor s named first rest (breach_of (doubt_fault (codes "ItemSelector") d)) eff e parts
      (Contains-append_left (breaches_then (child_breaches around.inputs (codes "ItemProcessor") processor) (item_flow (Some template) s (element_shape first rest))) (map_breaches around settings (Map items (Some template) processor) around.entry.item (first, rest)) (breach_of (doubt_fault (codes "ItemSelector") d))
      (stopped_in (child_breaches around.inputs (codes "ItemProcessor") processor) (item_flow (Some template) s (element_shape first rest)) w.0 (doubt_fault (codes "ItemSelector") d) (ap (λ t. if t then template_flow (codes "ItemSelector") (template_shape template s (Some (element_shape first rest))) else Ok Never) present ∙ w.1) w.2))
  evaluated_in {kind} {template = template} {d = d} (evaluates_result_selector {made = made} makes with given) some doubt =
      let w = selector_stops settings kind around.entry.input made template d live with given some doubt in
      made_stopped makes w.0 (doubt_fault (codes "ResultSelector") d) w.1 w.2

  -- ---- paths

  -- what a path wants of the effective input
  missing_in : {kind : Kind} {field : List ℕ} {path : List Segment} {test : Shape → Bool} (s : Shape) (d : DoubtfulPath) → Wants kind field path test → IsEffective around settings s → found path s ≡ Err d → Contains (flow kind) (missing_breach field d)
  missing_in {kind} s d (wants_number {path = path}) eff e = in_work kind s (missing_breach (codes "SecondsPath") d) eff (Contains-append_left (delay_breaches (SecondsPath path) s) (result_breaches around settings kind s) (missing_breach (codes "SecondsPath") d) (subst (λ r. Contains (kind_breaches (codes "SecondsPath") is_integer_shape r) (missing_breach (codes "SecondsPath") d)) (sym e) (first_in (missing_breach (codes "SecondsPath") d) [])))
  missing_in {kind} s d (wants_text {path = path}) eff e = in_work kind s (missing_breach (codes "TimestampPath") d) eff (Contains-append_left (delay_breaches (TimestampPath path) s) (result_breaches around settings kind s) (missing_breach (codes "TimestampPath") d) (subst (λ r. Contains (kind_breaches (codes "TimestampPath") is_string_shape r) (missing_breach (codes "TimestampPath") d)) (sym e) (first_in (missing_breach (codes "TimestampPath") d) [])))
  missing_in {kind} s d (wants_list {items = items} {selector = selector} {processor = processor}) eff e = in_work kind s (missing_breach (codes "ItemsPath") d) eff (subst (λ r. Contains (with_items (of_elements items selector processor s) r) (missing_breach (codes "ItemsPath") d)) (sym e) (first_in (missing_breach (codes "ItemsPath") d) []))

  -- a doubtful path
  looked_up_in : {kind : Kind} {field : List ℕ} {path : List Segment} {s : Shape} (d : DoubtfulPath) → LooksUp around settings kind field path s → found path s ≡ Err d → Contains (flow kind) (missing_breach field d)
  looked_up_in {kind} {path = path} d (looks_up_input given) e = in_stopped kind (MissingAt (codes "InputPath") d ∷ []) (MissingAt (codes "InputPath") d) (ap (flow_then (through_template (codes "Parameters") settings.parameters)) (ap (λ o. through_path (codes "InputPath") o around.entry.input) given ∙ ap (path_flow (codes "InputPath")) e)) (first_in (MissingAt (codes "InputPath") d) [])
  looked_up_in {s = s} d (looks_up_wanted eff wants) e = missing_in s d wants eff e
  looked_up_in {kind} {path = path} d (looks_up_output {made = made} {s = s} makes goes given) e = made_stopped makes (MissingAt (codes "OutputPath") d ∷ []) (MissingAt (codes "OutputPath") d) (output_stops settings kind around.entry.input made s path d live goes given e) (first_in (MissingAt (codes "OutputPath") d) [])

  -- of no arrays no elements are known
  no_array : (arrays : Arrays) → IsFalse (has_arrays arrays) → elements_of arrays ≡ None
  no_array WithoutArrays h = refl
  no_array (ArraysOf first rest) h = absurd (cc)

  -- a path that may name something of another kind
  wrong_in : {kind : Kind} {field : List ℕ} {path : List Segment} {test : Shape → Bool} (s t : Shape) → Wants kind field path test → IsEffective around settings s → look path s ≡ Ok t → IsFalse (test t) → Contains (flow kind) (plain_breach field WrongKind)
  wrong_in {kind} s t (wants_number {path = path}) eff e h = in_work kind s (plain_breach (codes "SecondsPath") WrongKind) eff (Contains-append_left (delay_breaches (SecondsPath path) s) (result_breaches around settings kind s) (plain_breach (codes "SecondsPath") WrongKind) (subst (λ r. Contains (kind_breaches (codes "SecondsPath") is_integer_shape r) (plain_breach (codes "SecondsPath") WrongKind)) (sym (looked_found path s e)) (unless_in (is_integer_shape t) (codes "SecondsPath") WrongKind h)))
  wrong_in {kind} s t (wants_text {path = path}) eff e h = in_work kind s (plain_breach (codes "TimestampPath") WrongKind) eff (Contains-append_left (delay_breaches (TimestampPath path) s) (result_breaches around settings kind s) (plain_breach (codes "TimestampPath") WrongKind) (subst (λ r. Contains (kind_breaches (codes "TimestampPath") is_string_shape r) (plain_breach (codes "TimestampPath") WrongKind)) (sym (looked_found path s e)) (unless_in (is_string_shape t) (codes "TimestampPath") WrongKind h)))
  wrong_in {kind} s t (wants_list {items = items} {selector = selector} {processor = processor}) eff e h = in_work kind s (plain_breach (codes "ItemsPath") WrongKind) eff (subst (λ r. Contains (with_items (of_elements items selector processor s) r) (plain_breach (codes "ItemsPath") WrongKind)) (sym (looked_found items s e)) (subst (λ o. Contains (with_elements (of_elements items selector processor s) o) (plain_breach (codes "ItemsPath") WrongKind)) (sym (no_array (arrays_alone t) h)) (first_in (plain_breach (codes "ItemsPath") WrongKind) [])))

  -- ---- placings, children

  -- a placing that may not fit
  put_in : {kind : Kind} {field : List ℕ} {path : List Segment} {s : Shape} (at : ℕ) → Puts around settings kind field path s → put path s around.entry.input ≡ Err at → Contains (flow kind) (plain_breach field ResultMayNotFit)
  put_in {kind} {path = path} at (puts_result {made = made} {selected = selected} makes selects given) e = made_stopped makes (MisfitAt (codes "ResultPath") ∷ []) (MisfitAt (codes "ResultPath")) (placing_stops settings kind around.entry.input made selected path at live selects given e) (first_in (MisfitAt (codes "ResultPath")) [])
  put_in {kind} {path = path} at (puts_error_output {catcher = catcher} among given) e = in_catchers kind (plain_breach (codes "Catch") ResultMayNotFit) (catcher_in settings.catchers catcher (plain_breach (codes "Catch") ResultMayNotFit) among (subst (λ r. Contains (caught_breaches around.inputs catcher.next r) (plain_breach (codes "Catch") ResultMayNotFit)) (sym (ap (λ o. error_placed_shape o around.entry.input) given ∙ e)) (first_in (plain_breach (codes "Catch") ResultMayNotFit) [])))

  -- a child's input
  started_in : {kind : Kind} {field : List ℕ} {child : Scope} {s : Shape} (expected : Shape) (t : Tree) → Starts around settings kind field child s → around.inputs (start_of child) ≡ Some expected → outside s expected ≡ Some t → Contains (flow kind) (shown_breach field BranchInput t)
  started_in {kind} {child = child} expected t (starts_branch {s = s} eff branch) e h = in_work kind s (shown_breach (codes "Branches") BranchInput t) eff (branch_in s (shown_breach (codes "Branches") BranchInput t) branch (sub_in (codes "Branches") BranchInput s (around.inputs (start_of child)) expected t e h))
  started_in {kind} expected t (starts_item {items = items} {selector = selector} {processor = processor} {s = s} {named = named} {input = input} {first = first} {rest = rest} eff found parts flows) e h =
      elements_in items selector processor s named first rest (shown_breach (codes "ItemProcessor") BranchInput t) eff found parts
      (Contains-append_left (breaches_then (child_breaches around.inputs (codes "ItemProcessor") processor) (item_flow selector s (element_shape first rest))) (map_breaches around settings kind around.entry.item (first, rest)) (shown_breach (codes "ItemProcessor") BranchInput t)
      (gone_in (child_breaches around.inputs (codes "ItemProcessor") processor) (item_flow selector s (element_shape first rest)) input (shown_breach (codes "ItemProcessor") BranchInput t) flows (sub_in (codes "ItemProcessor") BranchInput input (around.inputs (start_of processor)) expected t e h)))

  -- ---- all of them

  -- a breach of a Choice, a Task by its type
  rule_missing : (kind : Kind) (rules : List Rule) (default : Option (List ℕ)) (rule : Rule) (s : Shape) (d : DoubtfulPath) → kind ≡ Choice rules default → IsEffective around settings s → Contains rules rule → rule_shape rule.test s ≡ Err d → Contains (flow kind) (missing_breach (codes "Choices") d)
  rule_missing kind rules default rule s d is eff among e =
      subst (λ k. Contains (flow k) (missing_breach (codes "Choices") d)) (sym is)
      (in_work (Choice rules default) s (missing_breach (codes "Choices") d) eff
      (Contains-append_left (rules_breaches around settings (Choice rules default) rules s) (default_breaches around settings (Choice rules default) rules default s) (missing_breach (codes "Choices") d)
      (rule_in (Choice rules default) rules s rule (missing_breach (codes "Choices") d) among (subst (λ o. Contains (rule_breaches around settings (Choice rules default) rule.next o) (missing_breach (codes "Choices") d)) (sym e) (first_in (missing_breach (codes "Choices") d) [])))))

  -- each rule that is told, by its part
  by_part : (kind : Kind) {field : List ℕ} {fault : FindingFault} {example : Option Tree} → TellsFlow around settings kind field fault example → Contains (flow kind) (record { field = field; fault = fault; example = example })
  by_part kind (tells_path {doubtful = d} looks e) = looked_up_in d looks e
  by_part kind (tells_template evaluates some doubt) = evaluated_in evaluates some doubt
  by_part kind (tells_rule {rules = rules} {default = default} {rule = rule} {s = s} {doubtful = d} is eff among e) = rule_missing kind rules default rule s d is eff among e
  by_part kind (tells_kind {s = s} {t = t} eff wants e h) = wrong_in s t wants eff e h
  by_part kind (tells_misfit {at = at} puts e) = put_in at puts e
  by_part kind (tells_failure evaluates some doubt) = evaluated_in evaluates some doubt
  by_part kind (tells_no_default {rules = rules} {s = s} is eff h) =
      subst (λ k. Contains (flow k) (plain_breach (codes "Default") NoDefault)) (sym is)
      (in_work (Choice rules None) s (plain_breach (codes "Default") NoDefault) eff
      (Contains-append_right (rules_breaches around settings (Choice rules None) rules s) (default_breaches around settings (Choice rules None) rules None s) (plain_breach (codes "Default") NoDefault)
      (unless_in (is_settled rules s) (codes "Default") NoDefault h)))
  by_part kind (tells_payload {resource = resource} {s = s} {t = t} is eff h) = subst (λ k. Contains (flow k) (shown_breach (codes "Parameters") PayloadNotTaken t)) (sym is) (in_work (Task resource) s (shown_breach (codes "Parameters") PayloadNotTaken t) eff (shown_in (codes "Parameters") PayloadNotTaken s (takes_of around.declared around.name) t h))
  by_part kind (tells_output {output = output} {target = target} {t = t} leaves h) = left_in leaves (shown_breach (codes "OutputPath") OutputNotCertified t) (own target)
    where
      own : (to : Target) → Contains (going_breaches around.inputs around.entry.output around.end to output) (shown_breach (codes "OutputPath") OutputNotCertified t)
      own (ToState field next) = Contains-append_left (breach_unless_sub (codes "OutputPath") OutputNotCertified output (Some around.entry.output)) (breach_unless_sub field NextInput output (around.inputs next)) (shown_breach (codes "OutputPath") OutputNotCertified t) (shown_in (codes "OutputPath") OutputNotCertified output around.entry.output t h)
      own (ToEnd field) = Contains-append_left (breach_unless_sub (codes "OutputPath") OutputNotCertified output (Some around.entry.output)) (breach_unless_sub field ScopeOutput output around.end) (shown_breach (codes "OutputPath") OutputNotCertified t) (shown_in (codes "OutputPath") OutputNotCertified output around.entry.output t h)
  by_part kind (tells_next {output = output} {expected = expected} {field = field} {next = next} {t = t} leaves compared h) =
      left_in leaves (shown_breach field NextInput t)
      (Contains-append_right (breach_unless_sub (codes "OutputPath") OutputNotCertified output (Some around.entry.output)) (breach_unless_sub field NextInput output (around.inputs next)) (shown_breach field NextInput t) (sub_in field NextInput output (around.inputs next) expected t compared h))
  by_part kind (tells_end {output = output} {expected = expected} {field = field} {t = t} leaves e h) =
      left_in leaves (shown_breach field ScopeOutput t)
      (Contains-append_right (breach_unless_sub (codes "OutputPath") OutputNotCertified output (Some around.entry.output)) (breach_unless_sub field ScopeOutput output around.end) (shown_breach field ScopeOutput t) (sub_in field ScopeOutput output around.end expected t e h))
  by_part kind (tells_child {expected = expected} {t = t} starts compared h) = started_in expected t starts compared h
  by_part kind (tells_catch {catcher = catcher} {s = s} {expected = expected} {t = t} among e compared h) =
      in_catchers kind (shown_breach (codes "Catch") CatchInput t)
      (catcher_in settings.catchers catcher (shown_breach (codes "Catch") CatchInput t) among
      (subst (λ r. Contains (caught_breaches around.inputs catcher.next r) (shown_breach (codes "Catch") CatchInput t)) (sym e) (sub_in (codes "Catch") CatchInput s (around.inputs catcher.next) expected t compared h)))

  -- each rule that is told
  pub told_listed : (kind : Kind) {field : List ℕ} {fault : FindingFault} {example : Option Tree} → TellsFlow around settings kind field fault example → Contains (flow_breaches around settings kind) (record { field = field; fault = fault; example = example })
  told_listed kind {field = field} {fault = fault} {example = example} tells = subst (λ rules. Contains rules (record { field = field; fault = fault; example = example })) (sym (walked_breaches around settings kind)) (by_part kind tells)
