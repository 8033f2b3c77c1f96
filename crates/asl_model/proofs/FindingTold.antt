-- What the list of a state's breaches holds is told: each of its parts tells rules on what flows.
use Rattle.std.proofs.Common.{◌≡◌, ℕ, suc, List, [], ◌∷◌, ◌++◌, Contains, Bool, true, false, IsTrue, IsFalse, if◌then◌else◌, Option, Some, None, Result, Ok, Err, codes, refl, sym, subst, ◌⊎◌, inl, inr}
use Rattle.std.proofs.lemmas.List.Elements.{Contains-append_cases}
use Rattle.std.proofs.lemmas.Option.{same_Some}
use Rattle.asl_model.specs.Path.{Segment}
use Rattle.asl_model.specs.Tree.{Tree}
use Rattle.asl_model.specs.Template.{Template}
use Rattle.asl_model.specs.Test.{Rule}
use Rattle.asl_model.specs.Machine.{Catcher, Settings, Delay, Seconds, SecondsPath, Timestamp, TimestampPath, Scope, Kind, Pass, Task, Choice, Wait, Succeed, Fail, Parallel, Map, Scopes, NoScopes, AndScope, start_of}
use Rattle.asl_model.specs.Shape.{Shape, Never, ArrayShape, Arrays, WithoutArrays, ArraysOf, Shapes, has_arrays, inhabited}
use Rattle.asl_model.specs.Examples.{outside}
use Rattle.asl_model.specs.ShapeFlow.{DoubtfulPath, look, found, literal, arrays_alone, is_integer_shape, is_string_shape, Doubt, MayBeMissing, MayFail, template_shape, rule_shape, is_settled, FlowFault, Flow, flow_then, doubt_fault, template_flow, through_template, through_path, through_placing, output_flow, result_flow, Leaving, WithResult, WithInput, Nothing, leaving, leave_by, leave}
use Rattle.asl_model.specs.Certificate.{takes_of, gives_of}
use Rattle.asl_model.specs.Finding.{FindingFault, WrongKind, ResultMayNotFit, NoDefault, PayloadNotTaken, OutputNotCertified, NextInput, ScopeOutput, BranchInput, CatchInput, Breach, plain_breach, breach_unless, breach_shown, breach_unless_sub, missing_breach, breach_of, Surroundings, effective_flow, as_first_elements, element_shape, item_flow, map_result, elements_of, array_parts, error_placed_shape, flow_breaches}
use Rattle.asl_model.proofs.EdgesBreached.{walked_breaches}
use Rattle.asl_model.proofs.FlowRules.{breaches_then, next_breaches, end_breaches, output_breaches, kind_breaches, delay_breaches, child_breaches, branch_breaches, with_elements, with_items, rule_breaches, rules_breaches, default_breaches, caught_breaches, catcher_breaches, result_breaches, map_breaches, work_breaches, settled_breaches, rules_on_flow}
use Rattle.asl_model.specs.FindingRules.{IsBranch, branch_is_first, branch_is_later, IsEffective, Target, ToState, ToEnd, next_target, Makes, makes_literal, makes_what_it_takes, makes_answer, lets_through, lets_default, lets_wait, lets_succeed, makes_outputs, makes_items, IsSelected, GoesOut, goes_out_placed, goes_out_as_it_is, Leaves, wants_number, wants_text, wants_list, looks_up_input, looks_up_wanted, looks_up_output, Evaluates, evaluates_parameters, evaluates_item_selector, evaluates_result_selector, puts_result, puts_error_output, starts_branch, starts_item}
use Rattle.asl_model.proofs.FindingShown.{HasDoubt, TellsFlow, tells_path, tells_template, tells_rule, tells_kind, tells_misfit, tells_failure, tells_no_default, tells_payload, tells_output, tells_next, tells_end, tells_child, tells_catch}
use Rattle.asl_model.proofs.ShapeLook.{found-looked}
use Rattle.asl_model.proofs.Listed.{none_in, first_in, later_in, first_or_later, in_map}
use Rattle.asl_model.proofs.FindingFlows.{template_told, stopped_at, path_stopped, placing_stopped, result_stopped}

-- the outputs' comparisons, by where they go
abbrev pub going_breaches : (List ℕ → Option Shape) → Shape → Option Shape → Target → Shape → List Breach
going_breaches inputs certified_output end (ToState field next) output = next_breaches inputs certified_output field next output
going_breaches inputs certified_output end (ToEnd field) output = end_breaches certified_output field end output

-- those of a result are those by `Next` or `End`
pub going_next : (inputs : List ℕ → Option Shape) (certified_output : Shape) (end : Option Shape) (next : Option (List ℕ)) → output_breaches inputs certified_output end next ≡ going_breaches inputs certified_output end (next_target next)
going_next inputs certified_output end None = refl
going_next inputs certified_output end (Some next) = refl

-- those of which no elements are known are none
no_parts : (arrays : Arrays) → elements_of arrays ≡ None → has_arrays arrays ≡ false
no_parts WithoutArrays h = refl
no_parts (ArraysOf first rest) h = absurd (cc)

module _ (around : Surroundings) (settings : Settings) where
  -- each of the breaches is told
  abbrev ToldIn : Kind → Breach → Type 0
  ToldIn kind b = TellsFlow around settings kind b.field b.fault b.example

  -- so for each of them
  abbrev AreTold : Kind → List Breach → Type 0
  AreTold kind xs = (b : Breach) → Contains xs b → ToldIn kind b

  -- no breach
  none_tells : (kind : Kind) → AreTold kind []
  none_tells kind b c = none_in b c

  -- the breaches of two lists
  both_tells : (kind : Kind) (xs ys : List Breach) → AreTold kind xs → AreTold kind ys → AreTold kind (xs ++ ys)
  both_tells kind xs ys first second b c = go (Contains-append_cases xs ys b c)
    where
      go : Contains xs b ⊎ Contains ys b → ToldIn kind b
      go (inl c) = first b c
      go (inr c) = second b c

  -- a single breach
  one_tells : (kind : Kind) (x : Breach) → ToldIn kind x → AreTold kind (x ∷ [])
  one_tells kind x breaks b c = go (first_or_later x b [] c)
    where
      go : (x ≡ b) ⊎ Contains [] b → ToldIn kind b
      go (inl e) = subst (ToldIn kind) e breaks
      go (inr c) = none_in b c

  -- a breach where a test fails
  unless_tells : (kind : Kind) (test : Bool) (field : List ℕ) (fault : FindingFault) → (IsFalse test → TellsFlow around settings kind field fault None) → AreTold kind (breach_unless test field fault)
  unless_tells kind true field fault breaks = none_tells kind
  unless_tells kind false field fault breaks = one_tells kind (plain_breach field fault) (breaks refl)

  -- a breach that a tree shows
  shown_tells : (kind : Kind) (field : List ℕ) (fault : FindingFault) (o : Option Tree) → ((t : Tree) → o ≡ Some t → TellsFlow around settings kind field fault (Some t)) → AreTold kind (breach_shown field fault o)
  shown_tells kind field fault None breaks = none_tells kind
  shown_tells kind field fault (Some t) breaks = one_tells kind (record { field = field; fault = fault; example = Some t }) (breaks t refl)

  -- a breach where a comparison fails
  sub_tells : (kind : Kind) (field : List ℕ) (fault : FindingFault) (s : Shape) (o : Option Shape) → ((expected : Shape) → o ≡ Some expected → (t : Tree) → outside s expected ≡ Some t → TellsFlow around settings kind field fault (Some t)) → AreTold kind (breach_unless_sub field fault s o)
  sub_tells kind field fault s None breaks = none_tells kind
  sub_tells kind field fault s (Some expected) breaks = shown_tells kind field fault (outside s expected) (breaks expected refl)

  -- what comes of a flow, or what stops it
  then_tells : (kind : Kind) (go_on : Shape → List Breach) (flow : Flow) → ((s : Shape) → flow ≡ Ok s → AreTold kind (go_on s)) → ((faults : List FlowFault) → flow ≡ Err faults → (f : FlowFault) → Contains faults f → ToldIn kind (breach_of f)) → AreTold kind (breaches_then go_on flow)
  then_tells kind go_on (Ok s) goes stops b c = goes s refl b c
  then_tells kind go_on (Err faults) goes stops b c = let w = in_map breach_of faults b c in subst (ToldIn kind) w.2 (stops faults refl w.0 w.1)

  -- a doubt of a template is told at its field
  evaluated_tells : (kind : Kind) (field : List ℕ) (template : Template) (input : Shape) (item : Option Shape) (d : Doubt) → Evaluates around settings kind field template input item → IsTrue (inhabited input) → HasDoubt input item template d → ToldIn kind (breach_of (doubt_fault field d))
  evaluated_tells kind field template input item (MayBeMissing doubtful) evaluates some doubt = tells_template evaluates some doubt
  evaluated_tells kind field template input item MayFail evaluates some doubt = tells_failure evaluates some doubt

  -- so for what stops a template's flow
  template_tells : (kind : Kind) (field : List ℕ) (template : Template) (input : Shape) (item : Option Shape) (faults : List FlowFault) (f : FlowFault) → Evaluates around settings kind field template input item → template_flow field (template_shape template input item) ≡ Err faults → Contains faults f → ToldIn kind (breach_of f)
  template_tells kind field template input item faults f evaluates h c =
      let w = template_told field template input item faults f h c in
      subst (λ g. ToldIn kind (breach_of g)) w.1.2 (evaluated_tells kind field template input item w.1.0 evaluates w.0 w.1.1)

  -- what stops the effective input
  effective_tells : (kind : Kind) (faults : List FlowFault) (f : FlowFault) → effective_flow settings around.entry.input ≡ Err faults → Contains faults f → ToldIn kind (breach_of f)
  effective_tells kind faults f h c = go (stopped_at (through_template (codes "Parameters") settings.parameters) (through_path (codes "InputPath") settings.input_path around.entry.input) faults h)
    where
      given : (o : Option Template) → settings.parameters ≡ o → (s : Shape) → through_path (codes "InputPath") settings.input_path around.entry.input ≡ Ok s → through_template (codes "Parameters") o s ≡ Err faults → ToldIn kind (breach_of f)
      given None e s p k = absurd (cc)
      given (Some template) e s p k = template_tells kind (codes "Parameters") template s None faults f (evaluates_parameters p e) k c

      go : (through_path (codes "InputPath") settings.input_path around.entry.input ≡ Err faults) ⊎ ((s : Shape) × (through_path (codes "InputPath") settings.input_path around.entry.input ≡ Ok s) × (through_template (codes "Parameters") settings.parameters s ≡ Err faults)) → ToldIn kind (breach_of f)
      go (inl k) = let w = path_stopped (codes "InputPath") settings.input_path around.entry.input faults f k c in subst (λ g. ToldIn kind (breach_of g)) w.4 (tells_path (looks_up_input w.2) w.3)
      go (inr w) = given settings.parameters refl w.0 w.1 w.2

  -- what stops the way out of what a state makes
  output_tells : (kind : Kind) (made s : Shape) (target : Target) (faults : List FlowFault) (f : FlowFault) → Makes around settings kind made target → GoesOut settings kind around.entry.input made s → output_flow settings s ≡ Err faults → Contains faults f → ToldIn kind (breach_of f)
  output_tells kind made s target faults f makes goes h c = let w = path_stopped (codes "OutputPath") settings.output_path s faults f h c in subst (λ g. ToldIn kind (breach_of g)) w.4 (tells_path (looks_up_output makes goes w.2) w.3)

  -- so for a result
  result_tells : (kind : Kind) (made : Shape) (target : Target) (faults : List FlowFault) (f : FlowFault) → Makes around settings kind made target → leaving kind ≡ WithResult → IsTrue (inhabited made) → result_flow settings around.entry.input made ≡ Err faults → Contains faults f → ToldIn kind (breach_of f)
  result_tells kind made target faults f makes with some h c = outer (stopped_at (output_flow settings) (flow_then (through_placing (codes "ResultPath") settings.result_path around.entry.input) (through_template (codes "ResultSelector") settings.result_selector made)) faults h)
    where
      selects : (s : Shape) → through_template (codes "ResultSelector") settings.result_selector made ≡ Ok s → IsSelected settings kind made s
      selects s e = record { result = with; some = some; selects = e }

      given : (o : Option Template) → settings.result_selector ≡ o → through_template (codes "ResultSelector") o made ≡ Err faults → ToldIn kind (breach_of f)
      given None e k = absurd (cc)
      given (Some template) e k = template_tells kind (codes "ResultSelector") template made None faults f (evaluates_result_selector makes with e) k c

      inner : (through_template (codes "ResultSelector") settings.result_selector made ≡ Err faults) ⊎ ((s : Shape) × (through_template (codes "ResultSelector") settings.result_selector made ≡ Ok s) × (through_placing (codes "ResultPath") settings.result_path around.entry.input s ≡ Err faults)) → ToldIn kind (breach_of f)
      inner (inl k) = given settings.result_selector refl k
      inner (inr w) = let p = placing_stopped settings.result_path around.entry.input w.0 faults f w.2 c in subst (λ g. ToldIn kind (breach_of g)) p.4 (tells_misfit (puts_result makes (selects w.0 w.1) p.2) p.3)

      placed : (s : Shape) → flow_then (through_placing (codes "ResultPath") settings.result_path around.entry.input) (through_template (codes "ResultSelector") settings.result_selector made) ≡ Ok s → GoesOut settings kind around.entry.input made s
      placed s e = go (through_template (codes "ResultSelector") settings.result_selector made) refl e
        where
          go : (o : Flow) → through_template (codes "ResultSelector") settings.result_selector made ≡ o → flow_then (through_placing (codes "ResultPath") settings.result_path around.entry.input) o ≡ Ok s → GoesOut settings kind around.entry.input made s
          go (Ok u) k l = goes_out_placed (selects u k) l
          go (Err errors) k l = absurd (cc)

      outer : (flow_then (through_placing (codes "ResultPath") settings.result_path around.entry.input) (through_template (codes "ResultSelector") settings.result_selector made) ≡ Err faults) ⊎ ((s : Shape) × (flow_then (through_placing (codes "ResultPath") settings.result_path around.entry.input) (through_template (codes "ResultSelector") settings.result_selector made) ≡ Ok s) × (output_flow settings s ≡ Err faults)) → ToldIn kind (breach_of f)
      outer (inl k) = inner (stopped_at (through_placing (codes "ResultPath") settings.result_path around.entry.input) (through_template (codes "ResultSelector") settings.result_selector made) faults k)
      outer (inr w) = output_tells kind made w.0 target faults f makes (placed w.0 w.1) w.2 c

  -- so by what leaves
  leave_tells : (kind : Kind) (made : Shape) (target : Target) (faults : List FlowFault) (f : FlowFault) → Makes around settings kind made target → leave settings kind around.entry.input made ≡ Err faults → Contains faults f → ToldIn kind (breach_of f)
  leave_tells kind made target faults f makes h c = go (leaving kind) refl h
    where
      input : leaving kind ≡ WithInput → (t : Bool) → (if t then output_flow settings made else Ok Never) ≡ Err faults → ToldIn kind (breach_of f)
      input e true k = output_tells kind made made target faults f makes (goes_out_as_it_is e) k c
      input e false k = absurd (cc)

      go : (l : Leaving) → leaving kind ≡ l → leave_by l settings around.entry.input made ≡ Err faults → ToldIn kind (breach_of f)
      go WithResult e k = let w = result_stopped settings around.entry.input made faults k in result_tells kind made target faults f makes e w.0 w.1 c
      go WithInput e k = input e (inhabited around.entry.input) k
      go Nothing e k = absurd (cc)

  -- an output's comparisons
  going_tells : (kind : Kind) (output : Shape) (target : Target) → Leaves around settings kind output target → AreTold kind (going_breaches around.inputs around.entry.output around.end target output)
  going_tells kind output (ToState field next) leaves = both_tells kind (breach_unless_sub (codes "OutputPath") OutputNotCertified output (Some around.entry.output)) (breach_unless_sub field NextInput output (around.inputs next)) (shown_tells kind (codes "OutputPath") OutputNotCertified (outside output around.entry.output) (λ t e. tells_output leaves e)) (sub_tells kind field NextInput output (around.inputs next) (λ expected e t f. tells_next leaves e f))
  going_tells kind output (ToEnd field) leaves = both_tells kind (breach_unless_sub (codes "OutputPath") OutputNotCertified output (Some around.entry.output)) (breach_unless_sub field ScopeOutput output around.end) (shown_tells kind (codes "OutputPath") OutputNotCertified (outside output around.entry.output) (λ t e. tells_output leaves e)) (sub_tells kind field ScopeOutput output around.end (λ expected e t f. tells_end leaves e f))

  -- what a state makes, and its way out
  made_tells : (kind : Kind) (made : Shape) (target : Target) → Makes around settings kind made target → AreTold kind (breaches_then (going_breaches around.inputs around.entry.output around.end target) (leave settings kind around.entry.input made))
  made_tells kind made target makes = then_tells kind (going_breaches around.inputs around.entry.output around.end target) (leave settings kind around.entry.input made) (λ output e. going_tells kind output target (record { made = made; makes = makes; comes_out = e })) (λ faults e f c. leave_tells kind made target faults f makes e c)

  -- so by `Next` or `End`
  next_tells : (kind : Kind) (made : Shape) → Makes around settings kind made (next_target settings.next) → AreTold kind (result_breaches around settings kind made)
  next_tells kind made makes = subst (λ go_on. AreTold kind (breaches_then go_on (leave settings kind around.entry.input made))) (sym (going_next around.inputs around.entry.output around.end settings.next)) (made_tells kind made (next_target settings.next) makes)

  -- ---- the work of a state

  -- `SecondsPath` and `TimestampPath`
  delay_tells : (delay : Delay) (s : Shape) → IsEffective around settings s → AreTold (Wait delay) (delay_breaches delay s)
  delay_tells (Seconds m) s eff = none_tells (Wait (Seconds m))
  delay_tells (Timestamp t) s eff = none_tells (Wait (Timestamp t))
  delay_tells (SecondsPath path) s eff = go (found path s) refl
    where
      go : (r : Result Shape DoubtfulPath) → found path s ≡ r → AreTold (Wait (SecondsPath path)) (kind_breaches (codes "SecondsPath") is_integer_shape r)
      go (Ok t) e = unless_tells (Wait (SecondsPath path)) (is_integer_shape t) (codes "SecondsPath") WrongKind (tells_kind eff wants_number (found-looked path s t e))
      go (Err doubtful) e = one_tells (Wait (SecondsPath path)) (missing_breach (codes "SecondsPath") doubtful) (tells_path (looks_up_wanted eff wants_number) e)
  delay_tells (TimestampPath path) s eff = go (found path s) refl
    where
      go : (r : Result Shape DoubtfulPath) → found path s ≡ r → AreTold (Wait (TimestampPath path)) (kind_breaches (codes "TimestampPath") is_string_shape r)
      go (Ok t) e = unless_tells (Wait (TimestampPath path)) (is_string_shape t) (codes "TimestampPath") WrongKind (tells_kind eff wants_text (found-looked path s t e))
      go (Err doubtful) e = one_tells (Wait (TimestampPath path)) (missing_breach (codes "TimestampPath") doubtful) (tells_path (looks_up_wanted eff wants_text) e)

  -- the rules of a Choice
  rules_tells : (all : List Rule) (default : Option (List ℕ)) (s : Shape) → IsEffective around settings s → (rules : List Rule) → ((rule : Rule) → Contains rules rule → Contains all rule) → AreTold (Choice all default) (rules_breaches around settings (Choice all default) rules s)
  rules_tells all default s eff [] among = none_tells (Choice all default)
  rules_tells all default s eff (rule ∷ rules) among =
      both_tells (Choice all default) (rule_breaches around settings (Choice all default) rule.next (rule_shape rule.test s)) (rules_breaches around settings (Choice all default) rules s) (go (rule_shape rule.test s) refl) (rules_tells all default s eff rules (λ other c. among other (later_in rule other rules c)))
    where
      go : (o : Result Shape DoubtfulPath) → rule_shape rule.test s ≡ o → AreTold (Choice all default) (rule_breaches around settings (Choice all default) rule.next o)
      go (Err doubtful) e = one_tells (Choice all default) (missing_breach (codes "Choices") doubtful) (tells_rule refl eff (among rule (first_in rule rules)) e)
      go (Ok u) e = made_tells (Choice all default) u (ToState (codes "Choices") rule.next) (lets_through eff (among rule (first_in rule rules)) e)

  -- its `Default`
  default_tells : (rules : List Rule) (default : Option (List ℕ)) (s : Shape) → IsEffective around settings s → AreTold (Choice rules default) (default_breaches around settings (Choice rules default) rules default s)
  default_tells rules None s eff = unless_tells (Choice rules None) (is_settled rules s) (codes "Default") NoDefault (tells_no_default refl eff)
  default_tells rules (Some next) s eff = made_tells (Choice rules (Some next)) s (ToState (codes "Default") next) (lets_default eff)

  -- the branches of a Parallel
  branches_tells : (all : Scopes) (s : Shape) → IsEffective around settings s → (branches : Scopes) → ((branch : Scope) (i : ℕ) → IsBranch branch i branches → (j : ℕ) × IsBranch branch j all) → AreTold (Parallel all) (branch_breaches around.inputs branches s)
  branches_tells all s eff NoScopes among = none_tells (Parallel all)
  branches_tells all s eff (AndScope branch others) among =
      both_tells (Parallel all) (child_breaches around.inputs (codes "Branches") branch s) (branch_breaches around.inputs others s)
      (sub_tells (Parallel all) (codes "Branches") BranchInput s (around.inputs (start_of branch)) (λ expected e t f. tells_child (starts_branch eff (among branch 0 branch_is_first).1) e f))
      (branches_tells all s eff others (λ scope i b. among scope (suc i) (branch_is_later b)))

  -- what starts the children of a Map
  item_tells : (items : List Segment) (selector : Option Template) (processor : Scope) (s named : Shape) (first : Shapes) (rest : Shape) → IsEffective around settings s → look items s ≡ Ok named → array_parts named ≡ Some (first, rest) → AreTold (Map items selector processor) (breaches_then (child_breaches around.inputs (codes "ItemProcessor") processor) (item_flow selector s (element_shape first rest)))
  item_tells items selector processor s named first rest eff e parts =
      then_tells (Map items selector processor) (child_breaches around.inputs (codes "ItemProcessor") processor) (item_flow selector s (element_shape first rest))
      (λ input k. sub_tells (Map items selector processor) (codes "ItemProcessor") BranchInput input (around.inputs (start_of processor)) (λ expected f t g. tells_child (starts_item eff e parts k) (f) g))
      (λ faults k f c. given selector faults k f c)
    where
      given : (o : Option Template) (faults : List FlowFault) → item_flow o s (element_shape first rest) ≡ Err faults → (f : FlowFault) → Contains faults f → ToldIn (Map items o processor) (breach_of f)
      given None faults k f c = absurd (cc)
      given (Some template) faults k f c = go (inhabited (element_shape first rest)) refl k
        where
          go : (t : Bool) → inhabited (element_shape first rest) ≡ t → (if t then template_flow (codes "ItemSelector") (template_shape template s (Some (element_shape first rest))) else Ok Never) ≡ Err faults → ToldIn (Map items (Some template) processor) (breach_of f)
          go true some l = template_tells (Map items (Some template) processor) (codes "ItemSelector") template s (Some (element_shape first rest)) faults f (evaluates_item_selector eff e parts some) l c
          go false some l = absurd (cc)

  -- the result of a Map
  map_tells : (items : List Segment) (selector : Option Template) (processor : Scope) (s named : Shape) (first : Shapes) (rest : Shape) → IsEffective around settings s → look items s ≡ Ok named → array_parts named ≡ Some (first, rest) → (item : Option Shape) → around.entry.item ≡ item → AreTold (Map items selector processor) (map_breaches around settings (Map items selector processor) item (first, rest))
  map_tells items selector processor s named first rest eff e parts None there = none_tells (Map items selector processor)
  map_tells items selector processor s named first rest eff e parts (Some item) there = next_tells (Map items selector processor) (map_result item first rest) (makes_items eff e parts there)

  -- what follows for the elements of what `ItemsPath` names
  abbrev of_elements : List Segment → Option Template → Scope → Shape → Shapes × Shape → List Breach
  of_elements items selector processor s elements = breaches_then (child_breaches around.inputs (codes "ItemProcessor") processor) (item_flow selector s (element_shape elements.0 elements.1)) ++ map_breaches around settings (Map items selector processor) around.entry.item elements

  -- what follows for its items
  items_tells : (items : List Segment) (selector : Option Template) (processor : Scope) (s : Shape) → IsEffective around settings s → AreTold (Map items selector processor) (with_items (of_elements items selector processor s) (found items s))
  items_tells items selector processor s eff = go (found items s) refl
    where
      parts : (t : Shape) → look items s ≡ Ok t → (o : Option (Shapes × Shape)) → array_parts t ≡ o → AreTold (Map items selector processor) (with_elements (of_elements items selector processor s) o)
      parts t e None k = one_tells (Map items selector processor) (plain_breach (codes "ItemsPath") WrongKind) (tells_kind eff wants_list e (no_parts (arrays_alone t) k))
      parts t e (Some elements) k =
          both_tells (Map items selector processor) (breaches_then (child_breaches around.inputs (codes "ItemProcessor") processor) (item_flow selector s (element_shape elements.0 elements.1))) (map_breaches around settings (Map items selector processor) around.entry.item elements)
          (item_tells items selector processor s t elements.0 elements.1 eff e k)
          (map_tells items selector processor s t elements.0 elements.1 eff e k around.entry.item refl)

      go : (r : Result Shape DoubtfulPath) → found items s ≡ r → AreTold (Map items selector processor) (with_items (of_elements items selector processor s) r)
      go (Ok t) e = parts t (found-looked items s t e) (array_parts t) refl
      go (Err doubtful) e = one_tells (Map items selector processor) (missing_breach (codes "ItemsPath") doubtful) (tells_path (looks_up_wanted eff wants_list) e)

  -- what comes of an effective input, by the type
  work_tells : (kind : Kind) (s : Shape) → IsEffective around settings s → AreTold kind (work_breaches around settings kind s)
  work_tells (Pass None) s eff = next_tells (Pass None) s (makes_what_it_takes eff)
  work_tells (Pass (Some t)) s eff = none_tells (Pass (Some t))
  work_tells (Task resource) s eff = sub_tells (Task resource) (codes "Parameters") PayloadNotTaken s (Some (takes_of around.declared around.name)) (λ expected e t f. tells_payload refl eff (subst (λ u. outside s u ≡ Some t) (sym (same_Some (takes_of around.declared around.name) expected e)) f))
  work_tells (Choice rules default) s eff = both_tells (Choice rules default) (rules_breaches around settings (Choice rules default) rules s) (default_breaches around settings (Choice rules default) rules default s) (rules_tells rules default s eff rules (λ rule c. c)) (default_tells rules default s eff)
  work_tells (Wait delay) s eff = both_tells (Wait delay) (delay_breaches delay s) (result_breaches around settings (Wait delay) s) (delay_tells delay s eff) (next_tells (Wait delay) s (lets_wait eff))
  work_tells Succeed s eff = made_tells Succeed s (ToEnd (codes "Type")) (lets_succeed eff)
  work_tells (Fail error cause) s eff = none_tells (Fail error cause)
  work_tells (Parallel branches) s eff = branches_tells branches s eff branches (λ branch i b. (i, b))
  work_tells (Map items selector processor) s eff = items_tells items selector processor s eff

  -- what needs none
  settled_tells : (kind : Kind) → AreTold kind (settled_breaches around settings kind)
  settled_tells (Pass None) = none_tells (Pass None)
  settled_tells (Pass (Some t)) = next_tells (Pass (Some t)) (literal t) makes_literal
  settled_tells (Task resource) = next_tells (Task resource) (gives_of around.declared around.name) makes_answer
  settled_tells (Choice rules default) = none_tells (Choice rules default)
  settled_tells (Wait delay) = none_tells (Wait delay)
  settled_tells Succeed = none_tells Succeed
  settled_tells (Fail error cause) = none_tells (Fail error cause)
  settled_tells (Parallel branches) = next_tells (Parallel branches) (ArrayShape (as_first_elements around.entry.branches) Never) makes_outputs
  settled_tells (Map items selector processor) = none_tells (Map items selector processor)

  -- ---- catchers

  -- what the catchers hand on
  catchers_tells : (kind : Kind) (catchers : List Catcher) → ((catcher : Catcher) → Contains catchers catcher → Contains settings.catchers catcher) → AreTold kind (catcher_breaches around.inputs around.entry.input catchers)
  catchers_tells kind [] among = none_tells kind
  catchers_tells kind (catcher ∷ catchers) among =
      both_tells kind (caught_breaches around.inputs catcher.next (error_placed_shape catcher.result_path around.entry.input)) (catcher_breaches around.inputs around.entry.input catchers)
      (go (error_placed_shape catcher.result_path around.entry.input) refl)
      (catchers_tells kind catchers (λ other c. among other (later_in catcher other catchers c)))
    where
      given : (path : Option (List Segment)) → catcher.result_path ≡ path → (at : ℕ) → error_placed_shape path around.entry.input ≡ Err at → TellsFlow around settings kind (codes "Catch") ResultMayNotFit None
      given None e at k = absurd (cc)
      given (Some path) e at k = tells_misfit (puts_error_output (among catcher (first_in catcher catchers)) e) k

      go : (r : Result Shape ℕ) → error_placed_shape catcher.result_path around.entry.input ≡ r → AreTold kind (caught_breaches around.inputs catcher.next r)
      go (Ok s) e = sub_tells kind (codes "Catch") CatchInput s (around.inputs catcher.next) (λ expected f t g. tells_catch (among catcher (first_in catcher catchers)) e (f) g)
      go (Err at) e = one_tells kind (plain_breach (codes "Catch") ResultMayNotFit) (given catcher.result_path refl at e)

  -- ---- all of them

  -- each breach of a state that has an entry, by its part
  by_part : (kind : Kind) → (b : Breach) → Contains (rules_on_flow around settings kind) b → IsTrue (inhabited around.entry.input) × TellsFlow around settings kind b.field b.fault b.example
  by_part kind b c = go (inhabited around.entry.input) refl c
    where
      all : List Breach
      all = breaches_then (work_breaches around settings kind) (effective_flow settings around.entry.input) ++ (settled_breaches around settings kind ++ catcher_breaches around.inputs around.entry.input settings.catchers)

      each : AreTold kind all
      each =
          both_tells kind (breaches_then (work_breaches around settings kind) (effective_flow settings around.entry.input)) (settled_breaches around settings kind ++ catcher_breaches around.inputs around.entry.input settings.catchers)
          (then_tells kind (work_breaches around settings kind) (effective_flow settings around.entry.input) (λ s e. work_tells kind s e) (λ faults e f g. effective_tells kind faults f e g))
          (both_tells kind (settled_breaches around settings kind) (catcher_breaches around.inputs around.entry.input settings.catchers) (settled_tells kind) (catchers_tells kind settings.catchers (λ catcher d. d)))

      go : (t : Bool) → inhabited around.entry.input ≡ t → Contains (if t then all else []) b → IsTrue (inhabited around.entry.input) × ToldIn kind b
      go true e c = (e, each b c)
      go false e c = none_in b c

  -- each breach of a state that has an entry
  pub flow_tells : (kind : Kind) → (b : Breach) → Contains (flow_breaches around settings kind) b → IsTrue (inhabited around.entry.input) × TellsFlow around settings kind b.field b.fault b.example
  flow_tells kind b c = by_part kind b (subst (λ rules. Contains rules b) (walked_breaches around settings kind) c)
