-- Names stand in order in every shape that flows through a state, where they do in what is declared and certified.
use Rattle.std.proofs.Common.{◌≡◌, ℕ, List, [], ◌∷◌, Bool, true, false, bytes_eq, if◌then◌else◌, codes, IfSome, Option, Some, None, Ok}
use Rattle.std.specs.List.{AllByRecursion}
use Rattle.asl_model.specs.Path.{Segment}
use Rattle.asl_model.specs.Template.{Template}
use Rattle.asl_model.specs.Test.{Test}
use Rattle.asl_model.specs.Machine.{Settings, Kind, Scope}
use Rattle.asl_model.specs.Shape.{Shape, Shapes, IsOrdered, AreOrderedShapes}
use Rattle.asl_model.specs.ShapeFlow.{look, through_template, through_placing, through_path}
use Rattle.asl_model.specs.Certificate.{TaskShapes, Declared, Certificate, under, gives_among, gives_of}
use Rattle.asl_model.specs.RecordShapes.{HoldsForTask, HoldsForDeclared, HoldsForState, HoldsForCertificate}
use Rattle.asl_model.specs.Finding.{Surroundings, effective_flow, array_parts, element_shape, item_flow, error_placed_shape}
use Rattle.asl_model.specs.FindingRules.{IsSurrounded, IsEffective, Target, Makes, makes_literal, makes_what_it_takes, makes_answer, lets_through, lets_default, lets_wait, lets_succeed, makes_outputs, makes_items, IsSelected, GoesOut, goes_out_placed, goes_out_as_it_is, Leaves, LooksUp, looks_up_input, looks_up_wanted, looks_up_output, Evaluates, evaluates_parameters, evaluates_item_selector, evaluates_result_selector, GoesInto, goes_into_input, goes_into_item, LooksUpIn, in_comparison, in_operand, in_string_matches, in_kind_test, in_not, in_first_of_or, in_later_of_or, in_first_of_and, in_later_of_and, Puts, puts_result, puts_error_output, Starts, starts_branch, starts_item}
use Rattle.asl_model.specs.Intrinsic.{Reference}
use Rattle.asl_model.proofs.OrderedTemplates.{is-ordered, look-ordered, literal-ordered}
use Rattle.asl_model.proofs.OrderedFlows.{rule-ordered, through_template-ordered, through_path-ordered, through_placing-ordered, effective-ordered, leave-ordered, element-ordered, item-ordered, map-ordered, parts-ordered, first_elements-ordered, error_output-ordered, error_placed-ordered}

-- names stand in order in what is certified of a state, and in the shape of its task's answers
pub record AreInOrder (around : Surroundings) : Type 0 where
  pub entry : HoldsForState IsOrdered around.entry
  pub gives : IsOrdered (gives_of around.declared around.name)

-- what stands under a name
under-holds : {A : Type 0} (P : A → Type 0) (n : List ℕ) (entries : List (List ℕ × A)) → AllByRecursion (λ (entry : List ℕ × A). P entry.1) entries → IfSome (under n entries) P
under-holds P n [] each = tt
under-holds P n (entry ∷ entries) each = go (bytes_eq entry.0 n) (under-holds P n entries each.1)
  where
    go : (here : Bool) → IfSome (under n entries) P → IfSome (if here then Some entry.1 else under n entries) P
    go true further = each.0
    go false further = further

gives-ordered : (task : Option TaskShapes) → IfSome task (HoldsForTask IsOrdered) → IsOrdered (gives_among task)
gives-ordered None holds = tt
gives-ordered (Some task) holds = holds.gives

pub surroundings-in_order : (machine : Scope) (declared : Declared) (certificate : Certificate) (settings : Settings) (kind : Kind) (around : Surroundings) → HoldsForDeclared IsOrdered declared → HoldsForCertificate IsOrdered certificate → IsSurrounded machine declared certificate settings kind around → AreInOrder around
surroundings-in_order machine declared certificate settings kind around known sure is =
    record { entry = rw is.entry at (under-holds (HoldsForState IsOrdered) around.name certificate.states sure.states); gives = rw is.tasks (gives-ordered (under around.name declared.tasks) (under-holds (HoldsForTask IsOrdered) around.name declared.tasks known.tasks)) }

-- what a test looks paths up in
pub looked_in-ordered : {test : Test} {s : Shape} {path : List Segment} {u : Shape} → LooksUpIn test s path u → IsOrdered s → IsOrdered u
looked_in-ordered in_comparison ordered = ordered
looked_in-ordered in_operand ordered = ordered
looked_in-ordered in_string_matches ordered = ordered
looked_in-ordered in_kind_test ordered = ordered
looked_in-ordered (in_not looks) ordered = looked_in-ordered looks ordered
looked_in-ordered (in_first_of_or looks) ordered = looked_in-ordered looks ordered
looked_in-ordered (in_later_of_or looks) ordered = looked_in-ordered looks ordered
looked_in-ordered (in_first_of_and looks) ordered = looked_in-ordered looks ordered
looked_in-ordered (in_later_of_and {test = test} {s = s} {narrowed = narrowed} e live looks) ordered = looked_in-ordered looks (rule-ordered test s narrowed ordered e)

-- what a template's references go into
pub gone_into-ordered : {input : Shape} {item : Option Shape} {reference : Reference} {path : List Segment} {s : Shape} → GoesInto input item reference path s → IsOrdered input → IfSome item IsOrdered → IsOrdered s
gone_into-ordered goes_into_input one other = one
gone_into-ordered (goes_into_item e) one other = rw e at other

module _ (around : Surroundings) (settings : Settings) (sure : AreInOrder around) where
  pub effective-in_order : (s : Shape) → IsEffective around settings s → IsOrdered s
  effective-in_order s e = is-ordered (effective_flow settings around.entry.input) s e (effective-ordered settings around.entry.input sure.entry.input)

  -- the elements of what `ItemsPath` names
  elements-in_order : (items : List Segment) (s named : Shape) (first : Shapes) (rest : Shape) → IsEffective around settings s → look items s ≡ Ok named → array_parts named ≡ Some (first, rest) → AreOrderedShapes first × IsOrdered rest
  elements-in_order items s named first rest effective at parts = parts-ordered named first rest (look-ordered items s named (effective-in_order s effective) at) parts

  element-in_order : (items : List Segment) (s named : Shape) (first : Shapes) (rest : Shape) → IsEffective around settings s → look items s ≡ Ok named → array_parts named ≡ Some (first, rest) → IsOrdered (element_shape first rest)
  element-in_order items s named first rest effective at parts =
      let elements = elements-in_order items s named first rest effective at parts in
      element-ordered first rest elements.0 elements.1

  pub made-in_order : {kind : Kind} {made : Shape} {target : Target} → Makes around settings kind made target → IsOrdered made
  made-in_order (makes_literal {t = t}) = literal-ordered t
  made-in_order (makes_what_it_takes {s = s} effective) = effective-in_order s effective
  made-in_order makes_answer = sure.gives
  made-in_order (lets_through {rule = rule} {s = s} {u = u} effective among e) = rule-ordered rule.test s u (effective-in_order s effective) e
  made-in_order (lets_default {s = s} effective) = effective-in_order s effective
  made-in_order (lets_wait {s = s} effective) = effective-in_order s effective
  made-in_order (lets_succeed {s = s} effective) = effective-in_order s effective
  made-in_order makes_outputs = ((first_elements-ordered around.entry.branches sure.entry.branches, (tt, tt)), tt)
  made-in_order (makes_items {item = item} {first = first} {rest = rest} effective at parts certified_item) = map-ordered item first rest (rw certified_item at sure.entry.item)

  selected-in_order : (kind : Kind) (made selected : Shape) → IsSelected settings kind made selected → IsOrdered made → IsOrdered selected
  selected-in_order kind made selected is ordered = is-ordered (through_template (codes "ResultSelector") settings.result_selector made) selected is.selects (through_template-ordered (codes "ResultSelector") settings.result_selector made ordered)

  gone_out-in_order : {kind : Kind} {made s : Shape} → GoesOut settings kind around.entry.input made s → IsOrdered made → IsOrdered s
  gone_out-in_order {kind} {made} (goes_out_placed {selected = selected} {placed = placed} is e) ordered = is-ordered (through_placing (codes "ResultPath") settings.result_path around.entry.input selected) placed e (through_placing-ordered (codes "ResultPath") settings.result_path around.entry.input selected sure.entry.input (selected-in_order kind made selected is ordered))
  gone_out-in_order (goes_out_as_it_is is) ordered = ordered

  pub left-in_order : (kind : Kind) (output : Shape) (target : Target) → Leaves around settings kind output target → IsOrdered output
  left-in_order kind output target leaves = leave-ordered settings kind around.entry.input leaves.made output sure.entry.input (made-in_order leaves.makes) leaves.comes_out

  pub looked_up-in_order : {kind : Kind} {field : List ℕ} {path : List Segment} {s : Shape} → LooksUp around settings kind field path s → IsOrdered s
  looked_up-in_order (looks_up_input e) = sure.entry.input
  looked_up-in_order (looks_up_wanted {s = s} effective wants) = effective-in_order s effective
  looked_up-in_order (looks_up_output makes goes e) = gone_out-in_order goes (made-in_order makes)

  pub evaluated-in_order : {kind : Kind} {field : List ℕ} {template : Template} {input : Shape} {item : Option Shape} → Evaluates around settings kind field template input item → IsOrdered input × IfSome item IsOrdered
  evaluated-in_order (evaluates_parameters {s = s} e is) = (is-ordered (through_path (codes "InputPath") settings.input_path around.entry.input) s e (through_path-ordered (codes "InputPath") settings.input_path around.entry.input sure.entry.input), tt)
  evaluated-in_order (evaluates_item_selector {items = items} {s = s} {named = named} {first = first} {rest = rest} effective at parts live) = (effective-in_order s effective, element-in_order items s named first rest effective at parts)
  evaluated-in_order (evaluates_result_selector makes way is) = (made-in_order makes, tt)

  pub put-in_order : {kind : Kind} {field : List ℕ} {path : List Segment} {s : Shape} → Puts around settings kind field path s → IsOrdered s
  put-in_order {kind} (puts_result {made = made} {selected = selected} makes is e) = selected-in_order kind made selected is (made-in_order makes)
  put-in_order (puts_error_output among e) = error_output-ordered

  pub started-in_order : {kind : Kind} {field : List ℕ} {child : Scope} {s : Shape} → Starts around settings kind field child s → IsOrdered s
  started-in_order (starts_branch {s = s} effective among) = effective-in_order s effective
  started-in_order (starts_item {items = items} {selector = selector} {s = s} {named = named} {input = input} {first = first} {rest = rest} effective at parts e) = is-ordered (item_flow selector s (element_shape first rest)) input e (item-ordered selector s (element_shape first rest) (effective-in_order s effective) (element-in_order items s named first rest effective at parts))

  pub caught-in_order : (path : Option (List Segment)) (s : Shape) → error_placed_shape path around.entry.input ≡ Ok s → IsOrdered s
  caught-in_order path s e = is-ordered (error_placed_shape path around.entry.input) s e (error_placed-ordered path around.entry.input sure.entry.input)
