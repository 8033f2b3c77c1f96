-- Where no rule is broken at a state, the certificate is closed at it, whatever its type.
use Rattle.std.proofs.Common.{◌≡◌, ℕ, suc, List, [], ◌∷◌, ◌++◌, Contains, length, ◌⊎◌, inl, inr, ◌∙◌, Bool, true, false, Option, Some, None, Result, Ok, Err, refl, sym, ap, subst, arith}
use Rattle.std.specs.Prelude.{pos, IsTrue, is_some, codes, if◌then◌else◌}
use Rattle.std.proofs.lemmas.Bool.{and_parts, and_from, false≢true}
use Rattle.std.proofs.lemmas.Option.{same_Some}
use Rattle.asl_model.specs.Tree.{Tree, Integer, Text, Array, Trees, NoTrees, AndTree, count}
use Rattle.asl_model.specs.Path.{Segment}
use Rattle.asl_model.specs.Placing.{placed}
use Rattle.asl_model.specs.Template.{Template}
use Rattle.asl_model.specs.Test.{Rule, truth}
use Rattle.asl_model.specs.Machine.{Catcher, Settings, Delay, Seconds, SecondsPath, Timestamp, TimestampPath, Scope, StateOf, Kind, Pass, Task, Choice, Wait, Succeed, Fail, Parallel, Map, Scopes, NoScopes, AndScope, start_of, scope_at, how_many, names_state}
use Rattle.asl_model.specs.Flow.{effective_input, at_output_path, output_of, chosen, delay_in, branch_inputs, item_input, item_inputs, map_items, work_of, first_move}
use Rattle.asl_model.specs.Run.{error_output, error_placed}
use Rattle.asl_model.specs.Shape.{Shape, Never, ArrayShape, Arrays, WithoutArrays, ArraysOf, Shapes, NoShapes, AndShape, Has, has, elements_have, each_element, no_simple, inhabited}
use Rattle.asl_model.specs.ShapeOrder.{join, joined_with_each}
use Rattle.asl_model.specs.Examples.{outside}
use Rattle.asl_model.specs.ShapeFlow.{DoubtfulPath, look, found, put, literal, arrays_alone, is_integer_shape, is_string_shape, template_shape, rule_shape, is_settled, Flow, template_flow, output_flow, result_leaves}
use Rattle.asl_model.specs.Certificate.{Declared, StateShapes, Certificate, certified, certified_input, certified_output, input_among, output_among, branches_in, is_map, branch_shape, branch_end, item_end, or_never, takes_of, gives_of, EachHas, OutputFits, WorkFits, CaughtFits, CatchersFit, HasEntry, IsClosedAt}
use Rattle.asl_model.specs.Finding.{FindingFault, Breach, Surroundings, surrounded_by, where_certified, NoDefault, BranchInput, NextInput, ScopeOutput, OutputNotCertified, PayloadNotTaken, CatchInput, breach_shown, breach_unless_sub, input_of_entry, input_to_compare, effective_flow, as_first_elements, element_shape, item_flow, at_each_place, map_result, elements_of, array_parts, error_output_shape, error_placed_shape, flow_breaches, state_breaches, scope_findings}
use Rattle.asl_model.proofs.EdgesBreached.{walked_breaches}
use Rattle.asl_model.proofs.FlowRules.{breaches_then, next_breaches, end_breaches, output_breaches, kind_breaches, delay_breaches, child_breaches, branch_breaches, with_elements, with_items, chosen_breaches, rule_breaches, rules_breaches, default_breaches, caught_breaches, catcher_breaches, result_breaches, map_breaches, work_breaches, settled_breaches, rules_on_flow}
use Rattle.asl_model.proofs.FindingScopes.{append-none, none-unless, flow-none, has-entry, state-certified}
use Rattle.asl_model.proofs.Listed.{none_in, first_or_later}
use Rattle.asl_model.proofs.SettledRules.{AllDecided, SomeTrue, settled-true}
use Rattle.asl_model.proofs.ShapeInhabited.{has-inhabited}
use Rattle.asl_model.proofs.ShapeInside.{sub-inside}
use Rattle.asl_model.proofs.ShapeJoin.{join_above, join_each-above, all_inside-more, elements_above}
use Rattle.asl_model.proofs.ShapeLook.{alone-array, found-looked}
use Rattle.asl_model.proofs.ShapeNarrow.{only-has}
use Rattle.asl_model.proofs.ShapeOutside.{outside-exactly}
use Rattle.asl_model.proofs.ShapePut.{put-gives}
use Rattle.asl_model.proofs.ShapeTemplate.{look-gives, found-gives, literal-has_itself, template-gives}
use Rattle.asl_model.proofs.ShapeRule.{rule-decided}
use Rattle.asl_model.proofs.ShapeLeave.{Gives, IsTold, leaves-told, output-told, effective-told, template-told, template-parts, leaves-gives, output-gives, effective-gives}

-- Comparisons

none-shown : (o : Option Tree) (field : List ℕ) (fault : FindingFault) → breach_shown field fault o ≡ [] → o ≡ None
none-shown None field fault e = refl
none-shown (Some t) field fault e = absurd (cc)

-- where the comparison isn't broken, what flows has the shape that is certified
pub sub-none : (field : List ℕ) (fault : FindingFault) (s t : Shape) → breach_unless_sub field fault s (Some t) ≡ [] → (v : Tree) → Has s v → Has t v
sub-none field fault s t e v m = sub-inside s t ((outside-exactly s t).0 (none-shown (outside s t) field fault e)) v m

then-none : (go_on : Shape → List Breach) (flow : Flow) → IsTold flow → breaches_then go_on flow ≡ [] → (s : Shape) × (flow ≡ Ok s) × (go_on s ≡ [])
then-none go_on (Ok s) told e = (s, refl, e)
then-none go_on (Err []) told e = absurd told
then-none go_on (Err (fault ∷ further)) told e = absurd (cc)

-- what passes the comparison with a state's input has the input that is certified
abbrev pub InputsFit : Certificate → (List ℕ → Option Shape) → Type 0
InputsFit certificate inputs = (n field : List ℕ) (fault : FindingFault) (s : Shape) → breach_unless_sub field fault s (inputs n) ≡ [] → (v : Tree) → Has s v → Has (certified_input certificate n) v

-- Values that are wanted

pub number-there : (field : List ℕ) (s : Shape) (w : Tree) → IsTrue (is_integer_shape s) → Has s w → (t : Tree) × (Rattle.asl_model.specs.Flow.number_wanted field w ≡ Ok t)
number-there field s (Integer n) h m = (Integer n, refl)
number-there field s w h m = absurd (false≢true (only-has (record no_simple { integer = true }) s w h m))

pub text-there : (field : List ℕ) (s : Shape) (w : Tree) → IsTrue (is_string_shape s) → Has s w → (t : Tree) × (Rattle.asl_model.specs.Flow.text_wanted field w ≡ Ok t)
text-there field s (Text t) h m = (Text t, refl)
text-there field s w h m = absurd (false≢true (only-has (record no_simple { text = true }) s w h m))

kind-none : (field : List ℕ) (test : Shape → Bool) (result : Result Shape DoubtfulPath) → kind_breaches field test result ≡ [] → (t : Shape) × (result ≡ Ok t) × IsTrue (test t)
kind-none field test (Ok t) e = (t, refl, none-unless (test t) field Rattle.asl_model.specs.Finding.WrongKind e)
kind-none field test (Err doubtful) e = absurd (cc)

delay-fits : (delay : Delay) (s : Shape) (u : Tree) → delay_breaches delay s ≡ [] → Has s u → (t : Tree) × (delay_in delay u ≡ Ok t)
delay-fits (Seconds k) s u e m = (u, refl)
delay-fits (SecondsPath path) s u e m =
    let kind = kind-none (codes "SecondsPath") is_integer_shape (found path s) e in
    let given = found-gives path s kind.0 u kind.1 m in
    let number = number-there (codes "SecondsPath") kind.0 given.0 kind.2 given.2 in
    (number.0, rw (given.1) (number.1))
delay-fits (Timestamp t) s u e m = (u, refl)
delay-fits (TimestampPath path) s u e m =
    let kind = kind-none (codes "TimestampPath") is_string_shape (found path s) e in
    let given = found-gives path s kind.0 u kind.1 m in
    let text = text-there (codes "TimestampPath") kind.0 given.0 kind.2 given.2 in
    (text.0, rw (given.1) (text.1))

-- Lists of outputs

pub branches-have : (all : List Shape) (outputs : Trees) → count outputs ≡ length all → EachHas (λ i. or_never (branch_shape i all)) outputs → IsTrue (elements_have (as_first_elements all) (has Never) outputs)
branches-have [] NoTrees same each = refl
branches-have [] (AndTree t ts) same each = absurd (omega arith)
branches-have (s ∷ further) NoTrees same each = absurd (omega arith)
branches-have (s ∷ further) (AndTree t ts) same each = and_from (has s t) (elements_have (as_first_elements further) (has Never) ts) each.0 (branches-have further ts (omega arith) each.1)

each-item : (item : Shape) (outputs : Trees) → EachHas (λ i. item) outputs → IsTrue (each_element (has item) outputs)
each-item item NoTrees each = refl
each-item item (AndTree t ts) each = and_from (has item t) (each_element (has item) ts) each.0 (each-item item ts each.1)

pub map-has : (item : Shape) (first : Shapes) (rest : Shape) (ts outputs : Trees) → IsTrue (elements_have first (has rest) ts) → count outputs ≡ count ts → EachHas (λ i. item) outputs → IsTrue (elements_have (at_each_place item first) (has (if inhabited rest then item else Never)) outputs)
map-has item NoShapes rest NoTrees NoTrees h same each = refl
map-has item NoShapes rest NoTrees (AndTree u us) h same each = absurd (omega arith)
map-has item NoShapes rest (AndTree t ts) outputs h same each = rw (has-inhabited rest t (and_parts (has rest t) (each_element (has rest) ts) h).0) (each-item item outputs each)
map-has item (AndShape s others) rest NoTrees outputs h same each = absurd (false≢true h)
map-has item (AndShape s others) rest (AndTree t ts) NoTrees h same each = absurd (omega arith)
map-has item (AndShape s others) rest (AndTree t ts) (AndTree u us) h same each = and_from (has item u) (elements_have (at_each_place item others) (has (if inhabited rest then item else Never)) us) each.0 (map-has item others rest ts us (and_parts (has s t) (elements_have others (has rest) ts) h).1 (omega arith) each.1)

-- Items of a Map

parts-none : (go_on : Shapes × Shape → List Breach) (o : Option (Shapes × Shape)) → with_elements go_on o ≡ [] → (parts : Shapes × Shape) × (o ≡ Some parts) × (go_on parts ≡ [])
parts-none go_on None e = absurd (cc)
parts-none go_on (Some parts) e = (parts, refl, e)

items-parts : (go_on : Shapes × Shape → List Breach) (result : Result Shape DoubtfulPath) → with_items go_on result ≡ [] → (first : Shapes) × (rest : Shape) × (named : Shape) × (result ≡ Ok named) × (array_parts named ≡ Some (first, rest)) × (go_on (first, rest) ≡ [])
items-parts go_on (Err doubtful) e = absurd (cc)
items-parts go_on (Ok named) e = let parts = parts-none go_on (array_parts named) e in (parts.0.0, parts.0.1, named, refl, parts.1, parts.2)

-- arrays of which elements are known
elements-known : (arrays : Arrays) (first : Shapes) (rest : Shape) → elements_of arrays ≡ Some (first, rest) → arrays ≡ ArraysOf first rest
elements-known WithoutArrays first rest e = absurd (cc)
elements-known (ArraysOf places further) first rest e = ap (λ p. ArraysOf p.0 p.1) (same_Some (places, further) (first, rest) e)

-- each tree of a shape whose elements are known is an array
list-there : (s : Shape) (first : Shapes) (rest : Shape) (w : Tree) → array_parts s ≡ Some (first, rest) → Has s w → (ts : Trees) × (Rattle.asl_model.specs.Flow.list_wanted (codes "ItemsPath") w ≡ Ok ts) × IsTrue (elements_have first (has rest) ts)
list-there s first rest w e m =
    let list = alone-array s first rest w (elements-known (arrays_alone s) first rest e) m in
    (list.0, ap (Rattle.asl_model.specs.Flow.list_wanted (codes "ItemsPath")) (list.1), list.2)

pub items-there : (items : List Segment) (s named : Shape) (first : Shapes) (rest : Shape) (u : Tree) → look items s ≡ Ok named → array_parts named ≡ Some (first, rest) → Has s u → (ts : Trees) × (map_items items u ≡ Ok ts) × IsTrue (elements_have first (has rest) ts)
items-there items s named first rest u e parts m =
    let given = look-gives items s named u e m in
    let list = list-there named first rest given.0 parts given.2 in
    (list.0, rw (given.1) (list.1), list.2)

-- each item has the element's shape
pub items-have : (first : Shapes) (rest : Shape) (ts : Trees) → IsTrue (elements_have first (has rest) ts) → IsTrue (each_element (has (element_shape first rest)) ts)
items-have first rest ts h =
    let inner : Shape = joined_with_each join Never first in
    elements_above join join_above first rest (join inner rest) ts (all_inside-more first inner (join inner rest) (λ t m. join_above.left inner rest t m) (join_each-above Never first).1) (λ t m. join_above.right inner rest t m) h

pub item-told : (selector : Option Template) (s element : Shape) → IsTold (item_flow selector s element)
item-told None s element = tt
item-told (Some selector) s element = go (inhabited element)
  where
    go : (live : Bool) → IsTold (if live then template_flow (codes "ItemSelector") (template_shape selector s (Some element)) else Ok Never)
    go true = template-told (codes "ItemSelector") selector s (Some element)
    go false = tt

item-gives : (selector : Option Template) (s element r : Shape) (u : Tree) (i : ℕ) (t : Tree) → item_flow selector s element ≡ Ok r → Has s u → Has element t → Gives r (item_input selector u i t)
item-gives None s element r u i t e h m =
    let is : element ≡ r = cc in
    (t, refl, subst (λ (z : Shape). Has z t) is m)
item-gives (Some selector) s element r u i t e h m =
    let live : template_flow (codes "ItemSelector") (template_shape selector s (Some element)) ≡ Ok r = rw (has-inhabited element t m) at e in
    let given = template-gives selector s (Some element) r u (Some (record { number = pos i; value = t })) (template-parts (codes "ItemSelector") (template_shape selector s (Some element)) r live) h m in
    (given.0, rw (given.1) refl, given.2)

pub inputs-give : (selector : Option Template) (s element r : Shape) (u : Tree) (i : ℕ) (ts : Trees) → item_flow selector s element ≡ Ok r → Has s u → IsTrue (each_element (has element) ts) → (us : Trees) × (item_inputs selector u i ts ≡ Ok us) × (count us ≡ count ts) × IsTrue (each_element (has r) us)
inputs-give selector s element r u i NoTrees e h m = (NoTrees, refl, refl, refl)
inputs-give selector s element r u i (AndTree t ts) e h m =
    let both = and_parts (has element t) (each_element (has element) ts) m in
    let first = item-gives selector s element r u i t e h both.0 in
    let further = inputs-give selector s element r u (suc i) ts e h both.1 in
    (AndTree first.0 further.0, rw (first.1, further.1) refl, ap suc further.2, and_from (has r first.0) (each_element (has r) further.0) first.2 further.3)

-- the inputs have the shape of the processor's start
pub each-fits : (r p : Shape) (us : Trees) → ((v : Tree) → Has r v → Has p v) → IsTrue (each_element (has r) us) → EachHas (λ i. p) us
each-fits r p NoTrees inside h = tt
each-fits r p (AndTree u us) inside h =
    let both = and_parts (has r u) (each_element (has r) us) h in
    (inside u both.0, each-fits r p us inside both.1)

-- Catchers

pub error-has : (error cause : List ℕ) → Has error_output_shape (error_output error cause)
error-has error cause = refl

module _ (declared : Declared) (certificate : Certificate) (inputs : List ℕ → Option Shape) (fit : InputsFit certificate inputs) where
  caught-fits : (path : Option (List Segment)) (next : List ℕ) (input : Shape) (v : Tree) (error cause : List ℕ) → caught_breaches inputs next (error_placed_shape path input) ≡ [] → Has input v → CaughtFits certificate next (error_placed path v error cause)
  caught-fits None next input v error cause e h = fit next (codes "Catch") CatchInput input e v h
  caught-fits (Some path) next input v error cause e h = go (put path error_output_shape input) refl e
    where
      go : (result : Result Shape ℕ) → put path error_output_shape input ≡ result → caught_breaches inputs next result ≡ [] → CaughtFits certificate next (placed path (error_output error cause) v)
      go (Err k) at e' = absurd (cc)
      go (Ok r) at e' =
          let given = put-gives path error_output_shape input r (error_output error cause) v at (error-has error cause) h in
          rw (given.1) (fit next (codes "Catch") CatchInput r e' given.0 given.2)

  catchers-fit : (catchers : List Catcher) (input : Shape) (v : Tree) → catcher_breaches inputs input catchers ≡ [] → Has input v → CatchersFit certificate v catchers
  catchers-fit [] input v e h = tt
  catchers-fit (catcher ∷ others) input v e h =
      let parts = append-none (caught_breaches inputs catcher.next (error_placed_shape catcher.result_path input)) (catcher_breaches inputs input others) e in
      (λ error cause. caught-fits catcher.result_path catcher.next input v error cause parts.0 h, catchers-fit others input v parts.1 h)

  -- a branch's inputs
  each-branch : (branches : Scopes) (s : Shape) (u : Tree) → branch_breaches inputs branches s ≡ [] → Has s u → EachHas (λ i. certified_input certificate (start_of (scope_at i branches))) (branch_inputs branches u)
  each-branch NoScopes s u e m = tt
  each-branch (AndScope scope others) s u e m =
      let parts = append-none (child_breaches inputs (codes "Branches") scope s) (branch_breaches inputs others s) e in
      (fit (start_of scope) (codes "Branches") BranchInput s parts.0 u m, each-branch others s u parts.1 m)

  module _ (end : Shape) (n : List ℕ) (entry : StateShapes) (at : certified certificate n ≡ Some entry) where
    -- what the state stands in
    abbrev around : Surroundings
    around = surrounded_by declared inputs (Some end) n entry

    out-certified : (output : Shape) (u : Tree) → breach_unless_sub (codes "OutputPath") OutputNotCertified output (Some entry.output) ≡ [] → Has output u → Has (certified_output certificate n) u
    out-certified output u e m = subst (λ (o : Option StateShapes). Has (output_among o) u) (sym at) (sub-none (codes "OutputPath") OutputNotCertified output entry.output e u m)

    next-fits : (field next : List ℕ) (output : Shape) (u : Tree) → next_breaches inputs entry.output field next output ≡ [] → Has output u → OutputFits certificate end n (Some next) (Ok u)
    next-fits field next output u e m =
        let parts = append-none (breach_unless_sub (codes "OutputPath") OutputNotCertified output (Some entry.output)) (breach_unless_sub field NextInput output (inputs next)) e in
        (out-certified output u parts.0 m, fit next field NextInput output parts.1 u m)

    end-fits : (field : List ℕ) (output : Shape) (u : Tree) → end_breaches entry.output field (Some end) output ≡ [] → Has output u → OutputFits certificate end n None (Ok u)
    end-fits field output u e m =
        let parts = append-none (breach_unless_sub (codes "OutputPath") OutputNotCertified output (Some entry.output)) (breach_unless_sub field ScopeOutput output (Some end)) e in
        (out-certified output u parts.0 m, sub-none field ScopeOutput output end parts.1 u m)

    output-fits : (next : Option (List ℕ)) (output : Shape) (u : Tree) → output_breaches inputs entry.output (Some end) next output ≡ [] → Has output u → OutputFits certificate end n next (Ok u)
    output-fits None output u e m = end-fits (codes "End") output u e m
    output-fits (Some next) output u e m = next-fits (codes "Next") next output u e m

    -- an output by `ResultSelector`, `ResultPath` and `OutputPath`
    result-fits : (settings : Settings) (result : Shape) (v x : Tree) → breaches_then (output_breaches inputs entry.output (Some end) settings.next) (result_leaves settings entry.input result) ≡ [] → Has entry.input v → Has result x → OutputFits certificate end n settings.next (output_of settings v x)
    result-fits settings result v x e h m =
        let parts = then-none (output_breaches inputs entry.output (Some end) settings.next) (result_leaves settings entry.input result) (leaves-told settings entry.input result) e in
        let given = leaves-gives settings entry.input result parts.0 v x parts.1 h m in
        rw (given.1) (output-fits settings.next parts.0 given.0 parts.2 given.2)

    -- an output by `OutputPath` alone
    passed-fits : (settings : Settings) (next : Option (List ℕ)) (compare : Shape → List Breach) (s : Shape) (v u : Tree) → ((output : Shape) (w : Tree) → compare output ≡ [] → Has output w → OutputFits certificate end n next (Ok w)) → breaches_then compare (if inhabited entry.input then output_flow settings s else Ok Never) ≡ [] → Has entry.input v → Has s u → OutputFits certificate end n next (at_output_path settings u)
    passed-fits settings next compare s v u fits e h m =
        let live : breaches_then compare (output_flow settings s) ≡ [] = rw (has-inhabited entry.input v h) at e in
        let parts = then-none compare (output_flow settings s) (output-told settings s) live in
        let given = output-gives settings s parts.0 u parts.1 m in
        rw (given.1) (fits parts.0 given.0 parts.2 given.2)

    -- the next state of a Choice
    module _ (settings : Settings) (all : List Rule) (fallback : Option (List ℕ)) where
      one-chosen : (field next : List ℕ) (s : Shape) (v u : Tree) → chosen_breaches around settings (Choice all fallback) field next s ≡ [] → Has entry.input v → Has s u → OutputFits certificate end n (Some next) (at_output_path settings u)
      one-chosen field next s v u e h m = passed-fits settings (Some next) (next_breaches inputs entry.output field next) s v u (λ output w. next-fits field next output w) e h m

      -- the rules of which none is broken are decided
      rules-decided : (rules : List Rule) (s : Shape) (u : Tree) → rules_breaches around settings (Choice all fallback) rules s ≡ [] → Has s u → AllDecided rules u
      rules-decided [] s u e m rule c = none_in rule c
      rules-decided (first ∷ rules) s u e m rule c = go (first_or_later first rule rules c) (rules-decided rules s u parts.1 m rule)
        where
          parts : (rule_breaches around settings (Choice all fallback) first.next (rule_shape first.test s) ≡ []) × (rules_breaches around settings (Choice all fallback) rules s ≡ [])
          parts = append-none (rule_breaches around settings (Choice all fallback) first.next (rule_shape first.test s)) (rules_breaches around settings (Choice all fallback) rules s) e

          own : (shape : Result Shape DoubtfulPath) → rule_shape first.test s ≡ shape → rule_breaches around settings (Choice all fallback) first.next shape ≡ [] → (value : Bool) × (truth first.test u ≡ Some value)
          own (Err doubtful) is e' = absurd (cc)
          own (Ok r) is e' =
              let known = rule-decided first.test s r u is m in
              (known.0, known.1)

          go : (first ≡ rule) ⊎ Contains rules rule → (Contains rules rule → (value : Bool) × (truth rule.test u ≡ Some value)) → (value : Bool) × (truth rule.test u ≡ Some value)
          go (inl is) below = subst (λ (r : Rule). (value : Bool) × (truth r.test u ≡ Some value)) is (own (rule_shape first.test s) refl parts.0)
          go (inr d) below = below d

      by-rules : (rules : List Rule) (default : Option (List ℕ)) (s : Shape) (v u : Tree) → rules_breaches around settings (Choice all fallback) rules s ≡ [] → default_breaches around settings (Choice all fallback) all default s ≡ [] → IsTrue (is_some default) ⊎ SomeTrue rules u → Has entry.input v → Has s u → (next : List ℕ) × (chosen rules default u ≡ Ok next) × OutputFits certificate end n (Some next) (at_output_path settings u)
      by-rules [] None s v u e f (inl there) h m = absurd (false≢true there)
      by-rules [] None s v u e f (inr (rule, among, is)) h m = none_in rule among
      by-rules [] (Some next) s v u e f some h m = (next, refl, one-chosen (codes "Default") next s v u f h m)
      by-rules (rule ∷ rules) default s v u e f some h m = go (rule_shape rule.test s) refl parts.0 (λ later. by-rules rules default s v u parts.1 f later h m)
        where
          parts : (rule_breaches around settings (Choice all fallback) rule.next (rule_shape rule.test s) ≡ []) × (rules_breaches around settings (Choice all fallback) rules s ≡ [])
          parts = append-none (rule_breaches around settings (Choice all fallback) rule.next (rule_shape rule.test s)) (rules_breaches around settings (Choice all fallback) rules s) e

          -- what a later rule or `Default` comes to
          Later : List Rule → Type 0
          Later more = (next : List ℕ) × (chosen more default u ≡ Ok next) × OutputFits certificate end n (Some next) (at_output_path settings u)

          -- where the first rule is false, a later one is true
          later-true : truth rule.test u ≡ Some false → IsTrue (is_some default) ⊎ SomeTrue (rule ∷ rules) u → IsTrue (is_some default) ⊎ SomeTrue rules u
          later-true is (inl there) = inl there
          later-true is (inr (other, among, true_of_it)) = which (first_or_later rule other rules among)
            where
              which : (rule ≡ other) ⊎ Contains rules other → IsTrue (is_some default) ⊎ SomeTrue rules u
              which (inl same) =
                  let both : Some false ≡ Some true = sym is ∙ (ap (λ (r : Rule). truth r.test u) same ∙ true_of_it) in
                  absurd (cc)
              which (inr c) = inr (other, c, true_of_it)

          by-truth : (r : Shape) (b : Bool) → truth rule.test u ≡ Some b → (IsTrue b → Has r u) → rule_breaches around settings (Choice all fallback) rule.next (Ok r) ≡ [] → (IsTrue (is_some default) ⊎ SomeTrue rules u → Later rules) → Later (rule ∷ rules)
          by-truth r true is holds e' below = (rule.next, rw is refl, one-chosen (codes "Choices") rule.next r v u e' h (holds refl))
          by-truth r false is holds e' below =
              let next = below (later-true is some) in
              (next.0, rw is (next.1), next.2)

          go : (shape : Result Shape DoubtfulPath) → rule_shape rule.test s ≡ shape → rule_breaches around settings (Choice all fallback) rule.next shape ≡ [] → (IsTrue (is_some default) ⊎ SomeTrue rules u → Later rules) → Later (rule ∷ rules)
          go (Err doubtful) is e' below = absurd (cc)
          go (Ok r) is e' below =
              let truth_known = rule-decided rule.test s r u is m in
              by-truth r truth_known.0 truth_known.1 truth_known.2 e' below

      -- there is a `Default`, or one of the rules is true
      some-true : (default : Option (List ℕ)) (s : Shape) (u : Tree) → rules_breaches around settings (Choice all fallback) all s ≡ [] → default_breaches around settings (Choice all fallback) all default s ≡ [] → Has s u → IsTrue (is_some default) ⊎ SomeTrue all u
      some-true None s u e f m = inr (settled-true all s u (none-unless (is_settled all s) (codes "Default") NoDefault f) (rules-decided all s u e m) m)
      some-true (Some next) s u e f m = inl refl

    -- what the first move comes to, for an effective input
    work-fits : (kind : Kind) (settings : Settings) (s : Shape) (v u : Tree) → length entry.branches ≡ branches_in kind → is_some entry.item ≡ is_map kind → work_breaches around settings kind s ≡ [] → settled_breaches around settings kind ≡ [] → effective_input settings v ≡ Ok u → Has s u → Has entry.input v → WorkFits declared certificate end n (StateOf settings kind) v (work_of kind settings v)
    work-fits (Pass None) settings s v u long item e f eff m h = rw eff (result-fits settings s v u e h m)
    work-fits (Pass (Some t)) settings s v u long item e f eff m h = rw eff (result-fits settings (literal t) v t f h (literal-has_itself t))
    work-fits (Task resource) settings s v u long item e f eff m h = rw eff (sub-none (codes "Parameters") PayloadNotTaken s (takes_of declared n) e u m, λ answer given. result-fits settings (gives_of declared n) v answer f h given)
    work-fits (Choice rules default) settings s v u long item e f eff m h =
        let parts = append-none (rules_breaches around settings (Choice rules default) rules s) (default_breaches around settings (Choice rules default) rules default s) e in
        let next = by-rules settings rules default rules default s v u parts.0 parts.1 (some-true settings rules default default s u parts.0 parts.1 m) h m in
        rw (eff, next.1) (next.2)
    work-fits (Wait delay) settings s v u long item e f eff m h =
        let parts = append-none (delay_breaches delay s) (result_breaches around settings (Wait delay) s) e in
        let waits = delay-fits delay s u parts.0 m in
        rw (eff, waits.1) (passed-fits settings settings.next (output_breaches inputs entry.output (Some end) settings.next) s v u (λ output w. output-fits settings.next output w) parts.1 h m)
    work-fits Succeed settings s v u long item e f eff m h = rw eff (passed-fits settings None (end_breaches entry.output (codes "Type") (Some end)) s v u (λ output w. end-fits (codes "Type") output w) e h m)
    work-fits (Fail error cause) settings s v u long item e f eff m h = tt
    work-fits (Parallel branches) settings s v u long item e f eff m h =
        rw eff (each-branch branches s u e m, λ outputs same each. result-fits settings (ArrayShape (as_first_elements entry.branches) Never) v (Array outputs) f h (branches-have entry.branches outputs (as_many outputs same) (subst (λ (o : Option StateShapes). EachHas (λ i. or_never (branch_end i o)) outputs) at each)))
      where
        inputs-count : (branches' : Scopes) (u' : Tree) → count (branch_inputs branches' u') ≡ how_many branches'
        inputs-count NoScopes u' = refl
        inputs-count (AndScope scope others) u' = ap suc (inputs-count others u')

        as_many : (outputs : Trees) → count outputs ≡ count (branch_inputs branches u) → count outputs ≡ length entry.branches
        as_many outputs same =
            let of_branches : count (branch_inputs branches u) ≡ how_many branches = inputs-count branches u in
            omega arith
    work-fits (Map items selector processor) settings s v u long item e f eff m h =
        let parts = items-parts (λ elements. breaches_then (child_breaches inputs (codes "ItemProcessor") processor) (item_flow selector s (element_shape elements.0 elements.1)) ++ map_breaches around settings (Map items selector processor) entry.item elements) (found items s) e in
        let both = append-none (breaches_then (child_breaches inputs (codes "ItemProcessor") processor) (item_flow selector s (element_shape parts.0 parts.1))) (map_breaches around settings (Map items selector processor) entry.item (parts.0, parts.1)) parts.5 in
        let list = items-there items s parts.2 parts.0 parts.1 u (found-looked items s parts.2 parts.3) parts.4 m in
        let flow = then-none (child_breaches inputs (codes "ItemProcessor") processor) (item_flow selector s (element_shape parts.0 parts.1)) (item-told selector s (element_shape parts.0 parts.1)) both.0 in
        let given = inputs-give selector s (element_shape parts.0 parts.1) flow.0 u 0 list.0 flow.1 m (items-have parts.0 parts.1 list.0 list.2) in
        rw (eff, list.1, given.1) (each-fits flow.0 (certified_input certificate (start_of processor)) given.0 (λ w held. fit (start_of processor) (codes "ItemProcessor") BranchInput flow.0 flow.2 w held) given.3, λ outputs same each. outputs-fit entry.item refl outputs parts.0 parts.1 list.0 given.0 list.2 given.2 same (subst (λ (o : Option StateShapes). EachHas (λ i. or_never (item_end o)) outputs) at each) both.1)
      where
        outputs-fit : (shape : Option Shape) → entry.item ≡ shape → (outputs : Trees) (first : Shapes) (rest : Shape) (ts us : Trees) → IsTrue (elements_have first (has rest) ts) → count us ≡ count ts → count outputs ≡ count us → EachHas (λ i. or_never shape) outputs → map_breaches around settings (Map items selector processor) shape (first, rest) ≡ [] → OutputFits certificate end n settings.next (output_of settings v (Array outputs))
        outputs-fit None is outputs first rest ts us held many same each none =
            let gone : is_some {T = Shape} None ≡ true = subst (λ (o : Option Shape). is_some o ≡ true) is item in
            absurd (false≢true gone)
        outputs-fit (Some one) is outputs first rest ts us held many same each none =
            let alike : count outputs ≡ count ts = omega arith in
            result-fits settings (map_result one first rest) v (Array outputs) none h (map-has one first rest ts outputs held alike each)

-- what passes a comparison with a state's input has the input that is certified, where each state has an entry
pub inputs-fit : (machine : Scope) (declared : Declared) (certificate : Certificate) → scope_findings machine machine declared certificate (Some certificate.output) ≡ [] → InputsFit certificate (input_to_compare machine certificate)
inputs-fit machine declared certificate none n field fault s e v m = go (certified certificate n) refl (names_state machine n) refl e
  where
    go : (found : Option StateShapes) → certified certificate n ≡ found → (named : Bool) → names_state machine n ≡ named → breach_unless_sub field fault s (input_of_entry named found) ≡ [] → Has (input_among found) v
    go (Some entry) at named is e' = sub-none field fault s entry.input e' v m
    go None at false is e' = sub-none field fault s Never e' v m
    go None at true is e' =
        let there : is_some {T = StateShapes} None ≡ true = rw at at (state-certified machine declared certificate n none is) in
        absurd (false≢true there)

-- the certificate is closed at a state at which no rule is broken
pub state-closed : (machine : Scope) (declared : Declared) (certificate : Certificate) (end : Shape) (n : List ℕ) (settings : Settings) (kind : Kind) → scope_findings machine machine declared certificate (Some certificate.output) ≡ [] → state_breaches machine declared certificate (Some end) n settings kind ≡ [] → IsClosedAt declared certificate end n (StateOf settings kind)
state-closed machine declared certificate end n settings kind none e = record { entry = there; work = λ v h. works v (member v h); catchers = λ v h. catchers-fit declared certificate inputs fit settings.catchers there.shapes.input v (parts v (member v h)).2 (member v h) }
  where
    inputs : List ℕ → Option Shape
    inputs = input_to_compare machine certificate

    fit : InputsFit certificate inputs
    fit = inputs-fit machine declared certificate none

    there : HasEntry certificate n kind
    there = has-entry machine declared certificate (Some end) n settings kind e

    member : (v : Tree) → Has (certified_input certificate n) v → Has there.shapes.input v
    member v h = subst (λ (o : Option StateShapes). Has (input_among o) v) there.stands h

    -- the broken rules on what comes of the effective input
    worked : List Breach
    worked = breaches_then (work_breaches (surrounded_by declared inputs (Some end) n there.shapes) settings kind) (effective_flow settings there.shapes.input)

    -- those that need no effective input
    settled : List Breach
    settled = settled_breaches (surrounded_by declared inputs (Some end) n there.shapes) settings kind

    -- those of the catchers
    caught : List Breach
    caught = catcher_breaches inputs there.shapes.input settings.catchers

    parts : (v : Tree) → Has there.shapes.input v → (worked ≡ []) × (settled ≡ []) × (caught ≡ [])
    parts v h =
        let flow : flow_breaches (surrounded_by declared inputs (Some end) n there.shapes) settings kind ≡ [] = subst (λ (o : Option StateShapes). where_certified (λ own. flow_breaches (surrounded_by declared inputs (Some end) n own) settings kind) o ≡ []) there.stands (flow-none machine declared certificate (Some end) n settings kind e) in
        let rules : rules_on_flow (surrounded_by declared inputs (Some end) n there.shapes) settings kind ≡ [] = sym (walked_breaches (surrounded_by declared inputs (Some end) n there.shapes) settings kind) ∙ flow in
        let first = append-none worked (settled ++ caught) (rw (has-inhabited there.shapes.input v h) at rules) in
        let further = append-none settled caught first.1 in
        (first.0, further.0, further.1)

    works : (v : Tree) → Has there.shapes.input v → WorkFits declared certificate end n (StateOf settings kind) v (first_move (StateOf settings kind) v)
    works v h =
        let none_broken = parts v h in
        let effective = then-none (work_breaches (surrounded_by declared inputs (Some end) n there.shapes) settings kind) (effective_flow settings there.shapes.input) (effective-told settings there.shapes.input) none_broken.0 in
        let given = effective-gives settings there.shapes.input effective.0 v effective.1 h in
        work-fits declared certificate inputs fit end n there.shapes there.stands kind settings effective.0 v given.0 there.branches there.item effective.2 none_broken.1 given.1 given.2 h
