-- What the list of findings tells is broken, with the tree that it tells, where names stand in order; and what is broken is
-- told, with some tree.
use Rattle.std.proofs.Common.{◌≡◌, ℕ, List, Option, Some, None, Err, sym, subst}
use Rattle.asl_model.specs.Tree.{Tree}
use Rattle.asl_model.specs.Path.{Segment}
use Rattle.asl_model.specs.Machine.{Settings, Kind, Scope}
use Rattle.asl_model.specs.Shape.{Shape, IsOrdered}
use Rattle.asl_model.specs.ShapeFlow.{DoubtfulPath, found}
use Rattle.asl_model.specs.Missing.{counterexample, IsMissing}
use Rattle.asl_model.specs.Certificate.{Declared, Certificate, takes_of}
use Rattle.asl_model.specs.RecordShapes.{HoldsForDeclared, HoldsForCertificate}
use Rattle.asl_model.specs.Finding.{FindingFault, PathMayBeMissing, Finding, Surroundings}
use Rattle.asl_model.specs.FindingRules.{BreaksFlow, path_may_be_missing, template_may_be_missing, rule_may_be_missing, may_be_of_wrong_kind, may_not_fit, may_fail, has_no_default, payload_is_not_taken, output_is_not_certified, is_no_next_input, is_no_scope_output, is_no_branch_input, is_no_catch_input, IsBroken, is_not_certified, is_not_a_state, is_undeclared, is_unknown, is_no_start_input, is_broken_in_flow}
use Rattle.asl_model.proofs.ShapeHonest.{found-outside}
use Rattle.asl_model.proofs.OrderedStates.{AreInOrder, surroundings-in_order, looked_in-ordered, gone_into-ordered, effective-in_order, left-in_order, looked_up-in_order, evaluated-in_order, started-in_order, caught-in_order}
use Rattle.asl_model.proofs.FindingShown.{TellsFlow, tells_path, tells_template, tells_rule, tells_kind, tells_misfit, tells_failure, tells_no_default, tells_payload, tells_output, tells_next, tells_end, tells_child, tells_catch, IsTold, told_uncertified, told_no_state, told_undeclared, told_unknown, told_start, told_flow}
use Rattle.asl_model.proofs.DoubtsShown.{outside-told, missing-told, doubtful-shown, template-doubtful, template-unsure, template-missing, template-fails}
use Rattle.asl_model.proofs.RuleDoubts.{rule-doubtful, rule-missing}

-- ---- what is told is broken

module _ {around : Surroundings} {settings : Settings} {kind : Kind} (sure : AreInOrder around) where
  -- a breach that a counterexample shows
  shown : {field : List ℕ} (path : List Segment) (s : Shape) (doubtful : DoubtfulPath) → IsOrdered s → found path s ≡ Err doubtful → ((t : Tree) → IsMissing path s t → BreaksFlow around settings kind field PathMayBeMissing (Some t)) → BreaksFlow around settings kind field PathMayBeMissing (counterexample doubtful)
  shown {field} path s doubtful ordered e breaks =
      let one = doubtful-shown path s doubtful ordered e in
      subst (BreaksFlow around settings kind field PathMayBeMissing) (sym (one.1)) (breaks one.0 one.2)

  flow_told_broken : {field : List ℕ} {fault : FindingFault} {example : Option Tree} → TellsFlow around settings kind field fault example → BreaksFlow around settings kind field fault example
  flow_told_broken (tells_path {path = path} {s = s} {doubtful = doubtful} looks e) = shown path s doubtful (looked_up-in_order around settings sure looks) e (λ t none. path_may_be_missing looks none)
  flow_told_broken (tells_template {doubtful = doubtful} evaluates live has) =
      let one = template-doubtful has in
      let order = evaluated-in_order around settings sure evaluates in
      shown one.2.0 one.2.1 doubtful (gone_into-ordered one.2.2 order.0 order.1) one.2.3 (λ t none. template_may_be_missing evaluates live one.1 one.2.2 none)
  flow_told_broken (tells_rule {rule = rule} {s = s} {doubtful = doubtful} is effective among e) =
      let one = rule-doubtful rule.test s doubtful e in
      shown one.0 one.1 doubtful (looked_in-ordered one.2 (effective-in_order around settings sure s effective)) one.3 (λ t none. rule_may_be_missing is effective among one.2 none)
  flow_told_broken (tells_kind effective wants e wrong) = may_be_of_wrong_kind effective wants e wrong
  flow_told_broken (tells_misfit puts e) = may_not_fit puts e
  flow_told_broken (tells_failure evaluates live has) =
      let one = template-unsure has in
      may_fail evaluates live one.1 one.2
  flow_told_broken (tells_no_default is effective none) = has_no_default is effective none
  flow_told_broken (tells_payload {s = s} {t = t} is effective e) = payload_is_not_taken is effective (found-outside s (takes_of around.declared around.name) t (effective-in_order around settings sure s effective) e)
  flow_told_broken (tells_output {output = output} {target = target} {t = t} leaves e) = output_is_not_certified leaves (found-outside output around.entry.output t (left-in_order around settings sure kind output target leaves) e)
  flow_told_broken (tells_next {output = output} {expected = expected} {t = t} leaves into e) = is_no_next_input leaves into (found-outside output expected t (left-in_order around settings sure kind output _ leaves) e)
  flow_told_broken (tells_end {output = output} {expected = expected} {t = t} leaves into e) = is_no_scope_output leaves into (found-outside output expected t (left-in_order around settings sure kind output _ leaves) e)
  flow_told_broken (tells_child {s = s} {expected = expected} {t = t} starts into e) = is_no_branch_input starts into (found-outside s expected t (started-in_order around settings sure starts) e)
  flow_told_broken (tells_catch {catcher = catcher} {s = s} {expected = expected} {t = t} among placed into e) = is_no_catch_input among placed into (found-outside s expected t (caught-in_order around settings sure catcher.result_path s placed) e)

module _ {machine : Scope} {declared : Declared} {certificate : Certificate} (known : HoldsForDeclared IsOrdered declared) (sure : HoldsForCertificate IsOrdered certificate) where
  pub told_is_broken : {f : Finding} → IsTold machine declared certificate f → IsBroken machine declared certificate f
  told_is_broken (told_uncertified state none) = is_not_certified state none
  told_is_broken (told_no_state among none) = is_not_a_state among none
  told_is_broken (told_undeclared state none) = is_undeclared state none
  told_is_broken (told_unknown among none) = is_unknown among none
  told_is_broken (told_start {expected = expected} {t = t} compared e) = is_no_start_input compared (found-outside declared.input expected t known.input e)
  told_is_broken (told_flow {around = around} {settings = settings} {kind = kind} is live tells) = is_broken_in_flow is live (flow_told_broken (surroundings-in_order machine declared certificate settings kind around known sure is) tells)

-- ---- what is broken is told

-- it is told, with some example
abbrev TellsSome : Surroundings → Settings → Kind → List ℕ → FindingFault → Type 0
TellsSome around settings kind field fault = (example : Option Tree) × TellsFlow around settings kind field fault example

flow_broken_told : {around : Surroundings} {settings : Settings} {kind : Kind} {field : List ℕ} {fault : FindingFault} {example : Option Tree} → BreaksFlow around settings kind field fault example → TellsSome around settings kind field fault
flow_broken_told (path_may_be_missing {path = path} {s = s} {t = t} looks none) =
    let one = missing-told path s t none in
    (counterexample one.0, tells_path looks one.1)
flow_broken_told (template_may_be_missing evaluates live is goes none) =
    let one = template-missing is goes none in
    (counterexample one.0, tells_template evaluates live one.1)
flow_broken_told (rule_may_be_missing is effective among looks none) =
    let one = rule-missing looks none in
    (counterexample one.0, tells_rule is effective among one.1)
flow_broken_told (may_be_of_wrong_kind effective wants e wrong) = (None, tells_kind effective wants e wrong)
flow_broken_told (may_not_fit puts e) = (None, tells_misfit puts e)
flow_broken_told (may_fail evaluates live is unsure) = (None, tells_failure evaluates live (template-fails is unsure))
flow_broken_told (has_no_default is effective none) = (None, tells_no_default is effective none)
flow_broken_told {around} (payload_is_not_taken {s = s} {t = t} is effective out) =
    let one = outside-told s (takes_of around.declared around.name) t out in
    (Some one.0, tells_payload is effective one.1)
flow_broken_told {around} (output_is_not_certified {output = output} {t = t} leaves out) =
    let one = outside-told output around.entry.output t out in
    (Some one.0, tells_output leaves one.1)
flow_broken_told (is_no_next_input {output = output} {expected = expected} {t = t} leaves into out) =
    let one = outside-told output expected t out in
    (Some one.0, tells_next leaves into one.1)
flow_broken_told (is_no_scope_output {output = output} {expected = expected} {t = t} leaves into out) =
    let one = outside-told output expected t out in
    (Some one.0, tells_end leaves into one.1)
flow_broken_told (is_no_branch_input {s = s} {expected = expected} {t = t} starts into out) =
    let one = outside-told s expected t out in
    (Some one.0, tells_child starts into one.1)
flow_broken_told (is_no_catch_input {s = s} {expected = expected} {t = t} among placed into out) =
    let one = outside-told s expected t out in
    (Some one.0, tells_catch among placed into one.1)

pub broken_is_told : {machine : Scope} {declared : Declared} {certificate : Certificate} {f : Finding} → IsBroken machine declared certificate f → (example : Option Tree) × IsTold machine declared certificate (record f { example = example })
broken_is_told (is_not_certified state none) = (None, told_uncertified state none)
broken_is_told (is_not_a_state among none) = (None, told_no_state among none)
broken_is_told (is_undeclared state none) = (None, told_undeclared state none)
broken_is_told (is_unknown among none) = (None, told_unknown among none)
broken_is_told {machine} {declared} (is_no_start_input {expected = expected} {t = t} compared out) =
    let one = outside-told declared.input expected t out in
    (Some one.0, told_start compared one.1)
broken_is_told (is_broken_in_flow is live breaks) =
    let one = flow_broken_told breaks in
    (one.0, told_flow is live one.1)
