-- A finding in the list has an example exactly where its fault is one that a tree shows.
use Rattle.std.proofs.Common.{◌≡◌, ℕ, List, true, false, Option, Some, None, Result, Ok, Err, refl, subst, is_some, is_none}
use Rattle.asl_model.specs.Tree.{Tree}
use Rattle.asl_model.specs.Path.{Segment}
use Rattle.asl_model.specs.Machine.{Settings, Kind, Scope}
use Rattle.asl_model.specs.Shape.{Shape}
use Rattle.asl_model.specs.ShapeFlow.{DoubtfulPath, look, found, or_doubtful}
use Rattle.asl_model.specs.Missing.{missing, counterexample}
use Rattle.asl_model.specs.Certificate.{Declared, Certificate}
use Rattle.asl_model.specs.Finding.{FindingFault, Finding, Surroundings, has_example}
use Rattle.asl_model.proofs.ShapeMissing.{missing-ok}
use Rattle.asl_model.proofs.DoubtsShown.{template-doubtful}
use Rattle.asl_model.proofs.RuleDoubts.{rule-doubtful}
use Rattle.asl_model.proofs.FindingShown.{TellsFlow, tells_path, tells_template, tells_rule, tells_kind, tells_misfit, tells_failure, tells_no_default, tells_payload, tells_output, tells_next, tells_end, tells_child, tells_catch, IsTold, told_uncertified, told_no_state, told_undeclared, told_unknown, told_start, told_flow}

-- a doubtful path has a tree that shows it
counter-some : (path : List Segment) (s : Shape) (doubtful : DoubtfulPath) → found path s ≡ Err doubtful → is_some (counterexample doubtful) ≡ true
counter-some path s doubtful e = go (look path s) refl e
  where
    some : (answer : Option Tree) → is_none answer ≡ false → is_some answer ≡ true
    some None none = absurd (cc)
    some (Some t) none = refl

    go : (answer : Result Shape ℕ) → look path s ≡ answer → or_doubtful path s answer ≡ Err doubtful → is_some (counterexample doubtful) ≡ true
    go (Ok part) at e' = absurd (cc)
    go (Err n) at e' =
        let is : record { path = path; segment = n; shape = s } ≡ doubtful = cc in
        let lacks : is_none (missing path s) ≡ false = rw (missing-ok path s, at) refl in
        subst (λ (d : DoubtfulPath). is_some (counterexample d) ≡ true) is (some (missing path s) lacks)

flow-example : {around : Surroundings} {settings : Settings} {kind : Kind} {field : List ℕ} {fault : FindingFault} {example : Option Tree} → TellsFlow around settings kind field fault example → is_some example ≡ has_example fault
flow-example (tells_path {path = path} {s = s} {doubtful = doubtful} looks e) = counter-some path s doubtful e
flow-example (tells_template {doubtful = doubtful} evaluates live has) =
    let one = template-doubtful has in
    let doubtful_in = one.2 in
    counter-some doubtful_in.0 doubtful_in.1 doubtful doubtful_in.3
flow-example (tells_rule {rule = rule} {s = s} {doubtful = doubtful} is effective among e) =
    let one = rule-doubtful rule.test s doubtful e in
    counter-some one.0 one.1 doubtful one.3
flow-example (tells_kind effective wants e wrong) = refl
flow-example (tells_misfit puts e) = refl
flow-example (tells_failure evaluates live has) = refl
flow-example (tells_no_default is effective none) = refl
flow-example (tells_payload is effective e) = refl
flow-example (tells_output leaves e) = refl
flow-example (tells_next leaves into e) = refl
flow-example (tells_end leaves into e) = refl
flow-example (tells_child starts into e) = refl
flow-example (tells_catch among placed into e) = refl

pub told-example : {machine : Scope} {declared : Declared} {certificate : Certificate} {f : Finding} → IsTold machine declared certificate f → is_some f.example ≡ has_example f.fault
told-example (told_uncertified state none) = refl
told-example (told_no_state among none) = refl
told-example (told_undeclared state none) = refl
told-example (told_unknown among none) = refl
told-example (told_start compared e) = refl
told-example (told_flow is live tells) = flow-example tells
