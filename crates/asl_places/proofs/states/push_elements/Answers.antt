use Rattle.std.proofs.Common.{sym, ◌∙◌, subst, arith}
use Rattle.asl_places.specs.Standing.{StepsOverElement, IsElement}
use Rattle.json.specs.Find.{HasValue}
use Rattle.std.proofs.Common.{drop, ◌<◌, length, Some}
use Rattle.asl_places.specs.Gathering.{AreBehind}
use Rattle.asl_places.proofs.Gathering.{AreBehind-push, Elements, Elements-start, Elements-on, Elements-end, Puts-none}
use Rattle.asl_places.proofs.states.push_elements.Goals as goal

pub loop-element-init : goal.loop-element-init
loop-element-init c =
    let opens = c.in-Some.ensures.opens in
    record {
      tokens = c.in-Some.ensures.tokens;
      behind = omega (arith, opens.0);
      inside = λ j begins. let inside = c.in-Some.ensures.items j begins in (inside.0, inside.2);
      walk = λ j begins. Elements-start c.args.outline.now.0 c.args.list c.in-Some.elements.1 c.args.machines.now.items opens.0 opens.1;
      later = λ before low are. are;
    }

pub loop-element-preserved : goal.loop-element-preserved
loop-element-preserved c =
    let tokens = c.args.outline.now.0 in
    let now = c.loop-element.invariant in
    let element = c.in-Some-next.element in
    let cursor = c.loop-element.elements.1 in
    let next = c.next.new.self.1 in
    let later = c.in-Some-next.ensures.later in
    let behind = now.behind in
    let pushed = sym c.in_ok-push.ensures.items in
    record {
      tokens = c.in-Some-next.ensures.tokens ∙ now.tokens;
      behind = omega (arith, later.0, later.1);
      inside = λ j begins.
          let before = now.inside j begins in
          let f = c.in-Some-next.ensures.value before.0 before.1 in
          (f.1, f.4);
      walk = λ j begins.
          let before = now.inside j begins in
          let f = c.in-Some-next.ensures.value before.0 before.1 in
          let has = subst (λ ts. HasValue (drop element.token ts)) now.tokens (f.0, f.3) in
          let steps = subst (λ ts. StepsOverElement ts cursor (Some element) next) now.tokens c.in-Some-next.ensures.steps in
          subst (Elements tokens c.args.list next c.args.machines.now.items) pushed (Elements-on tokens c.args.list cursor c.args.machines.now.items c.loop-element.machines.items element next has steps (now.walk j begins));
      later = λ before low are.
          let inside = subst (λ ts. element.token < length ts) now.tokens (omega (arith, later.1, later.2)) in
          subst (AreBehind tokens before) pushed (AreBehind-push tokens before c.loop-element.machines.items element (omega (arith, later.0)) inside (now.later before low are));
    }

pub returns-in_default-clause-put : goal.returns-in_default-clause-put
returns-in_default-clause-put c j begins = Puts-none c.args.machines.now.items (IsElement c.args.outline.now.0 c.args.list) (λ s is. c.in_default.ensures.opens is.opens)

pub returns-clause-put : goal.returns-clause-put
returns-clause-put c j begins =
    let now = c.loop-element.invariant in
    let none = subst (λ ts. HasValue (drop c.loop-element.elements.1 ts) → ⊥) now.tokens c.in_default-next.ensures.steps in
    Elements-end c.args.outline.now.0 c.args.list c.loop-element.elements.1 c.args.machines.now.items c.loop-element.machines.items none (now.walk j begins)
