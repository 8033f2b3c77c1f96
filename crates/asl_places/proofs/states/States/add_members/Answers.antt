use Rattle.std.proofs.Common.{◌≡◌, true, true≢false, ◌<◌, Some, sym, ◌∙◌, subst, arith, rules, length}
use Rattle.std.proofs.lemmas.List.Elements.{All-nil}
use Rattle.asl_places.specs.declared.outline.Spot.{Spot}
use Rattle.asl_places.specs.Found.{BeginsAt}
use Rattle.asl_places.specs.Named.{named_in, state_named}
use Rattle.asl_places.specs.Standing.{FindsMember, NoMemberAt}
use Rattle.asl_places.specs.Gathering.{AreBehind}
use Rattle.asl_places.proofs.Machines.{Scope, Scope-adds, Scope-lists, Scope-on, Scope-skip, Scope-start}
use Rattle.asl_places.proofs.Walks.{GoesOn, goes_on}
use Rattle.asl_places.proofs.states.States.add_members.Goals as goal

pub loop-name-init : goal.loop-name-init
loop-name-init c =
    let tokens = c.args.outline.now.0 in
    let opens = c.in-Some.ensures.opens in
    let found = state_named c.args.self.now in
    let none = sym c.new-inner.ensures.items in
    record {
      tokens = c.in-Some.ensures.tokens;
      behind = omega (arith, opens.0);
      inside = λ j begins. let inside = c.in-Some.ensures.members j begins in (inside.0, inside.2);
      walk = λ j begins. subst (Scope tokens c.args.object c.in-Some.members.1 found found) none (Scope-start tokens c.args.object c.in-Some.members.1 found opens.0 opens.1);
      later = subst (AreBehind tokens c.args.object.token) none (All-nil (λ (s : Spot). (c.args.object.token < s.token) × (s.token < length tokens)));
    }

pub loop-name-preserved-in-Continue-branch-3 : goal.loop-name-preserved-in-Continue-branch-3
loop-name-preserved-in-Continue-branch-3 c =
    let tokens = c.args.outline.now.0 in
    let now = c.loop-name.invariant in
    let name = c.in-Some-next.name.now in
    let state = c.in-Some-next.state in
    let cursor = c.loop-name.members.1 in
    let next = c.next.new.self.1 in
    let later = c.in-Some-next.ensures.later in
    let behind = now.behind in
    let last : named_in c.in_ok-scope.scope name ≡ Some state = search rules in
    record {
      tokens = c.in-Some-next.ensures.tokens ∙ now.tokens;
      behind = omega (arith, later.0, later.1);
      inside = λ j begins.
          let before = now.inside j begins in
          let f = c.in-Some-next.ensures.value before.0 before.1 in
          (f.1, f.4);
      walk = λ j begins.
          let before = now.inside j begins in
          let f = c.in-Some-next.ensures.value before.0 before.1 in
          let value = subst (λ ts. BeginsAt ts state.value f.0) now.tokens f.3 in
          let goes = subst (λ ts. GoesOn ts cursor name state next) now.tokens (goes_on c.loop-name.members.0 cursor name state next c.in-Some-next.ensures.named (f.0, f.3) c.in-Some-next.ensures.steps) in
          let is = subst (FindsMember tokens c.args.object name) last (c.in_ok-scope.ensures j begins name) in
          Scope-on tokens c.args.object cursor (state_named c.args.self.now) (state_named c.loop-name.self) (state_named c.add.new.self) c.loop-name.inner.items c.push_machines.new.machines.items name state next goes is c.in_ok-add.ensures (c.in_ok-push_machines.ensures.put f.0 value) (now.walk j begins);
      later = c.in_ok-push_machines.ensures.later c.args.object.token (omega (arith, later.0)) now.later;
    }

pub loop-name-preserved : goal.loop-name-preserved
loop-name-preserved c =
    let tokens = c.args.outline.now.0 in
    let now = c.loop-name.invariant in
    let name = c.in-Some-next.name.now in
    let state = c.in-Some-next.state in
    let cursor = c.loop-name.members.1 in
    let next = c.next.new.self.1 in
    let later = c.in-Some-next.ensures.later in
    let behind = now.behind in
    let other : named_in c.in_ok-scope.scope name ≡ Some state → ⊥ = λ e. let same : c.eq.result ≡ true = search rules in true≢false (sym same ∙ c.if-eq.false) in
    record {
      tokens = c.in-Some-next.ensures.tokens ∙ now.tokens;
      behind = omega (arith, later.0, later.1);
      inside = λ j begins.
          let before = now.inside j begins in
          let f = c.in-Some-next.ensures.value before.0 before.1 in
          (f.1, f.4);
      walk = λ j begins.
          let before = now.inside j begins in
          let f = c.in-Some-next.ensures.value before.0 before.1 in
          let goes = subst (λ ts. GoesOn ts cursor name state next) now.tokens (goes_on c.loop-name.members.0 cursor name state next c.in-Some-next.ensures.named (f.0, f.3) c.in-Some-next.ensures.steps) in
          Scope-skip tokens c.args.object cursor (state_named c.args.self.now) (state_named c.loop-name.self) c.loop-name.inner.items name state next (named_in c.in_ok-scope.scope name) goes (c.in_ok-scope.ensures j begins name) other (now.walk j begins);
      later = now.later;
    }

pub returns-clause-states : goal.returns-clause-states
returns-clause-states c j begins =
    let none = subst (λ ts. NoMemberAt ts c.loop-name.members.1) c.loop-name.invariant.tokens c.in_default-next.ensures.steps in
    Scope-adds c.args.outline.now.0 c.args.object c.loop-name.members.1 (state_named c.args.self.now) (state_named c.loop-name.self) c.loop-name.inner.items none (c.loop-name.invariant.walk j begins)

pub returns-clause-machines : goal.returns-clause-machines
returns-clause-machines c j begins =
    let none = subst (λ ts. NoMemberAt ts c.loop-name.members.1) c.loop-name.invariant.tokens c.in_default-next.ensures.steps in
    Scope-lists c.args.outline.now.0 c.args.object c.loop-name.members.1 (state_named c.args.self.now) (state_named c.loop-name.self) c.loop-name.inner.items none (c.loop-name.invariant.walk j begins)
