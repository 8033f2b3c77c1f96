use Rattle.std.proofs.Common.{sym, ◌∙◌, subst}
use Rattle.asl_places.specs.Standing.{FindsMember, NoMemberAt}
use Rattle.asl_places.proofs.Names.{IsLater-added, Stands-added, named_in-empty, named_in-here}
use Rattle.asl_places.proofs.Walks.{Covers-end, Covers-on, Covers-start, GoesOn, Stands, Walked-on, Walked-start, finds_member, finds_none, goes_on}
use Rattle.asl_places.proofs.states.members_by_name.Goals as goal

pub returns-in_default : goal.returns-in_default
returns-in_default c j begins name =
    let tokens = c.args.outline.now.0 in
    subst (FindsMember tokens c.args.object name) (sym (named_in-empty c.new-names.result name c.new-names.ensures.empty)) (finds_none tokens c.args.object name c.in_default.ensures.opens)

pub loop-name-init : goal.loop-name-init
loop-name-init c = record {
  tokens = c.in-Some.ensures.tokens;
  inside = λ j begins. let inside = c.in-Some.ensures.members j begins in (inside.0, inside.2);
  walk = λ j begins.
      let tokens = c.args.outline.now.0 in
      let opens = c.in-Some.ensures.opens in (
        Walked-start tokens c.args.object c.in-Some.members.1 opens.0 opens.1,
        λ name. subst (Stands tokens c.args.object c.in-Some.members.1 name) (sym (named_in-empty c.new-names.result name c.new-names.ensures.empty)) tt,
        Covers-start tokens c.args.object c.in-Some.members.1 _ opens.0,
      );
}

pub loop-name-preserved : goal.loop-name-preserved
loop-name-preserved c =
    let tokens = c.args.outline.now.0 in
    let member = c.in-Some-next.member in
    let name = c.in-Some-next.name in
    let cursor = c.loop-name.members.1 in
    let next = c.next.new.self.1 in
    let old = c.loop-name.names in
    let new = c.insert.new.self in
    let adds = c.in_ok-insert.ensures.updates in
    record {
      tokens = c.in-Some-next.ensures.tokens ∙ c.loop-name.invariant.tokens;
      inside = λ j begins.
          let now = c.loop-name.invariant.inside j begins in
          let f = c.in-Some-next.ensures.value now.0 now.1 in
          (f.1, f.4);
      walk = λ j begins.
          let now = c.loop-name.invariant.inside j begins in
          let f = c.in-Some-next.ensures.value now.0 now.1 in
          let w = c.loop-name.invariant.walk j begins in
          let goes = subst (λ ts. GoesOn ts cursor name.now member next) c.loop-name.invariant.tokens (goes_on c.loop-name.members.0 cursor name.now member next c.in-Some-next.ensures.named (f.0, f.3) c.in-Some-next.ensures.steps) in (
            Walked-on tokens c.args.object cursor name.now member next w.0 goes,
            Stands-added tokens c.args.object cursor old new name member next adds w.0 goes w.1,
            Covers-on tokens c.args.object cursor name.now member next _ _ goes (IsLater-added tokens c.args.object cursor old new name member next adds goes w.1) (named_in-here old new name member adds) w.2,
          );
    }

pub returns : goal.returns
returns c j begins name =
    let tokens = c.args.outline.now.0 in
    let w = c.loop-name.invariant.walk j begins in
    let none = subst (λ ts. NoMemberAt ts c.loop-name.members.1) c.loop-name.invariant.tokens c.in_default-next.ensures.steps in
    finds_member tokens c.args.object c.loop-name.members.1 name _ (w.1 name) (λ m is. Covers-end tokens c.args.object c.loop-name.members.1 _ none w.2 name m is)
