use Rattle.std.proofs.Common.{ℕ, ◌+◌, List, map, drop, slice_get, Some, None, sym, ap, ◌∙◌, refl, subst, arith}
use Rattle.json.specs.Token.{Token}
use Rattle.json.specs.Find.{NextMember}
use Rattle.json.specs.Tape.{node_token}
use Rattle.json.specs.declared.tape.Node.TheVariants.{Key}
use Rattle.asl_places.specs.Standing.{NoMemberAt}
use Rattle.asl_places.proofs.Steps.{slice_get-node_token, no_member_at, no_value_past, member_next, members_past, members_closed}
use Rattle.asl_places.proofs.cursors.Members.next.Goals as goal

pub returns-then-at-saturating_sub-clause-value : goal.returns-then-at-saturating_sub-clause-value
returns-then-at-saturating_sub-clause-value c =
    subst (λ (p : List Token × ℕ). NextMember (drop p.1 p.0) None (drop p.1 p.0)) c.self.view_is (members_past c.self.inside.nodes.now c.self.inside.next (omega arith))

pub returns-then-at-saturating_sub-clause-steps : goal.returns-then-at-saturating_sub-clause-steps
returns-then-at-saturating_sub-clause-steps c =
    subst (λ (p : List Token × ℕ). NoMemberAt p.0 p.1) c.self.view_is (λ name is has. no_value_past c.self.inside.nodes.now (c.self.inside.next + 1) has.0 (omega arith) has.1)

pub returns-in_default : goal.returns-in_default
returns-in_default c = record {
  tokens = refl;
  value = subst (λ (p : List Token × ℕ). NextMember (drop p.1 p.0) None (drop p.1 p.0)) c.self.view_is (members_closed c.self.inside.nodes.now c.self.inside.next (omega arith) c.in_default.not-Key);
  named = tt;
  steps = subst (λ (p : List Token × ℕ). NoMemberAt p.0 p.1) c.self.view_is (no_member_at c.self.inside.nodes.now c.self.inside.next (omega arith) c.in_default.not-Key);
  later = tt;
}

pub returns-clause-value : goal.returns-clause-value
returns-clause-value c =
    let nodes = c.self.inside.nodes.now in
    let at = c.self.inside.next in
    let behind = c.behind-self-inside.result in
    let next = member_next nodes at behind c.in-Key.name (omega arith) c.in-Key.is c.behind-self-inside.ensures.value in
    subst (λ (p : List Token × ℕ). NextMember (drop p.1 p.0) (Some (c.in-Key.name.now, drop (at + 1) p.0)) (drop behind (map node_token nodes))) c.self.view_is next

pub returns-clause-named : goal.returns-clause-named
returns-clause-named c = record {
  name_is = ap (λ (p : List Token × ℕ). slice_get p.0 c.self.inside.next) (sym c.self.view_is) ∙ slice_get-node_token c.self.inside.nodes.now c.self.inside.next (Key c.in-Key.name) (omega arith) c.in-Key.is;
  before_value = refl;
}
